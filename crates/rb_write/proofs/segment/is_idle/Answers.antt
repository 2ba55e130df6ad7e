use Rattle.std.proofs.Common.{◌≡◌, ◌≢◌, ◌<◌, ℕ, List, true, false, Option, None, Some, IfSome, ap, sym, ◌∙◌}
use Rattle.std.specs.Option.{is_some}
use Rattle.rb_base.specs.declared.sizes.TheConstants.{SLOTS}
use Rattle.rb_segment.proofs.Parts.{slot_read}
use Rattle.rb_segment.specs.Header.{header_of, slot_in}
use Rattle.rb_txntable.specs.Slots.{slot_at, IsChosen}
use Rattle.rb_txntable.specs.declared.slots.TableSlot.{TableSlot}
use Rattle.rb_write.proofs.segment.is_idle.Goals as goal

found : (header : List ℕ) (chosen : Option ℕ) → IfSome chosen (IsChosen (slot_at header)) → is_some chosen ≡ true → (i : ℕ) × (i < SLOTS) × ((slot_in (header_of header) i).state ≢ 1)
found header None is some = let clash : false ≡ true = some in cc
found header (Some i) is some = let best : IsChosen (slot_at header) i = is in
    (i, best.within, λ active. best.idle (ap (λ (s : TableSlot). s.state) (sym (slot_read header i best.within)) ∙ active))

pub returns-clause-idle : goal.returns-clause-idle
returns-clause-idle c is = found c.args.header.now c.choose.result c.choose.ensures.found (sym c.is_some.ensures ∙ is)
