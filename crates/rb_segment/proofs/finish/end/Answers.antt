use Rattle.std.proofs.Common.{set, ap, sym, ◌∙◌}
use Rattle.rb_segment.proofs.Parts.{slot_read}
use Rattle.rb_segment.specs.Header.{Header, header_of}
use Rattle.rb_txntable.specs.declared.slots.TableSlot.{TableSlot}
use Rattle.rb_segment.proofs.finish.end.Goals as goal

pub returns-clause-patches : goal.returns-clause-patches
returns-clause-patches c = rw (c.set_slot.ensures.read, sym c.header_block.ensures.number) c.set_slot.ensures.patch

pub returns-clause-copy : goal.returns-clause-copy
returns-clause-copy c = rw (c.set_slot.ensures.read, sym c.header_block.ensures.number) c.set_slot.ensures.copy

pub returns-clause-moved : goal.returns-clause-moved
returns-clause-moved c =
    let h = header_of c.args.header.now in
    let slot = c.slot_at.ensures ∙ sym (slot_read c.args.header.now c.args.xid.slot c.requires.runs.slot) in
    c.set_slot.ensures.means ∙ ap (λ (s : TableSlot). let g : Header = record h { slots = set h.slots c.args.xid.slot (record s { state = 3 }) } in g) slot
