use Rattle.std.proofs.Common.{ap, sym, ◌∙◌, arith}
use Rattle.std.proofs.lemmas.Bool.Decides.{nat_tests}
use Rattle.rb_segment.proofs.Parts.{slot_read}
use Rattle.rb_txntable.specs.declared.slots.TableSlot.{TableSlot}
use Rattle.test_parts.proofs.segment.live_of.Goals as goal

pub returns-clause-runs : goal.returns-clause-runs
returns-clause-runs c =
    let slot = slot_read c.args.header.now c.args.xid.slot (grind (arith, nat_tests)) ∙ sym c.slot_at-slot.ensures in
    record {
      slot = grind (arith, nat_tests);
      active = ap (λ (s : TableSlot). s.state) slot ∙ grind (arith, nat_tests);
      wrap = ap (λ (s : TableSlot). s.wrap) slot ∙ grind (arith, nat_tests);
    }

pub returns-clause-live : goal.returns-clause-live
returns-clause-live c = sym (ap (λ (s : TableSlot). s.live) (slot_read c.args.header.now c.args.xid.slot (grind (arith, nat_tests)) ∙ sym c.slot_at-slot.ensures))
