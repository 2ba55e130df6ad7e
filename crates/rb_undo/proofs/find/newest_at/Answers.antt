use Rattle.std.proofs.Common.{ap, sym, subst, ◌∙◌, arith}
use Rattle.rb_segment.proofs.Parts.{has_slot, runs_read, slot_read}
use Rattle.rb_txntable.specs.Looks.{IsRunning}
use Rattle.rb_txntable.specs.declared.slots.TableSlot.{TableSlot}
use Rattle.rb_undo.proofs.find.newest_at.Goals as goal

pub returns-in-Some-clause-some : goal.returns-in-Some-clause-some
returns-in-Some-clause-some c =
    let is = c.in-Some.ensures in
    let read = is.0 ∙ sym (slot_read c.args.header.now c.args.xid.slot c.requires.slot) in (
      runs_read c.args.header.now c.args.xid c.requires.slot (subst (λ (s : TableSlot). IsRunning s c.args.xid.wrap) is.0 is.1),
      omega (arith, ap (λ (s : TableSlot). s.live) read),
      ap (λ (s : TableSlot). s.newest_at) read,
    )

pub returns-in_default-clause-none : goal.returns-in_default-clause-none
returns-in_default-clause-none c runs =
    let read = c.in-Some.ensures.0 ∙ sym (slot_read c.args.header.now c.args.xid.slot c.requires.slot) in
    omega (arith, ap (λ (s : TableSlot). s.live) read)

pub returns-in_default-2-clause-none : goal.returns-in_default-2-clause-none
returns-in_default-2-clause-none c runs = absurd (c.in_default.ensures (has_slot c.args.header.now c.args.xid runs))
