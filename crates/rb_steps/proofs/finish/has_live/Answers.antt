use Rattle.std.proofs.Common.{ap, sym, subst, refl, ◌∙◌, arith}
use Rattle.std.proofs.lemmas.Bool.{false≢true}
use Rattle.rb_segment.proofs.Parts.{has_slot, runs_read, slot_read}
use Rattle.rb_txntable.specs.Looks.{IsRunning}
use Rattle.rb_txntable.specs.declared.slots.TableSlot.{TableSlot}
use Rattle.rb_steps.proofs.finish.has_live.Goals as goal

pub returns-in-Some : goal.returns-in-Some
returns-in-Some c =
    let is = c.in-Some.ensures in
    let read = is.0 ∙ sym (slot_read c.args.header.now c.args.xid.slot c.requires.slot) in (
      λ _. (
        runs_read c.args.header.now c.args.xid c.requires.slot (subst (λ (s : TableSlot). IsRunning s c.args.xid.wrap) is.0 is.1),
        λ none. omega (arith, ap (λ (s : TableSlot). s.live) read, none),
      ),
      λ _. refl,
    )

pub returns-in_default : goal.returns-in_default
returns-in_default c =
    let read = c.in-Some.ensures.0 ∙ sym (slot_read c.args.header.now c.args.xid.slot c.requires.slot) in
    (λ clash. absurd (false≢true clash), λ lives. absurd (lives.1 (omega (arith, ap (λ (s : TableSlot). s.live) read))))

pub returns-in_default-2 : goal.returns-in_default-2
returns-in_default-2 c = (λ clash. absurd (false≢true clash), λ lives. absurd (c.in_default.ensures (has_slot c.args.header.now c.args.xid lives.0)))
