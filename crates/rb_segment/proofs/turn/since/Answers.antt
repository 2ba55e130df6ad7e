use Rattle.std.proofs.Common.{◌≡◌, ℕ, ◌-◌, min, ap, sym, ◌∙◌, arith}
use Rattle.rb_base.specs.declared.sizes.TheConstants.{SLOTS}
use Rattle.rb_segment.proofs.Oldest.{none_yet, passed, joined, start_fits, since_oldest}
use Rattle.rb_txntable.specs.Slots.{slot_at}
use Rattle.rb_txntable.specs.declared.slots.TableSlot.{TableSlot}
use Rattle.rb_segment.proofs.turn.since.Goals as goal
use Rattle.rb_segment.proofs.turn.since.Goals.{then-slot-eq-ACTIVE, else-slot-eq-ACTIVE}

pub loop-i-init : goal.loop-i-init
loop-i-init c = none_yet (slot_at c.args.header.now)

pub loop-i-preserved : goal.loop-i-preserved
loop-i-preserved c =
    let slot = slot_at c.args.header.now in
    let i = c.loop-i.i in
    let oldest = c.loop-i.oldest in
    let state = ap (λ (s : TableSlot). s.state) c.slot_at-slot.ensures in
    let start = ap (λ (s : TableSlot). s.start) c.slot_at-slot.ensures in
    elim c.if-slot-eq-ACTIVE.branch [
      | then-slot-eq-ACTIVE w ↦
          let now : c.if-slot-eq-ACTIVE.oldest ≡ min oldest (slot i).start = w.oldest-is ∙ w.min-oldest.ensures ∙ ap (min oldest) start in
          rw now (joined slot i oldest c.loop-i.invariant (sym state ∙ w.if-slot-eq-ACTIVE.true) (start_fits c.args.header.now i (λ k. (c.type_inv.header k).fits)))
      | else-slot-eq-ACTIVE w ↦ rw w.oldest-is (passed slot i oldest c.loop-i.invariant (λ active. w.if-slot-eq-ACTIVE.false (state ∙ active)))
    ]

pub returns : goal.returns
returns c i few active =
    let all : c.loop-i.i ≡ SLOTS = omega (arith, c.loop-i-test.false, c.loop-i.auto.i-end) in
    since_oldest c.args.header.now c.loop-i.oldest c.saturating_sub.result (rw all at c.loop-i.invariant) (c.saturating_sub.ensures ∙ ap (λ (n : ℕ). n - c.loop-i.oldest) c.writes.ensures) i few active
