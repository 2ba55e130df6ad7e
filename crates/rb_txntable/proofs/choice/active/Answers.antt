use Rattle.std.proofs.Common.{◌≡◌, sym, ◌∙◌, arith}
use Rattle.rb_txntable.proofs.Counted.{active_before, active_before-few, one_more, none_more}
use Rattle.rb_txntable.proofs.choice.active.Goals as goal
use Rattle.rb_txntable.proofs.choice.active.Goals.{then-slot_state-eq-ACTIVE, else-slot_state-eq-ACTIVE}

pub overflow_add-count : goal.overflow_add-count
overflow_add-count c =
    let so_far : c.loop-i.count ≡ active_before c.args.header.now c.loop-i.i = c.loop-i.invariant in
    omega (arith, so_far, c.loop-i-test.true, active_before-few c.args.header.now c.loop-i.i)

pub loop-i-preserved : goal.loop-i-preserved
loop-i-preserved c =
    let header = c.args.header.now in
    let so_far : c.loop-i.count ≡ active_before header c.loop-i.i = c.loop-i.invariant in
    elim c.if-slot_state-eq-ACTIVE.branch [
      | then-slot_state-eq-ACTIVE w ↦
          let more = one_more header c.loop-i.i c.loop-i-test.true (sym c.slot_state.ensures ∙ w.if-slot_state-eq-ACTIVE.true) in
          omega (arith, w.count-is, so_far, more)
      | else-slot_state-eq-ACTIVE w ↦
          let more = none_more header c.loop-i.i c.loop-i-test.true (λ is. w.if-slot_state-eq-ACTIVE.false (c.slot_state.ensures ∙ is)) in
          omega (arith, w.count-is, so_far, more)
    ]
