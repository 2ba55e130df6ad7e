use Rattle.std.proofs.Common.{◌≡◌, ◌∙◌, ◌++◌, map, take, drop, None, ap, arith}
use Rattle.std.proofs.lemmas.List.{take_all, drop_all, append-nil}
use Rattle.rb_waits.specs.Waiters.{waiter_view}
use Rattle.rb_waits.proofs.Waiting.{all_freed, freed, one_freed, one_stays}
use Rattle.rb_waits.proofs.waits.free_all.Goals.{then-eq, else-eq}
use Rattle.rb_waits.proofs.waits.free_all.Goals as goal

pub loop-waiter-preserved : goal.loop-waiter-preserved
loop-waiter-preserved c =
    let l = c.loop-waiter in
    elim c.if-eq.branch [
      | then-eq w ↦ w.waiters-is ∙ one_freed c.args.u c.args.waiters.now l.waiters l.waiter-index (record { session = 0; on = None }) c.eq.result c.loop-waiter-test.true l.auto.waiters l.invariant c.eq.ensures w.if-eq.true
      | else-eq w ↦ w.waiters-is ∙ one_stays c.args.u c.args.waiters.now l.waiters l.waiter-index (record { session = 0; on = None }) c.eq.result c.loop-waiter-test.true l.auto.waiters l.invariant c.eq.ensures w.if-eq.false
    ]

pub returns : goal.returns
returns c =
    let l = c.loop-waiter in
    let xs = c.args.waiters.now in
    let all : map (freed c.args.u) (take l.waiter-index xs) ++ drop l.waiter-index xs ≡ map (freed c.args.u) xs =
    ap (λ ys. map (freed c.args.u) ys ++ drop l.waiter-index xs) (take_all l.waiter-index xs (omega arith)) ∙ ap (λ ys. map (freed c.args.u) xs ++ ys) (drop_all l.waiter-index xs (omega arith)) ∙ append-nil (map (freed c.args.u) xs) in
    ap (map waiter_view) (l.invariant ∙ all) ∙ all_freed c.args.u xs
