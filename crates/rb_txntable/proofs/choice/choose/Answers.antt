use Rattle.rb_txntable.proofs.Chosen.{taken, passed}
use Rattle.rb_txntable.proofs.choice.choose.Goals as goal
use Rattle.rb_txntable.proofs.choice.choose.Goals.{then-is_preferred, else-is_preferred}

pub loop-i-preserved : goal.loop-i-preserved
loop-i-preserved c =
    let header = c.args.header.now in
    let i = c.loop-i.i in
    let chosen = c.loop-i.chosen in
    elim c.if-is_preferred.branch [
      | then-is_preferred w ↦ rw w.chosen-is (taken header i chosen c.loop-i.invariant (c.is_preferred.ensures.0 w.if-is_preferred.true))
      | else-is_preferred w ↦ rw w.chosen-is (passed header i chosen c.loop-i.invariant (λ preferred. let yes = c.is_preferred.ensures.1 preferred in let is_not = w.if-is_preferred.false in cc))
    ]
