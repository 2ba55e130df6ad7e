use Rattle.rb_cr.proofs.Extents.{extent_first, extent_none}
use Rattle.std.proofs.Common.{sym, ◌∙◌, arith}
use Rattle.rb_cr.proofs.reads.extent_of.Goals as goal

pub returns-then-extent_ord-turn-clause-extent : goal.returns-then-extent_ord-turn-clause-extent
returns-then-extent_ord-turn-clause-extent c = sym (extent_first c.args.header.now c.args.turn c.loop-e.e c.loop-e-test.true (sym c.extent_ord.ensures ∙ c.if-extent_ord-turn.true) c.loop-e.invariant)

pub returns-clause-extent : goal.returns-clause-extent
returns-clause-extent c = sym (extent_none c.args.header.now c.args.turn (λ f lt. c.loop-e.invariant f (omega (arith, lt, c.loop-e-test.false))))
