use Rattle.std.proofs.Common.{arith}
use Rattle.rb_cleanout.proofs.Plain.{block_stays, is_open}
use Rattle.rb_cleanout.proofs.blocks.has_open.Goals as goal

pub returns-then-entry-eq-OPEN-clause-some : goal.returns-then-entry-eq-OPEN-clause-some
returns-then-entry-eq-OPEN-clause-some c = λ yes. (c.loop-i.i, is_open c.args.block.now c.loop-i.i (let lt = c.loop-i-test.true in omega (arith, lt)) c.entry.result c.entry.ensures (let kind = c.if-entry-eq-OPEN.true in omega (arith, kind)))

pub returns-clause-none : goal.returns-clause-none
returns-clause-none c = λ no look. block_stays c.args.block.now (λ i lt. c.loop-i.invariant i (let past = c.loop-i-test.false in let end = c.loop-i.auto.i-end in omega (arith, lt, past, end))) look
