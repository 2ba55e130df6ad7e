use Rattle.std.proofs.Common.{◌∙◌, length, refl, arith}
use Rattle.rb_log.proofs.GroupUnits.{run_gate}
use Rattle.rb_log.proofs.WaitingLemmas.{gate_set}
use Rattle.rb_log.proofs.waiting.set_gates.Goals as goal

pub loop-i-init : goal.loop-i-init
loop-i-init c = record { bodies = refl; gates = λ k lt. absurd (omega (arith, lt)); whole = c.told-units }

pub loop-i-preserved : goal.loop-i-preserved
loop-i-preserved c = gate_set c.args.units.now c.loop-i.units c.loop-i.i c.from.result (omega (arith, c.loop-i-test.true, c.loop-i.auto.units)) (c.from.ensures ∙ run_gate c.loop-i.i (length c.args.units.now)) c.loop-i.invariant

pub returns : goal.returns
returns c = record { bodies = c.loop-i.invariant.bodies; gates = λ k lt. c.loop-i.invariant.gates k (omega (arith, lt, c.loop-i-test.false)); whole = c.loop-i.invariant.whole }
