use Rattle.std.proofs.Common.{◌≡◌, ◌≤◌, ◌*◌, false}
use Rattle.rb_calls.specs.Since.{IsSince, StandsAs, engine_outside}
use Rattle.rb_generator.specs.Counted.{told}
use Rattle.rb_generator.specs.Draws.{state_after}
use Rattle.rb_generator.proofs.AnsweredLemmas.{CommandsSoFar}
use Rattle.rb_lines.specs.Ran.{Did}
use Rattle.rb_model.specs.Out.{Logged}
use Rattle.rb_generator.proofs.generator.generate.Given as goal
use Rattle.rb_rollback.specs.Backs.{SameStore}

abbrev pub invariant-loop-i : goal.invariant-loop-i
invariant-loop-i g l = record {
  so_far : (m : Logged) → StandsAs g.T.Store l.initial.engine m → m.state.stopped ≡ false
      → Did (StandsAs g.T.Store) (IsSince g.T.Store) l.initial.engine l.engine m
      (λ now. CommandsSoFar m engine_outside l.commands l.i now l.counts);
  drawn : l.draws.state ≡ state_after l.commands (4 * l.i);
  few : told l.counts ≤ 20 * l.i;
  same : SameStore g.T.Store l.initial.engine.store l.engine.store;
  disk : g.T.Store.faults l.engine.store ≡ g.T.Store.faults l.initial.engine.store;
}
