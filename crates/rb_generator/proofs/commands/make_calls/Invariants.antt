use Rattle.std.proofs.Common.{◌≡◌, ◌≤◌, ◌+◌, false}
use Rattle.rb_calls.specs.Since.{IsSince, StandsAs, engine_outside}
use Rattle.rb_generator.specs.Counted.{told}
use Rattle.rb_generator.proofs.AnsweredLemmas.{CallsSoFar}
use Rattle.rb_lines.specs.Ran.{Did}
use Rattle.rb_model.specs.Lines.{most_calls}
use Rattle.rb_model.specs.Out.{Logged}
use Rattle.rb_script.specs.Commands.{command_of}
use Rattle.rb_generator.proofs.commands.make_calls.Given as goal
use Rattle.rb_rollback.specs.Backs.{SameStore}

abbrev pub invariant-loop-k : goal.invariant-loop-k
invariant-loop-k g l = record {
  so_far : (m : Logged) → StandsAs g.T.Store l.initial.engine m → m.state.stopped ≡ false
      → Did (StandsAs g.T.Store) (IsSince g.T.Store) l.initial.engine l.engine m
      (λ now. CallsSoFar m engine_outside (command_of l.command) (most_calls m.state.shape (command_of l.command)) l.k now l.initial.counts l.counts);
  few : told l.counts ≤ told l.initial.counts + l.k;
  same : SameStore g.T.Store l.initial.engine.store l.engine.store;
  disk : g.T.Store.faults l.engine.store ≡ g.T.Store.faults l.initial.engine.store;
}
