use Rattle.std.proofs.Common.{◌≡◌, ◌≤◌, false, [], length}
use Rattle.rb_calls.specs.Since.{IsSince, StandsAs, engine_outside}
use Rattle.rb_engine.specs.Ahead.{IsAhead}
use Rattle.rb_lines.specs.Ran.{Did}
use Rattle.rb_model.specs.Lines as lines
use Rattle.rb_model.specs.Names.{name_text}
use Rattle.rb_model.specs.Out.{Logged}
use Rattle.rb_shell.specs.Steps.{SaidSoFar}
use Rattle.rb_shell.specs.declared.replies.TheConstants.{OWN_BYTES}
use Rattle.rb_shell.proofs.line.fetch_rows.Given as goal
use Rattle.rb_rollback.specs.Backs.{SameStore}

abbrev pub invariant-loop-k : goal.invariant-loop-k
invariant-loop-k g l = record {
  ahead : IsAhead g.T.Store l.engine l.s (name_text l.name) l.ahead;
  so_far : (m : Logged) → StandsAs g.T.Store l.initial.engine m → m.state.stopped ≡ false
      → Did (StandsAs g.T.Store) (IsSince g.T.Store) l.initial.engine l.engine m
      (λ now. SaidSoFar m engine_outside (lines.FetchLine l.s (name_text l.name) l.n) l._k now g.K.Sink.tells (g.K.Sink.held l.initial.sink) (g.K.Sink.held l.sink) l.waiting.bytes.items);
  room : length l.waiting.bytes.items ≤ OWN_BYTES;
  first : l._k ≡ 0 → l.waiting.bytes.items ≡ [];
  same : SameStore g.T.Store l.initial.engine.store l.engine.store;
  disk : g.T.Store.faults l.engine.store ≡ g.T.Store.faults l.initial.engine.store;
  sink : g.K.Sink.faults l.sink ≡ g.K.Sink.faults l.initial.sink;
}
