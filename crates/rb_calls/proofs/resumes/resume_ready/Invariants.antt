use Rattle.std.proofs.Common.{◌≡◌, ◌≤◌, ◌+◌, false, None}
use Rattle.rb_calls.specs.Resumes.{HeardFew}
use Rattle.rb_calls.specs.Since.{IsSince, StandsAs, engine_outside}
use Rattle.rb_calls.proofs.ResumeLemmas.{ResumedSoFar}
use Rattle.rb_lines.specs.Ran.{Did}
use Rattle.rb_model.specs.Out.{Logged}
use Rattle.rb_model.specs.Queue.{first_ready, ready_count}
use Rattle.rb_calls.proofs.resumes.resume_ready.Given as goal
use Rattle.rb_rollback.specs.Backs.{SameStore}

abbrev pub invariant-loop-turn : goal.invariant-loop-turn
invariant-loop-turn g l = record {
  so_far : (m : Logged) → StandsAs g.T.Store l.initial.engine m → m.state.stopped ≡ false
      → Did (StandsAs g.T.Store) (IsSince g.T.Store) l.initial.engine l.engine m
      (λ now. ResumedSoFar g.L.Listener.heard m engine_outside now l.initial.listener l.listener);
  fewer : 1 ≤ l._turn → ready_count l.engine.memory.waits + l._turn ≤ 16;
  room : 16 ≤ g.L.Listener.room l.listener + l._turn;
  few : HeardFew g.L.Listener.heard l._turn l.initial.listener l.listener;
  idle : first_ready l.initial.engine.memory.waits ≡ None → (l.engine ≡ l.initial.engine) × (l.listener ≡ l.initial.listener);
  same : SameStore g.T.Store l.initial.engine.store l.engine.store;
  disk : g.T.Store.faults l.engine.store ≡ g.T.Store.faults l.initial.engine.store;
}
