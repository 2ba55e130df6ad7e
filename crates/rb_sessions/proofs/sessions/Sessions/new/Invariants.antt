use Rattle.std.proofs.Common.{◌≡◌, ◌≤◌, map, replicate}
use Rattle.std.specs.Prelude.{vec_capacity}
use Rattle.rb_sessions.specs.Kept.{fresh, session_view}
use Rattle.rb_sessions.specs.declared.sessions.TheConstants.{SESSIONS}
use Rattle.rb_sessions.proofs.sessions.Sessions.new.Given as goal

abbrev pub invariant-loop : goal.invariant-loop
invariant-loop l = record {
  fresh : map session_view l.entries.items ≡ replicate l.counter fresh;
  room : SESSIONS ≤ vec_capacity l.entries;
}
