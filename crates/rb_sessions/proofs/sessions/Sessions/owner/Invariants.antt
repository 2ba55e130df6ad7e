use Rattle.std.proofs.Common.{◌≢◌, ℕ, ◌<◌, get_or, Some}
use Rattle.rb_sessions.specs.declared.row.SessionRow.{SessionRow}
use Rattle.rb_sessions.proofs.sessions.Sessions.owner.Given as goal

abbrev pub invariant-loop-i : goal.invariant-loop-i
invariant-loop-i l = (d : SessionRow) (k : ℕ) → k < l.i → (get_or l.self-inside.entries.items k d).own ≢ Some l.xid
