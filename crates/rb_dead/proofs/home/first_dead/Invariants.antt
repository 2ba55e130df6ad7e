use Rattle.std.proofs.Common.{◌≡◌, ◌<◌, ℕ, [], true}
use Rattle.rb_base.specs.Logs.{Logs}
use Rattle.rb_dead.specs.Entries.{IsDeadEntry, entry_at}
use Rattle.rb_dead.proofs.home.first_dead.Given as goal

abbrev pub invariant-loop-i : goal.invariant-loop-i
invariant-loop-i g l = record {
  logs : Logs g.S.Store l.fn.store l.store [] true;
  sessions : l.sessions ≡ l.fn.sessions;
  none : g.S.Store.tells → (j : ℕ) → j < l.i → ¬ IsDeadEntry l.fn.sessions (g.S.Store.shape_of l.fn.store) (g.S.Store.blocks l.fn.store) (entry_at (g.S.Store.blocks l.fn.store) l.no j);
}
