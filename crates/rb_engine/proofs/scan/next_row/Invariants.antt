use Rattle.std.proofs.Common.{◌≡◌, ◌⊎◌, ◌<◌, ◌≤◌, ℕ, List, true, None}
use Rattle.rb_base.specs.Groups.{Patch}
use Rattle.rb_base.specs.Logs.{Logs}
use Rattle.rb_base.specs.declared.ids.Xid.{Xid}
use Rattle.rb_base.specs.declared.sizes.TheConstants.{WORN}
use Rattle.rb_engine.specs.Cleaning.{HasCleaned, IsBefore, Serves}
use Rattle.rb_engine.specs.Scanning.{HasNone}
use Rattle.rb_model.specs.State.{State}
use Rattle.law_copies.specs.Copies.{CopiesStand}
use Rattle.rb_engine.proofs.scan.next_row.Given as goal

abbrev pub invariant-loop-g : goal.invariant-loop-g
invariant-loop-g g l = record {
  there : l.g ≤ (g.S.Store.shape_of l.fn.store).blocks;
  groups : List (List Patch);
  logs : Logs g.S.Store l.fn.store l.store groups true;
  young : (g.S.Store.lsn l.store ≤ WORN) ⊎ (g.S.Store.lsn l.store ≡ g.S.Store.lsn l.fn.store);
  row : l.row ≡ l.fn.row;
  behind : l.first ≤ l.g;
  nothing : l.ahead.rows ≡ None;
  none : g.S.Store.tells → (h : State) (xids : List Xid) → Serves g.S.Store h xids l.fn.cursor l.fn.store → CopiesStand h xids (g.S.Store.blocks l.fn.store) l.fn.copies.kept → (f : ℕ) → f < l.g → HasNone h xids (g.S.Store.blocks l.fn.store) l.fn.cursor f;
  cleaned : g.S.Store.tells → (h : State) (xids : List Xid) → Serves g.S.Store h xids l.fn.cursor l.fn.store
      → CopiesStand h xids (g.S.Store.blocks l.fn.store) l.fn.copies.kept → HasCleaned g.S.Store h xids (IsBefore h.shape l.fn.cursor l.g) (IsBefore h.shape l.fn.cursor l.g) l.g l.fn.store l.store;
  copies : g.S.Store.tells → (h : State) (xids : List Xid) → Serves g.S.Store h xids l.fn.cursor l.fn.store → CopiesStand h xids (g.S.Store.blocks l.fn.store) l.fn.copies.kept → CopiesStand h xids (g.S.Store.blocks l.store) l.copies.kept;
}
