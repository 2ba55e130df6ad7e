-- What an opening makes of a store.
use Rattle.std.specs.Prelude.{◌≡◌, ◌+◌, []}
use Rattle.rb_base.specs.Blocks.{IsShape}
use Rattle.rb_base.specs.Moments.{LeavesOnly}
use Rattle.rb_base.specs.declared.store.Store.{Ghosts}
use Rattle.rb_engine.specs.Does.{EngineView, Stands}
use Rattle.law_crash.specs.Crash.{Restarts}
use Rattle.rb_model.specs.State.{State}
use Rattle.rb_recovery.specs.Opens.{OpensAs}
use Rattle.rb_restart.specs.Rollback.{BackBy}
use Rattle.rb_segment.specs.Segments.{owed_in}
use Rattle.law_blocks.specs.Standing.{logged_of}

-- The blocks of a store open to a state. The last log number is that of the last group that patched a block, and
-- nothing waits to be made last.
pub record OpensTo {S : Type 0} (s : Ghosts S) (h : State) (store : S) : Type 0 where
  pub in_range : IsShape (s.shape_of store)
  pub opening : OpensAs (s.shape_of store) (s.blocks store) h
  pub logged : s.lsn store ≡ logged_of (s.shape_of store) (s.blocks store)
  pub none_waits : s.keeps → s.pending store ≡ []
  pub stable : s.keeps → s.stable store (s.blocks store) (s.lsn store)

-- an opening, wherever it stops, leaves to a crash the state that it opens to
abbrev pub StaysOpen : {S : Type 0} → Ghosts S → State → S → S → Type 0
StaysOpen s h old new = s.keeps → LeavesOnly s.moment s.left_since old new (Restarts s.opens (s.slots old) h)

-- An engine that was opened over a store stands for the state that its blocks opened to. The groups that put back what
-- was under way are logged, each a change or a slot, and nothing else changed.
pub record Opened {S : Type 0} (s : Ghosts S) (h : State) (old : S) (e : EngineView S) : Type 0 where
  pub stands : Stands s h e
  pub lsn : s.lsn e.store ≡ s.lsn old + owed_in (s.shape_of old) (s.blocks old)
  pub back : BackBy (s.shape_of old) (owed_in (s.shape_of old) (s.blocks old)) (s.blocks old) (s.blocks e.store)
  pub stays : StaysOpen s h old e.store
