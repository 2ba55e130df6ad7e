-- What a store has of a state of the machine.
use Rattle.std.specs.Prelude.{◌≡◌, List}
use Rattle.rb_base.specs.Keeps.{Keeps}
use Rattle.rb_base.specs.declared.ids.Xid.{Xid}
use Rattle.rb_base.specs.declared.store.Store.{Ghosts}
use Rattle.law_crash.specs.Images.{HasSome}
use Rattle.rb_model.specs.State.{State}
use Rattle.law_blocks.specs.Standing.{logged_of}
use Rattle.law_blocks.specs.States.{BlocksStand}

-- A store's blocks stand for a state, whose commits have these ids. The last log number is that of the last group that
-- patched a block, and each image that a crash may leave has the state's commits: those that are acknowledged, and of
-- the later ones the first.
pub record Holds {S : Type 0} (s : Ghosts S) (h : State) (xids : List Xid) (store : S) : Type 0 where
  pub blocks : BlocksStand h xids (s.blocks store)
  pub logged : s.lsn store ≡ logged_of h.shape (s.blocks store)
  pub images : s.keeps → Keeps s (HasSome h h.books) store
