-- What each call of a rollback does to the blocks of a file.
use Rattle.std.specs.Prelude.{◌≡◌, ◌≢◌, ◌<◌, ◌≤◌, ◌+◌, ◌*◌, ℕ, Bool, true, List, length}
use Rattle.rb_base.specs.Blocks.{after_groups}
use Rattle.rb_base.specs.Groups.{Patch}
use Rattle.rb_base.specs.Logs.{Logs}
use Rattle.rb_base.specs.declared.ids.Xid.{Xid}
use Rattle.rb_base.specs.declared.shape.Shape.{Shape}
use Rattle.rb_base.specs.declared.sizes.TheConstants.{ACTIVE}
use Rattle.rb_base.specs.declared.store.Store.{Ghosts}
use Rattle.rb_model.specs.Rows.{TableRow}
use Rattle.rb_restart.specs.Rollback.{BackBy, SameBooks, StaySound}
use Rattle.rb_segment.specs.Calls.{Runs}
use Rattle.rb_segment.specs.Header.{slot_in}
use Rattle.rb_segment.specs.Segments.{owed_in}
use Rattle.law_blocks.specs.Standing.{SoundAs, logged_of, segments_of}
use Rattle.law_blocks.specs.Values.{slot_of}
use Rattle.rb_undo.specs.Backs.{header_for}

-- no transaction has table slot t
abbrev pub IsIdle : Shape → List (List ℕ) → ℕ → Type 0
IsIdle shape blocks t = (slot_of (segments_of shape blocks) t).state ≢ ACTIVE

-- the transaction runs and has so many live changes
pub record HasLive (shape : Shape) (blocks : List (List ℕ)) (x : Xid) (n : ℕ) : Type 0 where
  pub runs : Runs (header_for shape blocks x) x
  pub live : (slot_in (header_for shape blocks x) x.slot).live ≡ n

-- The blocks have that number and those rows, once what is under way is put back, and the last group was their last
-- one.
pub record MayRoll (shape : Shape) (number : ℕ) (rows : List TableRow) (lsn : ℕ)
    (blocks : List (List ℕ)) : Type 0 where
  pub sound : SoundAs shape blocks number rows
  pub logged : lsn ≡ logged_of shape blocks

-- Groups that put back what is under way, each a change or a slot: a stop behind any of them leaves nothing else to
-- find, each is one of those that are owed, and no slot is taken.
pub record PutsBack (shape : Shape) (number : ℕ) (rows : List TableRow) (groups : List (List Patch))
    (before now : List (List ℕ)) : Type 0 where
  pub sound : StaySound shape number rows (logged_of shape before) groups before
  pub made : now ≡ after_groups (logged_of shape before + 1) groups before
  pub logged : logged_of shape now ≡ logged_of shape before + length groups
  pub owed : owed_in shape now + length groups ≡ owed_in shape before
  pub back : BackBy shape (length groups) before now
  pub books : SameBooks shape before now
  pub idle : (t : ℕ) → t < 16 * shape.segments → IsIdle shape before t → IsIdle shape now t

-- Calls of a store logged some groups, at most so many. Where the blocks may be rolled back these groups put back, also
-- where a call failed, and where none did the blocks are then Done.
pub record Rolls {S : Type 0} (s : Ghosts S) (shape : Shape) (old new : S) (most : ℕ) (going : Bool)
    (Done : List (List ℕ) → Type 0) : Type 0 where
  pub groups : List (List Patch)
  pub logs : Logs s old new groups going
  pub few : length groups ≤ most
  pub puts_back : (number : ℕ) (rows : List TableRow) → s.tells
      → MayRoll shape number rows (s.lsn old) (s.blocks old)
      → PutsBack shape number rows groups (s.blocks old) (after_groups (s.lsn old + 1) groups (s.blocks old))
  pub done : (number : ℕ) (rows : List TableRow) → s.tells → going ≡ true
      → MayRoll shape number rows (s.lsn old) (s.blocks old)
      → Done (s.blocks new)
