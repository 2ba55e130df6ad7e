-- What one group makes of blocks that stand for a state, by each step of a session: a write, the put back of a change,
-- a commit, the end of a transaction without one, the cleaning of a block that is read.
use Rattle.std.proofs.Common.{◌*◌, ◌/◌, zero, suc}
use Rattle.std.specs.Prelude.{◌≡◌, ◌≢◌, ◌⊎◌, ◌<◌, ◌≤◌, ◌+◌, ◌∷◌, ◌++◌, ℕ}
use Rattle.std.specs.Prelude.{Bool, true, List, [], length, Some}
use Rattle.rb_base.specs.Blocks.{after_groups, block_of, home_block, table_blocks}
use Rattle.rb_base.specs.Groups.{Patch}
use Rattle.rb_base.specs.Logs.{Logs}
use Rattle.rb_base.specs.declared.ids.Uba.{Uba}
use Rattle.rb_base.specs.declared.ids.Xid.{Xid}
use Rattle.rb_base.specs.declared.shape.Shape.{Shape}
use Rattle.rb_base.specs.declared.store.Store.{Ghosts}
use Rattle.rb_heap.specs.Cleaning.{cleaned_home}
use Rattle.rb_heap.specs.Homes.{home_entry, home_of}
use Rattle.rb_itl.specs.declared.slots.Entry.{Entry}
use Rattle.rb_itl.specs.declared.slots.TheConstants.{BOUND, EXACT, OPEN}
use Rattle.rb_model.specs.Calls.{Action, Done, WritesIn, adds_now, first_of, write_tests}
use Rattle.rb_model.specs.Change.{Change}
use Rattle.rb_model.specs.NextState.{change_in, committed, ended, kind_by, without_owner, written}
use Rattle.rb_model.specs.Rows.{last_scn}
use Rattle.rb_model.specs.State.{Cursor, State, session_own}
use Rattle.rb_segment.specs.Header.{record_in}
use Rattle.law_blocks.specs.Groups.{IsCleaned, IsCommitted, IsEnded, IsPutBack, last_record}
use Rattle.rb_model.specs.NextState.{with_own}
use Rattle.law_blocks.specs.Standing.{env_of, logged_of, segments_of}
use Rattle.law_blocks.specs.States.{BlocksStand, Owns}
use Rattle.law_blocks.specs.Writing.{IsWritten}
use Rattle.rb_txntable.specs.declared.looks.Look.TheVariants.{At, Before}
use Rattle.rb_undoblock.specs.declared.record.UndoRecord.{UndoRecord}
use Rattle.law_write.specs.Verdict.{IsOwnId}
use Rattle.law_home.specs.Walk.{Env}

-- the slots that are owned keep their transactions
abbrev pub KeepsIds : State → Env → Env → Type 0
KeepsIds h env env2 = (s t : ℕ) → Owns h s t → env2.xid t ≡ env.xid t

-- Calls of a store gave it one group, or failed and perhaps gave none. Where one was given, `Is` holds of the blocks
-- that it makes.
pub record GivesOne {S : Type 0} (s : Ghosts S) (old new : S) (going : Bool) (Is : List (List ℕ) → Type 0) : Type 0
  where
    pub groups : List (List Patch)
    pub logs : Logs s old new groups going
    pub few : length groups ≤ 1
    pub one : going ≡ true → length groups ≡ 1
    pub made : 1 ≤ length groups → Is (after_groups (s.lsn old + 1) groups (s.blocks old))

-- They gave it one group, of which that holds, or none.
abbrev pub GivesAny : {S : Type 0} → Ghosts S → S → S → Bool → (List (List ℕ) → Type 0) → Type 0
GivesAny s old new going Is = GivesOne s old new going Is ⊎ Logs s old new [] going

-- slot entry i of block b of rows
abbrev pub entry_in : List (List ℕ) → (b i : ℕ) → Entry
entry_in blocks b i = home_entry (home_of (block_of blocks b)) i

-- What was Open tells no more than the looks: a slot entry of a block of rows that was Open is Exact c only where the
-- look at its transaction, by the headers of before, gave At c, and Bound b only where it gave Before b; and where it
-- isn't Open any more, it is still of that transaction.
pub record TellsLooks (shape : Shape) (before now : List (List ℕ)) : Type 0 where
  pub exact : (b i : ℕ) → b < table_blocks shape → (entry_in before b i).kind ≡ OPEN
      → (entry_in now b i).kind ≡ EXACT
      → (env_of shape before).look (entry_in before b i).xid ≡ At (entry_in now b i).number
  pub bound : (b i : ℕ) → b < table_blocks shape → (entry_in before b i).kind ≡ OPEN
      → (entry_in now b i).kind ≡ BOUND
      → (env_of shape before).look (entry_in before b i).xid ≡ Before (entry_in now b i).number
  pub same : (b i : ℕ) → b < table_blocks shape → (entry_in before b i).kind ≡ OPEN
      → (entry_in now b i).kind ≢ OPEN → (entry_in now b i).xid ≡ (entry_in before b i).xid

-- A write of session s: its transaction has that id then, and no test of the machine refuses it. What it cleans on its
-- way tells the looks.
pub record WriteMade (h : State) (xids : List Xid) (s table key : ℕ) (action : Action) (x : Xid)
    (before now : List (List ℕ)) : Type 0 where
  pub in_slot : WritesIn h s x.seg x.slot
  pub granted : first_of (write_tests h (logged_of h.shape before) x.seg s table key action) Done ≡ Done
  pub stand : BlocksStand (written h s x.seg x.slot (change_in h x.seg table key action)) xids now
  pub last : logged_of h.shape now ≡ logged_of h.shape before + 1
  pub id : IsOwnId (written h s x.seg x.slot (change_in h x.seg table key action)) (env_of h.shape now) s (Some x)
  pub ids : KeepsIds h (env_of h.shape before) (env_of h.shape now)
  pub tells : TellsLooks h.shape before now
  -- the record of its change, and where it is, which says all that the group changes
  pub address : Uba
  pub undo : UndoRecord
  pub of_table : undo.table ≡ table
  pub of_key : undo.key ≡ key
  pub of_home : undo.home ≡ home_block h.shape table key
  pub group : IsWritten h.shape (16 * x.seg + x.slot) (adds_now h s table key action) (kind_by action) address undo
      before now

-- So many changes of slot t are put back, the newest first, each as its record keeps it.
abbrev pub BackOver : Shape → (t : ℕ) → ℕ → (before now : List (List ℕ)) → Type 0
BackOver shape t zero before now = now ≡ before
BackOver shape t (suc n) before now = (middle : List (List ℕ))
    × IsPutBack shape t (last_record shape before t) before middle × BackOver shape t n middle now

-- so many groups, of which each puts back the newest change of a slot, or ends one
abbrev pub BackBy : Shape → ℕ → (before now : List (List ℕ)) → Type 0
BackBy shape zero before now = now ≡ before
BackBy shape (suc n) before now = (middle : List (List ℕ)) × (t : ℕ)
    × (IsPutBack shape t (last_record shape before t) before middle ⊎ IsEnded shape t before middle)
    × BackBy shape n middle now

-- The put back of the last change of session s, which has these left.
pub record BackMade (h : State) (xids : List Xid) (s : ℕ) (front : List Change) (before now : List (List ℕ)) : Type
    0 where
  pub stand : BlocksStand (with_own h s front) xids now
  pub last : logged_of h.shape now ≡ logged_of h.shape before + 1
  pub ids : KeepsIds h (env_of h.shape before) (env_of h.shape now)
  -- its slot, the change, and the record of it, which says all that the group changes
  pub slot : ℕ
  pub owns : Owns h s slot
  pub change : Change
  pub own : session_own h s ≡ front ++ change ∷ []
  pub undo : UndoRecord
  pub there : record_in (segments_of h.shape before (slot / 16)) change.place.index ≡ Some undo
  pub newest : last_record h.shape before slot ≡ undo
  pub group : IsPutBack h.shape slot undo before now

-- A commit of session s, whose transaction has that id.
pub record CommitMade (h : State) (xids : List Xid) (s : ℕ) (x : Xid) (before now : List (List ℕ)) : Type 0 where
  pub stand : BlocksStand (committed h s x.seg x.slot) (xids ++ x ∷ []) now
  pub ids : KeepsIds h (env_of h.shape before) (env_of h.shape now)
  pub last : logged_of h.shape now ≡ logged_of h.shape before + 1
  -- the group changes its header alone, and that so
  pub group : IsCommitted h.shape (16 * x.seg + x.slot) (last_scn h.commits + 1) before now

-- The end of its transaction, which has no live change, whatever cursors it keeps.
pub record EndMade (h : State) (xids : List Xid) (s : ℕ) (x : Xid) (before now : List (List ℕ)) : Type 0 where
  pub stand : (cursors : List Cursor) → BlocksStand (without_owner x.seg x.slot (ended h s cursors)) xids now
  pub ids : KeepsIds h (env_of h.shape before) (env_of h.shape now)
  pub last : logged_of h.shape now ≡ logged_of h.shape before + 1
  -- the group changes its header alone, and that so
  pub group : IsEnded h.shape (16 * x.seg + x.slot) before now

-- Block b of rows is cleaned of the transactions that have ended; no other block changes.
pub record CleanMade (h : State) (xids : List Xid) (b : ℕ) (before now : List (List ℕ)) : Type 0 where
  pub stand : BlocksStand h xids now
  pub segments : segments_of h.shape now ≡ segments_of h.shape before
  pub group : IsCleaned h.shape b before now
  pub home : home_of (block_of now b) ≡ cleaned_home (env_of h.shape before).look (home_of (block_of before b))
  pub others : (k : ℕ) → k ≢ b → block_of now k ≡ block_of before k
  pub last : logged_of h.shape now ≡ logged_of h.shape before + 1
