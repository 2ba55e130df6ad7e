-- A call gives the log few groups: what it is to put back are changes of one transaction, and what it cleans are homes
-- of one table.
use Rattle.std.proofs.Common.{◌*◌, ◌≡◌, ◌≤◌, ◌+◌, ◌^◌, ⊎_elim, ℕ, zero, suc, List, length, arith}
use Rattle.rb_ring.specs.declared.extents.TheConstants.{EXTENTS, EXTENT_RECORDS}
use Rattle.rb_base.specs.declared.ids.Xid.{Xid}
use Rattle.rb_model.specs.Calls.{Absent, Answer, Call, Cancel, Checkpoint, CloseCursor, Commit, CommitLater, Done, End, Fetch, Flush}
use Rattle.rb_model.specs.Calls.{Flushed, Sweep, Swept, Get, Given, HasNoSlot, Idle, Numbered, Show, Shown}
use Rattle.rb_model.specs.Calls.{Marked, Marks, Committed, OpenCursor, Owned, Refused, Rollback, RollbackTo, SetMode, SetSavepoint, Waits, Write}
use Rattle.rb_model.specs.NextState.{CommitGrows, Ends, Grows, GrowsBy, ReadsBy, RefusedBy}
use Rattle.rb_model.specs.State.{State, session_own}
use Rattle.rb_model.specs.declared.refusal.Refusal.{Refusal}
use Rattle.rb_model.specs.declared.refusal.Refusal.TheVariants as why
use Rattle.law_blocks.specs.States.{BlocksStand}
use Rattle.law_sessions.proofs.Few.{session_few}
use Rattle.rb_steps.proofs.Owed.{dead_few}

module _ (h : State) (xids : List Xid) (blocks : List (List ℕ)) (stand : BlocksStand h xids blocks) where
  own_few : (s : ℕ) → length (session_own h s) ≤ (EXTENTS * EXTENT_RECORDS)
  own_few zero = session_few h xids blocks stand 1 (omega arith)
  own_few (suc s) = session_few h xids blocks stand (suc s) (omega arith)

  ends_few : (s back n : ℕ) → back ≤ (EXTENTS * EXTENT_RECORDS) → Ends h s back n → n ≤ 2 ^ 14
  ends_few s back n few ends = ⊎_elim
      (λ (one : (g : ℕ) × (i : ℕ) × Owned h s g i × (n ≡ back + 1)). let is = one.3 in omega (arith, is, few))
      (λ (none : HasNoSlot h s × (n ≡ 0)). let is = none.1 in omega (arith, is))
      ends

  commit_few : (s n : ℕ) → CommitGrows h s n → n ≤ 2 ^ 14
  commit_few s n grows = ⊎_elim
      (λ one. let is : n ≡ 1 = one.1 in omega (arith, is))
      (λ none. ends_few s 0 n (omega arith) none.1)
      grows

  granted_few : (call : Call) (n : ℕ) → GrowsBy h call n → n ≤ 2 ^ 14
  granted_few (Write s table key action) n is = omega (arith, is)
  granted_few (Commit s) n grows = commit_few s n grows
  granted_few (CommitLater s) n grows = commit_few s n grows
  granted_few (Rollback s) n ends = ends_few s (length (session_own h s)) n (own_few s) ends
  granted_few (SetMode s mode) n is = omega (arith, is)
  granted_few (SetSavepoint s name) n is = omega (arith, is)
  granted_few (RollbackTo s name) n back = let is = back.2 in let few = own_few s in omega (arith, is, few)
  granted_few (OpenCursor s name table lo hi) n is = omega (arith, is)
  granted_few (Fetch s name) n is = omega (arith, is)
  granted_few (CloseCursor s name) n is = omega (arith, is)
  granted_few (Get s table key) n is = omega (arith, is)
  granted_few (Show s) n is = omega (arith, is)
  granted_few (Cancel s) n is = omega (arith, is)
  granted_few (Marks seg) n is = omega (arith, is)
  granted_few Flush n is = omega (arith, is)
  granted_few (Sweep k) n is = let few = dead_few h xids blocks stand in omega (arith, is, few)
  granted_few Checkpoint n is = omega (arith, is)

  read_few : (call : Call) (n : ℕ) → ReadsBy h call n → n ≤ 2 ^ 14
  read_few (Fetch s name) n le = let few = stand.tell.in_range.few_blocks.1 in omega (arith, le, few)
  read_few (Get s table key) n le = omega (arith, le)
  read_few (Show s) n is = omega (arith, is)
  read_few (Write s table key action) n is = omega (arith, is)
  read_few (Commit s) n is = omega (arith, is)
  read_few (CommitLater s) n is = omega (arith, is)
  read_few (Rollback s) n is = omega (arith, is)
  read_few (SetMode s mode) n is = omega (arith, is)
  read_few (SetSavepoint s name) n is = omega (arith, is)
  read_few (RollbackTo s name) n is = omega (arith, is)
  read_few (OpenCursor s name table lo hi) n is = omega (arith, is)
  read_few (CloseCursor s name) n is = omega (arith, is)
  read_few (Cancel s) n is = omega (arith, is)
  read_few (Marks seg) n is = omega (arith, is)
  read_few Flush n is = omega (arith, is)
  read_few (Sweep k) n is = omega (arith, is)
  read_few Checkpoint n is = omega (arith, is)

  refused_few : (call : Call) (w : Refusal) (n : ℕ) → RefusedBy h call w n → n ≤ 2 ^ 14
  refused_few call (why.TooOld scn lost) n reads = read_few call n reads
  refused_few call why.NoSession n is = omega (arith, is)
  refused_few call why.Waiting n is = omega (arith, is)
  refused_few call why.NotFirst n is = omega (arith, is)
  refused_few call why.ReadOnly n is = omega (arith, is)
  refused_few call why.NoTable n is = omega (arith, is)
  refused_few call why.ValueTooLong n is = omega (arith, is)
  refused_few call (why.Deadlock on) n is = omega (arith, is)
  refused_few call (why.CantSerialize scn by) n is = omega (arith, is)
  refused_few call why.Duplicate n is = omega (arith, is)
  refused_few call why.NotFound n is = omega (arith, is)
  refused_few call why.BlockFull n is = omega (arith, is)
  refused_few call why.SlotsFull n is = omega (arith, is)
  refused_few call (why.RollbackFull seg since) n is = omega (arith, is)
  refused_few call why.NoSavepoint n is = omega (arith, is)
  refused_few call why.TooManySavepoints n is = omega (arith, is)
  refused_few call why.NoCursor n is = omega (arith, is)
  refused_few call why.CursorThere n is = omega (arith, is)
  refused_few call why.TooManyCursors n is = omega (arith, is)
  refused_few call why.WornOut n is = omega (arith, is)
  refused_few call why.NotWaiting n is = omega (arith, is)
  refused_few call why.DiskFault n is = omega (arith, is)
  refused_few call why.Stopped n is = omega (arith, is)

  pub grows_few : (call : Call) (r : Answer) (n : ℕ) → Grows h call r n → n ≤ 2 ^ 14
  grows_few call Done n grows = granted_few call n grows
  grows_few call (Committed number) n grows = granted_few call n grows
  grows_few call (Numbered number) n grows = granted_few call n grows
  grows_few call (Flushed number) n grows = granted_few call n grows
  grows_few call (Swept number) n grows = granted_few call n grows
  grows_few call (Waits on) n is = omega (arith, is)
  grows_few call (Given key value) n reads = read_few call n reads
  grows_few call End n reads = read_few call n reads
  grows_few call Absent n reads = read_few call n reads
  grows_few call (Marked seg writes lost) n is = omega (arith, is)
  grows_few call (Shown s activity) n is = omega (arith, is)
  grows_few call Idle n is = omega (arith, is)
  grows_few call (Refused w) n refused = refused_few call w n refused
