-- What the engine's calls of the store are to the machine.
use Rattle.std.specs.Prelude.{◌≡◌, ◌≤◌, ℕ, nat_le, true, List, [], Option}
use Rattle.std.specs.Prelude.{None, Some}
use Rattle.rb_write.specs.declared.ask.AttemptFault.{AttemptFault}
use Rattle.rb_write.specs.declared.ask.AttemptFault.TheVariants as faults
use Rattle.rb_model.specs.declared.refusal.Refusal.{Refusal}
use Rattle.rb_model.specs.declared.refusal.Refusal.TheVariants as refusals
use Rattle.rb_model.specs.Book.{book_at, owners}
use Rattle.rb_model.specs.Calls.{Action, Done, Refused, HasNoSlot, IsFewest, WritesAt, WritesIn}
use Rattle.rb_model.specs.Calls.{first_of, key_tests, none_applies, serial_tests, write_tests}
use Rattle.rb_model.specs.State.{State, isolation_of}
use Rattle.rb_model.specs.Tests.{holder}
use Rattle.law_blocks.specs.Standing.{env_of}
use Rattle.law_blocks.specs.States.{BlocksStand, Owns}
use Rattle.law_write.specs.Verdict.{IsOwnId}
use Rattle.rb_base.specs.declared.ids.Xid.{Xid}
use Rattle.law_home.specs.Walk.{Env}

-- what a fault of an attempt is called; a segment without a slot is called a full one
abbrev pub refusal_of : AttemptFault → Refusal
refusal_of faults.Failed = refusals.DiskFault
refusal_of faults.Duplicate = refusals.Duplicate
refusal_of faults.NotFound = refusals.NotFound
refusal_of faults.BlockFull = refusals.BlockFull
refusal_of faults.SlotsFull = refusals.SlotsFull
refusal_of (faults.NoSlot seg) = refusals.RollbackFull seg 0
refusal_of (faults.RollbackFull seg since) = refusals.RollbackFull seg since
refusal_of faults.WornOut = refusals.WornOut

-- the first test that applies to a write in segment g, behind that log number, is the one of that fault
abbrev pub IsFirst : State → (logged g s table key : ℕ) → Action → AttemptFault → Type 0
IsFirst h logged g s table key action fault =
    first_of (write_tests h logged g s table key action) Done ≡ Refused (refusal_of fault)

-- the session has no slot, and none is left where it would begin, though no test of the key and its home applies
abbrev pub IsWithoutSlot : State → (seg s table key : ℕ) → Action → Type 0
IsWithoutSlot h seg s table key action = HasNoSlot h s × IsFewest h.books seg
    × (nat_le 16 (owners (book_at h.books seg)) ≡ true) × (none_applies (key_tests h s table key action) ≡ true)

-- the session has a slot, or takes one, and is refused there
abbrev pub IsRefusedIn : State → (logged s table key : ℕ) → Action → AttemptFault → Type 0
IsRefusedIn h logged s table key action fault =
    (x : Xid) × WritesIn h s x.seg x.slot × IsFirst h logged x.seg s table key action fault

-- What a refused write is to the machine. The tests of the key and its home go by no slot, so there may be none.
abbrev pub IsRefusedAs : State → (logged s table key : ℕ) → Action → AttemptFault → Type 0
IsRefusedAs h logged s table key action (faults.NoSlot seg) = IsWithoutSlot h seg s table key action
IsRefusedAs h logged s table key action (faults.RollbackFull seg since) =
    IsRefusedIn h logged s table key action (faults.RollbackFull seg since)
IsRefusedAs h logged s table key action faults.WornOut = IsRefusedIn h logged s table key action faults.WornOut
IsRefusedAs h logged s table key action fault =
    (g : ℕ) × WritesAt h s g × IsFirst h logged g s table key action fault

-- another session than s doesn't hold the key
abbrev pub NotOthers : State → ℕ → ℕ → ℕ → Type 0
NotOthers h s table key = (u : ℕ) → holder h table key ≡ Some u → u ≡ s

-- no commit above the snapshot of the session's transaction, where that is serializable, has changed the row
abbrev pub NotLate : State → ℕ → ℕ → ℕ → Type 0
NotLate h s table key = serial_tests h.commits (isolation_of h s) table key ≡ []

-- neither stands in the way of a write
abbrev pub MayWrite : State → ℕ → ℕ → ℕ → Type 0
MayWrite h s table key = NotOthers h s table key × NotLate h s table key

-- The transaction that holds the key is that of the session which does in the machine; none is, where none does.
abbrev pub IsHolder : State → Env → ℕ → ℕ → Option Xid → Type 0
IsHolder h env table key None = holder h table key ≡ None
IsHolder h env table key (Some x) =
    (u : ℕ) × (t : ℕ) × (holder h table key ≡ Some u) × Owns h u t × (x ≡ env.xid t)

-- Session s is about to write in blocks that stand for the machine's state: the id that it keeps is that of its slot.
pub record IsAbout (h : State) (xids : List Xid) (s : ℕ) (own : Option Xid) (blocks : List (List ℕ)) : Type 0 where
  pub stand : BlocksStand h xids blocks
  pub session : (1 ≤ s)
  pub id : IsOwnId h (env_of h.shape blocks) s own
