-- The first test of a write that applies: by the machine, and by a cleaned home and the header of a segment.
use Rattle.std.specs.Prelude.{◌≡◌, ◌==◌, ◌&&◌, ◌+◌, ◌*◌, ℕ, zero, suc, Bool, false, not}
use Rattle.std.specs.Prelude.{if◌then◌else◌, is_some, List, [], ◌∷◌, Option, Some, None}
use Rattle.std.specs.List.{list_any, list_all}
use Rattle.rb_base.specs.declared.ids.Xid.{Xid}
use Rattle.rb_base.specs.declared.sizes.TheConstants.{SLOTS}
use Rattle.rb_model.specs.Book.{Book, Owner, is_full}
use Rattle.rb_model.specs.Full.{full_block}
use Rattle.rb_model.specs.State.{State, owner_at}
use Rattle.rb_model.specs.Calls.{rows_now}
use Rattle.rb_model.specs.Rows.{has_row}
use Rattle.rb_model.specs.Tests.{holder, full_slots}
use Rattle.rb_segment.specs.Books.{next_is_full}
use Rattle.rb_segment.specs.Header.{Header}
use Rattle.law_blocks.specs.States.{Owns}
use Rattle.law_home.specs.Kinds.{Cell, Empty, Row, Stub, Entry}
use Rattle.law_home.specs.Walk.{Env, Home, entry_at, lock_of, taken}
use Rattle.law_home.specs.Writes.{is_open}

pub data Verdict : Type 0 where
  -- for that session, which holds the key
  Waits : ℕ → Verdict
  Duplicate : Verdict
  NotFound : Verdict
  BlockFull : Verdict
  -- each entry of the home is of another session
  SlotsFull : Verdict
  -- the segment has no place for a record
  RollbackFull : Verdict
  -- none of these
  Fine : Verdict

-- the tests behind the first, in their order
abbrev pub tested : (adds present full_home full_entries full_segment : Bool) → Verdict
tested adds present full_home full_entries full_segment =
    if adds && present then Duplicate
    else if not adds && not present then NotFound
    else if adds && full_home then BlockFull
    else if full_entries then SlotsFull
    else if full_segment then RollbackFull
    else Fine

abbrev pub first_wait : Option ℕ → Verdict → Verdict
first_wait None later = later
first_wait (Some u) later = Waits u

-- the session, where it is another
abbrev pub if_other : ℕ → Option ℕ → Option ℕ
if_other s None = None
if_other s (Some u) = if u == s then None else Some u

-- by the machine, for session s with that book
abbrev pub model_verdict : State → Book → ℕ → ℕ → ℕ → Bool → Verdict
model_verdict h book s table key adds =
    first_wait (if_other s (holder h table key))
    (tested adds (has_row table key (rows_now h s)) (full_block h table key)
    (full_slots h s table key) (is_full book))

abbrev pub is_key : ℕ → Option ℕ → Bool
is_key key None = false
is_key key (Some k) = k == key

-- the cell keeps the key for itself
abbrev pub keeps_key : ℕ → Cell → Bool
keeps_key key x = is_key key (taken x)

-- the cell has the row of the key
abbrev pub shows_key : ℕ → Cell → Bool
shows_key key Empty = false
shows_key key (Row k v lock) = k == key
shows_key key (Stub k lock) = false

-- the lock of the cell that keeps the key, or 0
abbrev pub lock_of_key : ℕ → List Cell → ℕ
lock_of_key key [] = 0
lock_of_key key (x ∷ cells) = if keeps_key key x then lock_of x else lock_of_key key cells

-- each cell keeps a key, and none that one
abbrev pub is_full_without : ℕ → List Cell → Bool
is_full_without key cells = not (list_any (keeps_key key) cells) && list_all (λ x. is_some (taken x)) cells

abbrev pub session_of_owner : Option Owner → Option ℕ
session_of_owner None = None
session_of_owner (Some o) = Some o.session

-- the session that owns the slot of a transaction
abbrev pub session_by : State → Xid → Option ℕ
session_by h x = session_of_owner (owner_at h (SLOTS * x.seg + x.slot))

-- the session of the entry that a lock names
abbrev pub locked_for : State → Home → ℕ → Option ℕ
locked_for h b zero = None
locked_for h b (suc i) = session_by h (entry_at b i).xid

abbrev pub same_xid : Xid → Xid → Bool
same_xid x y = (x.seg == y.seg) && ((x.slot == y.slot) && (x.wrap == y.wrap))

abbrev pub is_own : Option Xid → Xid → Bool
is_own None x = false
is_own (Some own) x = same_xid x own

-- the entry is another transaction's, and Open
abbrev pub is_others : Option Xid → Entry → Bool
is_others own e = is_open e.status && not (is_own own e.xid)

-- by the home, where `own` is the id of the session's transaction
abbrev pub home_verdict : State → Home → Header → Option Xid → ℕ → ℕ → Bool → Verdict
home_verdict h b header own s key adds =
    first_wait (if_other s (locked_for h b (lock_of_key key b.cells)))
    (tested adds (list_any (shows_key key) b.cells) (is_full_without key b.cells)
    (list_all (is_others own) b.entries) (next_is_full header))

-- The id that a session keeps is that of the table slot that it owns; it keeps none where it owns none.
pub record IsOwnId (h : State) (env : Env) (s : ℕ) (own : Option Xid) : Type 0 where
  pub owns : (t : ℕ) → Owns h s t → own ≡ Some (env.xid t)
  pub owned : (x : Xid) → own ≡ Some x → (t : ℕ) × Owns h s t × (x ≡ env.xid t)
