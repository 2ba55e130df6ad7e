-- What holds of dead transactions that go, and of the entries that they have in a home.
use Rattle.std.specs.Prelude.{◌≡◌, ◌≢◌, ◌<◌, ◌≤◌, ◌+◌, ◌*◌, ℕ, min}
use Rattle.std.specs.Prelude.{true, false, List, length, Some, None}
use Rattle.rb_base.specs.declared.ids.Xid.{Xid}
use Rattle.rb_model.specs.Book.{Owner, book_at, slot_owner}
use Rattle.rb_model.specs.Calls.{Action, Answer, Call, MayAnswer, Sweep, key_tests}
use Rattle.rb_model.specs.NextState.{After}
use Rattle.rb_model.specs.State.{State, session_count, session_own}
use Rattle.rb_model.specs.Tests.{holder}
use Rattle.law_blocks.specs.Standing.{env_of}
use Rattle.law_blocks.specs.States.{BlocksStand, Owns}
use Rattle.rb_model.specs.Calls.{IsFewest}
use Rattle.rb_model.specs.Dead.{all_slots, dead_at, dead_changes, dead_owed, home_cleared, segment_cleared}
use Rattle.rb_model.specs.Dead.{swept, swept_count, without, works_at}
use Rattle.law_dead.specs.Entries.{IsLiving, Runs, entry_of_key}

-- What the proofs of a state say of its owners: an owner is one of the sessions, and has one slot.
pub record OwnsOne (h : State) : Type 0 where
  pub there : (s t : ℕ) → Owns h s t → (1 ≤ s) × (s ≤ length h.sessions)
  pub one_slot : (s t u : ℕ) → Owns h s t → Owns h s u → t ≡ u

-- The dead of a slot, put back before all others, leaves the same behind all that go from that home.
abbrev pub GoesFirst : Type 0
GoesFirst = (h : State) (table key t d : ℕ) → OwnsOne h → t < 16 * h.shape.segments
    → dead_at h t ≡ Some d → works_at table key h d ≡ true
    → home_cleared table key (without t d h) ≡ home_cleared table key h

-- Where none goes nothing changes.
abbrev pub NoneIsLeft : Type 0
NoneIsLeft = (h : State) (table key : ℕ)
    → ((t d : ℕ) → t < 16 * h.shape.segments → dead_at h t ≡ Some d → works_at table key h d ≡ false)
    → home_cleared table key h ≡ h

-- Behind them none is left there.
abbrev pub ClearedIsClear : Type 0
ClearedIsClear = (h : State) (table key t d : ℕ) → OwnsOne h → t < 16 * h.shape.segments
    → dead_at (home_cleared table key h) t ≡ Some d
    → works_at table key (home_cleared table key h) d ≡ false

-- So a key is held there by one of the sixteen, if each session that has changes has a slot.
abbrev pub ClearedHoldsNone : Type 0
ClearedHoldsNone = (h : State) (table key u : ℕ)
    → ((t d : ℕ) → t < 16 * h.shape.segments → dead_at h t ≡ Some d → works_at table key h d ≡ false)
    → ((s : ℕ) → 1 ≤ s → works_at table key h s ≡ true
    → (t : ℕ) × (t < 16 * h.shape.segments) × Owns h s t)
    → holder h table key ≡ Some u → u ≤ session_count

-- No row and no commit changes.
abbrev pub ClearedKeepsRows : Type 0
ClearedKeepsRows = (h : State) (table key : ℕ) → (home_cleared table key h).commits ≡ h.commits

-- A sweep takes the lesser of k and what there is.
abbrev pub SweptCounts : Type 0
SweptCounts = (h : State) (k : ℕ) → OwnsOne h
    → swept_count k (all_slots h) h ≡ min k (dead_changes (all_slots h) h)

-- It leaves the rows and the commits.
abbrev pub SweptKeepsRows : Type 0
SweptKeepsRows = (h : State) (k : ℕ) → (swept k (all_slots h) h).commits ≡ h.commits

-- The segment that a session begins in is the same once its dead are gone.
abbrev pub FewestStays : Type 0
FewestStays = (h : State) (g : ℕ) → IsFewest h.books g → IsFewest (segment_cleared g h).books g

-- No call but a sweep takes anything from the dead: each has its slot and its changes still.
abbrev pub CallsLeaveDead : Type 0
CallsLeaveDead = (h h2 : State) (logged : ℕ) (call : Call) (r : Answer) → MayAnswer h logged call r
    → After h call r h2 → ((k : ℕ) → call ≢ Sweep k)
    → ((t : ℕ) → dead_at h2 t ≡ dead_at h t)
    × ((d : ℕ) → session_count < d → session_own h2 d ≡ session_own h d)

-- So it takes as many groups as before to put them back.
abbrev pub CallsOweSame : Type 0
CallsOweSame = (h h2 : State) (logged : ℕ) (call : Call) (r : Answer)
    → MayAnswer h logged call r → After h call r h2
    → ((k : ℕ) → call ≢ Sweep k) → dead_owed h2 ≡ dead_owed h

-- What a write's tests ask of its key says the same once the dead of a segment are gone, if none of the dead has a
-- live change in the key's home, and each session that has one has a slot.
abbrev pub KeyTestsStay : Type 0
KeyTestsStay = (h : State) (g s table key : ℕ) (action : Action) → 1 ≤ s → s ≤ session_count
    → ((t d : ℕ) → t < 16 * h.shape.segments → dead_at h t ≡ Some d → works_at table key h d ≡ false)
    → ((u : ℕ) → 1 ≤ u → works_at table key h u ≡ true
    → (t : ℕ) × (t < 16 * h.shape.segments) × Owns h u t)
    → key_tests (segment_cleared g h) s table key action ≡ key_tests h s table key action

-- So does who holds the key.
abbrev pub HolderStays : Type 0
HolderStays = (h : State) (g table key : ℕ)
    → ((t d : ℕ) → t < 16 * h.shape.segments → dead_at h t ≡ Some d → works_at table key h d ≡ false)
    → ((u : ℕ) → 1 ≤ u → works_at table key h u ≡ true
    → (t : ℕ) × (t < 16 * h.shape.segments) × Owns h u t)
    → holder (segment_cleared g h) table key ≡ holder h table key

-- Behind a segment that is cleared each owner of its slots is one of the sixteen.
abbrev pub ClearedIsLiving : Type 0
ClearedIsLiving = (h : State) (g i : ℕ) (o : Owner) → i < 16
    → slot_owner (book_at (segment_cleared g h).books g) i ≡ Some o → o.session ≤ session_count

-- Where it has no dead transaction nothing changes.
abbrev pub ClearedKeepsFull : Type 0
ClearedKeepsFull = (h : State) (g : ℕ) → ((i : ℕ) → i < 16 → dead_at h (16 * g + i) ≡ None)
    → segment_cleared g h ≡ h

-- Where no group is owed, no slot is a dead transaction's.
abbrev pub OwesNone : Type 0
OwesNone = (h : State) (t : ℕ) → dead_owed h ≡ 0 → t < 16 * h.shape.segments → dead_at h t ≡ None

-- So nothing changes where a home or a segment is cleared, and a sweep takes nothing.
abbrev pub CalmHome : Type 0
CalmHome = (h : State) (table key : ℕ) → dead_owed h ≡ 0 → home_cleared table key h ≡ h

abbrev pub CalmSegment : Type 0
CalmSegment = (h : State) (g : ℕ) → dead_owed h ≡ 0 → g < h.shape.segments → segment_cleared g h ≡ h

abbrev pub CalmSweep : Type 0
CalmSweep = (h : State) (k : ℕ) → dead_owed h ≡ 0
    → (swept k (all_slots h) h ≡ h) × (swept_count k (all_slots h) h ≡ 0)

-- As many groups are owed where each of the dead has the slot and the changes that it had.
abbrev pub OwesSame : Type 0
OwesSame = (h h2 : State) → h2.shape ≡ h.shape → ((t : ℕ) → dead_at h2 t ≡ dead_at h t)
    → ((d : ℕ) → session_count < d → session_own h2 d ≡ session_own h d) → dead_owed h2 ≡ dead_owed h

-- A dead transaction with a live change in a home has an entry there that is no living session's.
abbrev pub DeadHasEntry : Type 0
DeadHasEntry = (h : State) (xids : List Xid) (blocks : List (List ℕ)) (table key t d : ℕ)
    → BlocksStand h xids blocks → 1 ≤ table → table ≤ h.shape.tables
    → dead_at h t ≡ Some d → works_at table key h d ≡ true
    → (i : ℕ) × Runs h blocks table key i
    × ((entry_of_key h blocks table key i).xid ≡ (env_of h.shape blocks).xid t)
    × (IsLiving h blocks (entry_of_key h blocks table key i).xid → ⊥)

-- And such an entry is that of a dead transaction with a live change there.
abbrev pub EntryIsDead : Type 0
EntryIsDead = (h : State) (xids : List Xid) (blocks : List (List ℕ)) (table key i : ℕ)
    → BlocksStand h xids blocks → 1 ≤ table → table ≤ h.shape.tables
    → Runs h blocks table key i → (IsLiving h blocks (entry_of_key h blocks table key i).xid → ⊥)
    → (t : ℕ) × (d : ℕ) × (dead_at h t ≡ Some d) × (works_at table key h d ≡ true)
    × ((entry_of_key h blocks table key i).xid ≡ (env_of h.shape blocks).xid t)
