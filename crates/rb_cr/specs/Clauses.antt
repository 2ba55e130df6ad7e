-- What the functions promise, of a decoded home and a snapshot.
use Rattle.std.specs.Prelude.{◌≡◌, ◌≤◌, ◌+◌, ◌-◌, ◌^◌, ℕ, Bool, List, length, Result}
use Rattle.rb_base.specs.declared.ids.Xid.{Xid}
use Rattle.rb_cr.specs.Calls.{Said}
use Rattle.rb_cr.specs.Faults.{Because}
use Rattle.rb_cr.specs.Parts.{Built, Goes, Passed, Rewound, Spent, Took, Undone, Unwound}
use Rattle.rb_cr.specs.Scratches.{scratch_home}
use Rattle.rb_cr.specs.declared.faults.CrFault.{CrFault}
use Rattle.rb_cr.specs.declared.scratch.Scratch.{Scratch}
use Rattle.rb_cr.specs.declared.scratch.Snapshot.{Snapshot}
use Rattle.law_read.specs.Keeping.{Kept, first_count, kept_room}
use Rattle.law_read.specs.Reading.{History, Reader, Reading, Runs, Worn, answer, flat}
use Rattle.law_read.specs.Turns.{Running, Starts}
use Rattle.law_home.specs.Walk.{Change, Commit, Distinct, Home, Rows, own}

abbrev pub StepsBack : Said → Snapshot → ℕ → Xid → Scratch → Scratch → Bool → Type 0
StepsBack said snap i xid old new =
    Took said.env snap.own snap.upto i xid (scratch_home said.shape old) old.kept (scratch_home said.shape new) new.kept

abbrev pub Unwinds : Said → Snapshot → ℕ → ℕ → Xid → Scratch → ℕ → Scratch → ℕ → Bool
    → Type 0
Unwinds said snap n i xid old count new count2 =
    Unwound said.env snap.own snap.upto n i xid (scratch_home said.shape old) old.kept count
    (scratch_home said.shape new) new.kept count2

abbrev pub Spends : Said → Snapshot → ℕ → Scratch → ℕ → Result (Unit {0}) CrFault → Scratch → ℕ
    → Type 0
Spends said snap i old count result new count2 =
    Spent said.env snap.own snap.upto snap.scn i (scratch_home said.shape old) old.kept count
    result (scratch_home said.shape new) new.kept count2

-- whole chains were taken back from one decoded home to another
abbrev pub GoesOn : Said → Scratch → ℕ → Scratch → ℕ → Type 0
GoesOn said old count new count2 =
    Goes said.env (scratch_home said.shape old) count (scratch_home said.shape new) count2

-- there is room for the rows of the reader's first changes among these
abbrev pub HasRoom : Snapshot → Kept → List Change → Type 0
HasRoom snap kept chs = length kept + first_count snap.own snap.upto chs ≤ kept_room

abbrev pub Rewinds : Said → Snapshot → Scratch → ℕ → Result (Unit {0}) CrFault → Scratch → ℕ → Type 0
Rewinds said snap old count result new count2 = (base : ℕ) (rows : Rows) (list : List Commit)
    → Starts said.env base rows snap.scn (2 ^ 64 - 1) list (scratch_home said.shape old)
    → HasRoom snap old.kept (flat snap.scn list)
    → Rewound said.env base rows list snap.own snap.upto snap.scn (scratch_home said.shape old) old.kept count result
    (scratch_home said.shape new) new.kept count2

abbrev pub UndoesEntry : Said → Snapshot → ℕ → Scratch → ℕ → Result (Unit {0}) CrFault → Scratch → ℕ
    → Type 0
UndoesEntry said snap i old count result new count2 = (base : ℕ) (rows : Rows) (list : List Commit)
    (lives : List (List Change)) (r d : ℕ) (f : Kept → Kept) (start : Home) (first : Kept)
    → Distinct said.env → Reader said.env r snap.own
    → Running said.env base rows list lives r snap.own snap.upto snap.scn i d f start (scratch_home said.shape old)
    → old.kept ≡ f first → HasRoom snap first (own lives r)
    → Passed said.env base rows list lives r snap.own snap.upto snap.scn i d start first count result
    (scratch_home said.shape new) new.kept count2

abbrev pub UndoesActive : Said → Snapshot → Scratch → ℕ → Result (Unit {0}) CrFault → Scratch → ℕ
    → Type 0
UndoesActive said snap old count result new count2 = (base : ℕ) (rows : Rows) (list : List Commit) (m : ℕ)
    (lives : List (List Change)) (r : ℕ) → Runs said.env base rows list m lives (scratch_home said.shape old)
    → Reader said.env r snap.own → HasRoom snap old.kept (own lives r)
    → Undone said.env base rows list lives r snap.own snap.upto snap.scn (scratch_home said.shape old) old.kept count
    result (scratch_home said.shape new) new.kept count2

-- the home of a scratch stands for a history, and may be read at this snapshot
abbrev pub IsRead : Said → History → Snapshot → Scratch → Type 0
IsRead said h snap s = Reading said.env h snap.own snap.upto snap.scn (scratch_home said.shape s)

abbrev pub Builds : Said → Snapshot → Scratch → ℕ → Result (Unit {0}) CrFault → Scratch → ℕ → Type 0
Builds said snap old count result new count2 = (h : History) → IsRead said h snap old
    → Built said.env h snap.own snap.upto snap.scn (scratch_home said.shape old) count result
    (scratch_home said.shape new) new.kept count2

abbrev pub answer_to : History → Snapshot → Rows
answer_to h snap = answer h snap.own snap.upto snap.scn

-- A failed call; or the snapshot, and what a segment lost above it, for which the home is worn.
abbrev pub IsOld : Said → History → Snapshot → Scratch → CrFault → Type 0
IsOld said h snap s = Because said.env snap.scn (Worn said.env h snap.scn (scratch_home said.shape s))
