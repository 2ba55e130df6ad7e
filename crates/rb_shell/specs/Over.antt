-- What a run over a file that a person may have does, and which files it may leave, without a word of blocks.
use Rattle.std.specs.Prelude.{◌≡◌, ◌⊎◌, ℕ, Bool, true, false, List, [], None}
use Rattle.rb_disk.specs.Moments.{Leaves}
use Rattle.rb_disk.specs.declared.disk.Disk.{Ghosts as DiskGhosts}
use Rattle.law_crash.specs.Between.{Extends, FoundAtEnd, FoundBetween, FoundSome, MarksGrow}
use Rattle.rb_lines.specs.Cut.{CutOff}
use Rattle.rb_lines.specs.Ends.{Halted}
use Rattle.rb_lines.specs.Ran.{Ran}
use Rattle.rb_model.specs.Book.{Book}
use Rattle.rb_model.specs.Lines.{lines_of}
use Rattle.rb_model.specs.Out.{Logged, Outside, outside_by}
use Rattle.rb_model.specs.Rows.{last_scn, rows_at}
use Rattle.rb_model.specs.State.{State, all_safe, opened}
use Rattle.rb_shell.specs.Left.{Left}
use Rattle.rb_shell.specs.declared.script.TheConstants.{SCRIPT_BYTES}

-- The file opens with the rows after a state's commits up to n, with marks that are no more than these books say, and
-- with a last log number of its own.
pub record HasRows (slots : ℕ) (books : List Book) (h : State) (n : ℕ) (file : List ℕ) : Type 0 where
  pub found : List Book
  pub marks : MarksGrow h.shape found books
  pub lsn : ℕ
  pub left : Left slots file (opened h.shape n (rows_at h.shape.blocks h.commits n) found []) lsn

-- What a run leaves that opened with a state and came to one with its commits and perhaps more. At each moment: files
-- that the disk had at its start, or some with a number from that of the state it opened with on. And at its end: files
-- with each commit that is acknowledged, and of the later ones the first.
pub record LeavesFiles {D : Type 0} (d : DiskGhosts D) (old new : D) (slots : ℕ) (before : State) (now : Logged)
    : Type 0 where
  pub extends : Extends before now.state
  pub any_moment : Leaves d old new
      (λ c. d.image old c ⊎ FoundBetween (HasRows slots) now.fault before now.state c)
  pub now_only : (c : List ℕ) → d.image new c → FoundAtEnd (HasRows slots) now.fault now.state c

-- each file at the end has all commits, also those that waited
abbrev pub HaveAll : {D : Type 0} → DiskGhosts D → D → (slots : ℕ) → Logged → Type 0
HaveAll d new slots now =
    (c : List ℕ) → d.image new c → FoundSome (HasRows slots) now.state.books (all_safe now.state) c

-- what answers hang on besides the machine's state, where a snapshot may be too old whenever something above it was
-- given up, and nothing is said of blocks
abbrev pub plain : Outside
plain = outside_by (λ h blocks call snapshot lost. Unit {0}) (λ m groups m2. Unit {0}) (λ m call answer m2. Unit {0})

-- the machine as it opens
abbrev pub at_start : State → ℕ → List (List ℕ) → Logged
at_start h lsn blocks = record { state = h; lsn = lsn; fault = None; blocks = blocks }

-- The machine that opens with that state and that log number did these lines, all of them or those up to a fault of the
-- disk, and the sink holds the replies then, where it tells; and the files that are left have what the machine has.
pub record RunsOver {D : Type 0} (d : DiskGhosts D) (old new : D) (slots : ℕ) (h : State) (lsn : ℕ) (fault : Bool)
    (lines : List (List ℕ)) (tells : Type 0) (held_before held_now : List ℕ) : Type 0 where
  -- nothing is said of them
  pub blocks : List (List ℕ)
  pub now : Logged
  pub ran : Ran plain (at_start h lsn blocks) now lines tells held_before held_now
  pub stops : now.state.stopped ≡ fault
  pub leaves : LeavesFiles d old new slots h now

-- It did them to the end of the script, where all that waits is made last.
pub record RunsToEnd {D : Type 0} (d : DiskGhosts D) (old new : D) (slots : ℕ) (h : State) (lsn : ℕ)
    (lines : List (List ℕ)) (tells : Type 0) (held_before held_now : List ℕ) : Type 0 where
  pub over : RunsOver d old new slots h lsn false lines tells held_before held_now
  pub all : HaveAll d new slots over.now

-- A fault of the disk ended the lines: its reply is the last, and nothing was asked for after it. The script was asked
-- for in pieces of at most 65,536 bytes.
pub record HaltsOver {D : Type 0} (d : DiskGhosts D) (old new : D) (slots : ℕ) (h : State) (lsn : ℕ)
    (left_before left_now : List ℕ) (tells : Type 0) (held_before held_now : List ℕ) : Type 0 where
  pub over : RunsOver d old new slots h lsn true (lines_of left_before) tells held_before held_now
  pub halted : Halted plain SCRIPT_BYTES (at_start h lsn over.blocks) over.now left_before left_now tells held_before
      held_now

-- It was cut off in one of its lines: the sink holds all replies of those before it, and a front of its own. Nothing
-- was done after that, and the script was asked for in pieces of at most 65,536 bytes.
pub record IsCutOver {D : Type 0} (d : DiskGhosts D) (old new : D) (slots : ℕ) (h : State) (lsn : ℕ)
    (left_before left_now held_before held_now : List ℕ) : Type 0 where
  -- nothing is said of them
  pub blocks : List (List ℕ)
  pub now : Logged
  pub cut : CutOff plain SCRIPT_BYTES (at_start h lsn blocks) now left_before left_now held_before held_now
  pub leaves : LeavesFiles d old new slots h now

-- whatever it did, it came to some state
pub record LeavesSome {D : Type 0} (d : DiskGhosts D) (old new : D) (slots : ℕ) (h : State) : Type 0 where
  pub now : Logged
  pub leaves : LeavesFiles d old new slots h now

-- and made last all that waited
pub record LeavesAll {D : Type 0} (d : DiskGhosts D) (old new : D) (slots : ℕ) (h : State) : Type 0 where
  pub now : Logged
  pub leaves : LeavesFiles d old new slots h now
  pub all : HaveAll d new slots now

-- no call was made: each file that is left has all of that state, but for those of before
abbrev pub LeavesSame : {D : Type 0} → (d : DiskGhosts D) (old new : D) (slots : ℕ) → State → Type 0
LeavesSame d old new slots h =
    Leaves d old new (λ c. d.image old c ⊎ HasRows slots h.books h (last_scn h.commits) c)
