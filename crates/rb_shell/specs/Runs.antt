-- What a run of a script over a file does.
use Rattle.std.specs.Prelude.{◌≡◌, ◌≤◌, ◌⊎◌, ℕ, ◌+◌, ◌^◌, false, List, []}
use Rattle.std.specs.Prelude.{◌++◌, Option, None, Some}
use Rattle.rb_base.specs.declared.shape.Shape.{Shape}
use Rattle.rb_base.specs.declared.store.Store.{Ghosts}
use Rattle.rb_disk.specs.Moments.{Leaves, Rests}
use Rattle.rb_disk.specs.declared.disk.Disk.{Ghosts as DiskGhosts}
use Rattle.rb_engine.specs.Does.{EngineView}
use Rattle.law_crash.specs.Between.{Extends}
use Rattle.law_crash.specs.Crash.{AtEnd, OnTheWay, Restarts, Survives}
use Rattle.rb_layout.specs.Regions.{shape_of}
use Rattle.rb_layout.specs.declared.layout.Layout.{Layout}
use Rattle.rb_lines.specs.Cut.{CutOff}
use Rattle.rb_lines.specs.Ends.{EndsAs, Halted}
use Rattle.rb_lines.specs.Ran.{Ran}
use Rattle.rb_lines.specs.declared.lines.LinesEnd.{LinesEnd}
use Rattle.rb_lines.specs.declared.lines.LinesEnd.TheVariants as ends
use Rattle.rb_model.specs.Calls.{Call}
use Rattle.rb_model.specs.Lines.{lines_of}
use Rattle.rb_model.specs.Out.{Logged, Outside}
use Rattle.rb_model.specs.State.{State, all_safe}
use Rattle.rb_recovery.specs.Opens.{OpensAs}
use Rattle.rb_restart.specs.Rollback.{BackBy}
use Rattle.rb_segment.specs.Segments.{owed_in}
use Rattle.rb_sound.specs.Sound.{AreSound}
use Rattle.law_blocks.specs.Standing.{logged_of}
use Rattle.rb_control.specs.Heads.{head_of}
use Rattle.rb_calls.specs.Since.{StandsAs, engine_outside}
use Rattle.rb_shell.specs.Statuses.{status_of}
use Rattle.rb_shell.specs.declared.script.TheConstants.{SCRIPT_BYTES}
use Rattle.rb_shell.specs.declared.status.Status.{Status}
use Rattle.rb_shell.specs.declared.status.Status.TheVariants.{Done, DiskFault, SinkFault}
use Rattle.rb_store.specs.Meaning.{Means, Opens, OpensAt}
use Rattle.rb_store.specs.Openings.{MeansNothing}
use Rattle.rb_store.specs.StoreStates.{StoreState}

-- The file is a store of some layout: it opens to these blocks with that last log number, its log begins with a number
-- in range, and the blocks are in order.
pub record IsStore (file : List ℕ) : Type 0 where
  pub layout : Layout
  pub blocks : List (List ℕ)
  pub lsn : ℕ
  pub opens : OpensAt layout file blocks lsn
  pub small : (head_of file).number ≤ 2 ^ 61
  pub sound : AreSound (shape_of layout) blocks

-- A store whose blocks open to a state: the rows after some commits once what is under way is put back. A new file is
-- one, and so is each that the program leaves, at any moment.
pub record IsSound (file : List ℕ) : Type 0 where
  pub store : IsStore file
  pub state : State
  pub opening : OpensAs (shape_of store.layout) store.blocks state
  -- some block has the last log number, which no law of the log tells
  pub logged : store.lsn ≡ logged_of (shape_of store.layout) store.blocks

-- The blocks with which the machine opens over a file: those to which the file opens, with all that was under way put
-- back.
pub record FirstBlocks {file : List ℕ} (sound : IsSound file) : Type 0 where
  pub blocks : List (List ℕ)
  pub back : BackBy (shape_of sound.store.layout) (owed_in (shape_of sound.store.layout) sound.store.blocks)
      sound.store.blocks blocks

-- The state that a file opens to, and the last log number and the blocks then: what was under way is put back.
abbrev pub first_of : {file : List ℕ} → (sound : IsSound file) → FirstBlocks sound → Logged
first_of sound first = record {
  state = sound.state;
  lsn = sound.store.lsn + owed_in (shape_of sound.store.layout) sound.store.blocks;
  fault = None;
  blocks = first.blocks;
}

-- From a state and log number it did these lines, and came to others. A crash may leave no more than `endures` says of
-- the state that it came to.
pub record HasDone (outside : Outside) (before : Logged) (lines : List (List ℕ)) (tells : Type 0)
    (held_before held_now : List ℕ) (endures : Logged → Type 0) : Type 0 where
  pub now : Logged
  pub ran : Ran outside before now lines tells held_before held_now
  pub endured : endures now

-- The machine that opened with the file's rows did these lines: the sink holds the replies then, where it tells. A
-- crash may leave no more than `endures` says of the states before and after them.
abbrev pub RanOver : {file : List ℕ} → (sound : IsSound file) → FirstBlocks sound → List (List ℕ) → Type 0
    → List ℕ → List ℕ → (Layout → State → Logged → Type 0) → Type 0
RanOver sound first lines tells before now endures =
    HasDone engine_outside (first_of sound first) lines tells before now (endures sound.store.layout sound.state)

-- It did them all, and the disk never failed.
pub record HasRun {file : List ℕ} (sound : IsSound file) (lines : List (List ℕ)) (tells : Type 0)
    (before now : List ℕ) (endures : Layout → State → Logged → Type 0) : Type 0 where
  pub first : FirstBlocks sound
  pub run : RanOver sound first lines tells before now endures
  pub going : run.now.state.stopped ≡ false

-- It was cut off in one of its lines: the sink holds all replies of those before it, and a front of its own. Nothing
-- was done after that, and the script was asked for in pieces of at most 65,536 bytes.
pub record WasCutOff {file : List ℕ} (sound : IsSound file) (left_before left_now : List ℕ)
    (before now_held : List ℕ) (endures : Layout → State → Logged → Type 0) : Type 0 where
  pub first : FirstBlocks sound
  pub now : Logged
  pub cut : CutOff engine_outside SCRIPT_BYTES (first_of sound first) now left_before left_now before now_held
  pub endured : endures sound.store.layout sound.state now

-- A fault of the disk ended the lines: its reply is the last, and nothing was asked for after it. The script was asked
-- for in pieces of at most 65,536 bytes.
pub record HasHalted {file : List ℕ} (sound : IsSound file) (left_before left_now : List ℕ) (tells : Type 0)
    (before now : List ℕ) (endures : Layout → State → Logged → Type 0) : Type 0 where
  pub first : FirstBlocks sound
  pub run : RanOver sound first (lines_of left_before) tells before now endures
  pub halted : Halted engine_outside SCRIPT_BYTES (first_of sound first) run.now left_before left_now tells before now

-- All lines were done, and then the disk failed as what waited was made last. No reply tells of it, as nothing is lost
-- that is acknowledged.
pub record HasRunOut {file : List ℕ} (sound : IsSound file) (left_before left_now : List ℕ) (tells : Type 0)
    (before now : List ℕ) (endures : Layout → State → Logged → Type 0) : Type 0 where
  pub run : HasRun sound (lines_of left_before) tells before now endures
  pub all_taken : left_now ≡ []

-- What a crash may leave over a run, which opens the file first and comes to a state with the commits of the one opened
-- and perhaps more: at any moment since its start an image that the disk had at the start, or a file on the way from
-- the state opened; and at its end each commit of the state that is acknowledged, and of the later ones the first.
pub record Endures {D : Type 0} (d : DiskGhosts D) (old new : D) (l : Layout) (before : State) (now : Logged) : Type 0
  where
    pub extends : Extends before now.state
    pub any_moment : Leaves d old new
        (λ c. d.image old c ⊎ OnTheWay Opens (Some l.log) now.fault before now.state c)
    pub now_only : (c : List ℕ) → d.image new c → AtEnd Opens (Some l.log) now.fault now.state c

-- The same, and where no call of the disk failed its count of faults is as before.
pub record EnduresCounted {D : Type 0} (d : DiskGhosts D) (old new : D) (l : Layout) (before : State) (now : Logged)
    : Type 0 where
  pub endured : Endures d old new l before now
  pub still : now.state.stopped ≡ false → d.faults new ≡ d.faults old

-- An image has all that the machine did, to the last group: it opens to the machine's blocks and its log number, and
-- so with all its commits.
pub record IsWhole {I : Type 0} (opens : Shape → Option ℕ → I → List (List ℕ) → ℕ → Type 0)
    (slots : Option ℕ) (m : Logged) (i : I) : Type 0 where
  pub opening : opens m.state.shape slots i m.blocks m.lsn
  pub commits : Restarts opens slots (all_safe m.state) i

-- As `Endures`, and at its end a crash leaves what was done to the last group, also what isn't committed, as nothing
-- waits.
pub record Lasts {D : Type 0} (d : DiskGhosts D) (old new : D) (l : Layout) (before : State) (now : Logged) : Type 0
  where
    pub endured : Endures d old new l before now
    pub last : (c : List ℕ) → d.image new c → IsWhole Opens (Some l.log) now c

-- At any moment since the start of an opening a crash leaves an image that the disk had at the start, or one that
-- restarts to the state to which the file opens.
abbrev pub OpensSame : {D : Type 0} (d : DiskGhosts D) (old : D) → D → IsSound (d.content old) → Type 0
OpensSame d old new sound = Leaves d old new
    (λ c. d.image old c ⊎ Restarts Opens (Some sound.store.layout.log) sound.state c)

-- A run over a sound file, whatever lines it took and whatever became of its replies: the machine came to some state
-- from that to which the file opens, and a crash may leave no more than what it did.
pub record LeftBehind {D : Type 0} (d : DiskGhosts D) (old new : D) (sound : IsSound (d.content old)) : Type 0 where
  pub now : Logged
  pub endured : Endures d old new sound.store.layout sound.state now

-- The same where what waits was made last: a crash leaves all that the machine did.
pub record LastsBehind {D : Type 0} (d : DiskGhosts D) (old new : D) (sound : IsSound (d.content old)) : Type 0 where
  pub now : Logged
  pub lasted : Lasts d old new sound.store.layout sound.state now

-- An engine was opened over the file of a disk, whose log it goes on with, and stands for the state to which the file
-- opens, with what was under way put back in its blocks. A crash from then on leaves no image of before: each that it
-- may leave now restarts to that state.
pub record HasOpened {D : Type 0} (d : DiskGhosts D) (s : Ghosts (StoreState D)) (old : D)
    (e : EngineView (StoreState D)) (sound : IsSound (d.content old)) : Type 0 where
  pub slots : e.store.layout.log ≡ sound.store.layout.log
  pub first : FirstBlocks sound
  pub stands : StandsAs s e (first_of sound first)
  pub any_moment : OpensSame d old e.store.disk sound
  pub now_only : (c : List ℕ) → d.image e.store.disk c
      → Restarts Opens (Some sound.store.layout.log) sound.state c

-- The status of lines that ended so. At their own end what waits is made last, and the disk may fail in that.
pub data EndsBy (end : LinesEnd) (status : Status) : Type 0 where
  as_lines : status ≡ status_of end → EndsBy end status
  last_fault : end ≡ ends.Done → status ≡ DiskFault → EndsBy end status

-- What waited was made last over a store, in the state that its calls came to: a crash leaves that state, and where
-- the status says that all is well, all of it to the last group, in the blocks of that state.
pub record MadeLast {S : Type 0} (s : Ghosts S) (old new : S) (m : Logged) (status : Status) : Type 0 where
  pub crash : (fault : Option Call) → s.keeps → Survives s (s.slots old) fault m.state m.state old new
  pub last : s.keeps → status ≡ Done → (i : s.image) → s.left new i → IsWhole s.opens (s.slots old) m i

-- Some lines were done over a store: a crash leaves no more than the states before and after them, and where the status
-- says that all is well, all of the state after them, to the last group.
pub record PassedOn {S : Type 0} (s : Ghosts S) (old new : S) (before : Logged) (status : Status) : Type 0 where
  pub now : Logged
  pub crash : s.keeps → Survives s (s.slots old) now.fault before.state now.state old new
  pub last : s.keeps → status ≡ Done → (i : s.image) → s.left new i → IsWhole s.opens (s.slots old) now i

-- Lines were done over a store, from one state to another. They ended as a status says, and where all is well a crash
-- leaves them to the last group.
pub record RanOn {S : Type 0} (s : Ghosts S) (old new : S) (outside : Outside) (most : ℕ) (before : Logged)
    (left_before left_now : List ℕ) (tells : Type 0) (held_before held_now : List ℕ) (status : Status) : Type 0
  where
    pub now : Logged
    pub crash : s.keeps → Survives s (s.slots old) now.fault before.state now.state old new
    pub last : s.keeps → status ≡ Done → (i : s.image) → s.left new i → IsWhole s.opens (s.slots old) now i
    pub still : status ≡ SinkFault → now.state.stopped ≡ false → s.faults new ≡ s.faults old
    pub end : LinesEnd
    pub is : EndsBy end status
    pub all_taken : end ≡ ends.Done → left_now ≡ []
    pub ends : EndsAs outside most before now left_before left_now tells held_before held_now end

-- An opening was stopped: the images are as `OpensSame` says. Where the file is no store, each image is one of before
-- or means what the file meant, and a file that means nothing is as it was.
pub record WasStopped {D : Type 0} (d : DiskGhosts D) (old new : D) : Type 0 where
  pub images : (sound : IsSound (d.content old)) → OpensSame d old new sound
  pub damaged : (IsStore (d.content old) → ⊥) → (l : Layout) (blocks : List (List ℕ)) (lsn : ℕ)
      → Means l (d.content old) blocks lsn → Leaves d old new (λ c. d.image old c ⊎ Means l c blocks lsn)
  pub none : MeansNothing (d.content old) → Rests d old new

-- these bytes were taken from what was left, and nothing else
abbrev pub WasTaken : List ℕ → List ℕ → List ℕ → Type 0
WasTaken taken left_before left_now = left_before ≡ taken ++ left_now
