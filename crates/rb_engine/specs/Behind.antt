-- What a write does behind the dead that stood in its way: they are put back first, and then it is made as in a state
-- without them.
use Rattle.std.specs.Prelude.{◌≡◌, ◌⊎◌, ◌≤◌, ◌<◌, ◌+◌, ◌*◌, ◌^◌, ℕ}
use Rattle.std.specs.Prelude.{nat_le, Bool, true, false}
use Rattle.std.specs.Prelude.{Option, None, Some, Result, Err}
use Rattle.rb_base.specs.declared.store.Store.{Ghosts}
use Rattle.rb_engine.specs.Does.{Does, EngineView, Kept, Stands}
use Rattle.rb_engine.specs.Makes.{Makes}
use Rattle.rb_engine.specs.Worn.{CallNeedsLost}
use Rattle.law_blocks.specs.States.{Owns}
use Rattle.law_crash.specs.Crash.{Survives}
use Rattle.law_crash.specs.Made.{BackBy, TellsLooks}
use Rattle.rb_model.specs.Answers.{write_answer}
use Rattle.rb_model.specs.Book.{book_at, is_full, owners}
use Rattle.rb_model.specs.Calls.{Done, WritesIn}
use Rattle.rb_model.specs.Calls.{Action, Answer, Call, HasNoSlot, IsFewest, Refused, Write}
use Rattle.rb_model.specs.Calls.{failed_in, is_fault, key_tests}
use Rattle.rb_model.specs.Calls.{none_applies}
use Rattle.rb_model.specs.Change.{Asked}
use Rattle.rb_model.specs.Clearing.{ClearsTo}
use Rattle.rb_model.specs.Dead.{KeepsRest, dead_at, dead_owed, works_at}
use Rattle.rb_model.specs.NextState.{unqueued}
use Rattle.rb_model.specs.Out.{cleared_by}
use Rattle.rb_model.specs.Queue.{first_ready}
use Rattle.rb_model.specs.State.{State, asked_of}
use Rattle.rb_model.specs.declared.refusal.Refusal.{Refusal}
use Rattle.rb_model.specs.declared.refusal.Refusal.TheVariants.{RollbackFull, TooOld, WornOut}
use Rattle.rb_model.specs.declared.wrote.Wrote.{Wrote}
use Rattle.rb_rollback.specs.Backs.{Fails, SameStore}

-- Calls led an engine from one state to another, in which some of the dead are gone, whole or in part: by so many
-- groups, each of which a crash may leave with those before it.
pub record Led {S : Type 0} (s : Ghosts S) (h h2 : State) (old new : EngineView S) : Type 0 where
  pub rest : KeepsRest h h2
  pub fewer : dead_owed h2 ≤ dead_owed h
  pub stands : Stands s h2 new
  pub same : SameStore s old.store new.store
  pub lsn : s.lsn new.store ≡ s.lsn old.store + cleared_by h h2
  pub back : BackBy h.shape (cleared_by h h2) (s.blocks old.store) (s.blocks new.store)
  pub survives : (before : Option Call) → h.stopped ≡ false → s.keeps
      → Survives s (s.slots old.store) before h h2 old.store new.store

-- they led there, or the disk failed on the way
abbrev pub LedOr : {S : Type 0} → Ghosts S → (h h2 : State) → (old new : EngineView S) → Bool → Type 0
LedOr s h h2 old new false = Led s h h2 old new
LedOr s h h2 old new true = (fault : Option Call) → Fails s fault h old.store new.store

-- memory is as it was, but for how many groups put back the dead; or it is stopped
abbrev pub LessDead : Bool → (old new : Kept) → Type 0
LessDead true old new = new ≡ record old { stopped = true }
LessDead false old new = new ≡ record old { dead = new.dead }

-- the call is a write
abbrev pub IsWrite : Call → Type 0
IsWrite (Write s table key action) = Unit {0}
IsWrite call = ⊥

-- A call with that answer on an engine that stood for h: the dead that stood in its way were put back, which led the
-- engine to a state that is ready for it, and there it did what it does. Which state that is, `Ready` says. All that is
-- said of the call itself is said of this state: what it makes of blocks, what a write tells of their slot entries, and
-- what it needs where it is too old. The log has 2^14 groups more at most, and a crash leaves no more than the states
-- before and after all.
pub record Behind {S : Type 0} (s : Ghosts S) (Ready : State → Type 0) (h : State) (call : Call) (answer : Answer)
    (old new : EngineView S) : Type 0 where
  pub ready : State
  pub clears : Ready ready
  pub mid : EngineView S
  pub led : Led s h ready old mid
  pub does : Does s ready call answer mid new
  pub makes : is_fault answer ≡ false
      → Makes ready call answer (s.lsn new.store) (s.blocks mid.store) (s.blocks new.store)
  pub tells : IsWrite call → is_fault answer ≡ false
      → TellsLooks ready.shape (s.blocks mid.store) (s.blocks new.store)
  pub lost : (scn lost : ℕ) → answer ≡ Refused (TooOld scn lost) → CallNeedsLost s ready mid call scn lost
  pub few : h.stopped ≡ false → does.now.stopped ≡ false → s.lsn new.store ≤ s.lsn old.store + 2 ^ 14
  pub survives : (before : Option Call) → h.stopped ≡ false → s.keeps
      → Survives s (s.slots old.store) (failed_in call answer before) h does.now old.store new.store

-- No dead transaction has a live change in the home of a key, and each session that has one there has a slot.
pub record HasClearHome (h : State) (table key : ℕ) : Type 0 where
  pub none : (t d : ℕ) → t < 16 * h.shape.segments → dead_at h t ≡ Some d → works_at table key h d ≡ false
  pub owned : (u : ℕ) → 1 ≤ u → works_at table key h u ≡ true
      → (t : ℕ) × (t < 16 * h.shape.segments) × Owns h u t

-- Nothing stands in the way of a session's write but that no slot is left for its transaction in that segment.
pub record LacksSlot (h : State) (s table key : ℕ) (action : Action) (seg : ℕ) : Type 0 where
  pub none : HasNoSlot h s
  pub fewest : IsFewest h.books seg
  pub full : nat_le 16 (owners (book_at h.books seg)) ≡ true
  pub passed : none_applies (key_tests h s table key action) ≡ true

-- The session has a slot in a segment that isn't full, or would take one there, for an answer that says so much.
abbrev pub HasPlace : State → ℕ → Answer → Type 0
HasPlace h s Done = (g : ℕ) × (i : ℕ) × WritesIn h s g i × (is_full (book_at h.books g) ≡ false)
HasPlace h s (Refused WornOut) = (g : ℕ) × (i : ℕ) × WritesIn h s g i × (is_full (book_at h.books g) ≡ false)
HasPlace h s answer = Unit {0}

-- A write was tried, with no dead put back: it did what it does, or lacks a slot.
abbrev pub Tried : {S : Type 0} → Ghosts S → State → (s table key : ℕ) → Action → Result Wrote Refusal
    → (old new : EngineView S) → Type 0
Tried ghosts h s table key action result old new =
    Behind ghosts (λ ready. (ready ≡ h) × HasPlace h s (write_answer result)) h (Write s table key action)
    (write_answer result) old new
    ⊎ ((seg : ℕ) × (result ≡ Err (RollbackFull seg 0)) × LacksSlot h s table key action seg)

-- A resumed write on an engine that stood for h, which goes on: none is ready, and nothing was done; or it is that of
-- the first ready session, which does what it does as if the session had never been in the queue. A stopped engine
-- tries none.
abbrev pub Resumes : {S : Type 0} → Ghosts S → State → Option (ℕ × Result Wrote Refusal) → EngineView S
    → EngineView S → Type 0
Resumes s h None old new = (h.stopped ≡ false → first_ready h.queue ≡ None) × (new ≡ old)
Resumes s h (Some (w, outcome)) old new = (h.stopped ≡ false) × (first_ready h.queue ≡ Some w)
    × (a : Asked) × (asked_of h w ≡ Some a)
    × Behind s (ClearsTo (unqueued h w) (Write w a.table a.key a.action) (write_answer outcome)) (unqueued h w)
    (Write w a.table a.key a.action) (write_answer outcome) old new
