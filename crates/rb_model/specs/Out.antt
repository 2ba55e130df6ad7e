-- What is written for a script, line by line.
use Rattle.std.specs.Prelude.{◌≡◌, ◌⊎◌, ℕ, zero, suc, ◌+◌, ◌-◌, ◌^◌, ◌<◌, ◌≤◌}
use Rattle.std.specs.Prelude.{Bool, true, false}
use Rattle.std.specs.Prelude.{MatchBool, List, [], ◌∷◌, ◌++◌, length, Option, None, Some}
use Rattle.rb_model.specs.Change.{Asked}
use Rattle.rb_model.specs.State.{State, asked_of}
use Rattle.rb_model.specs.Calls.{Call, Write, Answer, Given, Marked, Shown, Idle, Refused, MayAnswer, failed_in}
use Rattle.rb_model.specs.Calls.{is_fault}
use Rattle.rb_model.specs.Clearing.{ClearsTo}
use Rattle.rb_model.specs.Dead.{dead_owed}
use Rattle.rb_model.specs.NextState.{After, Grows, unqueued}
use Rattle.rb_model.specs.Queue.{first_ready}
use Rattle.rb_model.specs.Lines.{Command, Spells, SpellsNone, call_of, most_calls, caller}
use Rattle.rb_model.specs.Lines.{without_return, is_remark, reply_text, bad_line_text}
use Rattle.rb_model.specs.declared.refusal.Refusal.TheVariants.{TooOld}

-- a state, the last log number that was given, and the call in which the disk failed, if it has
pub record Logged : Type 0 where
  pub state : State
  pub lsn : ℕ
  pub fault : Option Call
  -- the blocks from which the state is read; of those of a stopped state nothing is said
  pub blocks : List (List ℕ)

-- What answers hang on besides the machine's state: three relations.
pub record Outside : Type 1 where
  -- what a call in a state reads at a snapshot is worn in these blocks, by a number above it of which something was
  -- given up
  pub worn : State → List (List ℕ) → Call → (snapshot lost : ℕ) → Type 0
  -- so many groups, of which each puts back a change of a dead transaction or ends one, make of the machine's blocks
  -- those that follow
  pub back : Logged → (groups : ℕ) → Logged → Type 0
  -- what a call in a state with that answer makes of the machine's blocks
  pub makes : Logged → Call → Answer → Logged → Type 0

abbrev pub outside_by : (State → List (List ℕ) → Call → (snapshot lost : ℕ) → Type 0)
    → (Logged → ℕ → Logged → Type 0) → (Logged → Call → Answer → Logged → Type 0) → Outside
outside_by worn back makes = record { worn = worn; back = back; makes = makes }

-- how many groups put back the dead that are in the one state and not in the other
abbrev pub cleared_by : State → State → ℕ
cleared_by h ready = dead_owed h - dead_owed ready

-- The dead that stand in the way of a call with that answer are put back before it.
pub record Readied (m : Logged) (outside : Outside) (call : Call) (answer : Answer) (ready : Logged) : Type 0 where
  pub state : ClearsTo m.state call answer ready.state
  pub lsn : ready.lsn ≡ m.lsn + cleared_by m.state ready.state
  pub fault : ready.fault ≡ m.fault
  pub back : outside.back m (cleared_by m.state ready.state) ready

-- One call with that answer in whose way no dead stand, which is too old only where what it reads is worn in the
-- machine's blocks. Unless the disk has failed, the log number goes up by the groups of the call, and the call makes
-- the blocks that follow.
pub record CallMade (m : Logged) (outside : Outside) (call : Call) (answer : Answer) (m2 : Logged) : Type 0 where
  pub reply : MayAnswer m.state m.lsn call answer
  pub worn : (snapshot lost : ℕ) → answer ≡ Refused (TooOld snapshot lost)
      → outside.worn m.state m.blocks call snapshot lost
  pub state : After m.state call answer m2.state
  pub fault : m2.fault ≡ failed_in call answer m.fault
  pub groups : ℕ
  pub grows : m2.state.stopped ≡ false → Grows m.state call answer groups
  pub lsn : m2.state.stopped ≡ false → m2.lsn ≡ m.lsn + groups
  pub makes : m2.state.stopped ≡ false → outside.makes m call answer m2

-- One call with that answer, behind the dead that stood in its way, by 2^14 groups at most.
pub record CallOut (m : Logged) (outside : Outside) (call : Call) (answer : Answer) (m2 : Logged) : Type 0 where
  pub ready : Logged
  pub readied : Readied m outside call answer ready
  pub made : CallMade ready outside call answer m2
  pub few : m2.state.stopped ≡ false → m2.lsn ≤ m.lsn + 2 ^ 14

-- after this answer a command makes its next call
abbrev pub goes_on : Answer → Bool
goes_on (Given key value) = true
goes_on (Marked seg writes lost) = true
goes_on (Shown s activity) = true
goes_on Idle = true
goes_on _ = false

-- The calls of a command from its k-th on, up to `count`, each with its reply line. They end at the first answer that
-- is neither a row nor what a segment or a session tells of itself.
abbrev pub CallsOut : Logged → Outside → Command → ℕ → ℕ → List ℕ → Logged → Type 0
CallsOut m outside c k zero out m2 = (out ≡ []) × (m2 ≡ m)
CallsOut m outside c k (suc count) out m2 =
    (r : Answer) × (rest : List ℕ) × (middle : Logged) × CallOut m outside (call_of c k) r middle
    × (out ≡ reply_text (caller c) r ++ rest)
    × MatchBool (goes_on r) (CallsOut middle outside c (suc k) count rest m2) ((rest ≡ []) × (m2 ≡ middle))

abbrev pub CommandOut : Logged → Outside → Command → List ℕ → Logged → Type 0
CommandOut m outside c out m2 = CallsOut m outside c 0 (most_calls m.state.shape c) out m2

-- session s has left the queue
abbrev pub left_queue : Logged → ℕ → Logged
left_queue m s = record m { state = unqueued m.state s }

-- The write of session s is tried once more, as that of one that has never waited, behind the dead that stood in its
-- way. At a fault of the disk the session keeps its place in the queue.
pub record Resumed (m : Logged) (outside : Outside) (s : ℕ) (asked : Asked) (answer : Answer) (m2 : Logged) : Type
    0 where
  pub ready : Logged
  pub readied : Readied (left_queue m s) outside (Write s asked.table asked.key asked.action) answer ready
  pub reply : MayAnswer ready.state ready.lsn (Write s asked.table asked.key asked.action) answer
  pub worn : (snapshot lost : ℕ) → answer ≡ Refused (TooOld snapshot lost)
      → outside.worn ready.state ready.blocks (Write s asked.table asked.key asked.action) snapshot lost
  pub state : MatchBool (is_fault answer) (m2.state ≡ record ready.state { queue = m.state.queue; stopped = true })
      (After ready.state (Write s asked.table asked.key asked.action) answer m2.state)
  pub fault : m2.fault ≡ failed_in (Write s asked.table asked.key asked.action) answer m.fault
  pub groups : ℕ
  pub grows : m2.state.stopped ≡ false
      → Grows ready.state (Write s asked.table asked.key asked.action) answer groups
  pub few : m2.state.stopped ≡ false → m2.lsn ≤ m.lsn + 2 ^ 14
  pub lsn : m2.state.stopped ≡ false → m2.lsn ≡ ready.lsn + groups
  pub makes : m2.state.stopped ≡ false
      → outside.makes ready (Write s asked.table asked.key asked.action) answer m2

-- the disk has failed, or no session is ready
abbrev pub IsSettled : Logged → Type 0
IsSettled m = (m.state.stopped ≡ true) ⊎ (first_ready m.state.queue ≡ None)

-- So many writes of ready sessions, one after another, that of the first ready one each time, and then nothing is left
-- to try. Each reply is to its session.
abbrev pub ResumesOut : Logged → Outside → ℕ → List ℕ → Logged → Type 0
ResumesOut m outside zero out m2 = IsSettled m × (out ≡ []) × (m2 ≡ m)
ResumesOut m outside (suc count) out m2 = (s : ℕ) × (asked : Asked) × (r : Answer) × (rest : List ℕ)
    × (middle : Logged) × (m.state.stopped ≡ false) × (first_ready m.state.queue ≡ Some s)
    × (asked_of m.state s ≡ Some asked) × Resumed m outside s asked r middle
    × (out ≡ reply_text (Some s) r ++ rest) × ResumesOut middle outside count rest m2

-- What one line does itself. A line of more than 512 bytes is bad whatever it has; one CR at its end doesn't count.
pub data LineSaid (m : Logged) (outside : Outside) (line out : List ℕ) (m2 : Logged) : Type 0 where
  too_long : 512 < length line → out ≡ bad_line_text → m2 ≡ m → LineSaid m outside line out m2
  skipped : length line ≤ 512 → is_remark (without_return line) ≡ true → out ≡ [] → m2 ≡ m
      → LineSaid m outside line out m2
  bad : length line ≤ 512 → is_remark (without_return line) ≡ false → SpellsNone (without_return line)
      → out ≡ bad_line_text → m2 ≡ m → LineSaid m outside line out m2
  command : length line ≤ 512 → (c : Command) → Spells (without_return line) c → CommandOut m outside c out m2
      → LineSaid m outside line out m2

-- What one line does, and what the writes do that it has made ready.
abbrev pub LineOut : Logged → Outside → List ℕ → List ℕ → Logged → Type 0
LineOut m outside line out m2 = (first : List ℕ) × (rest : List ℕ) × (middle : Logged) × (count : ℕ)
    × LineSaid m outside line first middle × (out ≡ first ++ rest) × ResumesOut middle outside count rest m2

-- The replies to the lines, one line after another. Nothing follows once the disk has failed.
abbrev pub Out : Logged → Outside → List (List ℕ) → List ℕ → Logged → Type 0
Out m outside [] out m2 = (out ≡ []) × (m2 ≡ m)
Out m outside (line ∷ lines) out m2 =
    (first : List ℕ) × (rest : List ℕ) × (middle : Logged) × LineOut m outside line first middle
    × (out ≡ first ++ rest)
    × MatchBool middle.state.stopped ((rest ≡ []) × (m2 ≡ middle)) (Out middle outside lines rest m2)
