-- What a line's calls and replies leave, while some of the replies wait to be sent.
use Rattle.std.specs.Prelude.{◌≡◌, ◌⊎◌, ℕ, ◌+◌, ◌-◌, ◌/◌, ◌≤◌, Bool, true, false, List}
use Rattle.std.specs.Prelude.{◌++◌, length, take, drop, Option, Some, Result, Ok, Err}
use Rattle.rb_lines.specs.Ran.{CutShort}
use Rattle.rb_lines.specs.declared.runner.StepFault.{StepFault}
use Rattle.rb_lines.specs.declared.runner.StepFault.TheVariants.{Disk, Sink}
use Rattle.rb_model.specs.Answers.{answer_of}
use Rattle.rb_model.specs.Lines.{Command, is_remark, reply_text, without_return}
use Rattle.rb_model.specs.Out.{Logged, CallOut, CallsOut, Outside}
use Rattle.rb_model.specs.Calls.{Answer, Call, is_disk_fault}
use Rattle.rb_model.specs.declared.outcome.Outcome as code
use Rattle.rb_model.specs.declared.row.Row.{Row}
use Rattle.rb_shell.specs.declared.replies.Waiting.{Waiting}
use Rattle.rb_script.specs.declared.reply.Reply.{Reply}
use Rattle.rb_script.specs.declared.reply.Reply.TheVariants as replies

-- the line is skipped: it is empty or a remark
abbrev pub IsSkipped : List ℕ → Type 0
IsSkipped line = (length line ≤ 512) × (is_remark (without_return line) ≡ true)

-- a reply tells of a fault of the disk
abbrev pub tells_fault : Reply → Bool
tells_fault (replies.Done s) = false
tells_fault (replies.Committed s number) = false
tells_fault (replies.Numbered s number) = false
tells_fault (replies.Flushed number) = false
tells_fault (replies.Swept changes) = false
tells_fault (replies.Row s key value) = false
tells_fault (replies.End s) = false
tells_fault (replies.Absent s) = false
tells_fault (replies.Waits s on) = false
tells_fault (replies.Refused s why) = is_disk_fault why
tells_fault (replies.Marks seg writes lost) = false
tells_fault (replies.Shown session activity) = false
tells_fault replies.Nothing = false
tells_fault replies.BadLine = false

-- A text was added to what waits. It waits with it, or all that waited before was sent.
abbrev pub Added : List ℕ → Type 0 → (held_before waiting_before held_now waiting_now : List ℕ) → Type 0
Added text tells held_before waiting_before held_now waiting_now =
    ((waiting_now ≡ waiting_before ++ text) × (tells → held_now ≡ held_before))
    ⊎ ((waiting_now ≡ text) × (tells → held_now ≡ held_before ++ waiting_before))

-- The sink failed: it holds a front of what waited.
abbrev pub Lost : Type 0 → (held_before waiting_before held_now : List ℕ) → Type 0
Lost tells held_before waiting_before held_now = tells → (n : ℕ)
    × (held_now ≡ held_before ++ take n waiting_before)

-- A reply was added, or lost. One that tells of a fault of the disk ends the step with that fault.
abbrev pub Told : List ℕ → Bool → Type 0 → (held_before waiting_before held_now waiting_now : List ℕ)
    → Result (Unit {0}) StepFault → Type 0
Told text fault tells held_before waiting_before held_now waiting_now (Ok done) =
    (fault ≡ false) × Added text tells held_before waiting_before held_now waiting_now
Told text fault tells held_before waiting_before held_now waiting_now (Err Disk) =
    (fault ≡ true) × Added text tells held_before waiting_before held_now waiting_now
Told text fault tells held_before waiting_before held_now waiting_now (Err Sink) =
    Lost tells held_before waiting_before held_now

-- One call was made, and its reply added.
pub record CalledOnce (m : Logged) (outside : Outside) (to : Option ℕ) (call : Call) (answer : Answer)
    (now : Logged) (tells : Type 0) (held_before waiting_before held_now waiting_now : List ℕ) : Type 0 where
  pub made : CallOut m outside call answer now
  pub added : Added (reply_text to answer) tells held_before waiting_before held_now waiting_now

-- One call by its end: its answer, a fault of the disk, or its reply was lost.
abbrev pub Calls : (m : Logged) (outside : Outside) (to : Option ℕ) (call : Call) (row : Row) (now : Logged)
    (tells : Type 0) (held_before waiting_before held_now waiting_now : List ℕ)
    → Result code.Outcome StepFault → Type 0
Calls m outside to call row now tells held_before waiting_before held_now waiting_now (Ok answer) =
    CalledOnce m outside to call (answer_of answer row) now tells held_before waiting_before held_now waiting_now
    × (now.state.stopped ≡ false)
Calls m outside to call row now tells held_before waiting_before held_now waiting_now (Err Disk) =
    (answer : Answer) × CalledOnce m outside to call answer now tells held_before waiting_before held_now waiting_now
    × (now.state.stopped ≡ true)
Calls m outside to call row now tells held_before waiting_before held_now waiting_now (Err Sink) =
    (answer : Answer) × CallOut m outside call answer now × Lost tells held_before waiting_before held_now

-- Replies as a relation allows them, and the state after them. The first `sent` bytes were sent, and the others wait.
pub record Said (allows : List ℕ → Logged → Type 0) (now : Logged) (tells : Type 0)
    (before held waiting : List ℕ) : Type 0 where
  pub out : List ℕ
  pub reply : allows out now
  pub sent : ℕ
  pub few : sent ≤ length out
  pub holds : tells → held ≡ before ++ take sent out
  pub waits : waiting ≡ drop sent out

-- the same by the end of a step, as `RepliedAs` says it of what was sent
abbrev pub SaidAs : (allows begun : List ℕ → Logged → Type 0) → Logged → Type 0
    → (before held waiting : List ℕ)
    → Result (Unit {0}) StepFault → Type 0
SaidAs allows begun now tells before held waiting (Ok done) = Said allows now tells before held waiting
    × (now.state.stopped ≡ false)
SaidAs allows begun now tells before held waiting (Err Disk) = Said allows now tells before held waiting
    × (now.state.stopped ≡ true)
SaidAs allows begun now tells before held waiting (Err Sink) = tells → CutShort begun now before held

-- for how many replies of a write there is room
abbrev pub reply_room : Waiting → ℕ
reply_room waiting = (73728 - length waiting.bytes.items) / 512

-- the reply to a session waits behind what waited
abbrev pub HasReply : Waiting → ℕ → Answer → Waiting → Type 0
HasReply before s r after = after.bytes.items ≡ before.bytes.items ++ reply_text (Some s) r

-- So many calls of a command were made, each of which goes on: what goes on from here goes on from the start.
pub record SaidSoFar (start : Logged) (outside : Outside) (c : Command) (count : ℕ) (now : Logged) (tells : Type 0)
    (before held waiting : List ℕ) : Type 0 where
  pub out : List ℕ
  pub goes_on : (more : ℕ) (rest : List ℕ) (end : Logged) → CallsOut now outside c count more rest end
      → CallsOut start outside c 0 (count + more) (out ++ rest) end
  pub sent : ℕ
  pub few : sent ≤ length out
  pub holds : tells → held ≡ before ++ take sent out
  pub waits : waiting ≡ drop sent out
  pub going : now.state.stopped ≡ false
