-- What the arguments and results of the engine's calls are as the machine's actions and answers.
use Rattle.std.specs.Prelude.{◌≡◌, ℕ, Option, None, Some, Result, Ok, Err}
use Rattle.rb_model.specs.Calls.{Action, Answer, Waits, Committed, Numbered, Flushed, Swept, Given, Marked, Shown}
use Rattle.rb_model.specs.Calls.{Refused}
use Rattle.rb_model.specs.Calls as calls
use Rattle.rb_model.specs.declared.activity.Activity.{Activity}
use Rattle.rb_model.specs.declared.outcome.Outcome as code
use Rattle.rb_model.specs.declared.outcome.Outcome.TheVariants as answers
use Rattle.rb_model.specs.declared.marks.Marks.{Marks}
use Rattle.rb_model.specs.declared.op.Op.{Op}
use Rattle.rb_model.specs.declared.op.Op.TheVariants as op
use Rattle.rb_model.specs.declared.refusal.Refusal.{Refusal}
use Rattle.rb_model.specs.declared.wrote.Wrote.{Wrote}
use Rattle.rb_model.specs.declared.wrote.Wrote.TheVariants as wrote
use Rattle.rb_model.specs.declared.row.Row.{Row}
use Rattle.rb_model.specs.declared.row.Fetched.{Fetched}
use Rattle.rb_model.specs.declared.row.Fetched.TheVariants as fetched

-- what the code's operation is
abbrev pub action_of : Op → Action
action_of (op.Insert value) = calls.Insert value.now
action_of (op.Update value) = calls.Update value.now
action_of (op.Put value) = calls.Upsert value.now
action_of op.Delete = calls.Delete

-- and none holds the row as it is
abbrev pub action_by : Option Op → Action
action_by None = calls.Lock
action_by (Some op) = action_of op

abbrev pub wrote_answer : Wrote → Answer
wrote_answer wrote.Done = calls.Done
wrote_answer (wrote.Waits on) = Waits on

abbrev pub write_answer : Result Wrote Refusal → Answer
write_answer (Ok w) = wrote_answer w
write_answer (Err why) = Refused why

-- of a commit, by the answer that tells its number
abbrev pub number_answer : (ℕ → Answer) → Option ℕ → Answer
number_answer told None = calls.Done
number_answer told (Some n) = told n

abbrev pub commit_answer : (ℕ → Answer) → Result (Option ℕ) Refusal → Answer
commit_answer told (Ok number) = number_answer told number
commit_answer told (Err why) = Refused why

abbrev pub flush_answer : Result ℕ Refusal → Answer
flush_answer (Ok number) = Flushed number
flush_answer (Err why) = Refused why

-- of a sweep
abbrev pub sweep_answer : Result ℕ Refusal → Answer
sweep_answer (Ok changes) = Swept changes
sweep_answer (Err why) = Refused why

abbrev pub plain_answer : Result (Unit {0}) Refusal → Answer
plain_answer (Ok done) = calls.Done
plain_answer (Err why) = Refused why

-- of the marks of a segment
abbrev pub marks_answer : ℕ → Result Marks Refusal → Answer
marks_answer seg (Ok marks) = Marked seg marks.writes marks.lost
marks_answer seg (Err why) = Refused why

-- of what a session has under way
abbrev pub shown_answer : ℕ → Option Activity → Answer
shown_answer s None = calls.Idle
shown_answer s (Some activity) = Shown s activity

abbrev pub activity_answer : ℕ → Result (Option Activity) Refusal → Answer
activity_answer s (Ok activity) = shown_answer s activity
activity_answer s (Err why) = Refused why

-- of a read of one key
abbrev pub read_answer : Fetched → Row → Answer
read_answer fetched.Row row = Given row.key row.value.items
read_answer fetched.End row = calls.Absent

abbrev pub get_answer : Result Fetched Refusal → Row → Answer
get_answer (Ok f) row = read_answer f row
get_answer (Err why) row = Refused why

abbrev pub fetched_answer : Fetched → Row → Answer
fetched_answer fetched.Row row = Given row.key row.value.items
fetched_answer fetched.End row = calls.End

-- the result of a fetch, with the row as the call leaves it
abbrev pub fetch_answer : Result Fetched Refusal → Row → Answer
fetch_answer (Ok f) row = fetched_answer f row
fetch_answer (Err why) row = Refused why

-- a call that gives no row leaves the caller's as it was
abbrev pub LeavesRow : Result Fetched Refusal → Row → Row → Type 0
LeavesRow (Ok fetched.Row) old new = Unit {0}
LeavesRow (Ok fetched.End) old new = new ≡ old
LeavesRow (Err why) old new = new ≡ old

-- the code's answer, with the row as the call leaves it
abbrev pub answer_of : code.Outcome → Row → Answer
answer_of answers.Done row = calls.Done
answer_of (answers.Waits on) row = Waits on
answer_of (answers.Committed number) row = Committed number
answer_of (answers.Numbered number) row = Numbered number
answer_of (answers.Flushed number) row = Flushed number
answer_of (answers.Swept changes) row = Swept changes
answer_of answers.Row row = Given row.key row.value.items
answer_of answers.End row = calls.End
answer_of answers.Absent row = calls.Absent
answer_of (answers.Marked seg writes lost) row = Marked seg writes lost
answer_of (answers.Shown session activity) row = Shown session activity
answer_of answers.Idle row = calls.Idle
answer_of (answers.Refused why) row = Refused why
