-- The replies of the code as texts.
use Rattle.std.specs.Prelude.{ℕ, ◌≤◌, Bool, true, false, if◌then◌else◌}
use Rattle.std.specs.Prelude.{List, [], ◌∷◌, length, None, Some}
use Rattle.rb_model.specs.Lines.{reply_text, bad_line_text}
use Rattle.rb_model.specs.Calls as answers
use Rattle.rb_script.specs.declared.reply.Reply.{Reply}
use Rattle.rb_script.specs.declared.reply.Reply.TheVariants.{Done, Committed, Numbered, Flushed, Swept, Row, End}
use Rattle.rb_script.specs.declared.reply.Reply.TheVariants.{Absent, Waits, Refused, Marks, Shown, Nothing, BadLine}

-- the line with its LF, if there is one
abbrev pub text_of_reply : Reply → List ℕ
text_of_reply (Done s) = reply_text s answers.Done
text_of_reply (Committed s number) = reply_text (Some s) (answers.Committed number)
text_of_reply (Numbered s number) = reply_text (Some s) (answers.Numbered number)
text_of_reply (Flushed number) = reply_text None (answers.Flushed number)
text_of_reply (Swept changes) = reply_text None (answers.Swept changes)
text_of_reply (Row s key value) = reply_text (Some s) (answers.Given key value.now)
text_of_reply (End s) = reply_text (Some s) answers.End
text_of_reply (Absent s) = reply_text (Some s) answers.Absent
text_of_reply (Waits s on) = reply_text (Some s) (answers.Waits on)
text_of_reply (Refused s why) = reply_text s (answers.Refused why)
text_of_reply (Marks seg writes lost) = reply_text None (answers.Marked seg writes lost)
text_of_reply (Shown session activity) = reply_text None (answers.Shown session activity)
text_of_reply Nothing = reply_text None answers.Idle
text_of_reply BadLine = bad_line_text

-- a row's value has at most 80 bytes
abbrev pub FitsALine : Reply → Type 0
FitsALine (Row s key value) = length value.now ≤ 80
FitsALine _ = Unit {0}

-- a reply without a line
abbrev pub has_no_line : Reply → Bool
has_no_line Nothing = true
has_no_line _ = false

-- what ends its line
abbrev pub ending : Reply → List ℕ
ending reply = if has_no_line reply then [] else 10 ∷ []
