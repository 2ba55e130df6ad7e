-- How a script is cut into lines, which command a line spells and what it calls, and the texts of the replies.
use Rattle.std.specs.Prelude.{◌≡◌, ◌≢◌, ℕ, suc, ◌^◌, ◌<◌, ◌≤◌, Bool, true, ◌==◌}
use Rattle.std.specs.Prelude.{◌&&◌, nat_le}
use Rattle.std.specs.Prelude.{if◌then◌else◌, IsTrue, List, [], ◌∷◌, ◌++◌, length, codes, Option, None}
use Rattle.std.specs.Prelude.{Some}
use Rattle.std.specs.List.{list_all, AllByRecursion}
use Rattle.std.specs.Fmt.{decimal}
use Rattle.rb_model.specs.NameTest.{is_name}
use Rattle.rb_base.specs.declared.shape.Shape.{Shape}
use Rattle.rb_model.specs.Calls.{Action, Insert, Update, Upsert, Delete, Lock, Answer, Done, Waits, Committed}
use Rattle.rb_model.specs.Calls.{Numbered, Flushed, Given, End, Absent, Marked, Shown, Swept, Idle, Refused}
use Rattle.rb_model.specs.Calls.{number_text, refusal_text}
use Rattle.rb_model.specs.Calls.{Call, Write, Commit, CommitLater, Rollback, SetMode, SetSavepoint, RollbackTo}
use Rattle.rb_model.specs.Calls.{OpenCursor, Fetch, CloseCursor, Get, Cancel, Marks, Show, Flush, Sweep, Checkpoint}
use Rattle.rb_model.specs.State.{session_count}
use Rattle.rb_model.specs.declared.activity.Activity.{Activity}
use Rattle.rb_model.specs.declared.activity.Wait.{Wait}
use Rattle.rb_model.specs.declared.activity.Wait.TheVariants as wait
use Rattle.rb_model.specs.declared.mode.Mode.{Mode}
use Rattle.rb_model.specs.declared.mode.Mode.TheVariants as mode

-- a byte at the front of the first line
abbrev pub onto_first : ℕ → List (List ℕ) → List (List ℕ)
onto_first b [] = (b ∷ []) ∷ []
onto_first b (line ∷ lines) = (b ∷ line) ∷ lines

-- A line ends with LF or with the end of the input.
abbrev pub lines_of : List ℕ → List (List ℕ)
lines_of [] = []
lines_of (b ∷ bytes) = if b == 10 then [] ∷ lines_of bytes else onto_first b (lines_of bytes)

-- a line without one CR that ends it
abbrev pub without_return : List ℕ → List ℕ
without_return [] = []
without_return (b ∷ []) = if b == 13 then [] else b ∷ []
without_return (b ∷ c ∷ line) = b ∷ without_return (c ∷ line)

-- nothing, or a remark
abbrev pub is_remark : List ℕ → Bool
is_remark [] = true
is_remark (b ∷ line) = b == 35

-- a command as a line spells it
pub data Command : Type 0 where
  WriteLine : (session table key : ℕ) (action : Action) → Command
  CommitLine : (session : ℕ) → Command
  CommitLaterLine : (session : ℕ) → Command
  RollbackLine : (session : ℕ) → Command
  SetLine : (session : ℕ) (mode : Mode) → Command
  SavepointLine : (session : ℕ) (name : List ℕ) → Command
  RollbackToLine : (session : ℕ) (name : List ℕ) → Command
  OpenLine : (session : ℕ) (name : List ℕ) (table lo hi : ℕ) → Command
  FetchLine : (session : ℕ) (name : List ℕ) (count : ℕ) → Command
  CloseLine : (session : ℕ) (name : List ℕ) → Command
  GetLine : (session table key : ℕ) → Command
  CancelLine : (session : ℕ) → Command
  MarksLine : Command
  SessionsLine : Command
  FlushLine : Command
  SweepLine : (changes : ℕ) → Command
  CheckpointLine : Command

-- what a command calls as its k-th call, from 0 on
abbrev pub call_of : Command → ℕ → Call
call_of (WriteLine s table key action) k = Write s table key action
call_of (CommitLine s) k = Commit s
call_of (CommitLaterLine s) k = CommitLater s
call_of (RollbackLine s) k = Rollback s
call_of (SetLine s mode) k = SetMode s mode
call_of (SavepointLine s name) k = SetSavepoint s name
call_of (RollbackToLine s name) k = RollbackTo s name
call_of (OpenLine s name table lo hi) k = OpenCursor s name table lo hi
call_of (FetchLine s name count) k = Fetch s name
call_of (CloseLine s name) k = CloseCursor s name
call_of (GetLine s table key) k = Get s table key
call_of (CancelLine s) k = Cancel s
call_of MarksLine k = Marks k
call_of SessionsLine k = Show (suc k)
call_of FlushLine k = Flush
call_of (SweepLine changes) k = Sweep changes
call_of CheckpointLine k = Checkpoint

-- and how often at most, over a file of that shape
abbrev pub most_calls : Shape → Command → ℕ
most_calls shape (FetchLine s name count) = count
most_calls shape MarksLine = shape.segments
most_calls shape SessionsLine = session_count
most_calls shape _ = 1

-- the session that it names, to which the replies are
abbrev pub caller : Command → Option ℕ
caller (WriteLine s table key action) = Some s
caller (CommitLine s) = Some s
caller (CommitLaterLine s) = Some s
caller (RollbackLine s) = Some s
caller (SetLine s mode) = Some s
caller (SavepointLine s name) = Some s
caller (RollbackToLine s name) = Some s
caller (OpenLine s name table lo hi) = Some s
caller (FetchLine s name count) = Some s
caller (CloseLine s name) = Some s
caller (GetLine s table key) = Some s
caller (CancelLine s) = Some s
caller MarksLine = None
caller SessionsLine = None
caller FlushLine = None
caller (SweepLine changes) = None
caller CheckpointLine = None

-- the first word of a command's line
pub data Word : Type 0 where
  InsertWord : Word
  UpdateWord : Word
  PutWord : Word
  DeleteWord : Word
  LockWord : Word
  CommitWord : Word
  RollbackWord : Word
  SetWord : Word
  SavepointWord : Word
  OpenWord : Word
  FetchWord : Word
  CloseWord : Word
  GetWord : Word
  CancelWord : Word
  MarksWord : Word
  SessionsWord : Word
  FlushWord : Word
  SweepWord : Word
  CheckpointWord : Word

abbrev pub word_text : Word → List ℕ
word_text InsertWord = codes "insert"
word_text UpdateWord = codes "update"
word_text PutWord = codes "put"
word_text DeleteWord = codes "delete"
word_text LockWord = codes "lock"
word_text CommitWord = codes "commit"
word_text RollbackWord = codes "rollback"
word_text SetWord = codes "set"
word_text SavepointWord = codes "savepoint"
word_text OpenWord = codes "open"
word_text FetchWord = codes "fetch"
word_text CloseWord = codes "close"
word_text GetWord = codes "get"
word_text CancelWord = codes "cancel"
word_text MarksWord = codes "marks"
word_text SessionsWord = codes "sessions"
word_text FlushWord = codes "flush"
word_text SweepWord = codes "sweep"
word_text CheckpointWord = codes "checkpoint"

abbrev pub word_of : Command → Word
word_of (WriteLine s table key (Insert value)) = InsertWord
word_of (WriteLine s table key (Update value)) = UpdateWord
word_of (WriteLine s table key (Upsert value)) = PutWord
word_of (WriteLine s table key Delete) = DeleteWord
word_of (WriteLine s table key Lock) = LockWord
word_of (CommitLine s) = CommitWord
word_of (CommitLaterLine s) = CommitWord
word_of (RollbackLine s) = RollbackWord
word_of (SetLine s mode) = SetWord
word_of (SavepointLine s name) = SavepointWord
word_of (RollbackToLine s name) = RollbackWord
word_of (OpenLine s name table lo hi) = OpenWord
word_of (FetchLine s name count) = FetchWord
word_of (CloseLine s name) = CloseWord
word_of (GetLine s table key) = GetWord
word_of (CancelLine s) = CancelWord
word_of MarksLine = MarksWord
word_of SessionsLine = SessionsWord
word_of FlushLine = FlushWord
word_of (SweepLine changes) = SweepWord
word_of CheckpointLine = CheckpointWord

-- A field after the word: the number of a session or a table, a key, how many rows or changes, the name of a savepoint
-- or cursor, the value of a row, a mode, or the word `later`.
pub data Field : Type 0 where
  Id : (n : ℕ) → Field
  Key : (n : ℕ) → Field
  Count : (n : ℕ) → Field
  Named : (name : List ℕ) → Field
  Valued : (value : List ℕ) → Field
  Moded : (mode : Mode) → Field
  Later : Field

abbrev pub fields_of : Command → List Field
fields_of (WriteLine s table key (Insert value)) = Id s ∷ Id table ∷ Key key ∷ Valued value ∷ []
fields_of (WriteLine s table key (Update value)) = Id s ∷ Id table ∷ Key key ∷ Valued value ∷ []
fields_of (WriteLine s table key (Upsert value)) = Id s ∷ Id table ∷ Key key ∷ Valued value ∷ []
fields_of (WriteLine s table key Delete) = Id s ∷ Id table ∷ Key key ∷ []
fields_of (WriteLine s table key Lock) = Id s ∷ Id table ∷ Key key ∷ []
fields_of (CommitLine s) = Id s ∷ []
fields_of (CommitLaterLine s) = Id s ∷ Later ∷ []
fields_of (RollbackLine s) = Id s ∷ []
fields_of (SetLine s mode) = Id s ∷ Moded mode ∷ []
fields_of (SavepointLine s name) = Id s ∷ Named name ∷ []
fields_of (RollbackToLine s name) = Id s ∷ Named name ∷ []
fields_of (OpenLine s name table lo hi) = Id s ∷ Named name ∷ Id table ∷ Key lo ∷ Key hi ∷ []
fields_of (FetchLine s name count) = Id s ∷ Named name ∷ Count count ∷ []
fields_of (CloseLine s name) = Id s ∷ Named name ∷ []
fields_of (GetLine s table key) = Id s ∷ Id table ∷ Key key ∷ []
fields_of (CancelLine s) = Id s ∷ []
fields_of MarksLine = []
fields_of SessionsLine = []
fields_of FlushLine = []
fields_of (SweepLine changes) = Count changes ∷ []
fields_of CheckpointLine = []

abbrev pub mode_text : Mode → List ℕ
mode_text mode.ReadCommitted = codes "read-committed"
mode_text mode.ReadOnly = codes "read-only"
mode_text mode.Serializable = codes "serializable"

abbrev pub field_text : Field → List ℕ
field_text (Id n) = decimal n
field_text (Key n) = decimal n
field_text (Count n) = decimal n
field_text (Named name) = name
field_text (Valued value) = value
field_text (Moded mode) = mode_text mode
field_text Later = codes "later"

-- a space before each field
abbrev pub fields_text : List Field → List ℕ
fields_text [] = []
fields_text (field ∷ fields) = 32 ∷ field_text field ++ fields_text fields

-- the one spelling of a command: its word and its fields
abbrev pub spelling : Command → List ℕ
spelling command = word_text (word_of command) ++ fields_text (fields_of command)

-- one or more visible bytes
abbrev pub is_value : List ℕ → Bool
is_value value = nat_le 1 (length value) && list_all (λ b. nat_le 33 b && nat_le b 126) value

-- what the field holds is in range
abbrev pub IsField : Field → Type 0
IsField (Id n) = n < 2 ^ 16
IsField (Key n) = n < 2 ^ 64
IsField (Count n) = (1 ≤ n) × (n ≤ 1000000)
IsField (Named name) = IsTrue (is_name name)
IsField (Valued value) = IsTrue (is_value value)
IsField (Moded mode) = Unit {0}
IsField Later = Unit {0}

-- the parts of a command are in range
abbrev pub IsCommand : Command → Type 0
IsCommand command = AllByRecursion IsField (fields_of command)

-- the text spells this command
abbrev pub Spells : List ℕ → Command → Type 0
Spells text command = IsCommand command × (text ≡ spelling command)

-- the text spells no command
abbrev pub SpellsNone : List ℕ → Type 0
SpellsNone text = (command : Command) → IsCommand command → text ≢ spelling command

-- how a session waits, behind what else it has under way
abbrev pub wait_text : Wait → List ℕ
wait_text wait.Free = []
wait_text (wait.On session) = codes " waits" ++ number_text session
wait_text wait.Ready = codes " ready"

abbrev pub activity_text : Activity → List ℕ
activity_text a = codes " changes" ++ number_text a.changes ++ codes " cursors" ++ number_text a.cursors
    ++ codes " mode " ++ mode_text a.mode ++ wait_text a.wait

abbrev pub answer_text : Answer → List ℕ
answer_text Done = codes "ok"
answer_text (Waits on) = codes "waits" ++ number_text on
answer_text (Committed n) = codes "committed" ++ number_text n
answer_text (Numbered n) = codes "numbered" ++ number_text n
answer_text (Flushed n) = codes "flushed" ++ number_text n
answer_text (Swept n) = codes "swept" ++ number_text n
answer_text (Given key value) = codes "row" ++ number_text key ++ 32 ∷ value
answer_text End = codes "end"
answer_text Absent = codes "not found"
answer_text (Marked seg writes lost) =
    codes "segment" ++ number_text seg ++ codes " writes" ++ number_text writes ++ codes " lost" ++ number_text lost
answer_text (Shown s activity) = codes "session" ++ number_text s ++ activity_text activity
answer_text Idle = []
answer_text (Refused why) = refusal_text why

-- the session in front of a reply to one
abbrev pub caller_text : Option ℕ → List ℕ
caller_text None = []
caller_text (Some s) = decimal s ++ 32 ∷ []

-- the reply line to a session, or to none; that a session has nothing under way is told by no line
abbrev pub reply_text : Option ℕ → Answer → List ℕ
reply_text to Idle = []
reply_text to r = caller_text to ++ answer_text r ++ 10 ∷ []

-- the reply to a line that is no command
abbrev pub bad_line_text : List ℕ
bad_line_text = codes "bad line" ++ 10 ∷ []
