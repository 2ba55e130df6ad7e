-- The commands of the code as those of the lines.
use Rattle.std.specs.Prelude.{ℕ}
use Rattle.rb_model.specs.Calls as calls
use Rattle.rb_model.specs.Lines as lines
use Rattle.rb_model.specs.Names.{name_text}
use Rattle.rb_model.specs.Answers.{action_of}
use Rattle.rb_script.specs.declared.command.Command.{Command}
use Rattle.rb_script.specs.declared.command.Command.TheVariants.{Session, Marks, Sessions, Flush, Sweep}
use Rattle.rb_script.specs.declared.command.Command.TheVariants.{Checkpoint}
use Rattle.rb_script.specs.declared.command.Request.{Request}
use Rattle.rb_script.specs.declared.command.Request.TheVariants.{Write, Lock, Commit, CommitLater, Rollback, Set}
use Rattle.rb_script.specs.declared.command.Request.TheVariants.{Savepoint, RollbackTo, OpenCursor, Fetch}
use Rattle.rb_script.specs.declared.command.Request.TheVariants.{CloseCursor, Get, Cancel}

-- the command by which a session asks for something
abbrev pub asked_by : ℕ → Request → lines.Command
asked_by s (Write t k op) = lines.WriteLine s t k (action_of op)
asked_by s (Lock t k) = lines.WriteLine s t k calls.Lock
asked_by s Commit = lines.CommitLine s
asked_by s CommitLater = lines.CommitLaterLine s
asked_by s Rollback = lines.RollbackLine s
asked_by s (Set mode) = lines.SetLine s mode
asked_by s (Savepoint name) = lines.SavepointLine s (name_text name)
asked_by s (RollbackTo name) = lines.RollbackToLine s (name_text name)
asked_by s (OpenCursor name t lo hi) = lines.OpenLine s (name_text name) t lo hi
asked_by s (Fetch name n) = lines.FetchLine s (name_text name) n
asked_by s (CloseCursor name) = lines.CloseLine s (name_text name)
asked_by s (Get t k) = lines.GetLine s t k
asked_by s Cancel = lines.CancelLine s

-- the command that a value of the code stands for
abbrev pub command_of : Command → lines.Command
command_of (Session s request) = asked_by s request
command_of Marks = lines.MarksLine
command_of Sessions = lines.SessionsLine
command_of Flush = lines.FlushLine
command_of (Sweep changes) = lines.SweepLine changes
command_of Checkpoint = lines.CheckpointLine
