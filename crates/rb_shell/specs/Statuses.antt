-- The numbers and names of the ends of a run.
use Rattle.std.specs.Prelude.{ℕ, Bool, true, false, List, codes}
use Rattle.rb_base.specs.declared.faults.OpenFault.{OpenFault}
use Rattle.rb_base.specs.declared.faults.OpenFault.TheVariants as faults
use Rattle.rb_lines.specs.declared.lines.LinesEnd.{LinesEnd}
use Rattle.rb_lines.specs.declared.lines.LinesEnd.TheVariants as ends
use Rattle.rb_shell.specs.declared.status.Status.{Status}
use Rattle.rb_shell.specs.declared.status.Status.TheVariants.{Done, Usage, SourceFault, DiskFault, SinkFault, NotAStore}
use Rattle.rb_shell.specs.declared.status.Status.TheVariants.{NoMemory, NotEmpty, TooLong}

abbrev pub status_code : Status → ℕ
status_code Done = 0
status_code Usage = 1
status_code SourceFault = 2
status_code DiskFault = 3
status_code SinkFault = 4
status_code NotAStore = 5
status_code NoMemory = 6
status_code NotEmpty = 7
status_code TooLong = 8

abbrev pub status_name : Status → List ℕ
status_name Done = codes "Done"
status_name Usage = codes "Usage"
status_name SourceFault = codes "SourceFault"
status_name DiskFault = codes "DiskFault"
status_name SinkFault = codes "SinkFault"
status_name NotAStore = codes "NotAStore"
status_name NoMemory = codes "NoMemory"
status_name NotEmpty = codes "NotEmpty"
status_name TooLong = codes "TooLong"

-- how a command that makes a file ends
abbrev pub EndsFormat : Status → Type 0
EndsFormat Done = Unit {0}
EndsFormat DiskFault = Unit {0}
EndsFormat NotEmpty = Unit {0}
EndsFormat Usage = ⊥
EndsFormat SourceFault = ⊥
EndsFormat SinkFault = ⊥
EndsFormat NotAStore = ⊥
EndsFormat NoMemory = Unit {0}
EndsFormat TooLong = ⊥

-- how a command that runs a script ends
abbrev pub EndsRun : Status → Type 0
EndsRun Done = Unit {0}
EndsRun SourceFault = Unit {0}
EndsRun DiskFault = Unit {0}
EndsRun SinkFault = Unit {0}
EndsRun NotAStore = Unit {0}
EndsRun NoMemory = Unit {0}
EndsRun TooLong = Unit {0}
EndsRun Usage = ⊥
EndsRun NotEmpty = ⊥

-- how a command that runs the generator ends
abbrev pub EndsGenerator : Status → Type 0
EndsGenerator Done = Unit {0}
EndsGenerator DiskFault = Unit {0}
EndsGenerator SinkFault = Unit {0}
EndsGenerator NotAStore = Unit {0}
EndsGenerator NoMemory = Unit {0}
EndsGenerator Usage = ⊥
EndsGenerator SourceFault = ⊥
EndsGenerator NotEmpty = ⊥
EndsGenerator TooLong = ⊥

-- and over an engine
abbrev pub EndsCommands : Status → Type 0
EndsCommands Done = Unit {0}
EndsCommands DiskFault = Unit {0}
EndsCommands SinkFault = Unit {0}
EndsCommands NotAStore = ⊥
EndsCommands NoMemory = ⊥
EndsCommands Usage = ⊥
EndsCommands SourceFault = ⊥
EndsCommands NotEmpty = ⊥
EndsCommands TooLong = ⊥

-- the script was asked for
abbrev pub AsksScript : Status → Type 0
AsksScript Done = Unit {0}
AsksScript SourceFault = Unit {0}
AsksScript SinkFault = Unit {0}
AsksScript TooLong = Unit {0}
AsksScript DiskFault = ⊥
AsksScript NotAStore = ⊥
AsksScript NoMemory = ⊥
AsksScript Usage = ⊥
AsksScript NotEmpty = ⊥

-- the script wasn't asked for
abbrev pub AsksNothing : Status → Type 0
AsksNothing NotAStore = Unit {0}
AsksNothing NoMemory = Unit {0}
AsksNothing Usage = Unit {0}
AsksNothing NotEmpty = Unit {0}
AsksNothing Done = ⊥
AsksNothing SourceFault = ⊥
AsksNothing DiskFault = ⊥
AsksNothing SinkFault = ⊥
AsksNothing TooLong = ⊥

-- all commands were made, and the line was put
abbrev pub TellsCounts : Status → Type 0
TellsCounts Done = Unit {0}
TellsCounts SinkFault = Unit {0}
TellsCounts DiskFault = ⊥
TellsCounts NotAStore = ⊥
TellsCounts NoMemory = ⊥
TellsCounts Usage = ⊥
TellsCounts SourceFault = ⊥
TellsCounts NotEmpty = ⊥
TellsCounts TooLong = ⊥

-- all was done, unless memory ran out
abbrev pub IsDoneOrNoMemory : Status → Type 0
IsDoneOrNoMemory Done = Unit {0}
IsDoneOrNoMemory NoMemory = Unit {0}
IsDoneOrNoMemory Usage = ⊥
IsDoneOrNoMemory SourceFault = ⊥
IsDoneOrNoMemory DiskFault = ⊥
IsDoneOrNoMemory SinkFault = ⊥
IsDoneOrNoMemory NotAStore = ⊥
IsDoneOrNoMemory NotEmpty = ⊥
IsDoneOrNoMemory TooLong = ⊥

-- the status of lines that ended so
abbrev pub status_of : LinesEnd → Status
status_of ends.Done = Done
status_of ends.SourceFault = SourceFault
status_of ends.DiskFault = DiskFault
status_of ends.SinkFault = SinkFault
status_of ends.TooLong = TooLong

-- the status of a store that wasn't opened
abbrev pub status_of_opening : OpenFault → Status
status_of_opening faults.Failed = DiskFault
status_of_opening faults.NotAStore = NotAStore
status_of_opening faults.NoMemory = NoMemory

-- by which fault a run ended

abbrev pub by_source : Status → Bool
by_source SourceFault = true
by_source _ = false

abbrev pub by_disk : Status → Bool
by_disk DiskFault = true
by_disk _ = false

abbrev pub by_sink : Status → Bool
by_sink SinkFault = true
by_sink _ = false
