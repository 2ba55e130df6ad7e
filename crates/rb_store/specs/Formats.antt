-- Why a file wasn't made.
use Rattle.std.specs.Prelude.{Bool, true, false}
use Rattle.rb_store.specs.declared.new_file.FormatFault.{FormatFault}
use Rattle.rb_store.specs.declared.new_file.FormatFault.TheVariants.{Failed, NotEmpty}

-- a call of the disk failed
abbrev pub is_format_failed : FormatFault → Bool
is_format_failed Failed = true
is_format_failed NotEmpty = false
