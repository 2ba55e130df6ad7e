-- What a file disk is seen as.
use Rattle.std.specs.Prelude.{◌≡◌, ℕ, List, Option}
use Rattle.rb_rawfile.specs.declared.cause.Cause.{Cause}
use Rattle.rb_filedisk.specs.declared.synced.SyncedFile.{SyncedFile}
use Rattle.rb_filedisk.specs.declared.system.Found.TheVariants.{Missing}
use Rattle.rb_filedisk.specs.declared.system.SystemFile.{SystemFile}
use Rattle.rb_filedisk.specs.declared.unsynced.Unsynced.{Unsynced}

-- a raw file with what may have been written to it since the last sync, and the faults of its calls
pub record FileState (F : Type 0) : Type 0 where
  pub file : SyncedFile F
  pub faults : ℕ
  pub cause : Option Cause

-- its raw file
abbrev pub file_of : {F : Type 0} → FileState F → F
file_of disk = disk.file.file

-- how often it has failed
abbrev pub faults_of : {F : Type 0} → FileState F → ℕ
faults_of disk = disk.faults

-- why the last call that failed did so
abbrev pub cause_of : {F : Type 0} → FileState F → Option Cause
cause_of disk = disk.cause

-- what a sync that fails writes again
abbrev pub unsynced_of : {F : Type 0} → FileState F → Unsynced
unsynced_of disk = disk.file.unsynced

-- the bytes of a file's path
abbrev pub path_of : {R F D : Type 0} → SystemFile R F D → List ℕ
path_of file = file.path.now

-- a file was looked for and wasn't there, and no write made it since
abbrev pub IsMissing : {R F D : Type 0} → SystemFile R F D → Type 0
IsMissing file = file.found ≡ Missing
