-- What a memory disk is seen as.
use Rattle.std.specs.Prelude.{◌≡◌, ◌⊎◌, ℕ, ◌+◌, ◌-◌, ◌^◌, ◌<◌, ◌≤◌, min, List, []}
use Rattle.std.specs.Prelude.{◌∷◌, ◌++◌, length, Contains, if◌then◌else◌, nat_lt}
use Rattle.rb_base.specs.Moments.{Passes}
use Rattle.rb_memdisk.specs.declared.call.Call.{Call}
use Rattle.rb_memdisk.specs.declared.memory.MemDisk.{MemDisk}
use Rattle.rb_memdisk.specs.Record.{images_after, MayLeave, MayLeaveSince}

-- what it reads as
abbrev pub bytes_of : MemDisk → List ℕ
bytes_of disk = disk.bytes.items

-- the bytes that it held at first
abbrev pub first_bytes : MemDisk → List ℕ
first_bytes disk = disk.first.items

-- the calls so far
abbrev pub record_of : MemDisk → List Call
record_of disk = disk.calls.items

-- the bytes of the writes that were done, in a row
abbrev pub written_of : MemDisk → List ℕ
written_of disk = disk.written.items

-- how many bytes it has room for
abbrev pub bytes_room : MemDisk → ℕ
bytes_room disk = disk.room

-- how many calls it can record
abbrev pub limit_of : MemDisk → ℕ
limit_of disk = disk.limit

-- the numbers of the calls that fail
abbrev pub failing_of : MemDisk → List ℕ
failing_of disk = disk.failing.items

-- how often it has failed
abbrev pub faults_of : MemDisk → ℕ
faults_of disk = disk.faults

-- how many calls it has recorded
abbrev pub made : MemDisk → ℕ
made disk = length (record_of disk)

-- the images that a crash now may leave
abbrev pub MayLeaveNow : MemDisk → List ℕ → Type 0
MayLeaveNow disk c = MayLeave (first_bytes disk) (record_of disk) (written_of disk) (made disk) c

-- the images that a crash after k calls may have left, for some k from t on
abbrev pub LeavesSince : MemDisk → ℕ → List ℕ → Type 0
LeavesSince disk t c = MayLeaveSince (first_bytes disk) (record_of disk) (written_of disk) t c

-- its next call fails, whatever it is: its number is listed, or the record has no place for it
abbrev pub IsRefused : MemDisk → Type 0
IsRefused disk = Contains (failing_of disk) (made disk + 1) ⊎ (limit_of disk ≤ made disk)

-- a piece of this many bytes passes the room
abbrev pub PassesRoom : MemDisk → ℕ → Type 0
PassesRoom disk count = bytes_room disk < length (first_bytes disk) + length (written_of disk) + count

-- the record after this call, where there is a place for it
abbrev pub recorded : MemDisk → Call → List Call
recorded disk call = if nat_lt (made disk) (limit_of disk) then record_of disk ++ call ∷ [] else record_of disk

-- a count with one fault more
abbrev pub one_more : ℕ → ℕ
one_more count = min (count + 1) (2 ^ 64 - 1)

-- what it was made with stays
pub record IsSameSetup (old new : MemDisk) : Type 0 where
  pub first : first_bytes new ≡ first_bytes old
  pub room : bytes_room new ≡ bytes_room old
  pub limit : limit_of new ≡ limit_of old
  pub failing : failing_of new ≡ failing_of old

-- nothing but the record, the count of faults and what a crash may leave has changed
pub record IsUnwritten (old new : MemDisk) : Type 0 where
  pub setup : IsSameSetup old new
  pub bytes : bytes_of new ≡ bytes_of old
  pub written : written_of new ≡ written_of old

-- what a crash may leave after a call, and how time has gone on
pub record GoesOnBy (old new : MemDisk) (call : Call) : Type 0 where
  pub images : (c : List ℕ) → MayLeaveNow new c → images_after (MayLeaveNow old) (bytes_of old) call c
  pub time : Passes (made old) (made new) (LeavesSince old) (LeavesSince new) (MayLeaveNow new)
