-- What a memory file is seen as.
use Rattle.std.specs.Prelude.{◌≡◌, ℕ, ◌+◌, ◌-◌, ◌^◌, ◌<◌, ◌≤◌, min, List, length}
use Rattle.std.specs.Prelude.{Contains}
use Rattle.rb_memfile.specs.declared.place.Place.{Place}
use Rattle.rb_memfile.specs.declared.memory.MemFile.{MemFile}
use Rattle.rb_memfile.specs.Images.{Seen, Leaves, LeftSince, MayTear, HasLost, syncs_in}
use Rattle.rb_memfile.specs.Seen.{history_of, limit_in}

-- what it reads as
abbrev pub bytes_of : MemFile → List ℕ
bytes_of file = file.bytes.items

-- what is on the device
abbrev pub device_of : MemFile → List ℕ
device_of file = file.device.items

-- what is known of each place
abbrev pub places_of : MemFile → List Place
places_of file = file.places.items

-- the shortest length that a crash may leave
abbrev pub shortest_of : MemFile → ℕ
shortest_of file = file.shortest

-- how many calls were made
abbrev pub calls_of : MemFile → ℕ
calls_of file = file.calls

-- the numbers of the calls that fail
abbrev pub failing_of : MemFile → List ℕ
failing_of file = file.failing.items

-- how many bytes it has room for
abbrev pub room_of : MemFile → ℕ
room_of file = file.room

-- how many syncs can succeed
abbrev pub limit_of : MemFile → ℕ
limit_of file = limit_in file.past

-- how often it has failed
abbrev pub faults_of : MemFile → ℕ
faults_of file = file.faults

-- what bears on its images
abbrev pub seen_of : MemFile → Seen
seen_of file = record {
  bytes = file.bytes.items;
  places = file.places.items;
  shortest = file.shortest;
  past = history_of file.past;
}

-- how many syncs have succeeded
abbrev pub syncs_of : MemFile → ℕ
syncs_of file = syncs_in (seen_of file)

-- the images that a crash now may leave
abbrev pub LeavesNow : MemFile → List ℕ → Type 0
LeavesNow file = Leaves (seen_of file)

-- the images that a crash may have left since so many syncs had succeeded
abbrev pub LeavesSince : MemFile → ℕ → List ℕ → Type 0
LeavesSince file = LeftSince (seen_of file)

-- the places that a crash may leave with any byte
abbrev pub Unsettled : MemFile → ℕ → Type 0
Unsettled file = MayTear (seen_of file)

-- the places that no sync settles before they are written again
abbrev pub LostPlace : MemFile → ℕ → Type 0
LostPlace file = HasLost (seen_of file)

-- a count with one more, up to 2^64 - 1
abbrev pub one_more : ℕ → ℕ
one_more count = min (count + 1) (2 ^ 64 - 1)

-- its next call was told to fail
abbrev pub IsTold : MemFile → Type 0
IsTold file = Contains (failing_of file) (one_more (calls_of file))

-- so many bytes from an offset pass its end
abbrev pub PassesEnd : MemFile → ℕ → ℕ → Type 0
PassesEnd file at count = length (bytes_of file) < at + count

-- or its room
abbrev pub PassesRoom : MemFile → ℕ → ℕ → Type 0
PassesRoom file at count = room_of file < at + count

-- no sync more can succeed
abbrev pub IsSpent : MemFile → Type 0
IsSpent file = limit_of file ≤ syncs_of file

-- what it was made with stays
pub record IsSameSetup (old new : MemFile) : Type 0 where
  pub room : room_of new ≡ room_of old
  pub limit : limit_of new ≡ limit_of old
  pub failing : failing_of new ≡ failing_of old

-- one call more was made, and what it was made with stays
pub record IsCalled (old new : MemFile) : Type 0 where
  pub setup : IsSameSetup old new
  pub counted : calls_of new ≡ one_more (calls_of old)

-- nothing but the counts has changed
pub record IsUntouched (old new : MemFile) : Type 0 where
  pub seen : seen_of new ≡ seen_of old
  pub device : device_of new ≡ device_of old
