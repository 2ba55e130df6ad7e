-- What the past of a memory file is seen as.
use Rattle.std.specs.Prelude.{ℕ, length}
use Rattle.rb_memfile.specs.declared.past.Past.{Past}
use Rattle.rb_memfile.specs.Images.{History}

-- what was read before each sync that succeeded
abbrev pub history_of : Past → History
history_of past = record { snapshots = past.snapshots.items; bytes = past.bytes.items; places = past.places.items }

-- how many syncs succeeded
abbrev pub count_of : Past → ℕ
count_of past = length past.snapshots.items

-- how many bytes each may have
abbrev pub room_in : Past → ℕ
room_in past = past.room

-- how many it has places for
abbrev pub limit_in : Past → ℕ
limit_in past = past.limit
