-- What a record of calls means: what is read after them, which images a crash may leave, and the picked one.
-- `file` is what was read before the calls, and `written` has the bytes of the writes that were done, in a row.
use Rattle.std.specs.Prelude.{◌≡◌, ℕ, Bool, true, false, List, [], ◌∷◌, length, take, drop, replicate}
use Rattle.std.specs.Prelude.{nat_le, ◌&&◌, ◌≤◌}
use Rattle.rb_base.specs.Fields.{overwritten}
use Rattle.rb_disk.specs.DiskModel.{Torn}
use Rattle.rb_memdisk.specs.declared.call.Call.{Call}
use Rattle.rb_memdisk.specs.declared.call.Call.TheVariants.{Length, Read, Write, Sync}
use Rattle.rb_memdisk.specs.declared.pick.Pick.{Pick}
use Rattle.rb_memdisk.specs.declared.pick.Pick.TheVariants.{Old, New, Fill}

-- what is read after one call
abbrev pub read_after : List ℕ → Call → List ℕ → List ℕ
read_after file Length written = file
read_after file Read written = file
read_after file (Write at count true) written = overwritten file at (take count written)
read_after file (Write at count false) written = file
read_after file (Sync done) written = file

-- the written bytes that are left for later calls
abbrev pub left_after : Call → List ℕ → List ℕ
left_after Length written = written
left_after Read written = written
left_after (Write at count true) written = drop count written
left_after (Write at count false) written = written
left_after (Sync done) written = written

-- what is read after all of them
abbrev pub read_after_all : List ℕ → List Call → List ℕ → List ℕ
read_after_all file [] written = file
read_after_all file (call ∷ calls) written = read_after_all (read_after file call written) calls
    (left_after call written)

-- the written bytes that none of them took
abbrev pub left_after_all : List Call → List ℕ → List ℕ
left_after_all [] written = written
left_after_all (call ∷ calls) written = left_after_all calls (left_after call written)

-- a write begins within the length or at it, and one that was done has its bytes
abbrev pub fits_one : List ℕ → Call → List ℕ → Bool
fits_one file Length written = true
fits_one file Read written = true
fits_one file (Write at count true) written = nat_le at (length file) && nat_le count (length written)
fits_one file (Write at count false) written = nat_le at (length file)
fits_one file (Sync done) written = true

-- each of them does
abbrev pub fits : List ℕ → List Call → List ℕ → Bool
fits file [] written = true
fits file (call ∷ calls) written = fits_one file call written && fits (read_after file call written) calls
    (left_after call written)

-- The images that a crash after a call may leave, where `images` are those before it: a write, done or not, may
-- tear each of them, and a sync that succeeded leaves only what is read.
abbrev pub images_after : (List ℕ → Type 0) → List ℕ → Call → List ℕ → Type 0
images_after images file Length c = images c
images_after images file Read c = images c
images_after images file (Write at count done) c = (d : List ℕ) × images d × Torn at count d c
images_after images file (Sync true) c = c ≡ file
images_after images file (Sync false) c = images c

-- the images that a crash after all of them may leave
abbrev pub images_after_all : (List ℕ → Type 0) → List ℕ → List Call → List ℕ → List ℕ → Type 0
images_after_all images file [] written c = images c
images_after_all images file (call ∷ calls) written c =
    images_after_all (images_after images file call) (read_after file call written) calls (left_after call written) c

-- The picked image after a call, where `image` is the one before it and `file` what is read after it.
abbrev pub picked_after : Pick → List ℕ → Call → List ℕ → List ℕ
picked_after New image call file = file
picked_after Old image (Sync true) file = file
picked_after Old image call file = image
picked_after (Fill byte) image Length file = image
picked_after (Fill byte) image Read file = image
picked_after (Fill byte) image (Write at count done) file = overwritten image at (replicate count byte)
picked_after (Fill byte) image (Sync true) file = file
picked_after (Fill byte) image (Sync false) file = image

-- the picked image after all of them
abbrev pub picked_after_all : Pick → List ℕ → List ℕ → List Call → List ℕ → List ℕ
picked_after_all pick image file [] written = image
picked_after_all pick image file (call ∷ calls) written =
    picked_after_all pick (picked_after pick image call (read_after file call written)) (read_after file call written)
    calls (left_after call written)

-- of a disk that began with the bytes `first`, all of them synced: the images after the first k calls
abbrev pub MayLeave : List ℕ → List Call → List ℕ → ℕ → List ℕ → Type 0
MayLeave first calls written k c = images_after_all (λ d. d ≡ first) first (take k calls) written c

-- and those after the first k calls for some k from t on
abbrev pub MayLeaveSince : List ℕ → List Call → List ℕ → ℕ → List ℕ → Type 0
MayLeaveSince first calls written t c = (k : ℕ) × (t ≤ k) × (k ≤ length calls)
    × MayLeave first calls written k c

-- whether a call is a sync
abbrev pub is_sync : Call → Bool
is_sync (Sync done) = true
is_sync _ = false

-- a call that leaves what is read and takes no bytes: any but a write that was done
abbrev pub IsIdle : List ℕ → Call → Type 0
IsIdle file Length = Unit {0}
IsIdle file Read = Unit {0}
IsIdle file (Write at count true) = ⊥
IsIdle file (Write at count false) = at ≤ length file
IsIdle file (Sync done) = Unit {0}

-- a call that leaves the images of before as they were, or more of them:
-- neither a write that was done nor a sync that succeeded
abbrev pub IsUndone : List ℕ → Call → Type 0
IsUndone file Length = Unit {0}
IsUndone file Read = Unit {0}
IsUndone file (Write at count true) = ⊥
IsUndone file (Write at count false) = at ≤ length file
IsUndone file (Sync true) = ⊥
IsUndone file (Sync false) = Unit {0}

-- a fill begins within a file or at its end
abbrev pub CanFill : Pick → Call → List ℕ → Type 0
CanFill (Fill byte) (Write at count done) image = at ≤ length image
CanFill _ _ image = Unit {0}
