-- Ranges of bytes in a file: which files agree outside one or within it, and what a crash in a write to it leaves.
use Rattle.std.specs.Prelude.{◌≡◌, ℕ, ◌-◌, List, length, take, drop}
use Rattle.rb_base.specs.Fields.{part}
use Rattle.rb_disk.specs.DiskModel.{Torn}

-- two files of one length have the same bytes before the first place and from the last on
pub record SameBut (first last : ℕ) (file other : List ℕ) : Type 0 where
  pub long : length other ≡ length file
  pub before : take first other ≡ take first file
  pub behind : drop last other ≡ drop last file

-- two files of one length have the same bytes from the first place to before the last
pub record SamePart (first last : ℕ) (file other : List ℕ) : Type 0 where
  pub long : length other ≡ length file
  pub same : part other first (last - first) ≡ part file first (last - first)

-- what a torn write of `count` bytes at `at` leaves of one of these images
abbrev pub TornFrom : ℕ → ℕ → (List ℕ → Type 0) → List ℕ → Type 0
TornFrom at count image c = (d : List ℕ) × image d × Torn at count d c
