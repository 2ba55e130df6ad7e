-- Batches of blocks, and the bytes that name and hold them: a header of a unit, and up to eight images behind it.
use Rattle.std.specs.Prelude.{◌≡◌, ◌≢◌, ℕ, zero, suc, ◌+◌, ◌*◌, ◌<◌, ◌≤◌, ◌==◌}
use Rattle.std.specs.Prelude.{if◌then◌else◌, List, [], ◌∷◌, length, slice_index}
use Rattle.std.specs.List.{AllByRecursion}
use Rattle.rb_base.specs.Fields.{part, number_at}
use Rattle.rb_base.specs.declared.sizes.TheConstants.{UNIT}

-- a block as it is to stand at home
pub record Image : Type 0 where
  pub no : ℕ
  pub unit : List ℕ

-- A block after a batch: its image, the first where there are several, and what stood there where there is none.
abbrev pub with_batch : List Image → ℕ → List ℕ → List ℕ
with_batch [] which unit = unit
with_batch (image ∷ images) which unit = if image.no == which then image.unit else with_batch images which unit

-- no image is of that block
abbrev pub IsNoneOf : ℕ → List Image → Type 0
IsNoneOf which images = AllByRecursion (λ image. image.no ≢ which) images

-- no two are of one block
abbrev pub Differ : List Image → Type 0
Differ [] = Unit {0}
Differ (image ∷ images) = IsNoneOf image.no images × Differ images

-- one to eight images of different blocks of so many
pub record IsBatch (blocks : ℕ) (images : List Image) : Type 0 where
  pub some : 0 < length images
  pub few : length images ≤ 8
  pub differ : Differ images
  pub within : AllByRecursion (λ image. image.no < blocks) images

-- The bytes of the area: byte 1 is a count, and from byte 8 on as many numbers of blocks stand. Each has an image, in
-- the units behind the header in order.
abbrev pub images_in : List ℕ → ℕ → ℕ → List Image
images_in area place zero = []
images_in area place (suc count) =
    record { no = number_at area (8 + 4 * place) 4; unit = part area (UNIT * (place + 1)) UNIT }
    ∷ images_in area (place + 1) count

abbrev pub batch_in : List ℕ → List Image
batch_in area = images_in area 0 (slice_index area 1)

-- The spare bytes of a header are 0: those between the count and the numbers, and those behind the last number.
pub record IsSpareZero (area : List ℕ) : Type 0 where
  pub front : (k : ℕ) → 2 ≤ k → k < 8 → slice_index area k ≡ 0
  pub behind : (k : ℕ) → 8 + 4 * length (batch_in area) ≤ k → k < UNIT → slice_index area k ≡ 0
