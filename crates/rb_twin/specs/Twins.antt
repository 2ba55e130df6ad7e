-- The twin area of a file, and what block it makes the file keep.
use Rattle.std.specs.Prelude.{◌≡◌, ◌⊎◌, ℕ, ◌-◌, ◌*◌, ◌<◌, ◌≤◌, ◌==◌}
use Rattle.std.specs.Prelude.{if◌then◌else◌, List, slice_index, length}
use Rattle.std.specs.List.{AllByRecursion}
use Rattle.rb_base.specs.Fields.{part}
use Rattle.rb_base.specs.declared.sizes.TheConstants.{UNIT}
use Rattle.rb_disk.specs.Ranges.{SameBut}
use Rattle.rb_layout.specs.Regions.{twin_offset, block_offset, block_count, file_length}
use Rattle.rb_layout.specs.declared.layout.Layout.{Layout}
use Rattle.rb_twin.specs.Batches.{Image, IsBatch, IsNoneOf, IsSpareZero, Differ, with_batch, batch_in}

-- a block as it stands at home
abbrev pub home : Layout → List ℕ → ℕ → List ℕ
home l file which = part file (block_offset l which) UNIT

-- the bytes of the twin area: its header and eight units
abbrev pub twin_area : Layout → List ℕ → List ℕ
twin_area l file = part file (twin_offset l 0) (UNIT * 9)

-- Its gate is open exactly where this is 1.
abbrev pub twin_gate : Layout → List ℕ → ℕ
twin_gate l file = slice_index file (twin_offset l 0)

-- The block that the file keeps: by the batch in the twin area where the gate is open, and at home.
abbrev pub kept : Layout → List ℕ → ℕ → List ℕ
kept l file which =
    if twin_gate l file == 1 then with_batch (batch_in (twin_area l file)) which (home l file which)
    else home l file which

-- An open twin area has a batch of the file's blocks.
abbrev pub IsTwin : Layout → List ℕ → Type 0
IsTwin l file = twin_gate l file ≡ 1 → IsBatch (block_count l) (batch_in (twin_area l file))

-- An image of a batch: in front of the twin area it is as an image of before, and all blocks are kept as the file had
-- them at home, or all as the batch has them.
pub record TwinSome (image : List ℕ → Type 0) (l : Layout) (batch : List Image) (file c : List ℕ) : Type 0 where
  pub outside : (d : List ℕ) × image d × SameBut (twin_offset l 0) (file_length l) d c
  pub twin : IsTwin l c
  pub blocks : ((which : ℕ) → kept l c which ≡ home l file which)
      ⊎ ((which : ℕ) → kept l c which ≡ with_batch batch which (home l file which))

-- An image of a repair: the same outside, and each block is kept as before.
pub record Repaired (image : List ℕ → Type 0) (l : Layout) (file c : List ℕ) : Type 0 where
  pub outside : (d : List ℕ) × image d × SameBut (twin_offset l 0) (file_length l) d c
  pub twin : IsTwin l c
  pub blocks : (which : ℕ) → kept l c which ≡ kept l file which

-- Files of one length with the same bytes in front of the blocks, and the same blocks at home but those of a batch.
pub record SameButHomes (l : Layout) (batch : List Image) (file other : List ℕ) : Type 0 where
  pub front : SameBut (block_offset l 0) (file_length l) file other
  pub homes : (which : ℕ) → IsNoneOf which batch → home l other which ≡ home l file which

-- Files of one length with the same bytes but in the gate.
pub record SameBehindGate (l : Layout) (file other : List ℕ) : Type 0 where
  pub others : SameBut (twin_offset l 0) (block_offset l 0) file other
  pub area : part (twin_area l other) 1 (UNIT * 9 - 1) ≡ part (twin_area l file) 1 (UNIT * 9 - 1)

-- What the first step leaves of one of these images: another header and other images behind the same gate.
abbrev pub StagedFrom : Layout → (List ℕ → Type 0) → List ℕ → Type 0
StagedFrom l image c =
    (d : List ℕ) × image d × SameBut (twin_offset l 0) (block_offset l 0) d c × (twin_gate l c ≡ twin_gate l d)

-- what the second leaves, or the fourth: any gate
abbrev pub GateFrom : Layout → (List ℕ → Type 0) → List ℕ → Type 0
GateFrom l image c = (d : List ℕ) × image d × SameBehindGate l d c

-- what the third leaves: any bytes in the homes of the batch
abbrev pub HomesFrom : Layout → List Image → (List ℕ → Type 0) → List ℕ → Type 0
HomesFrom l batch image c = (d : List ℕ) × image d × SameButHomes l batch d c

-- what a twin is at a moment: the batch that the next write brings home
pub record TwinState : Type 0 where
  pub layout : Layout
  pub batch : List Image

-- The bytes of a batch in memory: room for eight images, and no two of one block.
pub record IsTwinMemory (l : Layout) (area : List ℕ) : Type 0 where
  pub whole : length area ≡ UNIT * 9
  pub few : length (batch_in area) ≤ 8
  pub differ : Differ (batch_in area)
  pub within : AllByRecursion (λ image. image.no < block_count l) (batch_in area)
  pub spare : IsSpareZero area
