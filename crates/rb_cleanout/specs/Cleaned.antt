-- How transactions stand by the blocks of a file, and how far the cleaning of a block's copy has come.
use Rattle.std.specs.Prelude.{◌≡◌, ℕ, zero, suc, ◌+◌, ◌<◌, ◌≤◌, nat_lt, Bool, false, ◌&&◌}
use Rattle.std.specs.Prelude.{if◌then◌else◌, List, length, slice_index_or}
use Rattle.std.specs.List.{AllByRecursion}
use Rattle.rb_base.specs.Blocks.{block_of, header_block, written_to}
use Rattle.rb_base.specs.Copies.{SamePatches}
use Rattle.rb_base.specs.Groups.{IsGroup, Patch, group_length}
use Rattle.rb_base.specs.declared.ids.Xid.{Xid}
use Rattle.rb_base.specs.declared.shape.Shape.{Shape}
use Rattle.rb_base.specs.declared.sizes.TheConstants.{SLOTS}
use Rattle.rb_cell.specs.Cells.{locked_by}
use Rattle.rb_heap.specs.Cleaning.{cleaned_entry, cleaned_home, to_clean, IsCleanPatch}
use Rattle.rb_heap.specs.Homes.{Home, home_cell, home_entry, home_of}
use Rattle.rb_itl.specs.declared.slots.TheConstants.{OPEN}
use Rattle.rb_txntable.specs.Looks.{slot_look}
use Rattle.rb_txntable.specs.Slots.{slot_at}
use Rattle.rb_txntable.specs.declared.looks.Look.{Look}
use Rattle.rb_txntable.specs.declared.looks.Look.TheVariants.{Active}

-- How a transaction stands, as the header of its segment tells. One of a slot that isn't there counts as running.
abbrev pub look_of : Shape → List (List ℕ) → Xid → Look
look_of shape blocks x =
    if nat_lt x.seg shape.segments && nat_lt x.slot SLOTS
    then slot_look (slot_at (block_of blocks (header_block shape x.seg)) x.slot) x.wrap
    else Active

-- The copy of that block and the group have the same patches more, each of a cleaning: at most so many, and so many
-- bytes.
pub record Cleans (block : ℕ) (old now : List ℕ) (held holds : List Patch) (count bytes : ℕ) : Type 0 where
  pub patches : List Patch
  pub same : SamePatches block old now held holds patches
  pub each : AllByRecursion (IsCleanPatch block) patches
  pub few : length holds ≤ length held + count
  pub short : group_length holds ≤ group_length held + bytes

-- The first `count` entries are cleaned, and of each of them its flag says whether it was to be. The others are as they
-- were, and so are the cells.
pub record EntriesCleaned (look : Xid → Look) (count : ℕ) (old now : Home) (flags : List Bool) : Type 0 where
  pub before : (i : ℕ) → i < count → home_entry now i ≡ cleaned_entry look (home_entry old i)
  pub behind : (i : ℕ) → count ≤ i → home_entry now i ≡ home_entry old i
  pub told : (i : ℕ) → i < count → slice_index_or flags i false ≡ to_clean look (home_entry old i)
  pub cells : now.cells ≡ old.cells

-- whether a lock names an entry whose flag is set
abbrev pub is_named : List Bool → ℕ → Bool
is_named flags zero = false
is_named flags (suc i) = slice_index_or flags i false

-- The locks of the first `count` cells are cleared where they name such an entry. All else is as it was.
pub record LocksCleared (flags : List Bool) (count : ℕ) (old now : Home) : Type 0 where
  pub before : (c : ℕ) → c < count → home_cell now c
      ≡ (if is_named flags (home_cell old c).lock then locked_by (home_cell old c) 0 else home_cell old c)
  pub behind : (c : ℕ) → count ≤ c → home_cell now c ≡ home_cell old c
  pub entries : now.entries ≡ old.entries

-- some entry of the home is Open
abbrev pub HasOpen : Home → Type 0
HasOpen home = (i : ℕ) × ((home_entry home i).kind ≡ OPEN)

-- The patches of a group that cleans block b, as one of a store.
abbrev pub IsPlan : ℕ → List Patch → Type 0
IsPlan b group = (0 < length group) × IsGroup group × AllByRecursion (IsCleanPatch b) group

-- Patches that clean a block: of the block so patched the home is the cleaned one.
abbrev pub PlansClean : (Xid → Look) → ℕ → List Patch → List ℕ → Type 0
PlansClean look b patches block = home_of (written_to b patches block) ≡ cleaned_home look (home_of block)
