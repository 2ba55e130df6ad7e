-- Which homes a table keeps, under which keys, and which of them serves a reader.
use Rattle.std.specs.Prelude.{◌≡◌, ◌≤◌, ◌-◌, ◌==◌, ◌&&◌, ℕ, Bool, List, ◌∷◌, length}
use Rattle.std.specs.Prelude.{Option, Some, take}
use Rattle.std.specs.List.{IsDistinct}
use Rattle.std.specs.Map.{keys_of, lookup, remove_entry}
use Rattle.std.specs.Option.{option_map_or}
use Rattle.rb_copies.specs.declared.homes.CopyKey.{CopyKey}
use Rattle.rb_copies.specs.declared.homes.KeptHome.{KeptHome}

-- the homes with their keys, the latest used first
abbrev pub KeptHomes : Type 0
KeptHomes = List (CopyKey × KeptHome)

-- what a table keeps, and how many it has room for
pub record CopyTable : Type 0 where
  pub kept : KeptHomes
  pub most : ℕ

abbrev pub table_of : KeptHomes → ℕ → CopyTable
table_of kept most = record { kept = kept; most = most }

abbrev pub copy_key : ℕ → ℕ → CopyKey
copy_key block scn = record { block = block; scn = scn }

-- whether two keys are one
abbrev pub same_key : CopyKey → CopyKey → Bool
same_key a b = (a.block == b.block) && (a.scn == b.scn)

-- the home that is kept under a key
abbrev pub kept_under : KeptHomes → CopyKey → Option KeptHome
kept_under kept key = lookup (same_key key) kept

-- all but the home under that key
abbrev pub others_of : KeptHomes → CopyKey → KeptHomes
others_of kept key = remove_entry (same_key key) kept

-- no key has two homes, and there is room for all
pub record IsTable (table : CopyTable) : Type 0 where
  pub once : IsDistinct same_key (keys_of table.kept)
  pub few : length table.kept ≤ table.most

-- after a use: the home that was used stands in front of the others
abbrev pub used : CopyTable → CopyKey → CopyTable
used table key = option_map_or (λ home. table_of ((key, home) ∷ others_of table.kept key) table.most)
    (kept_under table.kept key) table

-- After a home was put: it stands in front of the others, and of these the first are left for which there is room. So
-- from a full table the one used longest ago goes.
abbrev pub with_copy : CopyTable → CopyKey → KeptHome → CopyTable
with_copy table key home = table_of ((key, home) ∷ take (table.most - 1) (others_of table.kept key)) table.most

-- At m, which is at least n, a home of the block is kept that had this log number.
pub record Serves (kept : KeptHomes) (block number n m : ℕ) : Type 0 where
  pub home : KeptHome
  pub there : kept_under kept (copy_key block m) ≡ Some home
  pub unchanged : home.number ≡ number
  pub high : n ≤ m

-- the least such number
pub record IsLeast (kept : KeptHomes) (block number n m : ℕ) : Type 0 where
  pub serves : Serves kept block number n m
  pub least : (k : ℕ) → Serves kept block number n k → m ≤ k
