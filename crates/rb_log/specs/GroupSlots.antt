-- What the log slots of a file hold where groups of patches are logged. A slot has a unit as in `Slots`.
use Rattle.std.specs.Prelude.{◌≡◌, ◌≢◌, ◌⊎◌, ℕ, ◌+◌, ◌-◌}
use Rattle.std.specs.Prelude.{◌<◌, List}
use Rattle.std.specs.Prelude.{[], ◌∷◌, ◌++◌, length, drop, replicate, slice_index, Bool}
use Rattle.rb_log.specs.declared.unit.TheConstants.{GROUP, LENGTH, NUMBER}
use Rattle.byteorder.specs.Endian.{big_bytes}
use Rattle.rb_base.specs.Blocks.{AreWithin}
use Rattle.rb_base.specs.Fields.{part, number_at}
use Rattle.rb_base.specs.Groups.{Patch, group_length, IsGroup}
use Rattle.rb_base.specs.declared.sizes.TheConstants.{UNIT}
use Rattle.rb_group.specs.Spelling.{group_bytes, SpellsGroup}
use Rattle.rb_layout.specs.Regions.{log_offset, shape_of}
use Rattle.rb_layout.specs.declared.layout.Head.{Head}
use Rattle.rb_layout.specs.declared.layout.Layout.{Layout}
use Rattle.rb_log.specs.Slots.{log_unit, gate_of, SameOutside}

-- The log takes this group: it has a patch, and its blocks are those of the file.
pub record IsLoggable (l : Layout) (group : List Patch) : Type 0 where
  pub valid : IsGroup group
  pub some : 0 < length group
  pub within : AreWithin (shape_of l) group

-- The body of a unit holds this group under this number, and its blocks are those of the file.
pub record HasGroup (l : Layout) (unit : List ℕ) (number : ℕ) (group : List Patch) : Type 0 where
  pub numbered : number_at unit NUMBER 8 ≡ number
  pub spelled : SpellsGroup (part unit GROUP (number_at unit LENGTH 2)) group
  pub long : number_at unit LENGTH 2 ≡ group_length group
  pub within : AreWithin (shape_of l) group

-- and its gate is open
pub record HoldsGroup (l : Layout) (unit : List ℕ) (number : ℕ) (group : List Patch) : Type 0 where
  pub opened : slice_index unit 0 ≡ 1
  pub body : HasGroup l unit number group

-- The log of a file from a place on: these groups in order, with consecutive numbers, up to a closed gate or the last
-- place, which stays free.
abbrev pub GroupsAre : Layout → Head → List ℕ → ℕ → List (List Patch) → Type 0
GroupsAre l head file place [] = (place + 1 ≡ l.log) ⊎ (gate_of l head file place ≢ 1)
GroupsAre l head file place (group ∷ groups) =
    (place + 1 < l.log) × HoldsGroup l (log_unit l head file place) (head.number + place) group
    × GroupsAre l head file (place + 1) groups

-- the log begins with these groups from a place on, whatever follows
abbrev pub BeginsWithGroups : Layout → Head → List ℕ → ℕ → List (List Patch) → Type 0
BeginsWithGroups l head file place [] = Unit {0}
BeginsWithGroups l head file place (group ∷ groups) =
    (place + 1 < l.log) × HoldsGroup l (log_unit l head file place) (head.number + place) group
    × BeginsWithGroups l head file (place + 1) groups

-- a place that the log reaches is open and holds no group of its number
pub record IsFaultyGroup (l : Layout) (head : Head) (file : List ℕ) (place : ℕ) : Type 0 where
  pub reached : place + 1 < l.log
  pub opened : gate_of l head file place ≡ 1
  pub none : (group : List Patch) → HasGroup l (log_unit l head file place) (head.number + place) group → ⊥

-- a unit as it is written: what isn't named is 0
abbrev pub group_unit : ℕ → ℕ → List Patch → List ℕ
group_unit gate number group =
    gate ∷ 0 ∷ big_bytes 2 (group_length group) ++ 0 ∷ 0 ∷ 0 ∷ 0 ∷ big_bytes 8 number ++ group_bytes group
    ++ replicate (UNIT - GROUP - group_length group) 0

-- Two files of one length are the same but for `count` groups from place `end` on: the body of that place, the units of
-- the others, and the gate behind these.
pub record SameButGroups (l : Layout) (head : Head) (end count : ℕ) (file c : List ℕ) : Type 0 where
  pub outside : SameOutside l.log file c
  pub units : (k : ℕ) → k < l.log → (k < end) ⊎ (end + count < k)
      → log_unit l head c k ≡ log_unit l head file k
  pub behind : drop 1 (log_unit l head c (end + count)) ≡ drop 1 (log_unit l head file (end + count))
  pub gate : gate_of l head c end ≡ gate_of l head file end

-- The same, but the gate of place `end` may be another one too.
pub record SameButUnits (l : Layout) (head : Head) (end count : ℕ) (file c : List ℕ) : Type 0 where
  pub outside : SameOutside l.log file c
  pub units : (k : ℕ) → k < l.log → (k < end) ⊎ (end + count < k)
      → log_unit l head c k ≡ log_unit l head file k
  pub behind : drop 1 (log_unit l head c (end + count)) ≡ drop 1 (log_unit l head file (end + count))

-- An image of step one of a flush: one of before, but for what is written of so many groups from a place on. The gate
-- of that place is as it was.
abbrev pub StagedFrom : Layout → Head → ℕ → ℕ → (List ℕ → Type 0) → List ℕ → Type 0
StagedFrom l head end count image c = (d : List ℕ) × image d × SameButGroups l head end count d c

-- Two files of one length are the same but for the gate of a place.
pub record SameButGate (l : Layout) (head : Head) (place : ℕ) (file c : List ℕ) : Type 0 where
  pub outside : SameOutside l.log file c
  pub units : (k : ℕ) → k < l.log → k ≢ place → log_unit l head c k ≡ log_unit l head file k
  pub body : drop 1 (log_unit l head c place) ≡ drop 1 (log_unit l head file place)

-- An image of a flush: its log has the groups of before, or these and all that wait. Outside the log it is as an image
-- of before.
pub record FlushedOrNot (image : List ℕ → Type 0) (l : Layout) (head : Head) (groups pending : List (List Patch))
    (c : List ℕ) : Type 0 where
  pub outside : (d : List ℕ) × image d × SameOutside l.log d c
  pub log : GroupsAre l head c 0 groups ⊎ GroupsAre l head c 0 (groups ++ pending)

-- An image with the same groups. Outside the log it is as an image of before.
pub record KeptLog (image : List ℕ → Type 0) (l : Layout) (head : Head) (groups : List (List Patch))
    (c : List ℕ) : Type 0 where
  pub outside : (d : List ℕ) × image d × SameOutside l.log d c
  pub log : GroupsAre l head c 0 groups

-- bytes are those of a file from a slot on
abbrev pub AreFrom : List ℕ → ℕ → List ℕ → Type 0
AreFrom file slot bytes = bytes ≡ part file (log_offset slot) (length bytes)

-- what a log of groups is at a moment
pub record LogState : Type 0 where
  pub layout : Layout
  -- where its first group stands, and that group's number
  pub head : Head
  -- how many slots hold groups that were scanned or flushed
  pub used : ℕ
  -- what the next flush writes
  pub pending : List (List Patch)
  -- whether a scan has found the end
  pub scanned : Bool
  -- what a scan has read ahead: bytes of the units from place `used` on
  pub ahead : List ℕ
