-- The groups that wait in memory for a flush. Of each there are as many bytes as a slot has: its unit behind the gate,
-- which is its body, and then the gate of the slot after it.
use Rattle.std.specs.Prelude.{◌≡◌, ℕ, ◌+◌, ◌-◌, ◌^◌, ◌<◌, ◌≤◌, List, length, take}
use Rattle.std.specs.Prelude.{drop, map, get_or, slice_index, replicate, [], ◌∷◌, Bool, true, false}
use Rattle.std.specs.List.{AllByRecursion}
use Rattle.rb_base.specs.Fields.{part, number_at}
use Rattle.rb_base.specs.Groups.{Patch}
use Rattle.rb_base.specs.declared.sizes.TheConstants.{UNIT}
use Rattle.rb_group.specs.Spelling.{group_in_front}
use Rattle.rb_layout.specs.declared.layout.Head.{Head}
use Rattle.rb_layout.specs.declared.layout.Layout.{Layout}
use Rattle.rb_log.specs.GroupSlots.{IsLoggable, SameButGroups, group_unit}
use Rattle.rb_log.specs.Slots.{slot_of, log_unit, gate_of}
use Rattle.rb_log.specs.declared.sizes.TheConstants.{FLUSH_BYTES, FLUSH_SLOTS}
use Rattle.rb_log.specs.declared.unit.TheConstants.{GROUP, LENGTH}

-- the bytes without that gate
abbrev pub body_of : List ℕ → List ℕ
body_of unit = take (UNIT - 1) unit

-- and that gate
abbrev pub gate_after : List ℕ → ℕ
gate_after unit = slice_index unit (UNIT - 1)

abbrev pub bodies_of : List (List ℕ) → List (List ℕ)
bodies_of units = map body_of units

-- the group that a body spells
abbrev pub group_of_body : List ℕ → List Patch
group_of_body body = group_in_front (drop (GROUP - 1) body)

abbrev pub groups_of : List (List ℕ) → List (List Patch)
groups_of bodies = map group_of_body bodies

abbrev pub groups_in : List (List ℕ) → List (List Patch)
groups_in units = groups_of (bodies_of units)

-- each body is that of its group's unit, with consecutive numbers from this one on
abbrev pub AreSpelled : ℕ → List (List ℕ) → Type 0
AreSpelled number bodies = (k : ℕ) (d : List Patch) → k < length bodies
    → get_or bodies k [] ≡ drop 1 (group_unit 0 (number + k) (get_or (groups_of bodies) k d))

-- Units are written to the places of a file from `at` on: each body, and the gate after it. The gate of the first place
-- is as it was.
pub record UnitsWritten (l : Layout) (head : Head) (at : ℕ) (units : List (List ℕ)) (file c : List ℕ) :
    Type 0 where
  pub others : SameButGroups l head at (length units) file c
  pub bodies : (k : ℕ) → k < length units → drop 1 (log_unit l head c (at + k)) ≡ body_of (get_or units k [])
  pub gates : (k : ℕ) → k < length units → gate_of l head c (at + (k + 1)) ≡ gate_after (get_or units k [])

-- how many bytes the group of a body has, by the field that says so
abbrev pub length_in : List ℕ → ℕ
length_in body = number_at body (LENGTH - 1) 2

-- A body that the next group may be written over: it has a group or zeros, and 0 in each byte that a group's unit
-- doesn't name. So no more is to be cleared than a longer group leaves behind the next one.
pub record IsSpare (body : List ℕ) : Type 0 where
  pub within : length_in body ≤ UNIT - GROUP
  pub first : take (LENGTH - 1) body ≡ 0 ∷ []
  pub between : part body (LENGTH + 1) 4 ≡ replicate 4 0
  pub behind : drop (GROUP - 1 + length_in body) body ≡ replicate (UNIT - GROUP - length_in body) 0

-- each of these is one
abbrev pub AreSpare : List (List ℕ) → Type 0
AreSpare bodies = (k : ℕ) → k < length bodies → IsSpare (get_or bodies k [])

-- What the log has in memory: room for as many units as there are slots, of which one stays free, and 32 to scan.
-- Before the end is found the last of these are read ahead, up to the last slot of the file. No group's number is near
-- the end of its type. `bodies` are those that wait, the first of `all`.
pub record IsLogMemory (l : Layout) (head : Head) (used count : ℕ) (bodies all : List (List ℕ)) (scanned : Bool)
    (buffer : List ℕ) (ahead room : ℕ) : Type 0 where
  pub slot : head.slot < l.log
  pub small : head.number + (used + count) ≤ 2 ^ 63
  pub below : used + count < l.log
  pub enough : l.log ≤ room
  pub counts : length bodies ≡ count
  pub each : AllByRecursion (IsLoggable l) (groups_of bodies)
  pub spelled : AreSpelled (head.number + used) bodies
  pub spare : AreSpare all
  pub none : scanned ≡ false → count ≡ 0
  pub units : length buffer ≡ FLUSH_BYTES
  pub few : ahead ≤ FLUSH_SLOTS
  pub within : used + ahead < l.log
  pub in_line : slot_of l head used + ahead ≤ l.log
  pub ended : scanned ≡ true → ahead ≡ 0
