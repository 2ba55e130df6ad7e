-- What the flush of a log and the write of a batch say where they answer Ok, as a call that evicts uses it.
use Rattle.std.specs.Prelude.{◌≡◌, ℕ, ◌++◌, List}
use Rattle.rb_base.specs.Groups.{Patch}
use Rattle.rb_disk.specs.DiskModel.{Only}
use Rattle.rb_disk.specs.Moments.{Leaves}
use Rattle.rb_disk.specs.Ranges.{SameBut}
use Rattle.rb_disk.specs.declared.disk.Disk.{Ghosts}
use Rattle.rb_layout.specs.Regions.{file_length, twin_offset}
use Rattle.rb_layout.specs.declared.layout.Head.{Head}
use Rattle.rb_layout.specs.declared.layout.Layout.{Layout}
use Rattle.rb_log.specs.GroupSlots.{FlushedOrNot, GroupsAre}
use Rattle.rb_log.specs.Slots.{SameOutside, SameSlots}
use Rattle.rb_twin.specs.Batches.{Image, with_batch}
use Rattle.rb_twin.specs.Twins.{home, twin_gate, TwinSome}

-- a flush of a log that answered Ok, over a log that had these groups
pub record Flushed {D : Type 0} (d : Ghosts D) (l : Layout) (head : Head) (groups pending : List (List Patch))
    (old new : D) : Type 0 where
  pub any_moment : Leaves d old new (FlushedOrNot (d.image old) l head groups pending)
  pub log : GroupsAre l head (d.content new) 0 (groups ++ pending)
  pub outside : SameOutside l.log (d.content old) (d.content new)
  pub durable : (c : List ℕ) → d.image new c → SameSlots l.log (d.content new) c

-- a write of a batch that answered Ok
pub record TwinWrote {D : Type 0} (d : Ghosts D) (l : Layout) (batch : List Image) (old new : D) : Type 0 where
  pub any_moment : Leaves d old new (TwinSome (d.image old) l batch (d.content old))
  pub outside : SameBut (twin_offset l 0) (file_length l) (d.content old) (d.content new)
  pub written : (which : ℕ) → home l (d.content new) which ≡ with_batch batch which (home l (d.content old) which)
  pub durable : Only (d.content new) (d.image new)
  pub shut : twin_gate l (d.content new) ≡ 0
