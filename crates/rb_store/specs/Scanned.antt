-- What an opening has scanned of a log, and the groups that it keeps.
use Rattle.std.specs.Prelude.{◌≡◌, ℕ, ◌<◌, ◌≤◌, true, false, List, [], length}
use Rattle.std.specs.List.{AllByRecursion}
use Rattle.rb_base.specs.Groups.{Patch}
use Rattle.rb_layout.specs.declared.layout.Head.{Head}
use Rattle.rb_layout.specs.declared.layout.Layout.{Layout}
use Rattle.rb_log.specs.GroupSlots.{LogState, AreFrom, GroupsAre, BeginsWithGroups, IsLoggable}
use Rattle.rb_log.specs.Slots.{slot_of}

-- The log is scanned up to some place. It begins with these groups, where it is told, and there is room for all that it
-- may have.
pub record HasScanned (told : Type 0) (l : Layout) (head : Head) (file : List ℕ) (log : LogState)
    (groups : List (List Patch)) (room : ℕ) : Type 0 where
  pub log_is : log ≡ record {
    layout = l;
    head = head;
    used = length groups;
    pending = [];
    scanned = false;
    ahead = log.ahead;
  }
  pub few : length groups < l.log
  pub enough : l.log ≤ room
  pub valid : AllByRecursion (IsLoggable l) groups
  pub begins : told → BeginsWithGroups l head file 0 groups
  pub ahead : told → AreFrom file (slot_of log.layout log.head log.used) log.ahead

-- The log is scanned to its end: it has these groups and no more.
pub record HasScannedAll (told : Type 0) (l : Layout) (head : Head) (file : List ℕ) (log : LogState)
    (groups : List (List Patch)) : Type 0 where
  pub log_is : log ≡ record {
    layout = l;
    head = head;
    used = length groups;
    pending = [];
    scanned = true;
    ahead = [];
  }
  pub few : length groups < l.log
  pub valid : AllByRecursion (IsLoggable l) groups
  pub ends : told → GroupsAre l head file 0 groups
