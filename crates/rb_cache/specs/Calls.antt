-- What a call of the cache leaves of its log and its disk, over a log that had these groups.
use Rattle.std.specs.Prelude.{◌≡◌, ◌≢◌, ◌⊎◌, ℕ, ◌+◌, List, [], length}
use Rattle.rb_base.specs.Groups.{Patch}
use Rattle.rb_disk.specs.DiskModel.{Only}
use Rattle.rb_disk.specs.Moments.{Leaves}
use Rattle.rb_disk.specs.declared.disk.Disk.{Ghosts}
use Rattle.rb_layout.specs.declared.layout.Layout.{Layout}
use Rattle.rb_log.specs.GroupSlots.{GroupsAre, LogState}
use Rattle.rb_log.specs.Slots.{gate_of}
use Rattle.rb_cache.specs.Frames.{seen, AreClean}
use Rattle.rb_cache.specs.OnDisk.{IsCalm, Later, OnDisk}
use Rattle.rb_cache.specs.declared.frame.Frame.{Frame}

-- a log whose groups were flushed
abbrev pub flushed : LogState → LogState
flushed s = record s { used = s.used + length s.pending; pending = [] }

-- a log stays as it is, or its groups are flushed
abbrev pub StaysOrFlushes : LogState → LogState → Type 0
StaysOrFlushes s t = (t ≡ s) ⊎ (t ≡ flushed s)

-- the log of a file has these groups in its slots
pub record LogHas (l : Layout) (s : LogState) (file : List ℕ) (groups : List (List Patch)) : Type 0 where
  pub count : length groups ≡ s.used
  pub log : GroupsAre l s.head file 0 groups

-- a block as it is seen at the start of a call
abbrev pub SeenAt : Layout → List ℕ → List Frame → ℕ → List ℕ → Type 0
SeenAt l file held which x = x ≡ seen l file held which

-- what each image has at any moment of a call
abbrev pub Leaving : {D : Type 0} → Ghosts D → Layout → LogState → D → D → (ℕ → List ℕ → Type 0)
    → Type 0
Leaving d l s old new may = (groups : List (List Patch)) → LogHas l s (d.content old) groups
    → Leaves d old new (OnDisk (d.image old) l s.head groups s.pending (d.content old) may)

-- a call that answered Ok, over a log that had these groups
pub record Done {D : Type 0} (d : Ghosts D) (l : Layout) (s t : LogState) (old new : D) (groups : List (List Patch))
    (may : ℕ → List ℕ → Type 0) : Type 0 where
  pub groups1 : List (List Patch)
  pub has : LogHas l t (d.content new) groups1
  pub later : Later (d.image old) (d.image new) l groups s.pending (d.content old) groups1 t.pending (d.content new) may

-- and over each
abbrev pub IsDone : {D : Type 0} → Ghosts D → Layout → LogState → LogState → D → D
    → (ℕ → List ℕ → Type 0) → Type 0
IsDone d l s t old new may = (groups : List (List Patch)) → LogHas l s (d.content old) groups
    → Done d l s t old new groups may

-- the gate behind the groups of a log is shut
abbrev pub IsShutBehind : Layout → LogState → List ℕ → Type 0
IsShutBehind l s file = gate_of l s.head file s.used ≢ 1

-- Then all is calm again, clean frames are their homes, and where the content was the only image it is. The gate behind
-- the groups of the log is shut, where it was.
pub record Settled {D : Type 0} (d : Ghosts D) (l : Layout) (s t : LogState) (held : List Frame) (old new : D) :
    Type 0 where
  pub calm : IsCalm (d.image new) l (d.content new)
  pub clean : AreClean l (d.content new) held
  pub only : Only (d.content old) (d.image old) → Only (d.content new) (d.image new)
  pub shut : IsShutBehind l s (d.content old) → IsShutBehind l t (d.content new)
