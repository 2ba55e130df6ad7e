-- Calls that leave a disk and its images as they were, one or several; and what a disk's images have at each moment.
use Rattle.std.specs.Prelude.{◌≡◌, ℕ, List}
use Rattle.std.proofs.Common.{◌∙◌}
use Rattle.rb_base.specs.Moments.{NoMore, Passes, LeavesNoMore, LeavesOnly, one_call, more_calls, still_leaves}
use Rattle.rb_disk.specs.declared.disk.Disk.{Ghosts}

-- Each image that a crash at some moment since the disk was `old` may have left has P.
abbrev pub Leaves : {D : Type 0} → Ghosts D → D → D → (List ℕ → Type 0) → Type 0
Leaves d old new P = LeavesOnly d.moment d.image_since old new P

-- The disk reads as before, and a crash at some moment since may have left nothing but what it might have left
-- at the start.
pub record Rests {D : Type 0} (d : Ghosts D) (old new : D) : Type 0 where
  pub same : d.content new ≡ d.content old
  pub crashes : LeavesNoMore d.image d.moment d.image_since old new

module _ {D : Type 0} (d : Ghosts D) where
  -- one call that changes nothing
  pub rests : (old new : D) → d.content new ≡ d.content old → NoMore (d.image old) (d.image new)
      → Passes (d.moment old) (d.moment new) (d.image_since old) (d.image_since new) (d.image new) → Rests d old new
  rests old new same no_more time = record {
    same = same;
    crashes = one_call d.image d.moment d.image_since old new no_more time;
  }

  -- several such calls after several others
  pub rests_on : (old mid new : D) → Rests d old mid → Rests d mid new → Rests d old new
  rests_on old mid new first second = record {
    same = second.same ∙ first.same;
    crashes = more_calls d.image d.moment d.image_since old mid new first.crashes second.crashes;
  }

  -- such calls leave P where each image has it already
  pub rests_leave : (old new : D) (P : List ℕ → Type 0)
      → ((c : List ℕ) → d.image_since old (d.moment old) c → d.image old c)
      → ((c : List ℕ) → d.image old c → P c) → Rests d old new → Leaves d old new P
  rests_leave old new P only_now here still =
      still_leaves d.image d.moment d.image_since old new P only_now here still.crashes
