-- What a home that is kept in memory stands for, as the machine's state and the blocks of a file have it.
use Rattle.std.specs.Prelude.{◌≡◌, ℕ, List, map, Some}
use Rattle.law_aging.specs.Kept.{IsKept}
use Rattle.rb_base.specs.declared.ids.Xid.{Xid}
use Rattle.rb_copies.specs.Copies.{KeptHomes, kept_under}
use Rattle.rb_copies.specs.declared.homes.CopyKey.{CopyKey}
use Rattle.rb_copies.specs.declared.homes.KeptHome.{KeptHome}
use Rattle.rb_cr.specs.Copies.{home_kept}
use Rattle.rb_model.specs.State.{State}
use Rattle.law_read.specs.Reading.{History}
use Rattle.law_blocks.specs.Standing.{segments_of}
use Rattle.law_blocks.specs.States.{past_of}
use Rattle.law_blocks.specs.Values.{rows_here}
use Rattle.law_home.specs.Homes.{narrow}

-- A home that is kept of block b at n stands for what the state had there.
abbrev pub CopyStands : State → List Xid → List (List ℕ) → (b n : ℕ) → KeptHome → Type 0
CopyStands h xids blocks b n copy = IsKept h xids (segments_of h.shape blocks) b n (home_kept h.shape b copy)

-- And so does each home that is kept.
abbrev pub CopiesStand : State → List Xid → List (List ℕ) → KeptHomes → Type 0
CopiesStand h xids blocks kept = (key : CopyKey) (copy : KeptHome) → kept_under kept key ≡ Some copy
    → CopyStands h xids blocks key.block key.scn copy

-- A history tells of the state's commits, as far as they are of block b.
pub record TellsOf (h : State) (xids : List Xid) (b : ℕ) (hist : History) : Type 0 where
  pub base : hist.base ≡ h.commits.base
  pub rows : hist.rows ≡ rows_here h.shape b h.commits.rows
  pub list : hist.list ≡ map (narrow b) (past_of h xids).list
