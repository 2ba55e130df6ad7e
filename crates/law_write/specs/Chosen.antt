-- By what a session's first segment and slot are chosen: what the header of a segment says, and what its book says.
use Rattle.std.specs.Prelude.{◌≢◌, ◌<◌, ◌≤◌, ◌==◌, ℕ, if◌then◌else◌, is_some, List}
use Rattle.std.specs.Prelude.{Option, Some, None}
use Rattle.rb_base.specs.Blocks.{block_of, header_block}
use Rattle.rb_base.specs.declared.sizes.TheConstants.{ACTIVE}
use Rattle.rb_model.specs.Book.{BookSlot}
use Rattle.rb_model.specs.State.{State}
use Rattle.rb_segment.specs.Header.{Header}
use Rattle.law_blocks.specs.Standing.{segments_of}
use Rattle.rb_txntable.specs.Slots.{active_count}
use Rattle.rb_txntable.specs.declared.slots.TableSlot.{TableSlot}

-- the header of segment g
abbrev pub header_in : State → List (List ℕ) → ℕ → Header
header_in h blocks g = (segments_of h.shape blocks g).header

-- how many table slots of segment g transactions have that run, as its bytes say it
abbrev pub active_in : State → List (List ℕ) → ℕ → ℕ
active_in h blocks g = active_count (block_of blocks (header_block h.shape g))

-- the newest commit number of a slot that no transaction has, by which it is chosen
abbrev pub free_number : TableSlot → Option ℕ
free_number slot = if slot.state == ACTIVE then None else Some slot.newest

-- and of one that no session owns
abbrev pub book_number : BookSlot → Option ℕ
book_number slot = if is_some slot.owner then None else Some slot.newest

-- in segment g the fewest transactions run, and it is the first with so few
pub record IsLeastActive (h : State) (blocks : List (List ℕ)) (g : ℕ) : Type 0 where
  pub within : g < h.shape.segments
  pub least : (k : ℕ) → k < h.shape.segments → active_in h blocks g ≤ active_in h blocks k
  pub first : (k : ℕ) → k < g → active_in h blocks k ≢ active_in h blocks g
