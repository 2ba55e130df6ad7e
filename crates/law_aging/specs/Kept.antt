-- Segments at a later moment, and a home that is kept at a number, as the machine's state sees it.
use Rattle.std.specs.Prelude.{◌<◌, ℕ, List, map}
use Rattle.rb_base.specs.Blocks.{table_blocks}
use Rattle.rb_base.specs.declared.ids.Xid.{Xid}
use Rattle.rb_model.specs.State.{State}
use Rattle.law_read.specs.Copies.{Copied}
use Rattle.rb_segment.specs.Header.{Segment}
use Rattle.rb_segment.specs.Moves.{SegmentAges}
use Rattle.law_blocks.specs.Says.{says}
use Rattle.law_blocks.specs.States.{past_of}
use Rattle.law_blocks.specs.Values.{rows_here}
use Rattle.law_home.specs.Homes.{narrow}
use Rattle.law_home.specs.Walk.{Home}

-- each segment is at a later moment, or still at the same one; no slot is asked to go on
abbrev pub SegmentsAge : (ℕ → Segment) → (ℕ → Segment) → Type 0
SegmentsAge segments after = (g : ℕ) → SegmentAges (λ i. ⊥) (segments g) (after g)

-- A home of block b, kept at commit number n, stands for what the machine's state had there at n.
pub record IsKept (h : State) (xids : List Xid) (segments : ℕ → Segment) (b n : ℕ) (home : Home) : Type 0 where
  pub there : b < table_blocks h.shape
  pub copied : Copied (says h.shape segments) h.commits.base (rows_here h.shape b h.commits.rows)
      (map (narrow b) (past_of h xids).list) n home
