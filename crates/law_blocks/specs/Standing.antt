-- What the blocks of a file stand for.
use Rattle.std.specs.Prelude.{◌<◌, ◌≤◌, ◌+◌, ◌^◌, ◌%◌, ℕ, List, []}
use Rattle.std.specs.List.{AllByRecursion}
use Rattle.rb_base.specs.Blocks.{block_of, greatest, shape_blocks, table_blocks, AreBlocks}
use Rattle.rb_base.specs.Fields.{number_at}
use Rattle.rb_base.specs.declared.shape.Shape.{Shape}
use Rattle.rb_heap.specs.Homes.{home_of}
use Rattle.rb_heap.specs.Soundness.{IsHomeSound}
use Rattle.rb_model.specs.Book.{Book}
use Rattle.rb_model.specs.Rows.{TableRow, InOrder}
use Rattle.rb_segment.specs.Books.{IsBook}
use Rattle.rb_segment.specs.Header.{Segment, segment_of}
use Rattle.rb_segment.specs.Segments.{commit_scn}
use Rattle.law_blocks.specs.Says.{says, walk_home}
use Rattle.law_blocks.specs.Values.{Past, Running, StandingAs, wraps_of, owed}
use Rattle.law_home.specs.Walk.{Change, Env, Home}

abbrev pub segments_of : Shape → List (List ℕ) → ℕ → Segment
segments_of shape blocks g = segment_of shape blocks g

abbrev pub homes_of : Shape → List (List ℕ) → ℕ → Home
homes_of shape blocks b = walk_home shape b (home_of (block_of blocks b))

abbrev pub env_of : Shape → List (List ℕ) → Env
env_of shape blocks = says shape (segments_of shape blocks)

-- the greatest log number in front of a block
abbrev pub logged_of : Shape → List (List ℕ) → ℕ
logged_of shape blocks = greatest (λ b. number_at (block_of blocks b) 0 8) (shape_blocks shape)

-- The blocks of a file stand for commits behind a base and for the live changes of each table slot, the slots of all
-- segments counted in order.
pub record Standing (shape : Shape) (blocks : List (List ℕ)) (past : Past) (lives : List (List Change)) : Type 0 where
  pub whole : AreBlocks shape blocks
  -- each block of rows passes the tests of an opening
  pub homes_sound : (b : ℕ) → b < table_blocks shape
      → IsHomeSound shape (commit_scn shape blocks) (wraps_of (segments_of shape blocks)) (b % shape.blocks)
      (block_of blocks b)
  -- putting back what is under way leaves the log numbers in range
  pub ahead : logged_of shape blocks + owed shape (segments_of shape blocks) ≤ 2 ^ 60 + 2 ^ 13
  pub order : InOrder shape.blocks past.rows
  pub tables : AllByRecursion (λ row. (1 ≤ row.table) × (row.table ≤ shape.tables)) past.rows
  pub stands : StandingAs shape (commit_scn shape blocks) (logged_of shape blocks) (segments_of shape blocks)
      (homes_of shape blocks) past lives

-- each segment's header tells a book
abbrev pub TellBooks : Shape → List (List ℕ) → Type 0
TellBooks shape blocks = (g : ℕ) → g < shape.segments → (b : Book) × IsBook (segments_of shape blocks g).header b

-- The blocks have that number and these rows, once what is under way is taken back. What is under way there is what an
-- engine left.
pub record SoundAs (shape : Shape) (blocks : List (List ℕ)) (number : ℕ) (rows : List TableRow) : Type 0 where
  pub lives : List (List Change)
  pub standing : Standing shape blocks (record { base = number; rows = rows; list = [] }) lives
  pub running : Running shape (segments_of shape blocks)
  pub books : TellBooks shape blocks
