-- The segments and homes of a new file, its past, and the machine's first state.
use Rattle.std.specs.Prelude.{◌≡◌, ◌<◌, ℕ, false, List, [], length, replicate, None}
use Rattle.rb_base.specs.Blocks.{table_blocks}
use Rattle.rb_base.specs.declared.shape.Shape.{Shape}
use Rattle.rb_itl.specs.declared.slots.TheConstants.{ENTRIES}
use Rattle.rb_cell.specs.declared.cell.TheConstants.{CELLS}
use Rattle.rb_model.specs.Book.{fresh_book}
use Rattle.rb_model.specs.State.{State, Session}
use Rattle.rb_segment.specs.Books.{fresh_header}
use Rattle.rb_segment.specs.Header.{Segment}
use Rattle.law_blocks.specs.Values.{Past}
use Rattle.law_home.specs.Kinds.{Empty, Free}
use Rattle.law_home.specs.Walk.{Home, free_entry, entry_at, cell_at}

-- Nothing was made in the segments, no slot was taken, and no home uses an entry or a cell.
pub record IsFresh (shape : Shape) (segments : ℕ → Segment) (homes : ℕ → Home) : Type 0 where
  pub headers : (g : ℕ) → g < shape.segments → (segments g).header ≡ fresh_header
  pub undo : (g : ℕ) → g < shape.segments → length (segments g).undo ≡ 320
  pub entries : (b i : ℕ) → b < table_blocks shape → (entry_at (homes b) i).status ≡ Free
  pub cells : (b j : ℕ) → b < table_blocks shape → cell_at (homes b) j ≡ Empty

-- the home of block b, of no entry and no row
abbrev pub fresh_home : ℕ → Home
fresh_home b = record { block = b; entries = replicate ENTRIES free_entry; cells = replicate CELLS Empty }

abbrev pub no_past : Past
no_past = record { base = 0; rows = []; list = [] }

-- with these sessions
abbrev pub fresh_state : Shape → List Session → State
fresh_state shape sessions = record {
  shape = shape;
  commits = record { base = 0; rows = []; list = [] };
  sessions = sessions;
  books = replicate shape.segments fresh_book;
  queue = [];
  asked = replicate (length sessions) None;
  safe = 0;
  stopped = false;
}
