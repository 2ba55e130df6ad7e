-- The number of a file's last commit and the wraps of its table slots, as the headers of all segments say them.
use Rattle.std.specs.Prelude.{ℕ, ◌*◌, ◌/◌, ◌%◌, List, [], slice_index, slice_index_or}
use Rattle.std.specs.List.{range_with_len, sum_by}
use Rattle.rb_base.specs.Blocks.{block_of, greatest, header_block}
use Rattle.rb_base.specs.declared.shape.Shape.{Shape}
use Rattle.rb_segment.specs.Header.{header_of, slot_in, slot_owed}
use Rattle.rb_txntable.specs.Slots.{slot_wrap, header_newest}

-- the commit number of a file, the greatest that a table slot has
abbrev pub commit_scn : Shape → List (List ℕ) → ℕ
commit_scn shape blocks = greatest (λ g. header_newest (block_of blocks (header_block shape g))) shape.segments

-- how often a slot of a segment had been taken, and the same in a table of them
abbrev pub wrap_at : Shape → List (List ℕ) → ℕ → ℕ → ℕ
wrap_at shape blocks seg slot = slot_wrap (block_of blocks (header_block shape seg)) slot

abbrev pub wrap_in : List (List ℕ) → ℕ → ℕ → ℕ
wrap_in wraps seg slot = slice_index (slice_index_or wraps seg []) slot

-- how many groups it takes to put back what is under way in all segments, the table slots counted in order
unfoldable pub owed_in : Shape → List (List ℕ) → ℕ
owed_in shape blocks = sum_by
    (λ t. slot_owed (slot_in (header_of (block_of blocks (header_block shape (t / 16)))) (t % 16)))
    (range_with_len 0 (16 * shape.segments))
