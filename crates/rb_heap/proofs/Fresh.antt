-- A block of a new file has an empty home.
use Rattle.std.proofs.Common.{◌≡◌, ℕ, ◌+◌, ◌-◌, ◌%◌, ◌==◌, ◌<◌, ◌≤◌, Bool, if◌then◌else◌, List, ◌++◌, length, take, drop, replicate, refl, arith, ap, sym, ◌∙◌}
use Rattle.std.proofs.lemmas.Bool.{lt-ltb}
use Rattle.std.proofs.lemmas.List.{drop_at, drop-drop, drop-replicate, take-replicate, get_or-replicate}
use Rattle.std.proofs.lemmas.List.FromFn.{fill_by_all}
use Rattle.rb_itl.specs.declared.slots.TheConstants.{ENTRIES, ENTRY_BYTES}
use Rattle.rb_cell.specs.declared.cell.TheConstants.{CELLS, CELL_BYTES}
use Rattle.rb_base.specs.declared.sizes.TheConstants.{BLOCK_HEAD, SEGMENT_BLOCKS, UNIT}
use Rattle.rb_base.specs.declared.shape.Shape.{Shape}
use Rattle.rb_base.specs.Blocks.{block_of, block_kind, fresh_head, fresh_rest, fresh_block, fresh_blocks, table_blocks, shape_blocks}
use Rattle.rb_base.specs.Fields.{part}
use Rattle.rb_base.proofs.Blocks.{fresh_at}
use Rattle.rb_cell.specs.Cells.{cell_place, cell_of, cell_at}
use Rattle.rb_itl.specs.Entries.{entry_place, entry_of, entry_at, free_entry}
use Rattle.rb_heap.specs.Homes.{home_of, empty_cell, empty_home}

zeros_behind : (head : List ℕ) (at count : ℕ) → length head ≡ BLOCK_HEAD → BLOCK_HEAD ≤ at → at + count ≤ UNIT → part (head ++ replicate (UNIT - BLOCK_HEAD) 0) at count ≡ replicate count 0
zeros_behind head at count long behind within =
    let block = head ++ replicate (UNIT - BLOCK_HEAD) 0 in
    let more : at ≡ BLOCK_HEAD + (at - BLOCK_HEAD) = omega arith in
    ap (λ (n : ℕ). part block n count) more
    ∙ ap (take count) (sym (drop-drop (at - BLOCK_HEAD) BLOCK_HEAD block) ∙ ap (drop (at - BLOCK_HEAD)) (drop_at head (replicate (UNIT - BLOCK_HEAD) 0) BLOCK_HEAD long) ∙ drop-replicate (at - BLOCK_HEAD) (UNIT - BLOCK_HEAD) 0)
    ∙ take-replicate count ((UNIT - BLOCK_HEAD) - (at - BLOCK_HEAD)) 0 (omega arith)

empty_behind : (head : List ℕ) → length head ≡ BLOCK_HEAD → home_of (head ++ replicate (UNIT - BLOCK_HEAD) 0) ≡ empty_home
unfolding home_of
empty_behind head long =
    let block = head ++ replicate (UNIT - BLOCK_HEAD) 0 in
    let entries =
    fill_by_all (entry_at block) (replicate ENTRIES free_entry) ENTRIES free_entry refl (λ k lt. get_or-replicate ENTRIES k free_entry free_entry lt ∙ sym (ap entry_of (zeros_behind head (entry_place k) ENTRY_BYTES long (omega arith) (omega arith)))) in
    let cells =
    fill_by_all (cell_at block) (replicate CELLS empty_cell) 16 empty_cell refl (λ k lt. get_or-replicate CELLS k empty_cell empty_cell lt ∙ sym (ap cell_of (zeros_behind head (cell_place k) CELL_BYTES long (omega arith) (omega arith)))) in
    rw (← entries, ← cells) refl

-- a block of the tables is one of rows
pub of_rows : (shape : Shape) (which : ℕ) → which < table_blocks shape → block_kind shape which ≡ 1
of_rows shape which lt = ap (λ (b : Bool). if b then 1 else if (which - table_blocks shape) % SEGMENT_BLOCKS == 0 then 2 else 3) (lt-ltb which (table_blocks shape) lt)

pub fresh_empty : (shape : Shape) (which : ℕ) → which < table_blocks shape → home_of (fresh_block shape which) ≡ empty_home
fresh_empty shape which lt = ap (λ (kind : ℕ). home_of (fresh_head kind which ++ fresh_rest kind)) (of_rows shape which lt) ∙ empty_behind (fresh_head 1 which) refl

pub new_block : (shape : Shape) (which : ℕ) → which < shape_blocks shape → block_of (fresh_blocks shape) which ≡ fresh_block shape which
new_block shape which lt = fresh_at shape 0 (shape_blocks shape) which lt ∙ ap (fresh_block shape) (omega arith)

pub new_empty : (shape : Shape) (which : ℕ) → which < table_blocks shape → home_of (block_of (fresh_blocks shape) which) ≡ empty_home
new_empty shape which lt = ap home_of (new_block shape which (omega arith)) ∙ fresh_empty shape which lt
