use Rattle.std.proofs.Common.{refl, arith, ap, ◌∙◌}
use Rattle.std.proofs.lemmas.Bool.{eq-eqb}
use Rattle.rb_base.specs.Blocks.{block_of}
use Rattle.rb_base.proofs.Blocks.{block_long, group_others, group_keeps}
use Rattle.rb_cell.specs.Cells.{lock_patch, with_cell}
use Rattle.rb_cell.proofs.CellBytes.{length-cell, cell_size}
use Rattle.rb_heap.specs.Homes.{with_home_entry, entry_patch, home_patches}
use Rattle.rb_heap.proofs.Patching.{cell_written, lock_written, entry_written}
use Rattle.rb_heap.proofs.Blocks.{home_after, home_one, cell_alone}
use Rattle.rb_heap.proofs.laws.home_changed.Goals as goal

pub returns-clause-change : goal.returns-clause-change
returns-clause-change c shape blocks number which at i cell entry are lt few i_few cell_sound entry_sound =
    let block = block_of blocks which in
    let long = block_long shape blocks which are lt in
    home_after shape blocks number which (home_patches which at cell i entry) are lt (record { behind_head = omega arith; within_block = omega (arith, length-cell cell cell_sound) }, (record { behind_head = omega arith; within_block = omega arith }, tt))
    ∙ rw (eq-eqb which which refl) (entry_written (with_cell block at cell) i entry (cell_size block at cell long few cell_sound) i_few entry_sound ∙ ap (λ home. with_home_entry home i entry) (cell_written block at cell long few cell_sound))

pub returns-clause-others : goal.returns-clause-others
returns-clause-others c = group_others

pub returns-clause-cell : goal.returns-clause-cell
returns-clause-cell c shape blocks number which at cell are lt few sound = cell_alone shape blocks number which at are lt few cell sound

pub returns-clause-lock : goal.returns-clause-lock
returns-clause-lock c shape blocks number which at lock are lt few = home_one shape blocks number (lock_patch which at lock) are lt (omega arith) (omega arith) ∙ lock_written (block_of blocks which) at lock (block_long shape blocks which are lt) few

pub returns-clause-entry : goal.returns-clause-entry
returns-clause-entry c shape blocks number which i entry are lt few sound = home_one shape blocks number (entry_patch which i entry) are lt (omega arith) (omega arith) ∙ entry_written (block_of blocks which) i entry (block_long shape blocks which are lt) few sound

pub returns-clause-blocks : goal.returns-clause-blocks
returns-clause-blocks c shape number group blocks are within sound = group_keeps shape number group blocks are sound
