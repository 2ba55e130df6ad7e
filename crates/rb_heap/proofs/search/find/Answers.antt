use Rattle.std.proofs.Common.{◌≡◌, ℕ, false, arith, sym, ◌∙◌}
use borrow.Author.Count.{below_more}
use Rattle.rb_cell.specs.Cells.{cell_at}
use Rattle.rb_heap.specs.Homes.{is_keyed}
use Rattle.rb_heap.proofs.Reading.{first_read, nowhere_read}
use Rattle.rb_heap.proofs.search.find.Goals as goal

pub returns-then-has_key-clause-found : goal.returns-then-has_key-clause-found
returns-then-has_key-clause-found c =
    first_read (is_keyed c.args.key) c.args.block.now c.loop-c.c (omega arith) (sym c.has_key.ensures ∙ c.if-has_key.true) c.loop-c.invariant

pub loop-c-preserved : goal.loop-c-preserved
loop-c-preserved c =
    below_more (λ (k : ℕ). is_keyed c.args.key (cell_at c.args.block.now k) ≡ false) c.loop-c.c c.loop-c.invariant (sym c.has_key.ensures ∙ c.if-has_key.false)

pub returns-clause-none : goal.returns-clause-none
returns-clause-none c = nowhere_read (is_keyed c.args.key) c.args.block.now (λ k few. c.loop-c.invariant k (omega arith))
