use Rattle.std.proofs.Common.{◌+◌, ◌*◌, [], ◌∷◌, refl, inr, arith, ap, sym, ◌∙◌}
use Rattle.rb_cell.specs.Cells.{cell_place}
use Rattle.rb_cell.specs.declared.cell.Cell.{Cell}
use Rattle.rb_cleanout.proofs.Cleaning.{next_kept, next_cleared}
use Rattle.rb_cleanout.proofs.Copies.{no_cleans, one_set, more_cleans}
use Rattle.rb_cleanout.specs.Cleaned.{is_named}
use Rattle.rb_heap.proofs.Patching.{lock_written}
use Rattle.rb_heap.proofs.Reading.{cell_read, cells_counted}
use Rattle.rb_heap.specs.Homes.{empty_cell, home_of}
use Rattle.rb_cleanout.proofs.locks.clear_locks.Goals as goal
use Rattle.rb_cleanout.proofs.locks.clear_locks.Goals.{then-is_named, else-is_named}

pub loop-c-preserved : goal.loop-c-preserved
loop-c-preserved c =
    let at = c.loop-c.c in
    let copy = c.loop-c.copy in
    let so_far = c.loop-c.invariant in
    let flags = c.args.cleaned.now in
    let lock = ap (λ (cell : Cell). is_named flags cell.lock) (cell_read copy at empty_cell c.loop-c-test.true) ∙ ap (is_named flags) (sym c.front.ensures.lock) ∙ sym c.is_named.ensures in
    elim c.if-is_named.branch [
      | then-is_named w ↦
          let place = w.lock_place.ensures in
          let set = w.set.ensures.copy ∙ rw place refl in
          let one = one_set c.args.no copy w.set.new.copy c.loop-c.group w.set.new.group (cell_place at + 1) (0 ∷ []) (inr (at, c.loop-c-test.true, refl)) set (w.set.ensures.patch ∙ rw place refl) in
          let means = ap home_of set ∙ lock_written copy at 0 so_far.long c.loop-c-test.true in
          rw (w.copy-is, w.group-is) (record {
            long = w.set.ensures.length;
            made = more_cleans c.args.no c.args.copy.now copy w.set.new.copy c.args.group.now c.loop-c.group w.set.new.group at (at * (8 + 1)) 1 (8 + 1) (at + 1) ((at + 1) * (8 + 1)) so_far.made one (omega arith) (omega arith);
            cleared = next_cleared flags at (home_of c.args.copy.now) (home_of copy) (home_of w.set.new.copy) (omega (arith, cells_counted copy, c.loop-c-test.true)) so_far.cleared (lock ∙ w.if-is_named.true) means;
          })
      | else-is_named w ↦
          rw (w.copy-is, w.group-is) (record {
            long = so_far.long;
            made = more_cleans c.args.no c.args.copy.now copy copy c.args.group.now c.loop-c.group c.loop-c.group at (at * (8 + 1)) 0 0 (at + 1) ((at + 1) * (8 + 1)) so_far.made (no_cleans c.args.no copy c.loop-c.group) (omega arith) (omega arith);
            cleared = next_kept flags at (home_of c.args.copy.now) (home_of copy) so_far.cleared (lock ∙ w.if-is_named.false);
          })
    ]
