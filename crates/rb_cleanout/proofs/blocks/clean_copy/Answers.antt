use Rattle.std.proofs.Common.{arith, ◌+◌, ◌*◌}
use Rattle.rb_itl.specs.declared.slots.TheConstants.{ENTRIES, ENTRY_BYTES}
use Rattle.rb_cleanout.specs.declared.blocks.TheConstants.{CLEAN_BYTES, CLEAN_PATCHES}
use Rattle.rb_cell.specs.declared.cell.TheConstants.{CELLS}
use Rattle.rb_cleanout.proofs.Cleaning.{all_cleaned}
use Rattle.rb_cleanout.proofs.Copies.{more_cleans}
use Rattle.rb_cleanout.proofs.Looking.{looks}
use Rattle.rb_heap.proofs.Reading.{cells_counted, entries_counted}
use Rattle.rb_heap.specs.Homes.{home_of}
use Rattle.rb_cleanout.proofs.blocks.clean_copy.Goals as goal

pub returns-clause-patches : goal.returns-clause-patches
returns-clause-patches g c =
    let mid = c.clean_entries.new in
    let now = c.clear_locks.new in
    let made = more_cleans c.args.no c.args.copy.now mid.copy now.copy c.args.group.now mid.group now.group ENTRIES (ENTRIES * (8 + ENTRY_BYTES)) CELLS (CELLS * (8 + 1)) CLEAN_PATCHES CLEAN_BYTES c.clean_entries.ensures.made c.clear_locks.ensures.made (omega arith) (omega arith) in
    (made.patches, made.same, made.each)

pub returns-clause-cleaned : goal.returns-clause-cleaned
returns-clause-cleaned g c = λ told.
    let old = c.args.copy.now in
    let mid = c.clean_entries.new.copy in
    let now = c.clear_locks.new.copy in
    all_cleaned (looks g.S.Store c.args.store.now) (home_of old) (home_of mid) (home_of now) c.in_ok-cleaned.cleaned (entries_counted old) (entries_counted now) (cells_counted old) (cells_counted now) c.in_ok-cleaned.ensures.many (c.in_ok-cleaned.ensures.cleaned told) c.clear_locks.ensures.cleared
