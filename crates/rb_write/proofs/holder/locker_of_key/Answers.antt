use Rattle.std.proofs.Common.{sym, ◌∙◌, ap}
use Rattle.rb_write.proofs.Held.{keyed_cell, no_cell}
use Rattle.rb_write.specs.Holding.{cell_locker, locker}
use Rattle.rb_heap.specs.Homes.{home_of}
use Rattle.rb_write.proofs.holder.locker_of_key.Goals as goal

pub returns-in_err-c : goal.returns-in_err-c
returns-in_err-c c = c.from_residual.ensures ∙ sym (ap (cell_locker (home_of c.args.block.now)) (no_cell c.args.block.now c.args.key c.in_err-c.ensures.none))

pub returns : goal.returns
returns c =
    c.locker.ensures ∙ ap (locker (home_of c.args.block.now)) c.front.ensures.lock
    ∙ sym (ap (cell_locker (home_of c.args.block.now)) (keyed_cell c.args.block.now c.args.key c.in_ok-c.c c.in_ok-c.ensures.found))
