use Rattle.std.proofs.Common.{ℕ, List, Option, Some, None, IfSome}
use Rattle.rb_cell.specs.declared.cell.Cell.{Cell}
use Rattle.rb_cr.specs.Rows.{IsWanted, ShowsWanted}
use Rattle.rb_cr.specs.declared.plain.KeyCell.{KeyCell}
use Rattle.rb_cr.proofs.plain.least_at.Goals as goal

shows : (cells : List Cell) (after : Option ℕ) (lo from hi : ℕ) → ((k : ℕ) → IsWanted None from hi k → IsWanted after lo hi k) → (r : Option KeyCell) → IfSome r (ShowsWanted None from hi cells) → IfSome r (ShowsWanted after lo hi cells)
shows cells after lo from hi all None is = tt
shows cells after lo from hi all (Some one) is = record { there = is.there; state = is.state; key = is.key; wanted = all one.key is.wanted; first = is.first }

pub returns-clause-found : goal.returns-clause-found
returns-clause-found g c =
    let w = c.args.wanted in
    shows (g.C.PlainCells.all c.args.cells.now) w.after w.lo c.in_ok-from.from w.hi (λ k is. c.in_ok-from.ensures.all k is.1 is.2) c.least_from.result c.least_from.ensures.found

pub returns-clause-lesser : goal.returns-clause-lesser
returns-clause-lesser g c = λ j lt state wanted. c.least_from.ensures.lesser j lt state (tt, c.in_ok-from.ensures.within _ wanted, wanted.2)

pub returns-in_err-from-clause-lesser : goal.returns-in_err-from-clause-lesser
returns-in_err-from-clause-lesser g c = λ j lt state wanted. absurd (c.in_err-from.ensures.none _ wanted)
