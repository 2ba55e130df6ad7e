use Rattle.std.proofs.Common.{◌≡◌, ◌+◌, None, IfSome, MatchOption}
use Rattle.rb_cr.specs.Rows.{NoneLesser, ShowsWanted}
use Rattle.rb_cr.proofs.plain.least_from.Given as goal

abbrev pub invariant-loop-c : goal.invariant-loop-c
invariant-loop-c g l = record {
  found : IfSome l.found (ShowsWanted None l.from l.hi (g.C.PlainCells.all l.cells));
  lesser : NoneLesser None l.from l.hi (g.C.PlainCells.all l.cells) l.c l.found;
  bound : MatchOption l.found (l.up_to ≡ l.hi) (λ one. l.up_to + 1 ≡ one.key);
}
