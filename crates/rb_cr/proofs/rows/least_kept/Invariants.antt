use Rattle.std.proofs.Common.{◌<◌, ℕ, IfSome}
use Rattle.rb_cr.specs.Rows.{IsFound, Reaches, kept_key}
use Rattle.rb_cr.specs.Scratches.{shown_over}
use Rattle.rb_cr.proofs.rows.least_kept.Given as goal

abbrev pub invariant-loop-i : goal.invariant-loop-i
invariant-loop-i l = record {
  found : IfSome l.fn.least (λ k. IsFound l.wanted.after l.wanted.lo l.wanted.hi (shown_over l.cells l.kept) k) → IfSome l.least (λ k. IsFound l.wanted.after l.wanted.lo l.wanted.hi (shown_over l.cells l.kept) k);
  stays : (k : ℕ) → Reaches l.fn.least k → Reaches l.least k;
  reached : (j : ℕ) → j < l.i → IsFound l.wanted.after l.wanted.lo l.wanted.hi (shown_over l.cells l.kept) (kept_key l.kept j) → Reaches l.least (kept_key l.kept j);
}
