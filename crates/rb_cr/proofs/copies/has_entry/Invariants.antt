use Rattle.std.proofs.Common.{◌≡◌, ◌<◌, ℕ, false}
use Rattle.rb_base.specs.declared.shape.Shape.{Shape}
use Rattle.rb_cr.specs.Scratches.{scratch_home}
use Rattle.law_read.specs.Chains.{is_own}
use Rattle.law_home.specs.Walk.{entry_at}
use Rattle.rb_cr.proofs.copies.has_entry.Given as goal

abbrev pub invariant-loop-i : goal.invariant-loop-i
invariant-loop-i l = (shape : Shape) (j : ℕ) → j < l.i → is_own l.xid (entry_at (scratch_home shape l.scratch) j) ≡ false
