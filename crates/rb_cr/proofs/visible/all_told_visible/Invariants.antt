use Rattle.std.proofs.Common.{◌≢◌, ◌<◌, ℕ}
use Rattle.rb_base.specs.declared.shape.Shape.{Shape}
use Rattle.rb_heap.specs.Homes.{home_of}
use Rattle.rb_itl.specs.Entries as bytes
use Rattle.rb_itl.specs.declared.slots.TheConstants.{OPEN}
use Rattle.law_read.specs.Heights.{AtMost}
use Rattle.law_blocks.specs.Says.{walk_home}
use Rattle.law_home.specs.Walk.{Env, entry_at}
use Rattle.rb_cr.proofs.visible.all_told_visible.Given as goal

abbrev pub invariant-loop-i : goal.invariant-loop-i
invariant-loop-i l = record {
  most : (shape : Shape) (env : Env) (b j : ℕ) → j < l.i → AtMost env l.scn l.scn (entry_at (walk_home shape b (home_of l.block)) j);
  closed : (j : ℕ) → j < l.i → (bytes.entry_at l.block j).kind ≢ OPEN;
}
