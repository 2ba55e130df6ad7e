use Rattle.std.proofs.Common.{◌<◌, ◌≤◌, ℕ, true}
use Rattle.rb_cr.specs.Reads.{Reads}
use Rattle.rb_cr.specs.Scratches.{scratch_home}
use Rattle.law_read.specs.Heights.{AtMost, Numbered}
use Rattle.law_home.specs.Walk.{entry_at}
use Rattle.rb_cr.proofs.visible.greatest.Given as goal

abbrev pub invariant-loop-i : goal.invariant-loop-i
invariant-loop-i g l = record {
  reads : Reads g.S.Segments l.fn.segments l.segments true;
  within : l.top.entry < 8;
  least : l.scn ≤ l.top.number;
  most : g.S.Segments.tells → (j : ℕ) → j < l.i → AtMost (g.S.Segments.says l.fn.segments).env l.scn l.top.number (entry_at (scratch_home (g.S.Segments.says l.fn.segments).shape l.scratch) j);
  number : g.S.Segments.tells → l.scn < l.top.number → Numbered (g.S.Segments.says l.fn.segments).env (entry_at (scratch_home (g.S.Segments.says l.fn.segments).shape l.scratch) l.top.entry) l.top.number;
}
