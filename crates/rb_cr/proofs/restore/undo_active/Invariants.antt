use Rattle.std.proofs.Common.{◌≡◌, ◌+◌, ℕ, List, length, true}
use Rattle.rb_cr.specs.Clauses.{GoesOn, HasRoom}
use Rattle.rb_cr.specs.Reads.{Reads}
use Rattle.rb_cr.specs.Scratches.{scratch_home}
use Rattle.rb_cr.specs.Watches.{Stays}
use Rattle.law_read.specs.Keeping.{Kept}
use Rattle.law_read.specs.Reading.{Reader, Runs}
use Rattle.law_read.specs.Turns.{Running}
use Rattle.law_home.specs.Walk.{Rows, Commit, Change, own}
use Rattle.rb_cr.proofs.restore.undo_active.Given as goal

abbrev pub invariant-loop-i : goal.invariant-loop-i
invariant-loop-i g l = record {
  reads : Reads g.S.Segments l.fn.segments l.segments true;
  block : l.scratch.block ≡ l.fn.scratch.block;
  stays : Stays l.fn.scratch.watch l.scratch.watch;
  eight : length l.fn.scratch.entries ≡ 8;
  goes : g.S.Segments.tells → GoesOn (g.S.Segments.says l.fn.segments) l.fn.scratch l.fn.steps l.scratch l.steps;
  so_far : g.S.Segments.tells → (base : ℕ) (rows : Rows) (list : List Commit) (m : ℕ) (lives : List (List Change)) (r : ℕ)
      → Runs (g.S.Segments.says l.fn.segments).env base rows list m lives (scratch_home (g.S.Segments.says l.fn.segments).shape l.fn.scratch) → Reader (g.S.Segments.says l.fn.segments).env r l.snapshot.own
      → HasRoom l.snapshot l.fn.scratch.kept (own lives r)
      → (d : ℕ) × (f : Kept → Kept) × (l.steps ≡ l.fn.steps + d) × (l.scratch.kept ≡ f l.fn.scratch.kept)
      × Running (g.S.Segments.says l.fn.segments).env base rows list lives r l.snapshot.own l.snapshot.upto l.snapshot.scn l.i d f (scratch_home (g.S.Segments.says l.fn.segments).shape l.fn.scratch) (scratch_home (g.S.Segments.says l.fn.segments).shape l.scratch);
}
