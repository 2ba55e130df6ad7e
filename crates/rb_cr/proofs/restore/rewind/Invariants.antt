use Rattle.std.proofs.Common.{◌≡◌, ◌+◌, ◌-◌, ◌^◌, ℕ, List, true}
use Rattle.rb_cr.specs.Clauses.{GoesOn, HasRoom}
use Rattle.rb_cr.specs.Late.{IsFresh}
use Rattle.rb_cr.specs.Reads.{Reads}
use Rattle.rb_cr.specs.Scratches.{scratch_home}
use Rattle.law_read.specs.Keeping.{Kept}
use Rattle.law_read.specs.Reading.{flat}
use Rattle.law_read.specs.Turns.{Starts, Peeled, Watched}
use Rattle.law_home.specs.Walk.{Rows, Commit}
use Rattle.rb_cr.proofs.restore.rewind.Given as goal

abbrev pub invariant-loop-top : goal.invariant-loop-top
invariant-loop-top g l = record {
  reads : Reads g.S.Segments l.fn.segments l.segments true;
  block : l.scratch.block ≡ l.fn.scratch.block;
  key : l.scratch.watch.key ≡ l.fn.scratch.watch.key;
  goes : g.S.Segments.tells → GoesOn (g.S.Segments.says l.fn.segments) l.fn.scratch l.fn.steps l.scratch l.steps;
  so_far : g.S.Segments.tells → (base : ℕ) (rows : Rows) (list : List Commit) → Starts (g.S.Segments.says l.fn.segments).env base rows l.snapshot.scn (2 ^ 64 - 1) list (scratch_home (g.S.Segments.says l.fn.segments).shape l.fn.scratch)
      → HasRoom l.snapshot l.fn.scratch.kept (flat l.snapshot.scn list)
      → (d : ℕ) × (f : Kept → Kept) × (l.steps ≡ l.fn.steps + d) × (l.scratch.kept ≡ f l.fn.scratch.kept)
      × Peeled (g.S.Segments.says l.fn.segments).env base rows l.snapshot.own l.snapshot.upto l.snapshot.scn l.limit d f list (scratch_home (g.S.Segments.says l.fn.segments).shape l.fn.scratch) (scratch_home (g.S.Segments.says l.fn.segments).shape l.scratch);
  watched : g.S.Segments.tells → (key base : ℕ) (rows : Rows) (list : List Commit) → IsFresh l.fn.scratch.watch key → Starts (g.S.Segments.says l.fn.segments).env base rows l.snapshot.scn (2 ^ 64 - 1) list (scratch_home (g.S.Segments.says l.fn.segments).shape l.fn.scratch)
      → Watched (g.S.Segments.says l.fn.segments).env base rows l.snapshot.scn key l.limit l.scratch.watch.first list (scratch_home (g.S.Segments.says l.fn.segments).shape l.fn.scratch) (scratch_home (g.S.Segments.says l.fn.segments).shape l.scratch);
}

abbrev pub decreases-loop-top : goal.decreases-loop-top
decreases-loop-top g l = l.limit
