use Rattle.std.proofs.Common.{◌≡◌, ◌||◌, ◌+◌, ◌-◌, ℕ, Some, true}
use Rattle.rb_cr.specs.Reads.{Reads}
use Rattle.rb_cr.specs.Scratches.{scratch_home}
use Rattle.rb_cr.specs.Watches.{Stays}
use Rattle.law_read.specs.Chains.{unwound}
use Rattle.law_read.specs.Keeping.{kept_after}
use Rattle.law_read.specs.Late.{touched_after}
use Rattle.rb_cr.proofs.chains.unwind.Given as goal

abbrev pub invariant-loop-k : goal.invariant-loop-k
invariant-loop-k g l = record {
  reads : Reads g.S.Segments l.fn.segments l.segments true;
  block : l.scratch.block ≡ l.fn.scratch.block;
  count : l.steps ≡ l.fn.steps + l._k;
  rest : g.S.Segments.tells → unwound (g.S.Segments.says l.fn.segments).env (l.count - l._k) l.i l.xid (scratch_home (g.S.Segments.says l.fn.segments).shape l.scratch) ≡ unwound (g.S.Segments.says l.fn.segments).env l.count l.i l.xid (scratch_home (g.S.Segments.says l.fn.segments).shape l.fn.scratch);
  back : g.S.Segments.tells → unwound (g.S.Segments.says l.fn.segments).env l._k l.i l.xid (scratch_home (g.S.Segments.says l.fn.segments).shape l.fn.scratch) ≡ Some (scratch_home (g.S.Segments.says l.fn.segments).shape l.scratch);
  kept : g.S.Segments.tells → kept_after (g.S.Segments.says l.fn.segments).env l.snapshot.own l.snapshot.upto (l.count - l._k) l.i l.xid (scratch_home (g.S.Segments.says l.fn.segments).shape l.scratch) l.scratch.kept ≡ kept_after (g.S.Segments.says l.fn.segments).env l.snapshot.own l.snapshot.upto l.count l.i l.xid (scratch_home (g.S.Segments.says l.fn.segments).shape l.fn.scratch) l.fn.scratch.kept;
  stays : Stays l.fn.scratch.watch l.scratch.watch;
  seen : g.S.Segments.tells → (key : ℕ) → l.fn.scratch.watch.key ≡ Some key → l.scratch.watch.seen || touched_after (g.S.Segments.says l.fn.segments).env key (l.count - l._k) l.i l.xid (scratch_home (g.S.Segments.says l.fn.segments).shape l.scratch) ≡ l.fn.scratch.watch.seen || touched_after (g.S.Segments.says l.fn.segments).env key l.count l.i l.xid (scratch_home (g.S.Segments.says l.fn.segments).shape l.fn.scratch);
}
