use Rattle.std.proofs.Common.{◌≡◌, inl, inr, List, arith, ap, sym, ◌∙◌, subst}
use Rattle.std.proofs.lemmas.Bool.{cases_lt}
use Rattle.rb_disk.specs.Moments.{Leaves}
use Rattle.rb_disk.specs.Ranges.{SameBut}
use Rattle.rb_layout.specs.Regions.{block_count, file_length, twin_offset}
use Rattle.rb_layout.specs.declared.layout.Layout.{Layout}
use Rattle.rb_log.specs.GroupSlots.{LogState}
use Rattle.rb_twin.specs.Batches.{with_batch}
use Rattle.rb_twin.specs.Twins.{home, twin_gate, TwinSome, TwinState}
use Rattle.rb_cache.specs.Calls.{IsDone, SeenAt, Settled}
use Rattle.rb_cache.specs.Frames.{AreBelow, CacheState, blocks_of, numbers_of}
use Rattle.rb_cache.specs.Slots.{held_in}
use Rattle.rb_cache.specs.declared.frame.Frame.{Frame}
use Rattle.rb_cache.proofs.CallLemmas.{below_by}
use Rattle.rb_cache.proofs.CleanLemmas.{CleanedSoFar, cleaned_begun, cleaned_done, cleaned_more, cleaned_settled, cleaned_torn}
use Rattle.rb_cache.proofs.FrameLemmas.{numbers-cleaned}
use Rattle.rb_cache.proofs.RoomLemmas.{durable_at, flush_leaves, images_at, logged_at, mid_calm, moments_at, outside_at, shut_at}
use Rattle.rb_cache.proofs.cache.Cache.clean_all.Goals as goal

pub returns-in_err-flush-clause-any_moment : goal.returns-in_err-flush-clause-any_moment
returns-in_err-flush-clause-any_moment g c = λ told. flush_leaves g.D.Disk (λ disk t im le here. g.met.D.Disk.now_counts disk t im told le here) (λ disk im left. g.met.D.Disk.only_now disk im told left) c.args.layout.now c.args.log.now c.requires.head c.args.disk.now (c.requires.calm told) c.args.self.now.held c.flush.new.disk (moments_at g.D.Disk c.args.log.now c.args.layout.now c.requires.log c.args.disk.now c.flush.new.disk (c.flush.ensures.any_moment told))

pub loop-dirty-init : goal.loop-dirty-init
loop-dirty-init g c = record {
  count = ap (λ (s : CacheState). s.frames) c.self.view_is;
  next = omega arith;
  log = c.in_ok-flush.ensures.flushed;
  layout = c.requires.twin;
  batch = c.requires.batch;
  numbers = ap numbers_of (ap (λ (s : CacheState). s.held) c.self.view_is);
  memory = c.count.ensures.memory;
  clean = λ k le lt. absurd (omega (arith, lt));
  still = c.in_ok-flush.ensures.counted.still;
  told = λ told. subst (λ (h : List Frame). CleanedSoFar g.D.Disk c.args.layout.now c.args.log.now c.args.disk.now c.args.self.now.held h c.flush.new.disk) (sym (ap (λ (s : CacheState). s.held) c.self.view_is))
      (cleaned_begun g.D.Disk c.args.layout.now c.args.log.now c.args.disk.now c.args.self.now.held (λ disk t im le here. g.met.D.Disk.now_counts disk t im told le here) (λ disk im left. g.met.D.Disk.only_now disk im told left) c.requires.head c.flush.new.disk (c.requires.calm told) (mid_calm g.D.Disk (λ disk t im le here. g.met.D.Disk.now_counts disk t im told le here) (λ disk im left. g.met.D.Disk.only_now disk im told left) c.args.layout.now c.args.log.now c.requires.head c.args.disk.now (c.requires.calm told) c.args.self.now.held c.flush.new.disk (images_at g.D.Disk c.args.log.now c.args.layout.now c.requires.log c.args.disk.now c.flush.new.disk (c.flush.ensures.images told)) (outside_at g.D.Disk c.args.log.now c.args.layout.now c.requires.log c.args.disk.now c.flush.new.disk (c.in_ok-flush.ensures.outside told)) (durable_at g.D.Disk c.args.log.now c.args.layout.now c.requires.log c.args.disk.now c.flush.new.disk (c.in_ok-flush.ensures.durable told))) (c.requires.clean told) (outside_at g.D.Disk c.args.log.now c.args.layout.now c.requires.log c.args.disk.now c.flush.new.disk (c.in_ok-flush.ensures.outside told)) (durable_at g.D.Disk c.args.log.now c.args.layout.now c.requires.log c.args.disk.now c.flush.new.disk (c.in_ok-flush.ensures.durable told)) (c.in_ok-flush.ensures.only told) (shut_at g.D.Disk c.args.log.now c.args.layout.now c.requires.log c.args.disk.now c.flush.new.disk (c.in_ok-flush.ensures.closed told) (c.in_ok-flush.ensures.none told)) (moments_at g.D.Disk c.args.log.now c.args.layout.now c.requires.log c.args.disk.now c.flush.new.disk (c.flush.ensures.any_moment told)) (logged_at g.D.Disk c.args.log.now c.args.layout.now c.requires.log c.args.disk.now c.flush.new.disk (c.in_ok-flush.ensures.written told)));
}

pub gather_from-next-requires-clause-within : goal.gather_from-next-requires-clause-within
gather_from-next-requires-clause-within g c =
    subst (λ (m : Layout). AreBelow (block_count m) (held_in c.loop-dirty.self-inside.frames)) (sym c.loop-dirty.invariant.layout)
    (below_by (block_count c.args.layout.now) c.args.self.now.held (held_in c.loop-dirty.self-inside.frames) c.loop-dirty.invariant.numbers c.requires.within)

pub returns-in_err-write-clause-order : goal.returns-in_err-write-clause-order
returns-in_err-write-clause-order g c = ap numbers_of c.gather_from-next.ensures.gathered.held_is ∙ numbers-cleaned (blocks_of c.gather_from-next.new.twin.batch) (held_in c.loop-dirty.self-inside.frames) ∙ c.loop-dirty.invariant.numbers

pub returns-in_err-write-clause-within : goal.returns-in_err-write-clause-within
returns-in_err-write-clause-within g c = below_by (block_count c.args.layout.now) c.args.self.now.held (held_in c.gather_from-next.new.self) (ap numbers_of c.gather_from-next.ensures.gathered.held_is ∙ numbers-cleaned (blocks_of c.gather_from-next.new.twin.batch) (held_in c.loop-dirty.self-inside.frames) ∙ c.loop-dirty.invariant.numbers) c.requires.within

pub returns-in_err-write-clause-any_moment : goal.returns-in_err-write-clause-any_moment
returns-in_err-write-clause-any_moment g c = λ told. cleaned_torn g.D.Disk c.args.layout.now c.args.log.now c.args.disk.now c.args.self.now.held (λ disk t im le here. g.met.D.Disk.now_counts disk t im told le here) (λ disk im left. g.met.D.Disk.only_now disk im told left) c.requires.head (held_in c.loop-dirty.self-inside.frames) c.gather_from-next.new.twin.batch c.loop-dirty.disk c.write.new.disk (c.loop-dirty.invariant.told told) c.gather_from-next.ensures.gathered.seen_are
    (subst (λ (m : Layout). Leaves g.D.Disk c.loop-dirty.disk c.write.new.disk (TwinSome (g.D.Disk.image c.loop-dirty.disk) m c.gather_from-next.new.twin.batch (g.D.Disk.content c.loop-dirty.disk))) (c.gather_from-next.ensures.layout ∙ c.loop-dirty.invariant.layout) (c.write.ensures.any_moment told))

pub loop-dirty-preserved : goal.loop-dirty-preserved
loop-dirty-preserved g c =
    let i = c.loop-dirty.invariant in
    record {
      count = c.gather_from-next.ensures.count ∙ i.count;
      next = c.gather_from-next.ensures.end;
      log = i.log;
      layout = ap (λ (t : TwinState). t.layout) c.in_ok-write.ensures.emptied ∙ (c.gather_from-next.ensures.layout ∙ c.loop-dirty.invariant.layout);
      batch = ap (λ (t : TwinState). t.batch) c.in_ok-write.ensures.emptied;
      numbers = (ap numbers_of c.gather_from-next.ensures.gathered.held_is ∙ numbers-cleaned (blocks_of c.gather_from-next.new.twin.batch) (held_in c.loop-dirty.self-inside.frames) ∙ c.loop-dirty.invariant.numbers);
      memory = c.gather_from-next.ensures.memory;
      clean = c.gather_from-next.ensures.clean (λ k le lt. elim (cases_lt k c.loop-dirty.next) [
        | inl low ↦ i.clean k le low
        | inr high ↦ c.in-Some.ensures.clean k high lt
      ]);
      still = c.in_ok-write.ensures.counted.still ∙ i.still;
      told = λ told. cleaned_more g.D.Disk c.args.layout.now c.args.log.now c.args.disk.now c.args.self.now.held (λ disk t im le here. g.met.D.Disk.now_counts disk t im told le here) (λ disk im left. g.met.D.Disk.only_now disk im told left) c.requires.head (held_in c.loop-dirty.self-inside.frames) (held_in c.gather_from-next.new.self) c.gather_from-next.new.twin.batch c.loop-dirty.disk c.write.new.disk (omega (arith, c.used.ensures.used, c.used.ensures.below, ap (λ (m : Layout). m.log) c.requires.log)) (i.told told) i.memory.differ c.gather_from-next.ensures.gathered
          (record {
            any_moment = (subst (λ (m : Layout). Leaves g.D.Disk c.loop-dirty.disk c.write.new.disk (TwinSome (g.D.Disk.image c.loop-dirty.disk) m c.gather_from-next.new.twin.batch (g.D.Disk.content c.loop-dirty.disk))) (c.gather_from-next.ensures.layout ∙ c.loop-dirty.invariant.layout) (c.write.ensures.any_moment told));
            outside = subst (λ (m : Layout). SameBut (twin_offset m 0) (file_length m) (g.D.Disk.content c.loop-dirty.disk) (g.D.Disk.content c.write.new.disk)) (c.gather_from-next.ensures.layout ∙ c.loop-dirty.invariant.layout) (c.write.ensures.outside told);
            written = λ which. subst (λ (m : Layout). home m (g.D.Disk.content c.write.new.disk) which ≡ with_batch c.gather_from-next.new.twin.batch which (home m (g.D.Disk.content c.loop-dirty.disk) which)) (c.gather_from-next.ensures.layout ∙ c.loop-dirty.invariant.layout) (c.in_ok-write.ensures.written told which);
            durable = c.in_ok-write.ensures.durable told;
            shut = subst (λ (m : Layout). twin_gate m (g.D.Disk.content c.write.new.disk) ≡ 0) (c.gather_from-next.ensures.layout ∙ c.loop-dirty.invariant.layout) (c.in_ok-write.ensures.shut told);
          });
    }

pub returns-clause-done : goal.returns-clause-done
returns-clause-done g c = λ told. subst (λ (t : LogState). IsDone g.D.Disk c.args.layout.now c.args.log.now t c.args.disk.now c.loop-dirty.disk (SeenAt c.args.layout.now (g.D.Disk.content c.args.disk.now) c.args.self.now.held)) (sym c.in_ok-flush.ensures.flushed)
    (cleaned_done g.D.Disk c.args.layout.now c.args.log.now c.args.disk.now c.args.self.now.held (held_in c.loop-dirty.self-inside.frames) c.loop-dirty.disk (c.loop-dirty.invariant.told told))

pub returns-clause-settled : goal.returns-clause-settled
returns-clause-settled g c = λ told. subst (λ (t : LogState). Settled g.D.Disk c.args.layout.now c.args.log.now t (held_in c.loop-dirty.self-inside.frames) c.args.disk.now c.loop-dirty.disk) (sym c.in_ok-flush.ensures.flushed)
    (cleaned_settled g.D.Disk c.args.layout.now c.args.log.now c.args.disk.now c.args.self.now.held (held_in c.loop-dirty.self-inside.frames) c.loop-dirty.disk (c.loop-dirty.invariant.told told))

pub returns-clause-within : goal.returns-clause-within
returns-clause-within g c = below_by (block_count c.args.layout.now) c.args.self.now.held (held_in c.loop-dirty.self-inside.frames) c.loop-dirty.invariant.numbers c.requires.within
