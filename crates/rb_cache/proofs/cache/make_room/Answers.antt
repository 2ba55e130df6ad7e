use Rattle.std.proofs.Common.{◌≡◌, ◌≢◌, arith, ap, sym, ◌∙◌, subst}
use Rattle.rb_disk.specs.Moments.{Leaves}
use Rattle.rb_disk.specs.Ranges.{SameBut, SamePart}
use Rattle.rb_layout.specs.Regions.{block_offset, file_length, twin_offset}
use Rattle.rb_layout.specs.declared.layout.Layout.{Layout}
use Rattle.rb_log.specs.GroupSlots.{LogState}
use Rattle.rb_twin.specs.Batches.{with_batch}
use Rattle.rb_twin.specs.Twins.{home, twin_gate, TwinSome}
use Rattle.rb_cache.specs.Calls.{IsDone, IsShutBehind, SeenAt}
use Rattle.rb_cache.specs.Frames.{blocks_of, numbers_of}
use Rattle.rb_cache.specs.Slots.{held_in}
use Rattle.rb_cache.proofs.FrameLemmas.{numbers-cleaned}
use Rattle.rb_cache.proofs.RoomLemmas.{durable_at, flush_leaves, images_at, logged_at, mid_calm, moments_at, on_ok_three, outside_at, shut_at, stays_leaves, write_calm, write_clean, write_done, write_leaves, write_seen}
use Rattle.rb_cache.proofs.ShutLemmas.{batch_shut}
use Rattle.rb_cache.proofs.cache.make_room.Goals as goal

pub returns-then-not-last_is_dirty-clause-any_moment : goal.returns-then-not-last_is_dirty-clause-any_moment
returns-then-not-last_is_dirty-clause-any_moment g c = λ told. stays_leaves g.D.Disk (λ disk t im le here. g.met.D.Disk.now_counts disk t im told le here) (λ disk im left. g.met.D.Disk.only_now disk im told left) c.args.layout.now c.args.log.now c.requires.head c.args.disk.now (c.requires.calm told) (held_in c.args.frames.now)

pub returns-then-not-last_is_dirty-clause-settled : goal.returns-then-not-last_is_dirty-clause-settled
returns-then-not-last_is_dirty-clause-settled g c = λ told. record {
  calm = c.requires.calm told;
  clean = c.requires.clean told;
  only = λ was. was;
  shut = λ was. was;
}

pub returns-in_err-flush-clause-any_moment : goal.returns-in_err-flush-clause-any_moment
returns-in_err-flush-clause-any_moment g c = λ told. flush_leaves g.D.Disk (λ disk t im le here. g.met.D.Disk.now_counts disk t im told le here) (λ disk im left. g.met.D.Disk.only_now disk im told left) c.args.layout.now c.args.log.now c.requires.head c.args.disk.now (c.requires.calm told) (held_in c.args.frames.now) c.flush.new.disk (moments_at g.D.Disk c.args.log.now c.args.layout.now c.requires.log c.args.disk.now c.flush.new.disk (c.flush.ensures.any_moment told))

pub write-requires-clause-shut : goal.write-requires-clause-shut
write-requires-clause-shut g c = λ told im here.
    let calm = mid_calm g.D.Disk (λ disk t im le here. g.met.D.Disk.now_counts disk t im told le here) (λ disk im left. g.met.D.Disk.only_now disk im told left) c.args.layout.now c.args.log.now c.requires.head c.args.disk.now (c.requires.calm told) (held_in c.args.frames.now) c.flush.new.disk (images_at g.D.Disk c.args.log.now c.args.layout.now c.requires.log c.args.disk.now c.flush.new.disk (c.flush.ensures.images told)) (outside_at g.D.Disk c.args.log.now c.args.layout.now c.requires.log c.args.disk.now c.flush.new.disk (c.in_ok-flush.ensures.outside told)) (durable_at g.D.Disk c.args.log.now c.args.layout.now c.requires.log c.args.disk.now c.flush.new.disk (c.in_ok-flush.ensures.durable told)) in
    subst (λ (m : Layout). twin_gate m im ≢ 1) (sym (c.gather_old.ensures.layout ∙ c.requires.twin)) (calm.shut im here)

pub write-requires-clause-synced : goal.write-requires-clause-synced
write-requires-clause-synced g c = λ told im here.
    let calm = mid_calm g.D.Disk (λ disk t im le here. g.met.D.Disk.now_counts disk t im told le here) (λ disk im left. g.met.D.Disk.only_now disk im told left) c.args.layout.now c.args.log.now c.requires.head c.args.disk.now (c.requires.calm told) (held_in c.args.frames.now) c.flush.new.disk (images_at g.D.Disk c.args.log.now c.args.layout.now c.requires.log c.args.disk.now c.flush.new.disk (c.flush.ensures.images told)) (outside_at g.D.Disk c.args.log.now c.args.layout.now c.requires.log c.args.disk.now c.flush.new.disk (c.in_ok-flush.ensures.outside told)) (durable_at g.D.Disk c.args.log.now c.args.layout.now c.requires.log c.args.disk.now c.flush.new.disk (c.in_ok-flush.ensures.durable told)) in
    subst (λ (m : Layout). SamePart (block_offset m 0) (file_length m) (g.D.Disk.content c.flush.new.disk) im) (sym (c.gather_old.ensures.layout ∙ c.requires.twin)) (calm.blocks im here)

pub returns-clause-order : goal.returns-clause-order
returns-clause-order g c = ap numbers_of c.gather_old.ensures.gathered.held_is ∙ numbers-cleaned (blocks_of c.gather_old.new.twin.batch) (held_in c.args.frames.now)

pub returns-clause-seen : goal.returns-clause-seen
returns-clause-seen g c = λ told. on_ok_three c.write.result (λ only_new shut written k. write_seen g.D.Disk (λ disk t im le here. g.met.D.Disk.now_counts disk t im told le here) (λ disk im left. g.met.D.Disk.only_now disk im told left) c.args.layout.now c.args.log.now c.requires.head c.args.disk.now (c.requires.calm told) (held_in c.args.frames.now) c.flush.new.disk (images_at g.D.Disk c.args.log.now c.args.layout.now c.requires.log c.args.disk.now c.flush.new.disk (c.flush.ensures.images told)) (outside_at g.D.Disk c.args.log.now c.args.layout.now c.requires.log c.args.disk.now c.flush.new.disk (c.in_ok-flush.ensures.outside told)) (durable_at g.D.Disk c.args.log.now c.args.layout.now c.requires.log c.args.disk.now c.flush.new.disk (c.in_ok-flush.ensures.durable told)) (moments_at g.D.Disk c.args.log.now c.args.layout.now c.requires.log c.args.disk.now c.flush.new.disk (c.flush.ensures.any_moment told)) (logged_at g.D.Disk c.args.log.now c.args.layout.now c.requires.log c.args.disk.now c.flush.new.disk (c.in_ok-flush.ensures.written told)) c.gather_old.new.twin.batch c.gather_old.ensures.gathered.seen_are c.write.new.disk (subst (λ (m : Layout). SameBut (twin_offset m 0) (file_length m) (g.D.Disk.content c.flush.new.disk) (g.D.Disk.content c.write.new.disk)) (c.gather_old.ensures.layout ∙ c.requires.twin) (c.write.ensures.outside told)) only_new (subst (λ (m : Layout). twin_gate m (g.D.Disk.content c.write.new.disk) ≡ 0) (c.gather_old.ensures.layout ∙ c.requires.twin) shut) (λ which. subst (λ (m : Layout). home m (g.D.Disk.content c.write.new.disk) which ≡ with_batch c.gather_old.new.twin.batch which (home m (g.D.Disk.content c.flush.new.disk) which)) (c.gather_old.ensures.layout ∙ c.requires.twin) (written which)) (held_in c.gather_old.new.self) c.gather_old.ensures.gathered k) (c.write.ensures.durable told) (c.write.ensures.shut told) (c.write.ensures.written told)

pub returns-clause-settled : goal.returns-clause-settled
returns-clause-settled g c = λ told. on_ok_three c.write.result (λ only_new shut written. record {
  calm = write_calm g.D.Disk (λ disk t im le here. g.met.D.Disk.now_counts disk t im told le here) (λ disk im left. g.met.D.Disk.only_now disk im told left) c.args.layout.now c.args.log.now c.requires.head c.args.disk.now (c.requires.calm told) (held_in c.args.frames.now) c.flush.new.disk (images_at g.D.Disk c.args.log.now c.args.layout.now c.requires.log c.args.disk.now c.flush.new.disk (c.flush.ensures.images told)) (outside_at g.D.Disk c.args.log.now c.args.layout.now c.requires.log c.args.disk.now c.flush.new.disk (c.in_ok-flush.ensures.outside told)) (durable_at g.D.Disk c.args.log.now c.args.layout.now c.requires.log c.args.disk.now c.flush.new.disk (c.in_ok-flush.ensures.durable told)) (moments_at g.D.Disk c.args.log.now c.args.layout.now c.requires.log c.args.disk.now c.flush.new.disk (c.flush.ensures.any_moment told)) (logged_at g.D.Disk c.args.log.now c.args.layout.now c.requires.log c.args.disk.now c.flush.new.disk (c.in_ok-flush.ensures.written told)) c.gather_old.new.twin.batch c.gather_old.ensures.gathered.seen_are c.write.new.disk (subst (λ (m : Layout). SameBut (twin_offset m 0) (file_length m) (g.D.Disk.content c.flush.new.disk) (g.D.Disk.content c.write.new.disk)) (c.gather_old.ensures.layout ∙ c.requires.twin) (c.write.ensures.outside told)) only_new (subst (λ (m : Layout). twin_gate m (g.D.Disk.content c.write.new.disk) ≡ 0) (c.gather_old.ensures.layout ∙ c.requires.twin) shut) (λ which. subst (λ (m : Layout). home m (g.D.Disk.content c.write.new.disk) which ≡ with_batch c.gather_old.new.twin.batch which (home m (g.D.Disk.content c.flush.new.disk) which)) (c.gather_old.ensures.layout ∙ c.requires.twin) (written which));
  clean = write_clean g.D.Disk (λ disk t im le here. g.met.D.Disk.now_counts disk t im told le here) (λ disk im left. g.met.D.Disk.only_now disk im told left) c.args.layout.now c.args.log.now c.requires.head c.args.disk.now (c.requires.calm told) (held_in c.args.frames.now) c.flush.new.disk (images_at g.D.Disk c.args.log.now c.args.layout.now c.requires.log c.args.disk.now c.flush.new.disk (c.flush.ensures.images told)) (outside_at g.D.Disk c.args.log.now c.args.layout.now c.requires.log c.args.disk.now c.flush.new.disk (c.in_ok-flush.ensures.outside told)) (durable_at g.D.Disk c.args.log.now c.args.layout.now c.requires.log c.args.disk.now c.flush.new.disk (c.in_ok-flush.ensures.durable told)) (moments_at g.D.Disk c.args.log.now c.args.layout.now c.requires.log c.args.disk.now c.flush.new.disk (c.flush.ensures.any_moment told)) (logged_at g.D.Disk c.args.log.now c.args.layout.now c.requires.log c.args.disk.now c.flush.new.disk (c.in_ok-flush.ensures.written told)) c.gather_old.new.twin.batch c.gather_old.ensures.gathered.seen_are c.write.new.disk (subst (λ (m : Layout). SameBut (twin_offset m 0) (file_length m) (g.D.Disk.content c.flush.new.disk) (g.D.Disk.content c.write.new.disk)) (c.gather_old.ensures.layout ∙ c.requires.twin) (c.write.ensures.outside told)) only_new (subst (λ (m : Layout). twin_gate m (g.D.Disk.content c.write.new.disk) ≡ 0) (c.gather_old.ensures.layout ∙ c.requires.twin) shut) (λ which. subst (λ (m : Layout). home m (g.D.Disk.content c.write.new.disk) which ≡ with_batch c.gather_old.new.twin.batch which (home m (g.D.Disk.content c.flush.new.disk) which)) (c.gather_old.ensures.layout ∙ c.requires.twin) (written which)) (held_in c.gather_old.new.self) c.gather_old.ensures.gathered c.last_is_dirty.ensures.memory.differ (c.requires.clean told);
  only = λ was. only_new;
  shut = λ was. subst (λ (t : LogState). IsShutBehind c.args.layout.now t (g.D.Disk.content c.write.new.disk)) (sym c.in_ok-flush.ensures.flushed)
      (batch_shut c.args.layout.now c.args.log.now (g.D.Disk.content c.flush.new.disk) (g.D.Disk.content c.write.new.disk) c.requires.head
      (omega (arith, c.used.ensures.used, c.used.ensures.below, ap (λ (m : Layout). m.log) c.requires.log))
      (subst (λ (m : Layout). SameBut (twin_offset m 0) (file_length m) (g.D.Disk.content c.flush.new.disk) (g.D.Disk.content c.write.new.disk)) (c.gather_old.ensures.layout ∙ c.requires.twin) (c.write.ensures.outside told))
      (shut_at g.D.Disk c.args.log.now c.args.layout.now c.requires.log c.args.disk.now c.flush.new.disk (c.in_ok-flush.ensures.closed told) (c.in_ok-flush.ensures.none told) was));
}) (c.write.ensures.durable told) (c.write.ensures.shut told) (c.write.ensures.written told)

pub returns-clause-any_moment : goal.returns-clause-any_moment
returns-clause-any_moment g c = λ told. write_leaves g.D.Disk (λ disk t im le here. g.met.D.Disk.now_counts disk t im told le here) (λ disk im left. g.met.D.Disk.only_now disk im told left) c.args.layout.now c.args.log.now c.requires.head c.args.disk.now (c.requires.calm told) (held_in c.args.frames.now) c.flush.new.disk (images_at g.D.Disk c.args.log.now c.args.layout.now c.requires.log c.args.disk.now c.flush.new.disk (c.flush.ensures.images told)) (outside_at g.D.Disk c.args.log.now c.args.layout.now c.requires.log c.args.disk.now c.flush.new.disk (c.in_ok-flush.ensures.outside told)) (durable_at g.D.Disk c.args.log.now c.args.layout.now c.requires.log c.args.disk.now c.flush.new.disk (c.in_ok-flush.ensures.durable told)) (moments_at g.D.Disk c.args.log.now c.args.layout.now c.requires.log c.args.disk.now c.flush.new.disk (c.flush.ensures.any_moment told)) (logged_at g.D.Disk c.args.log.now c.args.layout.now c.requires.log c.args.disk.now c.flush.new.disk (c.in_ok-flush.ensures.written told)) c.gather_old.new.twin.batch c.gather_old.ensures.gathered.seen_are c.write.new.disk (subst (λ (m : Layout). Leaves g.D.Disk c.flush.new.disk c.write.new.disk (TwinSome (g.D.Disk.image c.flush.new.disk) m c.gather_old.new.twin.batch (g.D.Disk.content c.flush.new.disk))) (c.gather_old.ensures.layout ∙ c.requires.twin) (c.write.ensures.any_moment told))

pub returns-clause-done : goal.returns-clause-done
returns-clause-done g c = λ told. on_ok_three c.write.result
    (λ only_new shut written. subst (λ (t : LogState). IsDone g.D.Disk c.args.layout.now c.args.log.now t c.args.disk.now c.write.new.disk (SeenAt c.args.layout.now (g.D.Disk.content c.args.disk.now) (held_in c.args.frames.now)))
    (sym c.in_ok-flush.ensures.flushed) (write_done g.D.Disk (λ disk t im le here. g.met.D.Disk.now_counts disk t im told le here) (λ disk im left. g.met.D.Disk.only_now disk im told left) c.args.layout.now c.args.log.now c.requires.head c.args.disk.now (c.requires.calm told) (held_in c.args.frames.now) c.flush.new.disk (images_at g.D.Disk c.args.log.now c.args.layout.now c.requires.log c.args.disk.now c.flush.new.disk (c.flush.ensures.images told)) (outside_at g.D.Disk c.args.log.now c.args.layout.now c.requires.log c.args.disk.now c.flush.new.disk (c.in_ok-flush.ensures.outside told)) (durable_at g.D.Disk c.args.log.now c.args.layout.now c.requires.log c.args.disk.now c.flush.new.disk (c.in_ok-flush.ensures.durable told)) (moments_at g.D.Disk c.args.log.now c.args.layout.now c.requires.log c.args.disk.now c.flush.new.disk (c.flush.ensures.any_moment told)) (logged_at g.D.Disk c.args.log.now c.args.layout.now c.requires.log c.args.disk.now c.flush.new.disk (c.in_ok-flush.ensures.written told)) c.gather_old.new.twin.batch c.gather_old.ensures.gathered.seen_are c.write.new.disk (subst (λ (m : Layout). SameBut (twin_offset m 0) (file_length m) (g.D.Disk.content c.flush.new.disk) (g.D.Disk.content c.write.new.disk)) (c.gather_old.ensures.layout ∙ c.requires.twin) (c.write.ensures.outside told)) only_new (subst (λ (m : Layout). twin_gate m (g.D.Disk.content c.write.new.disk) ≡ 0) (c.gather_old.ensures.layout ∙ c.requires.twin) shut) (λ which. subst (λ (m : Layout). home m (g.D.Disk.content c.write.new.disk) which ≡ with_batch c.gather_old.new.twin.batch which (home m (g.D.Disk.content c.flush.new.disk) which)) (c.gather_old.ensures.layout ∙ c.requires.twin) (written which)) (subst (λ (m : Layout). Leaves g.D.Disk c.flush.new.disk c.write.new.disk (TwinSome (g.D.Disk.image c.flush.new.disk) m c.gather_old.new.twin.batch (g.D.Disk.content c.flush.new.disk))) (c.gather_old.ensures.layout ∙ c.requires.twin) (c.write.ensures.any_moment told)))) (c.write.ensures.durable told) (c.write.ensures.shut told) (c.write.ensures.written told)

pub returns-in_err-flush-clause-room : goal.returns-in_err-flush-clause-room
returns-in_err-flush-clause-room g c = λ less. let full = c.last_is_dirty.ensures.full c.if-not-last_is_dirty.false in absurd (omega (arith, full, less))

pub returns-in_err-flush-clause-quiet : goal.returns-in_err-flush-clause-quiet
returns-in_err-flush-clause-quiet g c = λ none. absurd (c.last_is_dirty.ensures.some c.if-not-last_is_dirty.false none)

pub returns-clause-room : goal.returns-clause-room
returns-clause-room g c = λ less. let full = c.last_is_dirty.ensures.full c.if-not-last_is_dirty.false in absurd (omega (arith, full, less))

pub returns-clause-quiet : goal.returns-clause-quiet
returns-clause-quiet g c = λ none. absurd (c.last_is_dirty.ensures.some c.if-not-last_is_dirty.false none)
