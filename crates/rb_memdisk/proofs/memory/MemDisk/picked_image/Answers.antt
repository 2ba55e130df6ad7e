use Rattle.std.proofs.Common.{rules, ◌≡◌, ◌-◌, ◌≤◌, List, ℕ, length, drop, take, get_or, ◌∙◌, ap, arith}
use Rattle.std.proofs.lemmas.List.{take_rest}
use Rattle.rb_memdisk.specs.declared.call.Call.TheVariants.{Length}
use Rattle.rb_memdisk.specs.Record.{read_after, left_after, picked_after}
use Rattle.rb_memdisk.specs.Replays.{covers_start, fits_front}
use Rattle.rb_memdisk.proofs.Picking.{can_fill, next_fits, fitting_on, same_on, covers_on, used_on}
use Rattle.rb_memdisk.proofs.memory.MemDisk.picked_image.Goals as goal

pub loop-call-init : goal.loop-call-init
loop-call-init c =
    let file : c.in_ok-file.file.items ≡ c.args.self.now.first.items = search rules in
    let image : c.in_ok-image.image.items ≡ c.args.self.now.first.items = search rules in
    let calls : c.deref-3.result.now ≡ c.args.self.now.calls.items = c.deref-3.ensures.value in
    record {
      fitting = rw (file, calls) (fits_front c.args.self.now.first.items c.args.self.now.calls.items c.args.self.now.written.items c.args.k c.args.self.now.fitting);
      same = rw (file, image);
      covers = rw (file, image) (covers_start c.args.pick c.args.self.now.first.items);
      calls = rw calls;
      used = omega arith;
    }

pub replay-requires : goal.replay-requires
replay-requires c =
    let rest : take (length c.deref-in-loop-call.result.now - c.loop-call.used) (drop c.loop-call.used c.deref-in-loop-call.result.now) ≡ drop c.loop-call.used c.args.self.now.written.items =
    take_rest c.deref-in-loop-call.result.now c.loop-call.used ∙ ap (λ (l : List ℕ). drop c.loop-call.used l) c.deref-in-loop-call.ensures.value in
    rw rest (next_fits c.loop-call.file.items (take c.args.k c.deref-3.result.now) c.loop-call.call-index (drop c.loop-call.used c.args.self.now.written.items) c.loop-call-test.true c.loop-call.invariant.fitting)

pub pick_on-requires : goal.pick_on-requires
pick_on-requires c =
    can_fill c.args.pick c.loop-call.image.items c.loop-call.file.items _ (drop c.loop-call.used c.args.self.now.written.items) c.loop-call.invariant.covers
    (next_fits c.loop-call.file.items (take c.args.k c.deref-3.result.now) c.loop-call.call-index (drop c.loop-call.used c.args.self.now.written.items) c.loop-call-test.true c.loop-call.invariant.fitting)

pub loop-call-preserved : goal.loop-call-preserved
loop-call-preserved c =
    let rest : take (length c.deref-in-loop-call.result.now - c.loop-call.used) (drop c.loop-call.used c.deref-in-loop-call.result.now) ≡ drop c.loop-call.used c.args.self.now.written.items =
    take_rest c.deref-in-loop-call.result.now c.loop-call.used ∙ ap (λ (l : List ℕ). drop c.loop-call.used l) c.deref-in-loop-call.ensures.value in
    let calls = take c.args.k c.deref-3.result.now in
    let read : c.replay.new.file.items ≡ read_after c.loop-call.file.items (get_or calls c.loop-call.call-index Length) (drop c.loop-call.used c.args.self.now.written.items) =
    rw rest at c.in_ok-used.ensures.read in
    let few : c.in_ok-used.field-0 ≤ length (drop c.loop-call.used c.args.self.now.written.items) = rw rest at c.in_ok-used.ensures.left.0 in
    let left : drop c.in_ok-used.field-0 (drop c.loop-call.used c.args.self.now.written.items) ≡ left_after (get_or calls c.loop-call.call-index Length) (drop c.loop-call.used c.args.self.now.written.items) =
    rw rest at c.in_ok-used.ensures.left.1 in
    let picked : c.pick_on.new.image.items ≡ picked_after c.args.pick c.loop-call.image.items (get_or calls c.loop-call.call-index Length) c.replay.new.file.items =
    rw c.deref-in-loop-call-2.ensures.value at c.in_ok-pick_on.ensures in
    record {
      fitting = fitting_on c.args.pick c.loop-call.image.items c.loop-call.file.items c.pick_on.new.image.items c.replay.new.file.items c.args.self.now.written.items calls c.loop-call.call-index c.loop-call.used c.in_ok-used.field-0 c.loop-call-test.true c.loop-call.invariant.used c.loop-call.invariant.fitting read few left picked;
      same = same_on c.args.pick c.loop-call.image.items c.loop-call.file.items c.pick_on.new.image.items c.replay.new.file.items c.args.self.now.written.items calls c.loop-call.call-index c.loop-call.used c.in_ok-used.field-0 c.loop-call-test.true c.loop-call.invariant.used c.loop-call.invariant.fitting read few left picked ∙ c.loop-call.invariant.same;
      covers = covers_on c.args.pick c.loop-call.image.items c.loop-call.file.items c.pick_on.new.image.items c.replay.new.file.items c.args.self.now.written.items calls c.loop-call.call-index c.loop-call.used c.in_ok-used.field-0 c.loop-call-test.true c.loop-call.invariant.used c.loop-call.invariant.fitting read few left picked c.loop-call.invariant.covers;
      calls = c.loop-call.invariant.calls;
      used = used_on c.args.pick c.loop-call.image.items c.loop-call.file.items c.pick_on.new.image.items c.replay.new.file.items c.args.self.now.written.items calls c.loop-call.call-index c.loop-call.used c.in_ok-used.field-0 c.loop-call-test.true c.loop-call.invariant.used c.loop-call.invariant.fitting read few left picked;
    }
