use Rattle.std.proofs.Common.{◌≡◌, inl, inr, ◌<◌, ℕ, true, false, List, [], ◌∷◌, ◌++◌, length, get_or, set, arith, ap, sym, ◌∙◌, subst, refl, length-append}
use Rattle.std.proofs.lemmas.Bool.{cases_eq}
use Rattle.std.proofs.lemmas.List.{length-set}
use Rattle.std.specs.Map.{keys_of}
use Rattle.rb_layout.specs.Regions.{block_count}
use Rattle.rb_layout.specs.declared.layout.Layout.{Layout}
use Rattle.rb_twin.specs.Batches.{Image, IsNoneOf}
use Rattle.rb_twin.specs.Twins.{TwinState}
use Rattle.rb_cache.specs.Frames.{AreBelow}
use Rattle.rb_cache.specs.Slots.{FramesState, GatheredSoFar, frame_at, held_of}
use Rattle.rb_cache.specs.declared.frame.Frame.{Frame}
use Rattle.rb_cache.proofs.GatherLemmas.{cleaner_set, gathered_maybe, gathered_none, grows, image_of, put, put_below, put_differs}
use Rattle.rb_cache.proofs.MemoryLemmas.{memory_of}
use Rattle.rb_cache.proofs.SlotLemmas.{at_set_same}
use Rattle.rb_cache.proofs.UseLemmas.{at_is}
use Rattle.rb_cache.proofs.frames.Frames.gather_from.Goals as goal

pub loop-next-init : goal.loop-next-init
loop-next-init c =
    let i = c.self.inside in
    record {
      from = omega arith;
      end = omega (arith, c.requires.from, ap (λ (s : FramesState). length s.slots) c.self.view_is);
      order = ap (λ (s : FramesState). s.order) c.self.view_is;
      so_far = subst (λ (b : List Image). GatheredSoFar c.args.self.now.slots i.slots.items (keys_of i.order.entries) i.places.items b) (sym c.requires.empty)
          (subst (λ (s : FramesState). GatheredSoFar s.slots i.slots.items (keys_of i.order.entries) i.places.items []) c.self.view_is (gathered_none i.slots.items (keys_of i.order.entries) i.places.items c.self.invariant));
      clean = λ k le lt. absurd (omega (arith, le, lt));
      layout = refl;
      same = λ is. ap (λ (s : FramesState). s.slots) c.self.view_is;
      some = λ dirty lt. absurd (omega (arith, lt));
      on = inr (ap length c.requires.empty);
    }

-- the frame that is looked at
read : (slots : List Frame) (k : ℕ) (f : Frame) → k < length slots → f ≡ get_or slots k f → frame_at slots k ≡ f
read slots k f lt is = at_is slots k f lt is

pub put_home-requires-clause-differs : goal.put_home-requires-clause-differs
put_home-requires-clause-differs c = λ dirty.
    let i = c.loop-next.invariant in
    let own = read c.loop-next.self-inside.slots.items c.loop-next.next c.index_mut.result.now (omega arith) c.index_mut.ensures.value in
    subst (λ (f : Frame). IsNoneOf f.block c.loop-next.twin.batch) own
    (put_differs c.args.self.now.slots c.loop-next.self-inside.slots.items (keys_of c.loop-next.self-inside.order.entries) c.loop-next.self-inside.places.items c.loop-next.twin.batch i.so_far c.loop-next.next (omega arith) (ap (λ (f : Frame). f.dirty) own ∙ dirty))

pub put_home-requires-clause-within : goal.put_home-requires-clause-within
put_home-requires-clause-within c = λ dirty.
    let i = c.loop-next.invariant in
    let own = read c.loop-next.self-inside.slots.items c.loop-next.next c.index_mut.result.now (omega arith) c.index_mut.ensures.value in
    let below : AreBelow (block_count c.loop-next.twin.layout) (held_of c.args.self.now.slots (keys_of c.loop-next.self-inside.order.entries)) =
    subst (λ (l : Layout). AreBelow (block_count l) (held_of c.args.self.now.slots (keys_of c.loop-next.self-inside.order.entries))) (sym i.layout)
    (subst (λ (ks : List ℕ). AreBelow (block_count c.args.twin.now.layout) (held_of c.args.self.now.slots ks)) (sym i.order) c.requires.within) in
    subst (λ (f : Frame). f.block < block_count c.loop-next.twin.layout) own
    (put_below c.args.self.now.slots c.loop-next.self-inside.slots.items (keys_of c.loop-next.self-inside.order.entries) c.loop-next.self-inside.places.items c.loop-next.twin.batch i.so_far c.loop-next.next (omega arith) (ap (λ (f : Frame). f.dirty) own ∙ dirty)
    (block_count c.loop-next.twin.layout) below)

pub loop-next-preserved : goal.loop-next-preserved
loop-next-preserved c =
    let i = c.loop-next.invariant in
    let slots = c.loop-next.self-inside.slots.items in
    let k = c.loop-next.next in
    let lt : k < length slots = omega arith in
    let own = read slots k c.index_mut.result.now lt c.index_mut.ensures.value in
    let now : put (frame_at slots k) ≡ c.put_home.new.self = ap put own ∙ sym c.put_home.ensures.clean in
    let stays : (frame_at slots k).dirty ≡ false → c.put_home.new.twin.batch ≡ c.loop-next.twin.batch =
    λ clean. ap (λ (t : TwinState). t.batch) (c.put_home.ensures.stays (sym (ap (λ (f : Frame). f.dirty) own) ∙ clean)) in
    let puts : (frame_at slots k).dirty ≡ true → c.put_home.new.twin.batch ≡ c.loop-next.twin.batch ++ image_of (frame_at slots k) ∷ [] =
    λ dirty. ap (λ (t : TwinState). t.batch) (c.put_home.ensures.put (sym (ap (λ (f : Frame). f.dirty) own) ∙ dirty)) ∙ ap (λ (f : Frame). c.loop-next.twin.batch ++ image_of f ∷ []) (sym own) in
    let room : length c.loop-next.twin.batch < 8 = omega arith in
    let long : length (set slots k c.put_home.new.self) ≡ length slots = length-set slots k c.put_home.new.self in
    record {
      from = omega arith;
      end = omega (arith, long, lt);
      order = i.order;
      so_far = subst (λ (f : Frame). GatheredSoFar c.args.self.now.slots (set slots k f) (keys_of c.loop-next.self-inside.order.entries) c.loop-next.self-inside.places.items c.put_home.new.twin.batch) now
          (gathered_maybe c.args.self.now.slots slots (keys_of c.loop-next.self-inside.order.entries) c.loop-next.self-inside.places.items c.loop-next.twin.batch c.put_home.new.twin.batch i.so_far k lt room stays puts);
      clean = λ j le below. elim (cases_eq j k) [
        | inl here ↦ ap (λ (n : ℕ). (frame_at (set slots k c.put_home.new.self) n).dirty) here ∙ ap (λ (f : Frame). f.dirty) (at_set_same slots k c.put_home.new.self lt) ∙ ap (λ (f : Frame). f.dirty) (sym now)
        | inr differ ↦ cleaner_set slots k c.put_home.new.self lt (ap (λ (f : Frame). f.dirty) (sym now)) j (i.clean j le (omega (arith, below, differ)))
      ];
      layout = c.put_home.ensures.layout ∙ i.layout;
      same = λ is. absurd (omega (arith, is, i.from));
      some = λ dirty lt. elim (cases_eq c.args.from k) [
        | inl here ↦
            let is : (frame_at slots k).dirty ≡ true = ap (λ (ss : List Frame). (frame_at ss k).dirty) (i.same (sym here)) ∙ subst (λ (j : ℕ). (frame_at c.args.self.now.slots j).dirty ≡ true) here dirty in
            omega (arith, ap length (puts is), length-append c.loop-next.twin.batch (image_of (frame_at slots k) ∷ []))
        | inr differ ↦ let was = i.some dirty (omega (arith, i.from, differ)) in let more = grows (frame_at slots k) c.loop-next.twin.batch c.put_home.new.twin.batch stays puts in omega (arith, was, more)
      ];
      on = inl (omega arith);
    }

pub returns-else-len-lt-TWIN_IMAGES-clause-memory : goal.returns-else-len-lt-TWIN_IMAGES-clause-memory
returns-else-len-lt-TWIN_IMAGES-clause-memory c = memory_of c.loop-next.self-inside.slots.items (keys_of c.loop-next.self-inside.order.entries) c.loop-next.self-inside.places.items c.loop-next.invariant.so_far.frames

pub returns-after-loop-next-clause-memory : goal.returns-after-loop-next-clause-memory
returns-after-loop-next-clause-memory c = memory_of c.loop-next.self-inside.slots.items (keys_of c.loop-next.self-inside.order.entries) c.loop-next.self-inside.places.items c.loop-next.invariant.so_far.frames
