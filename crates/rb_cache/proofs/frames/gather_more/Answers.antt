use Rattle.std.proofs.Common.{◌≡◌, ℕ, ◌<◌, true, false, List, [], ◌∷◌, ◌++◌, length, get_or, set, arith, ap, sym, ◌∙◌, subst, refl}
use Rattle.std.proofs.lemmas.List.{get_or_default, length-set}
use Rattle.std.specs.List.{AllByRecursion}
use Rattle.std.specs.Map.{keys_of}
use Rattle.rb_layout.specs.Regions.{block_count}
use Rattle.rb_layout.specs.declared.layout.Layout.{Layout}
use Rattle.rb_twin.specs.Batches.{IsNoneOf}
use Rattle.rb_twin.specs.Twins.{TwinState}
use Rattle.rb_cache.specs.Frames.{AreBelow}
use Rattle.rb_cache.specs.Slots.{GatheredSoFar, frame_at, held_of, no_frame}
use Rattle.rb_cache.specs.declared.frame.Frame.{Frame}
use Rattle.rb_cache.proofs.GatherLemmas.{all_split, cleaner_set, entries_below, gathered_maybe, grows, image_of, put, put_below, put_differs}
use Rattle.rb_cache.proofs.frames.gather_more.Goals as goal

pub loop-frame-init : goal.loop-frame-init
loop-frame-init c = record {
  can_next = tt;
  is_finite = tt;
  rest = subst (λ (es : List (ℕ × Unit {0})). AllByRecursion (λ e. e.0 < length c.args.slots.now) es)
      (sym (ap (λ t. t.iter.iter) c.into_iter-frame-iterator.ensures.into_iter_gives ∙ ap (λ r. r.iter) c.take-frame-items.ensures.source ∙ c.rev.ensures.source ∙ c.iter.ensures.rest))
      (entries_below (length c.args.slots.now) c.args.order.now.entries c.requires.begun.so_far.frames.below);
  begun = c.requires.begun;
  gathered = λ before places so_far. so_far;
  cleaner = λ k is. is;
  more = omega arith;
  layout = refl;
  count = refl;
}

-- the next frame is one
there : (n k : ℕ) (es front : List (ℕ × Unit {0})) (e : ℕ × Unit {0}) (frame : ℕ) → es ≡ front ++ e ∷ [] → AllByRecursion (λ e. e.0 < n) es → e.0 ≡ frame → k ≡ frame → k < n
there n k es front e frame split all is from =
    let last = all_split (λ (e : ℕ × Unit {0}). e.0 < n) front e (subst (AllByRecursion (λ (e : ℕ × Unit {0}). e.0 < n)) split all) in
    subst (λ (j : ℕ). j < n) (is ∙ sym from) last.1

pub bounds-slots-from : goal.bounds-slots-from
bounds-slots-from c = there (length c.loop-frame.slots) c.from.result c.loop-frame.frame-iterator.iter.iter c.next.new.self.iter.iter (c.in-Some.field-0-0.now, c.in-Some.field-0-1.now) c.in-Some.field-0-0.now c.in-Some.ensures.steps.0 c.loop-frame.invariant.rest refl c.from.ensures

pub offset_bounds-slots-from : goal.offset_bounds-slots-from
offset_bounds-slots-from c = let few = c.loop-frame.invariant.begun.so_far.frames.few in let lt = there (length c.loop-frame.slots) c.from.result c.loop-frame.frame-iterator.iter.iter c.next.new.self.iter.iter (c.in-Some.field-0-0.now, c.in-Some.field-0-1.now) c.in-Some.field-0-0.now c.in-Some.ensures.steps.0 c.loop-frame.invariant.rest refl c.from.ensures in omega (arith, lt, few)

-- and stands at its number
at : (slots : List Frame) (k : ℕ) (f : Frame) → k < length slots → frame_at slots k ≡ get_or slots k f
at slots k f lt = get_or_default slots k no_frame f lt

pub put_home-requires-clause-differs : goal.put_home-requires-clause-differs
put_home-requires-clause-differs c = λ dirty.
    let lt = there (length c.loop-frame.slots) c.from.result c.loop-frame.frame-iterator.iter.iter c.next.new.self.iter.iter (c.in-Some.field-0-0.now, c.in-Some.field-0-1.now) c.in-Some.field-0-0.now c.in-Some.ensures.steps.0 c.loop-frame.invariant.rest refl c.from.ensures in
    let own = at c.loop-frame.slots c.from.result (record { block = 0; bytes = []; dirty = false }) lt in
    let b = c.loop-frame.invariant.begun in
    subst (λ (f : Frame). IsNoneOf f.block c.loop-frame.twin.batch) own
    (put_differs b.before c.loop-frame.slots (keys_of c.args.order.now.entries) b.places c.loop-frame.twin.batch b.so_far c.from.result lt (ap (λ (f : Frame). f.dirty) own ∙ dirty))

pub put_home-requires-clause-within : goal.put_home-requires-clause-within
put_home-requires-clause-within c = λ dirty.
    let lt = there (length c.loop-frame.slots) c.from.result c.loop-frame.frame-iterator.iter.iter c.next.new.self.iter.iter (c.in-Some.field-0-0.now, c.in-Some.field-0-1.now) c.in-Some.field-0-0.now c.in-Some.ensures.steps.0 c.loop-frame.invariant.rest refl c.from.ensures in
    let own = at c.loop-frame.slots c.from.result (record { block = 0; bytes = []; dirty = false }) lt in
    let b = c.loop-frame.invariant.begun in
    subst (λ (f : Frame). f.block < block_count c.loop-frame.twin.layout) own
    (put_below b.before c.loop-frame.slots (keys_of c.args.order.now.entries) b.places c.loop-frame.twin.batch b.so_far c.from.result lt (ap (λ (f : Frame). f.dirty) own ∙ dirty)
    (block_count c.loop-frame.twin.layout) b.within)

pub loop-frame-preserved : goal.loop-frame-preserved
loop-frame-preserved c =
    let i = c.loop-frame.invariant in
    let slots = c.loop-frame.slots in
    let k = c.from.result in
    let lt = there (length c.loop-frame.slots) c.from.result c.loop-frame.frame-iterator.iter.iter c.next.new.self.iter.iter (c.in-Some.field-0-0.now, c.in-Some.field-0-1.now) c.in-Some.field-0-0.now c.in-Some.ensures.steps.0 c.loop-frame.invariant.rest refl c.from.ensures in
    let order = keys_of c.args.order.now.entries in
    let own = at slots k (record { block = 0; bytes = []; dirty = false }) lt in
    let now : put (frame_at slots k) ≡ c.put_home.new.self = ap put own ∙ sym c.put_home.ensures.clean in
    let stays : (frame_at slots k).dirty ≡ false → c.put_home.new.twin.batch ≡ c.loop-frame.twin.batch =
    λ clean. ap (λ (t : TwinState). t.batch) (c.put_home.ensures.stays (sym (ap (λ (f : Frame). f.dirty) own) ∙ clean)) in
    let puts : (frame_at slots k).dirty ≡ true → c.put_home.new.twin.batch ≡ c.loop-frame.twin.batch ++ image_of (frame_at slots k) ∷ [] =
    λ dirty. ap (λ (t : TwinState). t.batch) (c.put_home.ensures.put (sym (ap (λ (f : Frame). f.dirty) own) ∙ dirty)) ∙ ap (λ (f : Frame). c.loop-frame.twin.batch ++ image_of f ∷ []) (sym own) in
    let room : length c.loop-frame.twin.batch < 8 = omega (arith, c.len.ensures.count, c.len.ensures.few, c.if-len-eq-TWIN_IMAGES.false) in
    let step : (before : List Frame) (places : List ℕ) → GatheredSoFar before slots order places c.loop-frame.twin.batch → GatheredSoFar before (set slots k c.put_home.new.self) order places c.put_home.new.twin.batch =
    λ before places so_far. subst (λ (f : Frame). GatheredSoFar before (set slots k f) order places c.put_home.new.twin.batch) now
    (gathered_maybe before slots order places c.loop-frame.twin.batch c.put_home.new.twin.batch so_far k lt room stays puts) in
    let long : length (set slots k c.put_home.new.self) ≡ length slots = length-set slots k c.put_home.new.self in
    let grown = grows (frame_at slots k) c.loop-frame.twin.batch c.put_home.new.twin.batch stays puts in
    record {
      can_next = tt;
      is_finite = tt;
      rest = subst (λ (n : ℕ). AllByRecursion (λ (e : ℕ × Unit {0}). e.0 < n) c.next.new.self.iter.iter) (sym long)
          (all_split (λ (e : ℕ × Unit {0}). e.0 < length slots) c.next.new.self.iter.iter (c.in-Some.field-0-0.now, c.in-Some.field-0-1.now)
          (subst (AllByRecursion (λ (e : ℕ × Unit {0}). e.0 < length slots)) c.in-Some.ensures.steps.0 i.rest)).0;
      begun = record {
        before = i.begun.before;
        places = i.begun.places;
        so_far = step i.begun.before i.begun.places i.begun.so_far;
        within = subst (λ (l : Layout). AreBelow (block_count l) (held_of i.begun.before order)) (sym c.put_home.ensures.layout) i.begun.within;
      };
      gathered = λ before places so_far. step before places (i.gathered before places so_far);
      cleaner = λ j is. cleaner_set slots k c.put_home.new.self lt (ap (λ (f : Frame). f.dirty) (sym now)) j (i.cleaner j is);
      more = omega (arith, i.more, grown);
      layout = c.put_home.ensures.layout ∙ i.layout;
      count = long ∙ i.count;
    }
