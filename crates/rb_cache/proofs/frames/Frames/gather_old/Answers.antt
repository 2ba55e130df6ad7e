use Rattle.std.proofs.Common.{◌≡◌, ◌-◌, ◌<◌, ℕ, true, false, List, [], ◌∷◌, ◌++◌, length, get_or, set, take, drop, arith, ap, sym, ◌∙◌, subst}
use Rattle.std.proofs.Math.Seq.{take-append_seam}
use Rattle.std.proofs.lemmas.List.{length-set}
use Rattle.std.specs.Map.{keys_of}
use Rattle.rb_layout.specs.Regions.{block_count}
use Rattle.rb_layout.specs.declared.layout.Layout.{Layout}
use Rattle.rb_twin.specs.Batches.{Image}
use Rattle.rb_twin.specs.Twins.{TwinState}
use Rattle.rb_cache.specs.Frames.{AreBelow, Gathered, IsCacheMemory, IsLastClean}
use Rattle.rb_cache.specs.Slots.{AreFrames, FramesState, GatheredSoFar, cache_of, frame_at, held_in, held_of, last_of}
use Rattle.rb_cache.specs.declared.frame.Frame.{Frame}
use Rattle.rb_cache.proofs.GatherLemmas.{gathered_maybe, gathered_none, image_of, put, put_below}
use Rattle.rb_cache.proofs.MemoryLemmas.{memory_of}
use Rattle.rb_cache.proofs.SlotLemmas.{at_set_same}
use Rattle.rb_cache.proofs.UseLemmas.{at_is, last_below, last_is_clean}
use Rattle.rb_cache.proofs.frames.Frames.gather_old.Goals as goal

-- the last number, as it was found
last : (s : FramesState) (slots : List Frame) (order : List ℕ) (v k : ℕ) → record { slots = slots; order = order } ≡ s → v ≡ get_or s.order (length s.order - 1) 0 → k ≡ v → k ≡ get_or order (length order - 1) 0
last s slots order v k view is from = from ∙ is ∙ ap (λ (t : FramesState). get_or t.order (length t.order - 1) 0) (sym view)

-- what a slice writes back
written_back : (len : ℕ) (new old : List Frame) → length new ≡ length old → len ≡ length old → take len (new ++ drop (length new) old) ≡ new
written_back len new old same is = ap (λ (n : ℕ). take n (new ++ drop (length new) old)) (is ∙ sym same) ∙ take-append_seam new (drop (length new) old)

pub put_home-requires-clause-within : goal.put_home-requires-clause-within
put_home-requires-clause-within c = λ dirty.
    let i = c.self.inside in let order = keys_of i.order.entries in
    let found = last c.args.self.now i.slots.items order c.last_number-last.result c.from.result c.self.view_is c.last_number-last.ensures c.from.ensures in
    let lt = last_below i.slots.items order i.places.items c.self.invariant c.from.result found in
    let own = at_is i.slots.items c.from.result c.index_mut.result.now lt c.index_mut.ensures.value in
    subst (λ (f : Frame). f.block < block_count c.args.twin.now.layout) own
    (put_below i.slots.items i.slots.items order i.places.items [] (gathered_none i.slots.items order i.places.items c.self.invariant) c.from.result lt (ap (λ (f : Frame). f.dirty) own ∙ dirty) (block_count c.args.twin.now.layout)
    (subst (λ (s : FramesState). AreBelow (block_count c.args.twin.now.layout) (held_in s)) (sym c.self.view_is) c.requires.within))

module _ (slots : List Frame) (order places : List ℕ) (are : AreFrames slots order places) (k : ℕ) (lt : k < length slots) (was now : Frame) (own : frame_at slots k ≡ was) (dirty : was.dirty ≡ true) (is : now ≡ record was { dirty = false }) (before after : TwinState) (empty : before.batch ≡ [])
    (puts : was.dirty ≡ true → after ≡ record before { batch = before.batch ++ record { no = was.block; unit = was.bytes } ∷ [] }) where
  first_put : GatheredSoFar slots (set slots k now) order places after.batch
  first_put = subst (λ (f : Frame). GatheredSoFar slots (set slots k f) order places after.batch) (ap put own ∙ sym is)
      (gathered_maybe slots slots order places before.batch after.batch
      (subst (λ (b : List Image). GatheredSoFar slots slots order places b) (sym empty) (gathered_none slots order places are)) k lt (omega (arith, ap length empty))
      (λ clean. cc (clean, ap (λ (f : Frame). f.dirty) own, dirty))
      (λ also. ap (λ (t : TwinState). t.batch) (puts dirty) ∙ ap (λ (f : Frame). before.batch ++ image_of f ∷ []) (sym own)))

-- the facts of the frame that gives way
dirty_last : (s : FramesState) (slots : List Frame) (order : List ℕ) (k : ℕ) → record { slots = slots; order = order } ≡ s → k ≡ get_or order (length order - 1) 0 → (last_of s).dirty ≡ true → (frame_at slots k).dirty ≡ true
dirty_last s slots order k view found dirty =
    ap (λ (j : ℕ). (frame_at slots j).dirty) found ∙ ap (λ (t : FramesState). (last_of t).dirty) view ∙ dirty

pub gather_more-requires : goal.gather_more-requires
gather_more-requires c =
    let i = c.self.inside in let order = keys_of i.order.entries in
    let found = last c.args.self.now i.slots.items order c.last_number-last.result c.from.result c.self.view_is c.last_number-last.ensures c.from.ensures in
    let lt = last_below i.slots.items order i.places.items c.self.invariant c.from.result found in
    let own = at_is i.slots.items c.from.result c.index_mut.result.now lt c.index_mut.ensures.value in
    let dirty = sym (ap (λ (f : Frame). f.dirty) own) ∙ dirty_last c.args.self.now i.slots.items order c.from.result c.self.view_is found c.requires.dirty in
    record {
      begun = record {
        before = i.slots.items;
        places = i.places.items;
        so_far = subst (λ (ss : List Frame). GatheredSoFar i.slots.items ss order i.places.items c.put_home.new.twin.batch) (sym c.as_mut_slice.ensures.value)
            (first_put i.slots.items order i.places.items c.self.invariant c.from.result lt c.index_mut.result.now c.put_home.new.self own dirty c.put_home.ensures.clean c.args.twin.now c.put_home.new.twin c.requires.empty c.put_home.ensures.put);
        within = subst (λ (l : Layout). AreBelow (block_count l) (held_of i.slots.items order)) (sym c.put_home.ensures.layout)
            (subst (λ (s : FramesState). AreBelow (block_count c.args.twin.now.layout) (held_in s)) (sym c.self.view_is) c.requires.within);
      };
    }

-- what is left at the end, and that the last frame is clean then
final : (c : goal.After-self-2-1) → GatheredSoFar c.self.inside.slots.items c.gather_more.new.slots (keys_of c.self.inside.order.entries) c.self.inside.places.items c.gather_more.new.twin.batch
final c =
    let i = c.self.inside in let order = keys_of i.order.entries in
    let found = last c.args.self.now i.slots.items order c.last_number-last.result c.from.result c.self.view_is c.last_number-last.ensures c.from.ensures in
    let lt = last_below i.slots.items order i.places.items c.self.invariant c.from.result found in
    let own = at_is i.slots.items c.from.result c.index_mut.result.now lt c.index_mut.ensures.value in
    let dirty = sym (ap (λ (f : Frame). f.dirty) own) ∙ dirty_last c.args.self.now i.slots.items order c.from.result c.self.view_is found c.requires.dirty in
    c.gather_more.ensures.gathered i.slots.items i.places.items
    (subst (λ (ss : List Frame). GatheredSoFar i.slots.items ss order i.places.items c.put_home.new.twin.batch) (sym c.as_mut_slice.ensures.value)
    (first_put i.slots.items order i.places.items c.self.invariant c.from.result lt c.index_mut.result.now c.put_home.new.self own dirty c.put_home.ensures.clean c.args.twin.now c.put_home.new.twin c.requires.empty c.put_home.ensures.put))

back : (c : goal.After-self-2-1) → take c.self.inside.slots.len (c.gather_more.new.slots ++ drop (length c.gather_more.new.slots) (set c.self.inside.slots.items c.from.result c.put_home.new.self)) ≡ c.gather_more.new.slots
back c =
    let i = c.self.inside in
    let long = length-set i.slots.items c.from.result c.put_home.new.self in
    let all = final c in
    written_back i.slots.len c.gather_more.new.slots (set i.slots.items c.from.result c.put_home.new.self) (all.long ∙ sym long) (omega (arith, i.slots.ok.0, long))

pub invariant_of-self : goal.invariant_of-self
invariant_of-self c = subst (λ (ss : List Frame). AreFrames ss (keys_of c.self.inside.order.entries) c.self.inside.places.items) (sym (back c)) (let all = final c in all.frames)

pub returns-clause-gathered : goal.returns-clause-gathered
returns-clause-gathered c =
    let i = c.self.inside in let order = keys_of i.order.entries in let all = final c in
    subst (λ (ss : List Frame). Gathered (held_in c.args.self.now) (held_of ss order) c.gather_more.new.twin.batch) (sym (back c))
    (subst (λ (s : FramesState). Gathered (held_in s) (held_of c.gather_more.new.slots order) c.gather_more.new.twin.batch) c.self.view_is all.gathered)

pub returns-clause-clean : goal.returns-clause-clean
returns-clause-clean c =
    let i = c.self.inside in let order = keys_of i.order.entries in let all = final c in
    let found = last c.args.self.now i.slots.items order c.last_number-last.result c.from.result c.self.view_is c.last_number-last.ensures c.from.ensures in
    let lt = last_below i.slots.items order i.places.items c.self.invariant c.from.result found in
    let first : (frame_at (set i.slots.items c.from.result c.put_home.new.self) c.from.result).dirty ≡ false = ap (λ (f : Frame). f.dirty) (at_set_same i.slots.items c.from.result c.put_home.new.self lt ∙ c.put_home.ensures.clean) in
    let clean = c.gather_more.ensures.cleaner c.from.result (ap (λ (ss : List Frame). (frame_at ss c.from.result).dirty) c.as_mut_slice.ensures.value ∙ first) in
    subst (λ (ss : List Frame). IsLastClean (length ss) (held_of ss order)) (sym (back c))
    (last_is_clean c.gather_more.new.slots order i.places.items all.frames c.from.result found clean)

pub returns-clause-memory : goal.returns-clause-memory
returns-clause-memory c = subst (λ (ss : List Frame). IsCacheMemory (cache_of (record { slots = ss; order = keys_of c.self.inside.order.entries }))) (sym (back c))
    (let all = final c in memory_of c.gather_more.new.slots (keys_of c.self.inside.order.entries) c.self.inside.places.items all.frames)
