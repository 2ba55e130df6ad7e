-- A block that is looked for among the frames, the first frame and the last one.
use Rattle.std.proofs.Common.{◌≡◌, ◌≢◌, inl, inr, ℕ, zero, suc, replicate, ◌-◌, ◌*◌, ◌<◌, ◌≤◌, Result, Ok, Err, true, false, List, [], ◌∷◌, ◌++◌, length, take, get_or, set, arith, ap, sym, ◌∙◌, subst, refl, length-append}
use Rattle.std.proofs.lemmas.List.{get_or_default}
use Rattle.std.proofs.Math.Nat.{mul-le-mul_right}
use Rattle.std.specs.List.{AllByRecursion}
use Rattle.std.specs.Result.{OnErr}
use Rattle.rb_base.proofs.Each.{all_at, all_so}
use Rattle.rb_base.specs.declared.sizes.TheConstants.{UNIT}
use Rattle.rb_layout.specs.Regions.{block_count}
use Rattle.rb_layout.specs.declared.layout.Layout.{Layout}
use Rattle.rb_cache.specs.Frames.{IsLastClean, NoneDirty, frame_in, has_number, numbers_of, others_of, without}
use Rattle.rb_cache.specs.Slots.{AreFrames, IsEmptyFrame, IsPlaced, numbers_below, IsUnused, UnusedLast, frame_at, held_of, no_frame}
use Rattle.rb_cache.specs.declared.frame.Frame.{Frame}
use Rattle.rb_cache.specs.declared.frame.TheConstants.{BLOCKS, NO_BLOCK}
use Rattle.rb_cache.proofs.GatherLemmas.{dirty_used, gathered_none}
use Rattle.rb_cache.proofs.MemoryLemmas.{changed_frames, moved_frames}
use Rattle.rb_cache.proofs.NumberLemmas.{all_has, first_split, gone, last_split, without_first}
use Rattle.rb_cache.proofs.OrderLemmas.{below_all, below_has, below_once, length-below}
use Rattle.rb_cache.proofs.SlotLemmas.{all_used, at_set_same, held_all, held_has, held_lacks, held_set_out, held_unused, held_used, last_clean, moved_front, moved_others, one_of_all}

-- a frame that was read at a number
pub at_is : (slots : List Frame) (k : ℕ) (f : Frame) → k < length slots → f ≡ get_or slots k f → frame_at slots k ≡ f
at_is slots k f lt is = get_or_default slots k no_frame f lt ∙ sym is

module _ (slots : List Frame) (order places : List ℕ) (are : AreFrames slots order places) where
  -- the frame to which a block's place leads
  module _ (which p : ℕ) (f : Frame) (known : which < BLOCKS) (place : p ≡ get_or places which p) (is : f ≡ get_or slots p f) where
    pub place_is : get_or places which 0 ≡ p
    place_is = let table = are.table in get_or_default places which 0 p (omega (arith, known, table)) ∙ sym place

    pub leads_to : p < length slots
    leads_to = let table = are.table in subst (λ (k : ℕ). k < length slots) place_is (all_at (λ (k : ℕ). k < length slots) places which 0 are.leads (omega (arith, known, table)))

    found : frame_at slots p ≡ f
    found = at_is slots p f leads_to is

    some : which ≢ NO_BLOCK
    some none = absurd (omega (arith, known, none))

    pub missed : (f.block ≡ which → ⊥) → has_number which (numbers_of (held_of slots order)) ≡ false
    missed other = held_lacks slots order which (each order are.placed)
      where
        one : (k : ℕ) → IsPlaced slots places k → (frame_at slots k).block ≢ which
        one k (inl none) own = some (sym own ∙ none.0)
        one k (inr there) own =
            let here : p ≡ k = sym place_is ∙ ap (λ (b : ℕ). get_or places b 0) (sym own) ∙ there.1 in
            other (ap (λ (g : Frame). g.block) (sym found) ∙ ap (λ (j : ℕ). (frame_at slots j).block) here ∙ own)

        each : (ks : List ℕ) → AllByRecursion (IsPlaced slots places) ks → AllByRecursion (λ k. (frame_at slots k).block ≢ which) ks
        each [] all = tt
        each (k ∷ ks) all = (one k all.0, each ks all.1)

    module _ (own : f.block ≡ which) where
      is_which : (frame_at slots p).block ≡ which
      is_which = ap (λ (g : Frame). g.block) found ∙ own

      pub hit : has_number which (numbers_of (held_of slots order)) ≡ true
      hit = held_has slots order p which is_which some (are.all p leads_to)

      pub hit_moved : held_of slots (p ∷ without p order) ≡ frame_in which no_frame (held_of slots order) ∷ others_of which (held_of slots order)
      hit_moved =
          let placed = all_has (IsPlaced slots places) order p are.placed (are.all p leads_to) in
          let one = one_of_all slots places which p order some placed is_which are.placed in
          held_used slots p (without p order) (λ none. some (sym is_which ∙ none))
          ∙ ap (λ (g : Frame). g ∷ held_of slots (without p order)) (sym (moved_front slots order p which no_frame is_which some (are.all p leads_to) one))
          ∙ ap (λ (h : List Frame). frame_in which no_frame (held_of slots order) ∷ h) (sym (moved_others slots order p which is_which some (are.all p leads_to) one))

      pub hit_frames : AreFrames slots (p ∷ without p order) places
      hit_frames = moved_frames slots order places p are leads_to (λ none. some (sym is_which ∙ none))

  -- the first number
  pub first_is : (p : ℕ) → p ≡ get_or order 0 0 → order ≡ p ∷ without p order
  first_is p is =
      let some = are.some in let whole = are.whole in
      let split = first_split order 0 (omega (arith, some, whole)) in
      let here : order ≡ p ∷ split.0 = split.1 ∙ ap (λ (k : ℕ). k ∷ split.0) (sym is) in
      here ∙ ap (λ (ks : List ℕ). p ∷ ks) (sym (ap (without p) here ∙ without_first p split.0))

  pub first_below : (p : ℕ) → p ≡ get_or order 0 0 → p < length slots
  first_below p is =
      let some = are.some in let whole = are.whole in
      subst (λ (k : ℕ). k < length slots) (sym is) (all_at (λ (k : ℕ). k < length slots) order 0 0 are.below (omega (arith, some, whole)))

  -- where a block is held, it is used, and its frame is the first of those that are held
  none_held : (ks : List ℕ) → AllByRecursion (IsUnused slots) ks → held_of slots ks ≡ []
  none_held [] all = refl
  none_held (k ∷ ks) all = held_unused slots k ks all.0 ∙ none_held ks all.1

  pub first_used : (p : ℕ) → p ≡ get_or order 0 0 → held_of slots order ≢ [] → (frame_at slots p).block ≢ NO_BLOCK
  first_used p is some none =
      let here = first_is p is in
      let behind : UnusedLast slots (p ∷ without p order) = subst (UnusedLast slots) here are.behind in
      some (ap (held_of slots) here ∙ none_held (p ∷ without p order) (none, behind.0 none))

  pub first_held : (p : ℕ) → p ≡ get_or order 0 0 → held_of slots order ≢ [] → held_of slots order ≡ frame_at slots p ∷ held_of slots (without p order)
  first_held p is some = ap (held_of slots) (first_is p is) ∙ held_used slots p (without p order) (first_used p is some)

  -- the last number
  pub last_is : (v : ℕ) → v ≡ get_or order (length order - 1) 0 → order ≡ take (length order - 1) order ++ v ∷ []
  last_is v is =
      let some = are.some in let whole = are.whole in
      last_split order 0 (omega (arith, some, whole)) ∙ ap (λ (k : ℕ). take (length order - 1) order ++ k ∷ []) (sym is)

  pub last_below : (v : ℕ) → v ≡ get_or order (length order - 1) 0 → v < length slots
  last_below v is =
      let some = are.some in let whole = are.whole in
      subst (λ (k : ℕ). k < length slots) (sym is) (all_at (λ (k : ℕ). k < length slots) order (length order - 1) 0 are.below (omega (arith, some, whole)))

  pub last_is_clean : (v : ℕ) → v ≡ get_or order (length order - 1) 0 → (frame_at slots v).dirty ≡ false → IsLastClean (length slots) (held_of slots order)
  last_is_clean v is clean =
      let split = last_is v is in let whole = are.whole in
      subst (λ (ks : List ℕ). IsLastClean (length slots) (held_of slots ks)) (sym split)
      (last_clean slots (take (length order - 1) order) v (length slots) (omega (arith, whole, ap length split, length-append (take (length order - 1) order) (v ∷ []))) clean)

  -- a last frame that is dirty holds a block, and so all do
  last_used : (v : ℕ) → v ≡ get_or order (length order - 1) 0 → (frame_at slots v).dirty ≡ true → (frame_at slots v).block ≢ NO_BLOCK
  last_used v is dirty = dirty_used slots slots order places [] (gathered_none slots order places are) v (last_below v is) dirty

  pub last_full : (v : ℕ) → v ≡ get_or order (length order - 1) 0 → (frame_at slots v).dirty ≡ true → length (held_of slots order) ≡ length slots
  last_full v is dirty =
      let split = last_is v is in let whole = are.whole in
      let full = all_used slots (take (length order - 1) order) v (subst (UnusedLast slots) split are.behind) (last_used v is dirty) in
      omega (arith, ap (λ (ks : List ℕ). length (held_of slots ks)) split, full, whole, ap length split, length-append (take (length order - 1) order) (v ∷ []))

  pub last_some : (v : ℕ) → v ≡ get_or order (length order - 1) 0 → (frame_at slots v).dirty ≡ true → ¬ NoneDirty (held_of slots order)
  last_some v is dirty none =
      let clean : (frame_at slots v).dirty ≡ false = held_all slots (λ (f : Frame). f.dirty ≡ false) order v none (are.all v (last_below v is)) (last_used v is dirty) in
      cc (clean, dirty)

  -- the unit of a frame
  pub unit_at : (k : ℕ) (f : Frame) → k < length slots → f ≡ get_or slots k f → length f.bytes ≡ UNIT
  unit_at k f lt is = ap (λ (g : Frame). length g.bytes) (sym (at_is slots k f lt is)) ∙ all_at (λ (g : Frame). length g.bytes ≡ UNIT) slots k no_frame are.units lt

  -- the first frame is another one, of the same block
  module _ (k : ℕ) (found : k ≡ get_or order 0 0) (some : held_of slots order ≢ []) (f : Frame) (same : f.block ≡ (frame_at slots k).block) (unit : length f.bytes ≡ UNIT) where
    pub front_changed : AreFrames (set slots k f) order places
    front_changed = changed_frames slots order places k f are (first_below k found) unit same (λ none. absurd (first_used k found some (sym same ∙ none)))

    pub front_held : held_of (set slots k f) order ≡ f ∷ held_of slots (without k order)
    front_held =
        let own = at_set_same slots k f (first_below k found) in
        ap (held_of (set slots k f)) (first_is k found)
        ∙ held_used (set slots k f) k (without k order) (λ none. first_used k found some (sym same ∙ ap (λ (g : Frame). g.block) (sym own) ∙ none))
        ∙ ap (λ (g : Frame). g ∷ held_of (set slots k f) (without k order)) own
        ∙ ap (λ (h : List Frame). f ∷ h) (held_set_out slots k f (without k order) (gone k order are.once))

-- where an outcome is an error, or not
pub on_error : {T E P : Type 0} (r : Result T E) → P → OnErr r P
on_error (Ok x) p = tt
on_error (Err e) p = p

-- a file has no more blocks than there are places
pub few_blocks : (l : Layout) → block_count l ≤ 66064
few_blocks l =
    let tables = l.few_tables.1 in let blocks = l.few_blocks.1 in let segments = l.few_segments.1 in
    let one : l.tables * l.blocks ≤ 16 * l.blocks = mul-le-mul_right l.blocks tables in
    omega (arith, one, blocks, segments)

-- frames that hold nothing
module _ (slots : List Frame) (count : ℕ) (long : length slots ≡ count) (empty : AllByRecursion IsEmptyFrame slots) where
  unused : (ks : List ℕ) → AllByRecursion (λ k. k < count) ks → AllByRecursion (IsUnused slots) ks
  unused [] below = tt
  unused (k ∷ ks) below =
      let lt = below.0 in
      let here = all_at IsEmptyFrame slots k no_frame empty (omega (arith, lt, long)) in (here.block, unused ks below.1)

  new_placed : (places ks : List ℕ) → AllByRecursion (λ k. k < count) ks → AllByRecursion (IsPlaced slots places) ks
  new_placed places [] below = tt
  new_placed places (k ∷ ks) below =
      let lt = below.0 in
      let here = all_at IsEmptyFrame slots k no_frame empty (omega (arith, lt, long)) in (inl (here.block, here.clean), new_placed places ks below.1)

  new_behind : (ks : List ℕ) → AllByRecursion (λ k. k < count) ks → UnusedLast slots ks
  new_behind [] below = tt
  new_behind (k ∷ ks) below = (λ none. unused ks below.1, new_behind ks below.1)

  pub new_frames : (places : List ℕ) → 1 ≤ count → count ≤ 4096 → length places ≡ 66064 → AllByRecursion (λ k. k < length slots) places → AreFrames slots (numbers_below count) places
  new_frames places some few table leads = record {
    some = omega (arith, some, long);
    few = omega (arith, few, long);
    whole = length-below count ∙ sym long;
    once = below_once count;
    all = λ k lt. below_has count k (omega (arith, lt, long));
    below = below_all count (length slots) (omega (arith, long));
    units = all_so IsEmptyFrame (λ f. length f.bytes ≡ UNIT) slots (λ f is. is.unit) empty;
    placed = new_placed places (numbers_below count) (below_all count count (omega arith));
    behind = new_behind (numbers_below count) (below_all count count (omega arith));
    table = table;
    leads = leads;
  }

  pub new_held : held_of slots (numbers_below count) ≡ []
  new_held = nothing (numbers_below count) (unused (numbers_below count) (below_all count count (omega arith)))
    where
      nothing : (ks : List ℕ) → AllByRecursion (IsUnused slots) ks → held_of slots ks ≡ []
      nothing [] all = refl
      nothing (k ∷ ks) all = held_unused slots k ks all.0 ∙ nothing ks all.1

-- places that are all 0
pub all_zero : (m n : ℕ) → 1 ≤ m → AllByRecursion (λ k. k < m) (replicate n 0)
all_zero m zero some = tt
all_zero m (suc n) some = (omega (arith, some), all_zero m n some)
