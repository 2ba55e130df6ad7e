-- What frames have in memory stays as one of them is used, changed, freed and taken.
use Rattle.std.proofs.Common.{◌≡◌, ◌≢◌, ◌⊎◌, inl, inr, ℕ, ◌+◌, ◌<◌, ◌==◌, if◌then◌else◌, Bool, true, false, List, [], ◌∷◌, ◌++◌, length, get_or, set, arith, ap, sym, ◌∙◌, subst, refl, append-nil, length-append}
use Rattle.std.proofs.lemmas.Bool.{cases_eq, eqb-false}
use Rattle.std.proofs.lemmas.List.{get_or-set_other, length-set}
use Rattle.std.proofs.lemmas.Grind.{get_or-set_at}
use Rattle.std.specs.List.{AllByRecursion}
use Rattle.rb_base.proofs.Each.{all_at, all_set, all_so}
use Rattle.rb_base.specs.declared.sizes.TheConstants.{UNIT}
use Rattle.rb_cache.specs.Frames.{IsCacheMemory, has_number, numbers_of, room_made, without}
use Rattle.rb_cache.specs.Slots.{AreFrames, AreOnce, FramesState, IsPlaced, IsUnused, UnusedLast, cache_of, frame_at, held_of, no_frame}
use Rattle.rb_cache.specs.declared.frame.Frame.{Frame}
use Rattle.rb_cache.specs.declared.frame.TheConstants.{BLOCKS, NO_BLOCK}
use Rattle.rb_cache.proofs.NumberLemmas.{all_has, all_without, behind_of, front_lacks, front_of, gone, has_moved, length-without, once_without, without_last}
use Rattle.rb_cache.proofs.SlotLemmas.{all_held, at_set_other, at_set_same, held_append, held_differ, held_few, held_set_out, held_unused, held_used, lacks_held, room_is}

-- the units of frames of these numbers
all_units : (slots : List Frame) (ks : List ℕ) → AllByRecursion (λ f. length f.bytes ≡ UNIT) slots → AllByRecursion (λ k. k < length slots) ks → AllByRecursion (λ k. length (frame_at slots k).bytes ≡ UNIT) ks
all_units slots [] units below = tt
all_units slots (k ∷ ks) units below = (all_at (λ (f : Frame). length f.bytes ≡ UNIT) slots k no_frame units below.0, all_units slots ks units below.1)

pub memory_of : (slots : List Frame) (order places : List ℕ) → AreFrames slots order places → IsCacheMemory (cache_of (record { slots = slots; order = order }))
memory_of slots order places are = record {
  units = all_held slots (λ (f : Frame). length f.bytes ≡ UNIT) order (all_units slots order are.units are.below);
  differ = held_differ slots places order are.once are.placed;
  few = let few = held_few slots order in let whole = are.whole in omega (arith, few, whole);
}

pub memory_in : (s : FramesState) (slots : List Frame) (order places : List ℕ) → record { slots = slots; order = order } ≡ s → AreFrames slots order places → IsCacheMemory (cache_of s)
memory_in s slots order places is are = subst (λ (t : FramesState). IsCacheMemory (cache_of t)) is (memory_of slots order places are)

-- frames that stay unused, and those behind them
unused_without : (slots : List Frame) (p : ℕ) (ks : List ℕ) → UnusedLast slots ks → UnusedLast slots (without p ks)
unused_without slots p [] behind = tt
unused_without slots p (k ∷ ks) behind = by (k == p) (unused_without slots p ks behind.1)
  where
    by : (b : Bool) → UnusedLast slots (without p ks) → UnusedLast slots (if b then ks else k ∷ without p ks)
    by true rest = behind.1
    by false rest = (λ none. all_without (IsUnused slots) p ks (behind.0 none), rest)

unused_same : (slots other : List Frame) (ks : List ℕ) → ((j : ℕ) → (frame_at other j).block ≡ (frame_at slots j).block) → UnusedLast slots ks → UnusedLast other ks
unused_same slots other [] same behind = tt
unused_same slots other (k ∷ ks) same behind =
    (λ none. all_so (IsUnused slots) (IsUnused other) ks (λ j is. same j ∙ is) (behind.0 (sym (same k) ∙ none)), unused_same slots other ks same behind.1)

-- a frame that holds a block goes to the front
pub moved_frames : (slots : List Frame) (order places : List ℕ) (p : ℕ) → AreFrames slots order places → p < length slots → (frame_at slots p).block ≢ NO_BLOCK → AreFrames slots (p ∷ without p order) places
moved_frames slots order places p are lt used = record {
  some = are.some;
  few = are.few;
  whole = let long = length-without p order (are.all p lt) in let whole = are.whole in omega (arith, long, whole);
  once = (gone p order are.once, once_without p order are.once);
  all = λ k there. has_moved p k order (are.all k there);
  below = (lt, all_without (λ k. k < length slots) p order are.below);
  units = are.units;
  placed = (all_has (IsPlaced slots places) order p are.placed (are.all p lt), all_without (IsPlaced slots places) p order are.placed);
  behind = (λ none. absurd (used none), unused_without slots p order are.behind);
  table = are.table;
  leads = are.leads;
}

module _ (slots : List Frame) (order places : List ℕ) (k : ℕ) (f : Frame) (are : AreFrames slots order places) (lt : k < length slots) (unit : length f.bytes ≡ UNIT) where
  long : length (set slots k f) ≡ length slots
  long = length-set slots k f

  -- a frame keeps its block
  module _ (same : f.block ≡ (frame_at slots k).block) (clean : f.block ≡ NO_BLOCK → f.dirty ≡ false) where
    pub block_stays : (j : ℕ) → (frame_at (set slots k f) j).block ≡ (frame_at slots j).block
    block_stays j = elim (cases_eq j k) [
      | inl is ↦ subst (λ (i : ℕ). (frame_at (set slots k f) i).block ≡ (frame_at slots i).block) (sym is) (ap (λ (g : Frame). g.block) (at_set_same slots k f lt) ∙ same)
      | inr differ ↦ ap (λ (g : Frame). g.block) (at_set_other slots k j f differ)
    ]

    dirty_at : (j : ℕ) → (frame_at slots j).block ≡ NO_BLOCK → (frame_at slots j).dirty ≡ false → (frame_at (set slots k f) j).dirty ≡ false
    dirty_at j none is = elim (cases_eq j k) [
      | inl here ↦ subst (λ (i : ℕ). (frame_at (set slots k f) i).dirty ≡ false) (sym here)
          (ap (λ (g : Frame). g.dirty) (at_set_same slots k f lt) ∙ clean (same ∙ subst (λ (i : ℕ). (frame_at slots i).block ≡ NO_BLOCK) here none))
      | inr differ ↦ ap (λ (g : Frame). g.dirty) (at_set_other slots k j f differ) ∙ is
    ]

    stays_placed : (j : ℕ) → IsPlaced slots places j → IsPlaced (set slots k f) places j
    stays_placed j (inl none) = inl (block_stays j ∙ none.0, dirty_at j none.0 none.1)
    stays_placed j (inr there) = inr (
      subst (λ (b : ℕ). b < BLOCKS) (sym (block_stays j)) there.0,
      ap (λ (b : ℕ). get_or places b 0) (block_stays j) ∙ there.1,
    )

    pub changed_frames : AreFrames (set slots k f) order places
    changed_frames = record {
      some = let some = are.some in omega (arith, some, long);
      few = let few = are.few in omega (arith, few, long);
      whole = are.whole ∙ sym long;
      once = are.once;
      all = λ j there. are.all j (omega (arith, there, long));
      below = all_so (λ j. j < length slots) (λ j. j < length (set slots k f)) order (λ j there. omega (arith, there, long)) are.below;
      units = all_set (λ (g : Frame). length g.bytes ≡ UNIT) slots k f are.units unit;
      placed = all_so (IsPlaced slots places) (IsPlaced (set slots k f) places) order stays_placed are.placed;
      behind = unused_same slots (set slots k f) order block_stays are.behind;
      table = are.table;
      leads = all_so (λ j. j < length slots) (λ j. j < length (set slots k f)) places (λ j there. omega (arith, there, long)) are.leads;
    }

  -- the others are as they were
  pub others_stay : (j : ℕ) → j ≢ k → IsPlaced slots places j → IsPlaced (set slots k f) places j
  others_stay j differ is = subst (λ (g : Frame). ((g.block ≡ NO_BLOCK) × (g.dirty ≡ false)) ⊎ ((g.block < BLOCKS) × (get_or places g.block 0 ≡ j))) (sym (at_set_other slots k j f differ)) is

  unused_out : (js : List ℕ) → has_number k js ≡ false → UnusedLast slots js → UnusedLast (set slots k f) js
  unused_out [] none behind = tt
  unused_out (j ∷ js) none behind =
      let differ = eqb-false j k (front_of (j == k) (has_number k js) none) in
      let apart = behind_of (j == k) (has_number k js) none in
      (λ is. all_out js apart (behind.0 (ap (λ (g : Frame). g.block) (sym (at_set_other slots k j f differ)) ∙ is)), unused_out js apart behind.1)
    where
      all_out : (is : List ℕ) → has_number k is ≡ false → AllByRecursion (IsUnused slots) is → AllByRecursion (IsUnused (set slots k f)) is
      all_out [] none all = tt
      all_out (i ∷ is) none all = (
        ap (λ (g : Frame). g.block) (at_set_other slots k i f (eqb-false i k (front_of (i == k) (has_number k is) none))) ∙ all.0,
        all_out is (behind_of (i == k) (has_number k is) none) all.1,
      )

  module _ (front : List ℕ) (split : order ≡ front ++ k ∷ []) where
    pub lacks : has_number k front ≡ false
    lacks = front_lacks k front (subst AreOnce split are.once)

    pub others_are : without k order ≡ front
    others_are = ap (without k) split ∙ without_last k front lacks

    pub count_is : length slots ≡ length front + 1
    count_is = let whole = are.whole in omega (arith, whole, ap length split, length-append front (k ∷ []))

    pub front_room : held_of slots front ≡ room_made (length slots) (held_of slots order)
    front_room = room_is slots front k (length slots) (subst (UnusedLast slots) split are.behind) count_is ∙ ap (λ (ks : List ℕ). room_made (length slots) (held_of slots ks)) (sym split)

    pub out_front : held_of (set slots k f) front ≡ held_of slots front
    out_front = held_set_out slots k f front lacks

    -- the last frame gives up its block
    module _ (none : f.block ≡ NO_BLOCK) (clean : f.dirty ≡ false) where
      pub held_freed : held_of (set slots k f) order ≡ room_made (length slots) (held_of slots order)
      held_freed =
          ap (held_of (set slots k f)) split ∙ held_append (set slots k f) front (k ∷ [])
          ∙ ap (λ (h : List Frame). held_of (set slots k f) front ++ h) (held_unused (set slots k f) k [] (ap (λ (g : Frame). g.block) (at_set_same slots k f lt) ∙ none))
          ∙ append-nil (held_of (set slots k f) front) ∙ out_front ∙ front_room

      unused_still : (j : ℕ) → IsUnused slots j → IsUnused (set slots k f) j
      unused_still j is = elim (cases_eq j k) [
        | inl here ↦ subst (IsUnused (set slots k f)) (sym here) (ap (λ (g : Frame). g.block) (at_set_same slots k f lt) ∙ none)
        | inr differ ↦ ap (λ (g : Frame). g.block) (at_set_other slots k j f differ) ∙ is
      ]

      placed_still : (j : ℕ) → IsPlaced slots places j → IsPlaced (set slots k f) places j
      placed_still j is = elim (cases_eq j k) [
        | inl here ↦ subst (IsPlaced (set slots k f) places) (sym here)
            (inl (ap (λ (g : Frame). g.block) (at_set_same slots k f lt) ∙ none, ap (λ (g : Frame). g.dirty) (at_set_same slots k f lt) ∙ clean))
        | inr differ ↦ others_stay j differ is
      ]

      freed_behind : (js : List ℕ) → has_number k js ≡ false → UnusedLast slots (js ++ k ∷ []) → UnusedLast (set slots k f) (js ++ k ∷ [])
      freed_behind [] lacking behind = (λ is. tt, tt)
      freed_behind (j ∷ js) lacking behind =
          let differ = eqb-false j k (front_of (j == k) (has_number k js) lacking) in (
            λ is. all_so (IsUnused slots) (IsUnused (set slots k f)) (js ++ k ∷ []) unused_still (behind.0 (ap (λ (g : Frame). g.block) (sym (at_set_other slots k j f differ)) ∙ is)),
            freed_behind js (behind_of (j == k) (has_number k js) lacking) behind.1,
          )

      pub freed_frames : AreFrames (set slots k f) order places
      freed_frames = record {
        some = let some = are.some in omega (arith, some, long);
        few = let few = are.few in omega (arith, few, long);
        whole = are.whole ∙ sym long;
        once = are.once;
        all = λ j there. are.all j (omega (arith, there, long));
        below = all_so (λ j. j < length slots) (λ j. j < length (set slots k f)) order (λ j there. omega (arith, there, long)) are.below;
        units = all_set (λ (g : Frame). length g.bytes ≡ UNIT) slots k f are.units unit;
        placed = all_so (IsPlaced slots places) (IsPlaced (set slots k f) places) order placed_still are.placed;
        behind = subst (UnusedLast (set slots k f)) (sym split) (freed_behind front lacks (subst (UnusedLast slots) split are.behind));
        table = are.table;
        leads = all_so (λ j. j < length slots) (λ j. j < length (set slots k f)) places (λ j there. omega (arith, there, long)) are.leads;
      }

    -- or it takes another one, and goes to the front
    module _ (below : f.block < BLOCKS) (absent : has_number f.block (numbers_of (held_of slots order)) ≡ false) where
      used : f.block ≢ NO_BLOCK
      used is = absurd (omega (arith, below, is))

      own : frame_at (set slots k f) k ≡ f
      own = at_set_same slots k f lt

      pub held_taken : held_of (set slots k f) (k ∷ without k order) ≡ f ∷ room_made (length slots) (held_of slots order)
      held_taken =
          held_used (set slots k f) k (without k order) (λ is. used (ap (λ (g : Frame). g.block) (sym own) ∙ is))
          ∙ ap (λ (g : Frame). g ∷ held_of (set slots k f) (without k order)) own
          ∙ ap (λ (h : List Frame). f ∷ h) (ap (held_of (set slots k f)) others_are ∙ out_front ∙ front_room)

      taken_placed : (js : List ℕ) → has_number k js ≡ false → AllByRecursion (IsPlaced slots places) js → AllByRecursion (λ j. (frame_at slots j).block ≢ f.block) js
          → AllByRecursion (IsPlaced (set slots k f) (set places f.block k)) js
      taken_placed [] lacking placed apart = tt
      taken_placed (j ∷ js) lacking placed apart =
          let differ = eqb-false j k (front_of (j == k) (has_number k js) lacking) in
          (one j differ placed.0 apart.0, taken_placed js (behind_of (j == k) (has_number k js) lacking) placed.1 apart.1)
        where
          one : (j : ℕ) → j ≢ k → IsPlaced slots places j → (frame_at slots j).block ≢ f.block → IsPlaced (set slots k f) (set places f.block k) j
          one j differ (inl is) other = inl (ap (λ (g : Frame). g.block) (at_set_other slots k j f differ) ∙ is.0, ap (λ (g : Frame). g.dirty) (at_set_other slots k j f differ) ∙ is.1)
          one j differ (inr is) other =
              let same : (frame_at (set slots k f) j).block ≡ (frame_at slots j).block = ap (λ (g : Frame). g.block) (at_set_other slots k j f differ) in
              inr (
                subst (λ (b : ℕ). b < BLOCKS) (sym same) is.0,
                ap (λ (b : ℕ). get_or (set places f.block k) b 0) same ∙ get_or-set_other places f.block (frame_at slots j).block k 0 other ∙ is.1,
              )

      pub taken_frames : AreFrames (set slots k f) (k ∷ without k order) (set places f.block k)
      taken_frames = record {
        some = let some = are.some in omega (arith, some, long);
        few = let few = are.few in omega (arith, few, long);
        whole = let less = length-without k order (are.all k lt) in let whole = are.whole in omega (arith, less, whole, long);
        once = (gone k order are.once, once_without k order are.once);
        all = λ j there. has_moved k j order (are.all j (omega (arith, there, long)));
        below = (
          omega (arith, lt, long),
          all_without (λ j. j < length (set slots k f)) k order
              (all_so (λ j. j < length slots) (λ j. j < length (set slots k f)) order (λ j there. omega (arith, there, long)) are.below),
        );
        units = all_set (λ (g : Frame). length g.bytes ≡ UNIT) slots k f are.units unit;
        placed = (
          inr (
            subst (λ (g : Frame). g.block < BLOCKS) (sym own) below,
            ap (λ (g : Frame). get_or (set places f.block k) g.block 0) own ∙ get_or-set_at places f.block f.block k 0 refl (let table = are.table in omega (arith, table, below)),
          ),
          taken_placed (without k order) (gone k order are.once) (all_without (IsPlaced slots places) k order are.placed)
              (all_without (λ j. (frame_at slots j).block ≢ f.block) k order (lacks_held slots order f.block used absent)),
        );
        behind = (λ is. absurd (used (ap (λ (g : Frame). g.block) (sym own) ∙ is)), unused_out (without k order) (gone k order are.once) (unused_without slots k order are.behind));
        table = length-set places f.block k ∙ are.table;
        leads = all_set (λ j. j < length (set slots k f)) places f.block k
            (all_so (λ j. j < length slots) (λ j. j < length (set slots k f)) places (λ j there. omega (arith, there, long)) are.leads) (omega (arith, lt, long));
      }
