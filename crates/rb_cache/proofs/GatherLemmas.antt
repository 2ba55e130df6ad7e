-- Frames are put into a batch one by one.
use Rattle.std.proofs.Common.{◌≡◌, ◌≢◌, inl, inr, ℕ, ◌<◌, ◌≤◌, ◌==◌, Bool, true, false, List, [], ◌∷◌, ◌++◌, length, set, arith, ap, sym, ◌∙◌, subst, refl, length-append}
use Rattle.std.proofs.lemmas.Bool.{cases_eq, eqb-false, eq-eqb, ne_eqb}
use Rattle.std.proofs.lemmas.List.{length-set, map-append, set-get_or}
use Rattle.std.specs.List.{AllByRecursion}
use Rattle.std.specs.Map.{keys_of}
use Rattle.rb_base.proofs.Each.{all_at, all_push, all_so}
use Rattle.rb_base.specs.declared.sizes.TheConstants.{UNIT}
use Rattle.rb_layout.specs.declared.layout.Layout.{Layout}
use Rattle.rb_twin.specs.Batches.{Image, IsNoneOf}
use Rattle.rb_cache.specs.Frames.{AreBelow, NoneDirty, blocks_of, cleaned, has_number, seen}
use Rattle.rb_cache.specs.Slots.{AreCleanFrom, AreFrames, GatheredSoFar, IsPlaced, frame_at, held_of, no_frame}
use Rattle.rb_cache.specs.declared.frame.Frame.{Frame}
use Rattle.rb_cache.specs.declared.frame.TheConstants.{NO_BLOCK}
use Rattle.rb_cache.proofs.FrameLemmas.{below_cleaned, cleaned_more, dirty_apart, own_seen, seen_cleaned}
use Rattle.rb_cache.proofs.MemoryLemmas.{changed_frames}
use Rattle.rb_cache.proofs.NumberLemmas.{all_has, behind_of, front_of}
use Rattle.rb_cache.proofs.SlotLemmas.{all_held, at_set_other, at_set_same, held_all, held_differ, held_unused, held_used, one_frame}

-- a frame as it was put into a batch, and its image
abbrev pub put : Frame → Frame
put f = record f { dirty = false }

abbrev pub image_of : Frame → Image
image_of f = record { no = f.block; unit = f.bytes }

pub gathered_none : (slots : List Frame) (order places : List ℕ) → AreFrames slots order places → GatheredSoFar slots slots order places []
gathered_none slots order places are = record {
  frames = are;
  gathered = record { held_is = sym (none (held_of slots order)); seen_are = tt; few = omega arith };
  long = refl;
  cleaner = λ k is. is;
}
  where
    none : (held : List Frame) → cleaned [] held ≡ held
    none [] = refl
    none (f ∷ held) = ap (λ (h : List Frame). f ∷ h) (none held)

-- a frame that counts as clean from here on
pub held_put : (slots : List Frame) (places : List ℕ) (k : ℕ) (ks : List ℕ) → k < length slots → IsPlaced slots places k → (frame_at slots k).block ≢ NO_BLOCK → AllByRecursion (IsPlaced slots places) ks
    → held_of (set slots k (put (frame_at slots k))) ks ≡ cleaned ((frame_at slots k).block ∷ []) (held_of slots ks)
held_put slots places k [] lt here used all = refl
held_put slots places k (j ∷ ks) lt here used all = elim (cases_eq j k) [
  | inl is ↦
      let f = frame_at slots k in
      let own : frame_at (set slots k (put f)) j ≡ put f = ap (frame_at (set slots k (put f))) is ∙ at_set_same slots k (put f) lt in
      let was : frame_at slots j ≡ f = ap (frame_at slots) is in
      held_used (set slots k (put f)) j ks (λ none. used (ap (λ (g : Frame). g.block) (sym own) ∙ none))
      ∙ ap (λ (g : Frame). g ∷ held_of (set slots k (put f)) ks) own
      ∙ ap (λ (h : List Frame). put f ∷ h) (held_put slots places k ks lt here used all.1)
      ∙ sym (ap (cleaned (f.block ∷ [])) (held_used slots j ks (λ none. used (ap (λ (g : Frame). g.block) (sym was) ∙ none)) ∙ ap (λ (g : Frame). g ∷ held_of slots ks) was) ∙ cleaned_own f (held_of slots ks))
  | inr differ ↦
      let f = frame_at slots k in
      let same : frame_at (set slots k (put f)) j ≡ frame_at slots j = at_set_other slots k j (put f) differ in
      more j same (λ is. differ (one_frame slots places f.block j k used all.0 here is refl)) (held_put slots places k ks lt here used all.1)
]
  where
    cleaned_own : (f : Frame) (held : List Frame) → cleaned (f.block ∷ []) (f ∷ held) ≡ put f ∷ cleaned (f.block ∷ []) held
    cleaned_own f held = let test : (f.block == f.block) ≡ true = eq-eqb f.block f.block refl in rw test refl

    cleaned_other : (b : ℕ) (f : Frame) (held : List Frame) → f.block ≢ b → cleaned (b ∷ []) (f ∷ held) ≡ f ∷ cleaned (b ∷ []) held
    cleaned_other b f held differ = let test : (b == f.block) ≡ false = ne_eqb b f.block (λ is. differ (sym is)) in rw test refl

    more : (j : ℕ) → frame_at (set slots k (put (frame_at slots k))) j ≡ frame_at slots j → (frame_at slots j).block ≢ (frame_at slots k).block
        → held_of (set slots k (put (frame_at slots k))) ks ≡ cleaned ((frame_at slots k).block ∷ []) (held_of slots ks)
        → held_of (set slots k (put (frame_at slots k))) (j ∷ ks) ≡ cleaned ((frame_at slots k).block ∷ []) (held_of slots (j ∷ ks))
    more j same differ rest = elim (cases_eq (frame_at slots j).block NO_BLOCK) [
      | inl none ↦
          held_unused (set slots k (put (frame_at slots k))) j ks (ap (λ (g : Frame). g.block) same ∙ none) ∙ rest
          ∙ sym (ap (cleaned ((frame_at slots k).block ∷ [])) (held_unused slots j ks none))
      | inr some ↦
          held_used (set slots k (put (frame_at slots k))) j ks (λ none. some (ap (λ (g : Frame). g.block) (sym same) ∙ none))
          ∙ ap (λ (g : Frame). g ∷ held_of (set slots k (put (frame_at slots k))) ks) same
          ∙ ap (λ (h : List Frame). frame_at slots j ∷ h) rest
          ∙ sym (ap (cleaned ((frame_at slots k).block ∷ [])) (held_used slots j ks some) ∙ cleaned_other (frame_at slots k).block (frame_at slots j) (held_of slots ks) differ)
    ]

module _ (before slots : List Frame) (order places : List ℕ) (batch : List Image) (so_far : GatheredSoFar before slots order places batch) (k : ℕ) (lt : k < length slots) (dirty : (frame_at slots k).dirty ≡ true) where
  -- a dirty frame holds a block
  pub dirty_used : (frame_at slots k).block ≢ NO_BLOCK
  dirty_used none = by (all_has (IsPlaced slots places) order k so_far.frames.placed (so_far.frames.all k lt))
    where
      by : IsPlaced slots places k → ⊥
      by (inl is) = cc (is.1, dirty)
      by (inr there) = let below = there.0 in absurd (omega (arith, below, none))

  pub put_below : (n : ℕ) → AreBelow n (held_of before order) → (frame_at slots k).block < n
  put_below n below = held_all slots (λ f. f.block < n) order k
      (subst (AreBelow n) (sym so_far.gathered.held_is) (below_cleaned n (blocks_of batch) (held_of before order) below)) (so_far.frames.all k lt) dirty_used

  apart : has_number (frame_at slots k).block (blocks_of batch) ≡ false
  apart = held_all slots (λ f. f.dirty ≡ true → has_number f.block (blocks_of batch) ≡ false) order k
      (subst (AllByRecursion (λ f. f.dirty ≡ true → has_number f.block (blocks_of batch) ≡ false)) (sym so_far.gathered.held_is) (dirty_apart (blocks_of batch) (held_of before order)))
      (so_far.frames.all k lt) dirty_used dirty

  pub put_differs : IsNoneOf (frame_at slots k).block batch
  put_differs = each (frame_at slots k).block batch apart
    where
      each : (b : ℕ) (images : List Image) → has_number b (blocks_of images) ≡ false → IsNoneOf b images
      each b [] none = tt
      each b (image ∷ images) none = (eqb-false image.no b (front_of (image.no == b) (has_number b (blocks_of images)) none), each b images (behind_of (image.no == b) (has_number b (blocks_of images)) none))

  seen_as : (l : Layout) (file : List ℕ) → (frame_at slots k).bytes ≡ seen l file (held_of before order) (frame_at slots k).block
  seen_as l file =
      sym (held_all slots (λ f. seen l file (held_of slots order) f.block ≡ f.bytes) order k
      (own_seen l file (held_of slots order) (held_differ slots places order so_far.frames.once so_far.frames.placed)) (so_far.frames.all k lt) dirty_used)
      ∙ ap (λ (h : List Frame). seen l file h (frame_at slots k).block) so_far.gathered.held_is
      ∙ seen_cleaned l file (blocks_of batch) (held_of before order) (frame_at slots k).block

  pub gathered_more : length batch < 8 → GatheredSoFar before (set slots k (put (frame_at slots k))) order places (batch ++ image_of (frame_at slots k) ∷ [])
  gathered_more room = record {
    frames = changed_frames slots order places k (put (frame_at slots k)) so_far.frames lt (all_at (λ (f : Frame). length f.bytes ≡ UNIT) slots k no_frame so_far.frames.units lt) refl (λ none. refl);
    gathered = record {
      held_is =
          held_put slots places k order lt (all_has (IsPlaced slots places) order k so_far.frames.placed (so_far.frames.all k lt)) dirty_used so_far.frames.placed
          ∙ ap (cleaned ((frame_at slots k).block ∷ [])) so_far.gathered.held_is
          ∙ cleaned_more (blocks_of batch) (frame_at slots k).block (held_of before order)
          ∙ ap (λ (names : List ℕ). cleaned names (held_of before order)) (sym (map-append (λ (image : Image). image.no) batch (image_of (frame_at slots k) ∷ [])));
      seen_are = all_push (λ (image : Image). (l : Layout) (file : List ℕ) → image.unit ≡ seen l file (held_of before order) image.no) batch (image_of (frame_at slots k)) so_far.gathered.seen_are seen_as;
      few = omega (arith, room, length-append batch (image_of (frame_at slots k) ∷ []));
    };
    long = length-set slots k (put (frame_at slots k)) ∙ so_far.long;
    cleaner = λ j is. elim (cases_eq j k) [
      | inl here ↦ ap (λ (i : ℕ). (frame_at (set slots k (put (frame_at slots k))) i).dirty) here ∙ ap (λ (f : Frame). f.dirty) (at_set_same slots k (put (frame_at slots k)) lt)
      | inr differ ↦ ap (λ (f : Frame). f.dirty) (at_set_other slots k j (put (frame_at slots k)) differ) ∙ so_far.cleaner j is
    ];
  }

-- the same of a frame that may be clean
pub gathered_maybe : (before slots : List Frame) (order places : List ℕ) (batch more : List Image) → GatheredSoFar before slots order places batch → (k : ℕ) → k < length slots → length batch < 8
    → ((frame_at slots k).dirty ≡ false → more ≡ batch) → ((frame_at slots k).dirty ≡ true → more ≡ batch ++ image_of (frame_at slots k) ∷ []) → GatheredSoFar before (set slots k (put (frame_at slots k))) order places more
gathered_maybe before slots order places batch more so_far k lt room stays puts = by (frame_at slots k).dirty refl
  where
    same : (f : Frame) → f.dirty ≡ false → f ≡ put f
    same f clean = ap (λ (d : Bool). record f { dirty = d }) clean

    by : (b : Bool) → (frame_at slots k).dirty ≡ b → GatheredSoFar before (set slots k (put (frame_at slots k))) order places more
    by true dirty = subst (GatheredSoFar before (set slots k (put (frame_at slots k))) order places) (sym (puts dirty)) (gathered_more before slots order places batch so_far k lt dirty room)
    by false clean = subst (GatheredSoFar before (set slots k (put (frame_at slots k))) order places) (sym (stays clean))
        (subst (λ (ss : List Frame). GatheredSoFar before ss order places batch) (sym (set-get_or slots k no_frame) ∙ ap (set slots k) (same (frame_at slots k) clean)) so_far)

-- where all frames are clean, those that hold a block are
pub none_dirty : (slots : List Frame) (order places : List ℕ) → AreFrames slots order places → AreCleanFrom 0 (length slots) slots → NoneDirty (held_of slots order)
none_dirty slots order places are clean = all_held slots (λ f. f.dirty ≡ false) order (all_so (λ k. k < length slots) (λ k. (frame_at slots k).dirty ≡ false) order (λ k lt. clean k (omega arith) lt) are.below)

-- a frame that is clean afterwards, among others
pub cleaner_set : (slots : List Frame) (k : ℕ) (f : Frame) → k < length slots → f.dirty ≡ false → (j : ℕ) → (frame_at slots j).dirty ≡ false → (frame_at (set slots k f) j).dirty ≡ false
cleaner_set slots k f lt clean j is = elim (cases_eq j k) [
  | inl here ↦ ap (λ (i : ℕ). (frame_at (set slots k f) i).dirty) here ∙ ap (λ (g : Frame). g.dirty) (at_set_same slots k f lt) ∙ clean
  | inr differ ↦ ap (λ (g : Frame). g.dirty) (at_set_other slots k j f differ) ∙ is
]

-- a batch grows by one image at most
pub grows : (f : Frame) (batch more : List Image) → (f.dirty ≡ false → more ≡ batch) → (f.dirty ≡ true → more ≡ batch ++ image_of f ∷ []) → length batch ≤ length more
grows f batch more stays puts = by f.dirty refl
  where
    by : (b : Bool) → f.dirty ≡ b → length batch ≤ length more
    by true dirty = omega (arith, ap length (puts dirty), length-append batch (image_of f ∷ []))
    by false clean = omega (arith, ap length (stays clean))

-- what all have in front of the last, and the last
pub all_split : {X : Type 0} (P : X → Type 0) (xs : List X) (x : X) → AllByRecursion P (xs ++ x ∷ []) → AllByRecursion P xs × P x
all_split P [] x all = (tt, all.0)
all_split P (y ∷ xs) x all = let rest = all_split P xs x all.1 in ((all.0, rest.0), rest.1)

pub entries_below : {V : Type 0} (n : ℕ) (es : List (ℕ × V)) → AllByRecursion (λ k. k < n) (keys_of es) → AllByRecursion (λ e. e.0 < n) es
entries_below n [] all = tt
entries_below n (e ∷ es) all = (all.0, entries_below n es all.1)
