-- The frames that hold a block, as numbers move and frames change.
use Rattle.std.proofs.Common.{◌≡◌, ◌≢◌, inl, inr, ℕ, ◌+◌, ◌-◌, ◌<◌, ◌≤◌, ◌==◌, Bool, true, false, if◌then◌else◌, List, [], ◌∷◌, ◌++◌, length, take, get_or, set, arith, ap, sym, ◌∙◌, subst, refl, append-nil, length-append}
use Rattle.std.proofs.lemmas.Bool.{cases_eq, eqb-false, eq-eqb, ne_eqb}
use Rattle.std.proofs.lemmas.List.{get_or-set_other}
use Rattle.std.proofs.lemmas.Grind.{get_or-set_at}
use Rattle.std.proofs.Math.Seq.{take-append_seam}
use Rattle.std.specs.List.{AllByRecursion}
use Rattle.rb_cache.specs.Frames.{IsLastClean, frame_in, has_number, numbers_of, others_of, room_made, without, AreDifferent}
use Rattle.rb_cache.specs.Slots.{AreOnce, IsPlaced, IsUnused, UnusedLast, frame_at, held_of, no_frame}
use Rattle.rb_cache.specs.declared.frame.Frame.{Frame}
use Rattle.rb_cache.specs.declared.frame.TheConstants.{NO_BLOCK}
use Rattle.rb_cache.proofs.NumberLemmas.{behind_of, front_of}

-- a frame among others that one changes
pub at_set_same : (slots : List Frame) (k : ℕ) (f : Frame) → k < length slots → frame_at (set slots k f) k ≡ f
at_set_same slots k f lt = get_or-set_at slots k k f no_frame refl lt

pub at_set_other : (slots : List Frame) (k j : ℕ) (f : Frame) → j ≢ k → frame_at (set slots k f) j ≡ frame_at slots j
at_set_other slots k j f differ = get_or-set_other slots k j f no_frame differ

module _ (slots : List Frame) where
  -- one number more
  more_held : (k : ℕ) (held : List Frame) → List Frame
  more_held k held = if (frame_at slots k).block == NO_BLOCK then held else frame_at slots k ∷ held

  pub held_used : (k : ℕ) (ks : List ℕ) → (frame_at slots k).block ≢ NO_BLOCK → held_of slots (k ∷ ks) ≡ frame_at slots k ∷ held_of slots ks
  held_used k ks used = let test : ((frame_at slots k).block == NO_BLOCK) ≡ false = ne_eqb _ _ used in rw test refl

  pub held_unused : (k : ℕ) (ks : List ℕ) → (frame_at slots k).block ≡ NO_BLOCK → held_of slots (k ∷ ks) ≡ held_of slots ks
  held_unused k ks none = let test : ((frame_at slots k).block == NO_BLOCK) ≡ true = eq-eqb _ _ none in rw test refl

  pub held_append : (ks js : List ℕ) → held_of slots (ks ++ js) ≡ held_of slots ks ++ held_of slots js
  held_append [] js = refl
  held_append (k ∷ ks) js = by ((frame_at slots k).block == NO_BLOCK) (held_append ks js)
    where
      by : (b : Bool) → held_of slots (ks ++ js) ≡ held_of slots ks ++ held_of slots js
          → (if b then held_of slots (ks ++ js) else frame_at slots k ∷ held_of slots (ks ++ js)) ≡ (if b then held_of slots ks else frame_at slots k ∷ held_of slots ks) ++ held_of slots js
      by true rest = rest
      by false rest = ap (λ (h : List Frame). frame_at slots k ∷ h) rest

  pub held_few : (ks : List ℕ) → length (held_of slots ks) ≤ length ks
  held_few [] = omega arith
  held_few (k ∷ ks) = by ((frame_at slots k).block == NO_BLOCK) (held_few ks)
    where
      by : (b : Bool) → length (held_of slots ks) ≤ length ks → length (if b then held_of slots ks else frame_at slots k ∷ held_of slots ks) ≤ length (k ∷ ks)
      by true rest = omega (arith, rest)
      by false rest = omega (arith, rest)

  -- what each frame of these numbers has that holds a block
  pub all_held : (P : Frame → Type 0) (ks : List ℕ) → AllByRecursion (λ k. P (frame_at slots k)) ks → AllByRecursion P (held_of slots ks)
  all_held P [] all = tt
  all_held P (k ∷ ks) all = by ((frame_at slots k).block == NO_BLOCK) (all_held P ks all.1)
    where
      by : (b : Bool) → AllByRecursion P (held_of slots ks) → AllByRecursion P (if b then held_of slots ks else frame_at slots k ∷ held_of slots ks)
      by true rest = rest
      by false rest = (all.0, rest)

  pub held_all : (P : Frame → Type 0) (ks : List ℕ) (k : ℕ) → AllByRecursion P (held_of slots ks) → has_number k ks ≡ true → (frame_at slots k).block ≢ NO_BLOCK → P (frame_at slots k)
  held_all P [] k all has used = cc
  held_all P (j ∷ ks) k all has used = elim (cases_eq j k) [
    | inl is ↦ subst (λ (i : ℕ). P (frame_at slots i)) is (subst (AllByRecursion P) (held_used j ks (λ none. used (ap (λ (i : ℕ). (frame_at slots i).block) (sym is) ∙ none))) all).0
    | inr differ ↦
        let test : (j == k) ≡ false = ne_eqb j k differ in
        let more : has_number k ks ≡ true = rw test at has in
        held_all P ks k (rest ((frame_at slots j).block == NO_BLOCK) all) more used
  ]
    where
      rest : (b : Bool) → AllByRecursion P (if b then held_of slots ks else frame_at slots j ∷ held_of slots ks) → AllByRecursion P (held_of slots ks)
      rest true all = all
      rest false all = all.1

  -- whether a block is held
  pub held_has : (ks : List ℕ) (p which : ℕ) → (frame_at slots p).block ≡ which → which ≢ NO_BLOCK → has_number p ks ≡ true → has_number which (numbers_of (held_of slots ks)) ≡ true
  held_has [] p which is some has = cc
  held_has (k ∷ ks) p which is some has = elim (cases_eq k p) [
    | inl here ↦
        let own : (frame_at slots k).block ≡ which = ap (λ (i : ℕ). (frame_at slots i).block) here ∙ is in
        let test : ((frame_at slots k).block == which) ≡ true = eq-eqb _ _ own in
        rw (held_used k ks (λ none. some (sym own ∙ none))) (rw test refl)
    | inr differ ↦
        let test : (k == p) ≡ false = ne_eqb k p differ in
        let more : has_number p ks ≡ true = rw test at has in
        step ((frame_at slots k).block == NO_BLOCK) ((frame_at slots k).block == which) (held_has ks p which is some more)
  ]
    where
      pick : (b : Bool) → has_number which (numbers_of (held_of slots ks)) ≡ true → (if b then true else has_number which (numbers_of (held_of slots ks))) ≡ true
      pick true rest = refl
      pick false rest = rest

      step : (b c : Bool) → has_number which (numbers_of (held_of slots ks)) ≡ true → has_number which (numbers_of (if b then held_of slots ks else frame_at slots k ∷ held_of slots ks)) ≡ true
      step true c rest = rest
      step false c rest = pick ((frame_at slots k).block == which) rest

  pub held_lacks : (ks : List ℕ) (which : ℕ) → AllByRecursion (λ k. (frame_at slots k).block ≢ which) ks → has_number which (numbers_of (held_of slots ks)) ≡ false
  held_lacks [] which none = refl
  held_lacks (k ∷ ks) which none =
      let test : ((frame_at slots k).block == which) ≡ false = ne_eqb _ _ none.0 in
      step ((frame_at slots k).block == NO_BLOCK) test (held_lacks ks which none.1)
    where
      step : (b : Bool) → ((frame_at slots k).block == which) ≡ false → has_number which (numbers_of (held_of slots ks)) ≡ false
          → has_number which (numbers_of (if b then held_of slots ks else frame_at slots k ∷ held_of slots ks)) ≡ false
      step true test rest = rest
      step false test rest = rw test rest

  -- a block that isn't held is that of which frame
  pub lacks_held : (ks : List ℕ) (which : ℕ) → which ≢ NO_BLOCK → has_number which (numbers_of (held_of slots ks)) ≡ false → AllByRecursion (λ k. (frame_at slots k).block ≢ which) ks
  lacks_held [] which some none = tt
  lacks_held (k ∷ ks) which some none = (λ is. cc (own is, none), lacks_held ks which some (behind ((frame_at slots k).block == NO_BLOCK) none))
    where
      own : (frame_at slots k).block ≡ which → has_number which (numbers_of (held_of slots (k ∷ ks))) ≡ true
      own is = let test : ((frame_at slots k).block == which) ≡ true = eq-eqb _ _ is in rw (held_used k ks (λ none. some (sym is ∙ none))) (rw test refl)

      behind : (b : Bool) → has_number which (numbers_of (if b then held_of slots ks else frame_at slots k ∷ held_of slots ks)) ≡ false → has_number which (numbers_of (held_of slots ks)) ≡ false
      behind true none = none
      behind false none = behind_of ((frame_at slots k).block == which) (has_number which (numbers_of (held_of slots ks))) none

  -- a frame that goes to the front
  pub moved_front : (ks : List ℕ) (p which : ℕ) (f : Frame) → (frame_at slots p).block ≡ which → which ≢ NO_BLOCK → has_number p ks ≡ true → AllByRecursion (λ k. (frame_at slots k).block ≡ which → k ≡ p) ks
      → frame_in which f (held_of slots ks) ≡ frame_at slots p
  moved_front [] p which f is some has one = cc
  moved_front (k ∷ ks) p which f is some has one = elim (cases_eq k p) [
    | inl here ↦
        let own : (frame_at slots k).block ≡ which = ap (λ (i : ℕ). (frame_at slots i).block) here ∙ is in
        let test : ((frame_at slots k).block == which) ≡ true = eq-eqb _ _ own in
        rw (held_used k ks (λ none. some (sym own ∙ none))) (rw test (ap (frame_at slots) here))
    | inr differ ↦
        let gone : (k == p) ≡ false = ne_eqb k p differ in
        let more : has_number p ks ≡ true = rw gone at has in
        let test : ((frame_at slots k).block == which) ≡ false = ne_eqb _ _ (λ e. differ (one.0 e)) in
        step ((frame_at slots k).block == NO_BLOCK) test (moved_front ks p which f is some more one.1)
  ]
    where
      step : (b : Bool) → ((frame_at slots k).block == which) ≡ false → frame_in which f (held_of slots ks) ≡ frame_at slots p
          → frame_in which f (if b then held_of slots ks else frame_at slots k ∷ held_of slots ks) ≡ frame_at slots p
      step true test rest = rest
      step false test rest = rw test rest

  pub moved_others : (ks : List ℕ) (p which : ℕ) → (frame_at slots p).block ≡ which → which ≢ NO_BLOCK → has_number p ks ≡ true → AllByRecursion (λ k. (frame_at slots k).block ≡ which → k ≡ p) ks
      → others_of which (held_of slots ks) ≡ held_of slots (without p ks)
  moved_others [] p which is some has one = cc
  moved_others (k ∷ ks) p which is some has one = elim (cases_eq k p) [
    | inl here ↦
        let own : (frame_at slots k).block ≡ which = ap (λ (i : ℕ). (frame_at slots i).block) here ∙ is in
        let test : ((frame_at slots k).block == which) ≡ true = eq-eqb _ _ own in
        let same : (k == p) ≡ true = eq-eqb k p here in
        rw (held_used k ks (λ none. some (sym own ∙ none))) (rw test (rw same refl))
    | inr differ ↦
        let same : (k == p) ≡ false = ne_eqb k p differ in
        let more : has_number p ks ≡ true = rw same at has in
        let test : ((frame_at slots k).block == which) ≡ false = ne_eqb _ _ (λ e. differ (one.0 e)) in
        rw same (step ((frame_at slots k).block == NO_BLOCK) test (moved_others ks p which is some more one.1))
  ]
    where
      step : (b : Bool) → ((frame_at slots k).block == which) ≡ false → others_of which (held_of slots ks) ≡ held_of slots (without p ks)
          → others_of which (if b then held_of slots ks else frame_at slots k ∷ held_of slots ks) ≡ (if b then held_of slots (without p ks) else frame_at slots k ∷ held_of slots (without p ks))
      step true test rest = rest
      step false test rest = rw test (ap (λ (h : List Frame). frame_at slots k ∷ h) rest)

  -- where the last of all numbers is used, all are
  pub all_used : (front : List ℕ) (v : ℕ) → UnusedLast slots (front ++ v ∷ []) → (frame_at slots v).block ≢ NO_BLOCK → length (held_of slots (front ++ v ∷ [])) ≡ length front + 1
  all_used [] v behind used = ap length (held_used v [] used)
  all_used (k ∷ front) v behind used =
      let rest = all_used front v behind.1 used in
      omega (arith, rest, ap length (held_used k (front ++ v ∷ []) (λ none. used (last front (behind.0 none)))))
    where
      last : (front : List ℕ) → AllByRecursion (IsUnused slots) (front ++ v ∷ []) → IsUnused slots v
      last [] all = all.0
      last (j ∷ front) all = last front all.1

  -- room is made by the last one
  pub room_is : (front : List ℕ) (v n : ℕ) → UnusedLast slots (front ++ v ∷ []) → n ≡ length front + 1 → held_of slots front ≡ room_made n (held_of slots (front ++ v ∷ []))
  room_is front v n behind all = elim (cases_eq (frame_at slots v).block NO_BLOCK) [
    | inl none ↦
        let same : held_of slots (front ++ v ∷ []) ≡ held_of slots front = held_append front (v ∷ []) ∙ ap (λ (h : List Frame). held_of slots front ++ h) (held_unused v [] none) ∙ append-nil (held_of slots front) in
        let few = held_few front in
        let test : (length (held_of slots front) == n) ≡ false = ne_eqb _ _ (λ e. absurd (omega (arith, e, few, all))) in
        rw same (rw test refl)
    | inr used ↦
        let full = all_used front v behind used in
        let same : held_of slots (front ++ v ∷ []) ≡ held_of slots front ++ frame_at slots v ∷ [] = held_append front (v ∷ []) ∙ ap (λ (h : List Frame). held_of slots front ++ h) (held_used v [] used) in
        let test : (length (held_of slots (front ++ v ∷ [])) == n) ≡ true = eq-eqb _ _ (full ∙ sym all) in
        let long : n - 1 ≡ length (held_of slots front) = omega (arith, full, all, ap length same, length-append (held_of slots front) (frame_at slots v ∷ [])) in
        rw test (sym (ap (take (n - 1)) same ∙ ap (λ (k : ℕ). take k (held_of slots front ++ frame_at slots v ∷ [])) long ∙ take-append_seam (held_of slots front) (frame_at slots v ∷ [])))
  ]

  -- the last of a list is one
  last_one : (xs ys : List Frame) (x y : Frame) → xs ++ x ∷ [] ≡ ys ++ y ∷ [] → x ≡ y
  last_one [] [] x y same = cc
  last_one [] (b ∷ ys) x y same = absurd (omega (arith, ap length same, length-append ys (y ∷ [])))
  last_one (a ∷ xs) [] x y same = absurd (omega (arith, ap length same, length-append xs (x ∷ [])))
  last_one (a ∷ xs) (b ∷ ys) x y same = last_one xs ys x y (cc)

  pub last_clean : (front : List ℕ) (v n : ℕ) → n ≡ length front + 1 → (frame_at slots v).dirty ≡ false → IsLastClean n (held_of slots (front ++ v ∷ []))
  last_clean front v n all clean fr last split full = elim (cases_eq (frame_at slots v).block NO_BLOCK) [
    | inl none ↦
        let same : held_of slots (front ++ v ∷ []) ≡ held_of slots front = held_append front (v ∷ []) ∙ ap (λ (h : List Frame). held_of slots front ++ h) (held_unused v [] none) ∙ append-nil (held_of slots front) in
        let few = held_few front in
        absurd (omega (arith, full, few, all, ap length same))
    | inr used ↦
        let same : held_of slots (front ++ v ∷ []) ≡ held_of slots front ++ frame_at slots v ∷ [] = held_append front (v ∷ []) ∙ ap (λ (h : List Frame). held_of slots front ++ h) (held_used v [] used) in
        ap (λ (f : Frame). f.dirty) (sym (last_one (held_of slots front) fr (frame_at slots v) last (sym same ∙ split))) ∙ clean
  ]

-- a frame that isn't of these numbers
pub held_set_out : (slots : List Frame) (v : ℕ) (f : Frame) (ks : List ℕ) → has_number v ks ≡ false → held_of (set slots v f) ks ≡ held_of slots ks
held_set_out slots v f [] none = refl
held_set_out slots v f (k ∷ ks) none =
    let other : frame_at (set slots v f) k ≡ frame_at slots k = at_set_other slots v k f (λ e. eqb-false k v (front_of (k == v) (has_number v ks) none) e) in
    let rest = held_set_out slots v f ks (behind_of (k == v) (has_number v ks) none) in
    ap (λ (g : Frame). if g.block == NO_BLOCK then held_of (set slots v f) ks else g ∷ held_of (set slots v f) ks) other
    ∙ ap (λ (h : List Frame). if (frame_at slots k).block == NO_BLOCK then h else frame_at slots k ∷ h) rest

-- frames of one block are one frame
pub one_frame : (slots : List Frame) (places : List ℕ) (which k j : ℕ) → which ≢ NO_BLOCK → IsPlaced slots places k → IsPlaced slots places j → (frame_at slots k).block ≡ which → (frame_at slots j).block ≡ which → k ≡ j
one_frame slots places which k j some (inl none) other is same = absurd (some (sym is ∙ none.0))
one_frame slots places which k j some (inr here) (inl none) is same = absurd (some (sym same ∙ none.0))
one_frame slots places which k j some (inr here) (inr there) is same = sym here.1 ∙ ap (λ (b : ℕ). get_or places b 0) (is ∙ sym same) ∙ there.1

pub one_of_all : (slots : List Frame) (places : List ℕ) (which p : ℕ) (ks : List ℕ) → which ≢ NO_BLOCK → IsPlaced slots places p → (frame_at slots p).block ≡ which → AllByRecursion (IsPlaced slots places) ks → AllByRecursion (λ k. (frame_at slots k).block ≡ which → k ≡ p) ks
one_of_all slots places which p [] some here is all = tt
one_of_all slots places which p (k ∷ ks) some here is all = (λ own. one_frame slots places which k p some all.0 here own is, one_of_all slots places which p ks some here is all.1)

pub held_differ : (slots : List Frame) (places : List ℕ) (ks : List ℕ) → AreOnce ks → AllByRecursion (IsPlaced slots places) ks → AreDifferent (held_of slots ks)
held_differ slots places [] once all = tt
held_differ slots places (k ∷ ks) once all = elim (cases_eq (frame_at slots k).block NO_BLOCK) [
  | inl none ↦ subst AreDifferent (sym (held_unused slots k ks none)) (held_differ slots places ks once.1 all.1)
  | inr used ↦ subst AreDifferent (sym (held_used slots k ks used))
      (held_lacks slots ks (frame_at slots k).block (others used ks once.0 all.1), held_differ slots places ks once.1 all.1)
]
  where
    others : (frame_at slots k).block ≢ NO_BLOCK → (js : List ℕ) → has_number k js ≡ false → AllByRecursion (IsPlaced slots places) js → AllByRecursion (λ j. (frame_at slots j).block ≢ (frame_at slots k).block) js
    others used [] none placed = tt
    others used (j ∷ js) none placed = (
      λ is. eqb-false j k (front_of (j == k) (has_number k js) none) (one_frame slots places (frame_at slots k).block j k used placed.0 all.0 is refl),
      others used js (behind_of (j == k) (has_number k js) none) placed.1,
    )
