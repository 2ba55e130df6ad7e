-- What is seen through frames stays as they move, come and go, and as some come home.
use Rattle.std.proofs.Common.{◌≡◌, ◌⊎◌, inl, inr, ⊎_elim, ℕ, ◌==◌, Bool, true, false, if◌then◌else◌, List, [], ◌∷◌, ◌++◌, ap, sym, ◌∙◌, refl}
use Rattle.std.proofs.lemmas.Bool.{eqb-true, eqb-false, eq-eqb, ne_eqb}
use Rattle.std.specs.List.{AllByRecursion}
use Rattle.rb_layout.specs.declared.layout.Layout.{Layout}
use Rattle.rb_twin.specs.Batches.{Image, with_batch}
use Rattle.rb_twin.specs.Twins.{home}
use Rattle.rb_cache.specs.Frames.{seen, numbers_of, has_number, frame_in, others_of, cleaned, blocks_of, AreBelow, AreClean, AreDifferent, AreSeen}
use Rattle.rb_cache.specs.declared.frame.Frame.{Frame}
use Rattle.rb_cache.proofs.NumberLemmas.{behind_of, front_of}

-- a step of a look among frames
cons : (b : Bool) (x y z : List ℕ) → y ≡ z → (if b then x else y) ≡ (if b then x else z)
cons b x y z same = ap (λ (w : List ℕ). if b then x else w) same

-- a frame that is cleaned keeps its block
pub numbers-cleaned : (names : List ℕ) (held : List Frame) → numbers_of (cleaned names held) ≡ numbers_of held
numbers-cleaned names [] = refl
numbers-cleaned names (f ∷ held) = by (has_number f.block names) (numbers-cleaned names held)
  where
    by : (b : Bool) → numbers_of (cleaned names held) ≡ numbers_of held → numbers_of ((if b then record f { dirty = false } else f) ∷ cleaned names held) ≡ numbers_of (f ∷ held)
    by true rest = ap (λ (ns : List ℕ). f.block ∷ ns) rest
    by false rest = ap (λ (ns : List ℕ). f.block ∷ ns) rest

pub below_cleaned : (n : ℕ) (names : List ℕ) (held : List Frame) → AreBelow n held → AreBelow n (cleaned names held)
below_cleaned n names [] below = tt
below_cleaned n names (f ∷ held) below = by (has_number f.block names) (below_cleaned n names held below.1)
  where
    by : (b : Bool) → AreBelow n (cleaned names held) → AreBelow n ((if b then record f { dirty = false } else f) ∷ cleaned names held)
    by true rest = (below.0, rest)
    by false rest = (below.0, rest)

-- a frame that is dirty still isn't of these blocks
pub dirty_apart : (names : List ℕ) (held : List Frame) → AllByRecursion (λ f. f.dirty ≡ true → has_number f.block names ≡ false) (cleaned names held)
dirty_apart names [] = tt
dirty_apart names (f ∷ held) = (by (has_number f.block names) refl, dirty_apart names held)
  where
    by : (b : Bool) → has_number f.block names ≡ b → (if b then record f { dirty = false } else f).dirty ≡ true → has_number (if b then record f { dirty = false } else f).block names ≡ false
    by true is dirty = cc
    by false is dirty = is

-- one block more
pub cleaned_more : (names : List ℕ) (b : ℕ) (held : List Frame) → cleaned (b ∷ []) (cleaned names held) ≡ cleaned (names ++ b ∷ []) held
cleaned_more names b [] = refl
cleaned_more names b (f ∷ held) = by (has_number f.block names) (has_more f.block names) (cleaned_more names b held)
  where
    has_more : (k : ℕ) (ns : List ℕ) → has_number k (ns ++ b ∷ []) ≡ (if has_number k ns then true else (if b == k then true else false))
    has_more k [] = refl
    has_more k (n ∷ ns) = pick (n == k) (has_more k ns)
      where
        pick : (c : Bool) → has_number k (ns ++ b ∷ []) ≡ (if has_number k ns then true else (if b == k then true else false))
            → (if c then true else has_number k (ns ++ b ∷ [])) ≡ (if (if c then true else has_number k ns) then true else (if b == k then true else false))
        pick true rest = refl
        pick false rest = rest

    one : (c d : Bool) (rest more : List Frame) → rest ≡ more
        → (if d then record (if c then record f { dirty = false } else f) { dirty = false } else (if c then record f { dirty = false } else f)) ∷ rest
        ≡ (if (if c then true else d) then record f { dirty = false } else f) ∷ more
    one true true rest more same = ap (λ (h : List Frame). record f { dirty = false } ∷ h) same
    one true false rest more same = ap (λ (h : List Frame). record f { dirty = false } ∷ h) same
    one false true rest more same = ap (λ (h : List Frame). record f { dirty = false } ∷ h) same
    one false false rest more same = ap (λ (h : List Frame). f ∷ h) same

    by : (c : Bool) → has_number f.block (names ++ b ∷ []) ≡ (if c then true else (if b == f.block then true else false)) → cleaned (b ∷ []) (cleaned names held) ≡ cleaned (names ++ b ∷ []) held
        → (if has_number (if c then record f { dirty = false } else f).block (b ∷ []) then record (if c then record f { dirty = false } else f) { dirty = false } else (if c then record f { dirty = false } else f)) ∷ cleaned (b ∷ []) (cleaned names held)
        ≡ (if has_number f.block (names ++ b ∷ []) then record f { dirty = false } else f) ∷ cleaned (names ++ b ∷ []) held
    by true more rest = rw more (one true (if b == f.block then true else false) (cleaned (b ∷ []) (cleaned names held)) (cleaned (names ++ b ∷ []) held) rest)
    by false more rest = rw more (one false (if b == f.block then true else false) (cleaned (b ∷ []) (cleaned names held)) (cleaned (names ++ b ∷ []) held) rest)

module _ (l : Layout) where
  -- a block that isn't held is at home
  pub seen_home : (file : List ℕ) (held : List Frame) (which : ℕ) → has_number which (numbers_of held) ≡ false → seen l file held which ≡ home l file which
  seen_home file [] which none = refl
  seen_home file (f ∷ held) which none =
      let test = front_of (f.block == which) (has_number which (numbers_of held)) none in
      rw test (seen_home file held which (behind_of (f.block == which) (has_number which (numbers_of held)) none))

  -- over another file it is the same where the homes of what isn't held are
  pub seen_over : (file other : List ℕ) (held : List Frame) (which : ℕ) → (has_number which (numbers_of held) ≡ false → home l other which ≡ home l file which) → seen l other held which ≡ seen l file held which
  seen_over file other [] which same = same refl
  seen_over file other (f ∷ held) which same = by (f.block == which) same (λ h. seen_over file other held which h)
    where
      by : (b : Bool) → ((if b then true else has_number which (numbers_of held)) ≡ false → home l other which ≡ home l file which)
          → ((has_number which (numbers_of held) ≡ false → home l other which ≡ home l file which) → seen l other held which ≡ seen l file held which)
          → (if b then f.bytes else seen l other held which) ≡ (if b then f.bytes else seen l file held which)
      by true same rest = refl
      by false same rest = rest same

  -- whether a frame is dirty isn't seen
  pub seen_cleaned : (file : List ℕ) (names : List ℕ) (held : List Frame) (which : ℕ) → seen l file (cleaned names held) which ≡ seen l file held which
  seen_cleaned file names [] which = refl
  seen_cleaned file names (f ∷ held) which = by (has_number f.block names) (seen_cleaned file names held which)
    where
      by : (b : Bool) → seen l file (cleaned names held) which ≡ seen l file held which → seen l file ((if b then record f { dirty = false } else f) ∷ cleaned names held) which ≡ seen l file (f ∷ held) which
      by true rest = cons (f.block == which) f.bytes (seen l file (cleaned names held) which) (seen l file held which) rest
      by false rest = cons (f.block == which) f.bytes (seen l file (cleaned names held) which) (seen l file held which) rest

  -- a clean frame at the end may go
  pub seen_dropped : (file : List ℕ) (held : List Frame) (v : Frame) (which : ℕ) → v.bytes ≡ home l file v.block → seen l file held which ≡ seen l file (held ++ v ∷ []) which
  seen_dropped file [] v which clean = by (v.block == which) refl
    where
      by : (b : Bool) → (v.block == which) ≡ b → home l file which ≡ (if b then v.bytes else home l file which)
      by true is = ap (home l file) (sym (eqb-true v.block which is)) ∙ sym clean
      by false is = refl
  seen_dropped file (f ∷ held) v which clean = cons (f.block == which) f.bytes _ _ (seen_dropped file held v which clean)

  -- a block that wasn't held comes in as it is at home
  pub seen_brought : (file : List ℕ) (held : List Frame) (f : Frame) (which : ℕ) → has_number f.block (numbers_of held) ≡ false → f.bytes ≡ home l file f.block → seen l file (f ∷ held) which ≡ seen l file held which
  seen_brought file held f which none clean = by (f.block == which) refl
    where
      by : (b : Bool) → (f.block == which) ≡ b → (if b then f.bytes else seen l file held which) ≡ seen l file held which
      by true is = clean ∙ sym (seen_home file held f.block none) ∙ ap (seen l file held) (eqb-true f.block which is)
      by false is = refl

  -- the frame of a block is of it
  own : (which : ℕ) (f : Frame) (held : List Frame) → has_number which (numbers_of held) ≡ true → (frame_in which f held).block ≡ which
  own which f [] there = cc
  own which f (g ∷ held) there = by (g.block == which) refl there (λ has. own which f held has)
    where
      by : (b : Bool) → (g.block == which) ≡ b → (if b then true else has_number which (numbers_of held)) ≡ true → (has_number which (numbers_of held) ≡ true → (frame_in which f held).block ≡ which)
          → (if b then g else frame_in which f held).block ≡ which
      by true is there rest = eqb-true g.block which is
      by false is there rest = rest there

  -- two frames of different blocks are seen in any order
  swapped : (g found : Frame) (k : ℕ) (x y : List ℕ) (b : Bool) → (g.block == k) ≡ b → (found.block ≡ g.block → ⊥) → (if found.block == k then found.bytes else x) ≡ y
      → (if found.block == k then found.bytes else (if b then g.bytes else x)) ≡ (if b then g.bytes else y)
  swapped g found k x y true at differ rest =
      let test : (found.block == k) ≡ false = ne_eqb found.block k (λ e. differ (e ∙ sym (eqb-true g.block k at))) in rw test refl
  swapped g found k x y false at differ rest = rest

  -- a frame goes to the front
  pub seen_moved : (file : List ℕ) (held : List Frame) (f : Frame) (which k : ℕ) → has_number which (numbers_of held) ≡ true → seen l file (frame_in which f held ∷ others_of which held) k ≡ seen l file held k
  seen_moved file [] f which k there = cc
  seen_moved file (g ∷ held) f which k there = by (g.block == which) refl there (λ has. seen_moved file held f which k has)
    where
      by : (b : Bool) → (g.block == which) ≡ b → (if b then true else has_number which (numbers_of held)) ≡ true
          → (has_number which (numbers_of held) ≡ true → seen l file (frame_in which f held ∷ others_of which held) k ≡ seen l file held k)
          → seen l file ((if b then g else frame_in which f held) ∷ (if b then held else g ∷ others_of which held)) k ≡ seen l file (g ∷ held) k
      by true is there rest = refl
      by false is there rest =
          swapped g (frame_in which f held) k (seen l file (others_of which held) k) (seen l file held k) (g.block == k) refl
          (λ e. eqb-false g.block which is (sym e ∙ own which f held there)) (rest there)

  -- a batch over the homes: each block is as at home, or as it is seen
  pub batch_has : (file : List ℕ) (held : List Frame) (batch : List Image) (which : ℕ) (x : List ℕ) → AreSeen held batch → has_number which (blocks_of batch) ≡ true → with_batch batch which x ≡ seen l file held which
  batch_has file held [] which x are has = cc
  batch_has file held (image ∷ batch) which x are has = by (image.no == which) refl has (λ rest. batch_has file held batch which x are.1 rest)
    where
      by : (b : Bool) → (image.no == which) ≡ b → (if b then true else has_number which (blocks_of batch)) ≡ true → (has_number which (blocks_of batch) ≡ true → with_batch batch which x ≡ seen l file held which)
          → (if b then image.unit else with_batch batch which x) ≡ seen l file held which
      by true is has rest = are.0 l file ∙ ap (seen l file held) (eqb-true image.no which is)
      by false is has rest = rest has

  pub batch_lacks : (batch : List Image) (which : ℕ) (x : List ℕ) → has_number which (blocks_of batch) ≡ false → with_batch batch which x ≡ x
  batch_lacks [] which x none = refl
  batch_lacks (image ∷ batch) which x none =
      let test = front_of (image.no == which) (has_number which (blocks_of batch)) none in
      rw test (batch_lacks batch which x (behind_of (image.no == which) (has_number which (blocks_of batch)) none))

  pub batch_seen : (file : List ℕ) (held : List Frame) (batch : List Image) (which : ℕ) (x : List ℕ) → AreSeen held batch → (with_batch batch which x ≡ x) ⊎ (with_batch batch which x ≡ seen l file held which)
  batch_seen file held batch which x are = by (has_number which (blocks_of batch)) refl
    where
      by : (b : Bool) → has_number which (blocks_of batch) ≡ b → (with_batch batch which x ≡ x) ⊎ (with_batch batch which x ≡ seen l file held which)
      by true has = inr (batch_has file held batch which x are has)
      by false none = inl (batch_lacks batch which x none)

  -- a batch comes home: what is seen stays
  pub seen_after_batch : (file new : List ℕ) (held : List Frame) (batch : List Image) (which : ℕ) → AreSeen held batch → home l new which ≡ with_batch batch which (home l file which)
      → seen l new (cleaned (blocks_of batch) held) which ≡ seen l file held which
  seen_after_batch file new held batch which are came =
      seen_cleaned new (blocks_of batch) held which
      ∙ seen_over file new held which (λ none. ⊎_elim (λ is. came ∙ is) (λ is. came ∙ is ∙ seen_home file held which none) (batch_seen file held batch which (home l file which) are))

  -- each frame is what is seen of its block
  behind_front : (file : List ℕ) (f : Frame) (held more : List Frame) → AllByRecursion (λ g. seen l file held g.block ≡ g.bytes) more → has_number f.block (numbers_of more) ≡ false → AllByRecursion (λ g. seen l file (f ∷ held) g.block ≡ g.bytes) more
  behind_front file f held [] all none = tt
  behind_front file f held (g ∷ more) all none =
      let apart = front_of (g.block == f.block) (has_number f.block (numbers_of more)) none in
      let test : (f.block == g.block) ≡ false = ne_eqb f.block g.block (λ e. eqb-false g.block f.block apart (sym e)) in
      (rw test all.0, behind_front file f held more all.1 (behind_of (g.block == f.block) (has_number f.block (numbers_of more)) none))

  pub own_seen : (file : List ℕ) (held : List Frame) → AreDifferent held → AllByRecursion (λ f. seen l file held f.block ≡ f.bytes) held
  own_seen file [] apart = tt
  own_seen file (f ∷ held) apart =
      let test : (f.block == f.block) ≡ true = eq-eqb f.block f.block refl in
      (rw test refl, behind_front file f held held (own_seen file held apart.1) apart.0)

  -- and the frames that came home are clean
  module _ (file new : List ℕ) (held : List Frame) (batch : List Image) (are : AreSeen held batch) (came : (which : ℕ) → home l new which ≡ with_batch batch which (home l file which)) where
    one_clean : (f : Frame) → seen l file held f.block ≡ f.bytes → (f.dirty ≡ false → f.bytes ≡ home l file f.block) → (b : Bool) → has_number f.block (blocks_of batch) ≡ b
        → (if b then record f { dirty = false } else f).dirty ≡ false → (if b then record f { dirty = false } else f).bytes ≡ home l new (if b then record f { dirty = false } else f).block
    one_clean f mine clean true has is = sym mine ∙ sym (batch_has file held batch f.block (home l file f.block) are has) ∙ sym (came f.block)
    one_clean f mine clean false none is = clean is ∙ sym (batch_lacks batch f.block (home l file f.block) none) ∙ sym (came f.block)

    clean_each : (more : List Frame) → AllByRecursion (λ f. seen l file held f.block ≡ f.bytes) more → AreClean l file more → AreClean l new (cleaned (blocks_of batch) more)
    clean_each [] mine clean = tt
    clean_each (f ∷ more) mine clean = (one_clean f mine.0 clean.0 (has_number f.block (blocks_of batch)) refl, clean_each more mine.1 clean.1)

    pub clean_after_batch : AreDifferent held → AreClean l file held → AreClean l new (cleaned (blocks_of batch) held)
    clean_after_batch apart clean = clean_each held (own_seen file held apart) clean
