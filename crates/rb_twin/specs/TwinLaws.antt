-- What the steps of a batch leave of the blocks that a file keeps.
use Rattle.std.specs.Prelude.{◌≡◌, ◌≢◌, ◌⊎◌, ℕ, zero, suc, ◌+◌, ◌-◌, ◌*◌, ◌<◌}
use Rattle.std.specs.Prelude.{◌≤◌, ◌==◌, if◌then◌else◌, true, false, List, [], ◌∷◌, ◌++◌}
use Rattle.std.specs.Prelude.{length, take, drop, slice_index}
use Rattle.std.proofs.Common.{inl, inr, ⊎_elim, refl, sym, ◌∙◌, ap, subst, arith}
use Rattle.std.proofs.lemmas.Bool.{cases_lt, cases_eq}
use Rattle.std.proofs.lemmas.Bool.Decides.{nat_tests}
use Rattle.std.proofs.lemmas.List.{drop-drop, drop-take, take-take}
use Rattle.rb_base.specs.Fields.{part, number_at}
use Rattle.rb_base.specs.declared.sizes.TheConstants.{UNIT}
use Rattle.rb_base.proofs.Fronts.{number_of_part, byte_of_part}
use Rattle.rb_disk.specs.DiskModel.{Torn}
use Rattle.rb_disk.specs.Ranges.{SameBut}
use Rattle.rb_disk.specs.Writes.{torn_stays}
use Rattle.rb_layout.specs.Regions.{twin_offset, block_offset, block_count, file_length}
use Rattle.rb_layout.specs.declared.layout.Layout.{Layout}
use Rattle.rb_twin.specs.Batches.{Image, IsBatch, IsNoneOf, with_batch, images_in, batch_in}
use Rattle.rb_twin.specs.Twins.{home, twin_area, twin_gate, kept, IsTwin}

-- a block that the batch has, or hasn't
pub with_none : (images : List Image) (which : ℕ) (unit : List ℕ) → IsNoneOf which images
    → with_batch images which unit ≡ unit
with_none [] which unit none = refl
with_none (image ∷ images) which unit none =
    let differ = none.0 in
    let test : (image.no == which) ≡ false = grind (arith, nat_tests) in rw test (with_none images which unit none.1)

-- Where the batch has the block, what stands at home doesn't matter; else nothing else does.
pub with_either : (images : List Image) (which : ℕ) → IsNoneOf which images
    ⊎ ((one other : List ℕ) → with_batch images which one ≡ with_batch images which other)
with_either [] which = inl tt
with_either (image ∷ images) which = elim (cases_eq image.no which) [
  | inl is ↦
      let test : (image.no == which) ≡ true = grind (arith, nat_tests) in inr (λ one other. rw test refl)
  | inr differ ↦
      let test : (image.no == which) ≡ false = grind (arith, nat_tests) in
      ⊎_elim (λ none. inl (differ, none)) (λ same. inr (λ one other. rw test (same one other)))
      (with_either images which)
]

-- a batch that is made again
pub with_again : (images : List Image) (which : ℕ) (unit : List ℕ)
    → with_batch images which (with_batch images which unit) ≡ with_batch images which unit
with_again images which unit = ⊎_elim (λ none. with_none images which (with_batch images which unit) none)
    (λ same. same (with_batch images which unit) unit) (with_either images which)

-- blocks that are the same but where the batch has them
pub with_same : (images : List Image) (which : ℕ) (one other : List ℕ) → (IsNoneOf which images → one ≡ other)
    → with_batch images which one ≡ with_batch images which other
with_same images which one other same = ⊎_elim (λ none. ap (with_batch images which) (same none))
    (λ both. both one other) (with_either images which)

-- what a file keeps where its gate is shut, and where it is open
pub kept_shut : (l : Layout) (file : List ℕ) (which : ℕ) → twin_gate l file ≢ 1
    → kept l file which ≡ home l file which
kept_shut l file which shut =
    let test : (twin_gate l file == 1) ≡ false = grind (arith, nat_tests) in rw test refl

pub kept_open : (l : Layout) (file : List ℕ) (which : ℕ) → twin_gate l file ≡ 1
    → kept l file which ≡ with_batch (batch_in (twin_area l file)) which (home l file which)
kept_open l file which opened =
    let test : (twin_gate l file == 1) ≡ true = grind (arith, nat_tests) in rw test refl

-- The batch is read from the bytes behind the gate, as many units of them as it has images, and the header.
pub part_of : (a : List ℕ) (n k m : ℕ) → 1 ≤ k → k + m ≤ 1 + n
    → part (part a 1 n) (k - 1) m ≡ part a k m
part_of a n k m low le =
    let all = drop 1 a in
    sym (drop-take (k - 1) m (take n all)) ∙ ap (drop (k - 1)) (take-take (k - 1 + m) n all (omega (arith, low, le)))
    ∙ drop-take (k - 1) m all
    ∙ ap (take m) (drop-drop (k - 1) 1 a ∙ ap (λ (i : ℕ). drop i a) (omega (arith, low)))

pub same_part : (a b : List ℕ) (n k m : ℕ) → part a 1 n ≡ part b 1 n → 1 ≤ k → k + m ≤ 1 + n
    → part a k m ≡ part b k m
same_part a b n k m same low le = sym (part_of a n k m low le) ∙ ap (λ (h : List ℕ). part h (k - 1) m) same
    ∙ part_of b n k m low le

images_same : (a b : List ℕ) (n place count : ℕ) → part a 1 n ≡ part b 1 n → place + count ≤ 8
    → UNIT * (place + count + 1) ≤ 1 + n → images_in a place count ≡ images_in b place count
images_same a b n place zero same few fits = refl
images_same a b n place (suc count) same few fits =
    let which : number_at a (8 + 4 * place) 4 ≡ number_at b (8 + 4 * place) 4 =
    sym (number_of_part a (8 + 4 * place) 4)
    ∙ ap (λ (h : List ℕ). number_at h 0 4)
    (same_part a b n (8 + 4 * place) 4 same (omega arith) (omega (arith, few, fits)))
    ∙ number_of_part b (8 + 4 * place) 4 in
    let unit : part a (2048 * (place + 1)) 2048 ≡ part b (2048 * (place + 1)) 2048 =
    same_part a b n (2048 * (place + 1)) 2048 same (omega arith) (omega (arith, fits)) in
    let one = part a (2048 * (place + 1)) 2048 in
    let two = number_at b (8 + 4 * place) 4 in
    let rest = images_in a (place + 1) count in
    ap (λ (x : ℕ). record { no = x; unit = one } ∷ rest) which
    ∙ ap (λ (x : List ℕ). record { no = two; unit = x } ∷ rest) unit
    ∙ ap (λ (x : List Image). record { no = two; unit = part b (2048 * (place + 1)) 2048 } ∷ x)
    (images_same a b n (place + 1) count same (omega (arith, few)) (omega (arith, fits)))

pub length-images : (a : List ℕ) (place count : ℕ) → length (images_in a place count) ≡ count
length-images a place zero = refl
length-images a place (suc count) = let rest = length-images a (place + 1) count in omega (arith, rest)

pub batch_same : (a b : List ℕ) (n : ℕ) → part a 1 n ≡ part b 1 n → length (batch_in a) ≤ 8
    → UNIT * (length (batch_in a) + 1) ≤ 1 + n → batch_in b ≡ batch_in a
batch_same a b n same few fits =
    let counted = length-images a 0 (slice_index a 1) in
    let count : slice_index b 1 ≡ slice_index a 1 =
    sym (byte_of_part b 1 1 (omega arith))
    ∙ ap (λ (h : List ℕ). slice_index h 0) (sym (same_part a b n 1 1 same (omega arith) (omega (arith, fits))))
    ∙ byte_of_part a 1 1 (omega arith) in
    ap (images_in b 0) count
    ∙ sym (images_same a b n 0 (slice_index a 1) same (omega (arith, few, counted)) (omega (arith, fits, counted)))

-- bytes in front of a place, and from one on
pub before_same : (f g : List ℕ) (n k m : ℕ) → take n g ≡ take n f → k + m ≤ n → part g k m ≡ part f k m
before_same f g n k m same le =
    let front = λ (h : List ℕ). sym (drop-take k m (take n h)) ∙ ap (drop k) (take-take (k + m) n h le)
    ∙ drop-take k m h in
    sym (front g) ∙ ap (λ (h : List ℕ). part h k m) same ∙ front f

pub behind_same : (f g : List ℕ) (n k m : ℕ) → drop n g ≡ drop n f → n ≤ k → part g k m ≡ part f k m
behind_same f g n k m same le =
    let place : n + (k - n) ≡ k = omega (arith, le) in
    let back = λ (h : List ℕ). ap (take m) (drop-drop (k - n) n h ∙ ap (λ (i : ℕ). drop i h) place) in
    sym (back g) ∙ ap (λ (h : List ℕ). take m (drop (k - n) h)) same ∙ back f

pub drop_later : (f g : List ℕ) (n k : ℕ) → drop n g ≡ drop n f → n ≤ k → drop k g ≡ drop k f
drop_later f g n k same le =
    let place : n + (k - n) ≡ k = omega (arith, le) in
    let back = λ (h : List ℕ). drop-drop (k - n) n h ∙ ap (λ (i : ℕ). drop i h) place in
    sym (back g) ∙ ap (drop (k - n)) same ∙ back f

pub take_earlier : (f g : List ℕ) (n k : ℕ) → take n g ≡ take n f → k ≤ n → take k g ≡ take k f
take_earlier f g n k same le = sym (take-take k n g le) ∙ ap (take k) same ∙ take-take k n f le

-- Files that differ in the twin area alone have the same blocks at home, and are the same in front of it.
pub homes_stay : (l : Layout) (f g : List ℕ) → SameBut (twin_offset l 0) (block_offset l 0) f g → (which : ℕ)
    → home l g which ≡ home l f which
homes_stay l f g same which = behind_same f g (block_offset l 0) (block_offset l which) 2048 same.behind (omega arith)

pub front_stays : (l : Layout) (f g : List ℕ) → SameBut (twin_offset l 0) (block_offset l 0) f g
    → SameBut (twin_offset l 0) (file_length l) f g
front_stays l f g same = record {
  long = same.long;
  before = same.before;
  behind = drop_later f g (block_offset l 0) (file_length l) same.behind (omega arith);
}

-- A torn write behind the gate, within the area.
pub torn_behind_gate : (l : Layout) (f g : List ℕ) (count : ℕ) → length f ≡ file_length l
    → count + 1 ≤ UNIT * 9 → Torn (twin_offset l 0 + 1) count f g
    → SameBut (twin_offset l 0) (block_offset l 0) f g × (twin_gate l g ≡ twin_gate l f)
torn_behind_gate l f g count whole few torn = (
  record {
    long = omega (arith, torn.no_shorter, torn.no_longer, whole, few);
    before = take_earlier f g (twin_offset l 0 + 1) (twin_offset l 0) torn.before (omega arith);
    behind = drop_later f g (twin_offset l 0 + 1 + count) (block_offset l 0) torn.behind (omega (arith, few));
  },
  torn_stays (twin_offset l 0) (twin_offset l 0 + 1) count f g (inl (omega arith)) torn,
)

-- A torn gate leaves the batch, and the blocks at home.
pub torn_gate : (l : Layout) (f g : List ℕ) → length f ≡ file_length l → Torn (twin_offset l 0) 1 f g
    → SameBut (twin_offset l 0) (block_offset l 0) f g
    × (part (twin_area l g) 1 (UNIT * 9 - 1) ≡ part (twin_area l f) 1 (UNIT * 9 - 1))
torn_gate l f g whole torn = (
  record {
    long = omega (arith, torn.no_shorter, torn.no_longer, whole);
    before = torn.before;
    behind = drop_later f g (twin_offset l 0 + 1) (block_offset l 0) torn.behind (omega arith);
  },
  area g ∙ behind_same f g (twin_offset l 0 + 1) (twin_offset l 0 + 1) 18431 torn.behind (omega arith)
      ∙ sym (area f),
)
  where
    area : (h : List ℕ) → part (twin_area l h) 1 18431 ≡ part h (twin_offset l 0 + 1) 18431
    area h =
        let all = drop (twin_offset l 0) h in
        sym (drop-take 1 18431 (take 18432 all)) ∙ ap (drop 1) (take-take 18432 18432 all (omega arith))
        ∙ drop-take 1 18431 all
        ∙ ap (take 18431) (drop-drop 1 (twin_offset l 0) h ∙ ap (λ (i : ℕ). drop i h) (omega arith))

-- A torn block at home leaves all in front of the blocks, and each other block.
pub torn_home : (l : Layout) (f g : List ℕ) (which : ℕ) → length f ≡ file_length l → which < block_count l
    → Torn (block_offset l which) UNIT f g
    → SameBut (block_offset l 0) (file_length l) f g
    × ((other : ℕ) → which ≢ other → home l g other ≡ home l f other)
torn_home l f g which whole lt torn = (
  record {
    long = omega (arith, torn.no_shorter, torn.no_longer, whole, lt);
    before = take_earlier f g (block_offset l which) (block_offset l 0) torn.before (omega arith);
    behind = drop_later f g (block_offset l which + 2048) (file_length l) torn.behind (omega (arith, lt));
  },
  λ other differ. elim (cases_lt other which) [
    | inl before ↦ before_same f g (block_offset l which) (block_offset l other) 2048 torn.before
        (omega (arith, before))
    | inr behind ↦ behind_same f g (block_offset l which + 2048) (block_offset l other) 2048 torn.behind
        (omega (arith, behind, differ))
  ],
)

-- Files that are the same in front of the blocks have the same twin area.
pub area_stays : (l : Layout) (f g : List ℕ) → SameBut (block_offset l 0) (file_length l) f g
    → (twin_area l g ≡ twin_area l f) × (twin_gate l g ≡ twin_gate l f)
area_stays l f g same = (
  before_same f g (block_offset l 0) (twin_offset l 0) 18432 same.before (omega arith),
  sym (byte_of_part g (twin_offset l 0) 1 (omega arith))
      ∙ ap (λ (h : List ℕ). slice_index h 0)
      (before_same f g (block_offset l 0) (twin_offset l 0) 1 same.before (omega arith))
      ∙ byte_of_part f (twin_offset l 0) 1 (omega arith),
)

-- What an image of each step keeps. The first step leaves the gate shut.
pub kept_one : (l : Layout) (f c : List ℕ) → twin_gate l c ≢ 1
    → ((which : ℕ) → home l c which ≡ home l f which)
    → IsTwin l c × ((which : ℕ) → kept l c which ≡ home l f which)
kept_one l f c shut homes = (λ opened. absurd (shut opened), λ which. kept_shut l c which shut ∙ homes which)

-- The second leaves any gate over the batch.
pub kept_two : (l : Layout) (batch : List Image) (f c : List ℕ) → IsBatch (block_count l) batch
    → batch_in (twin_area l c) ≡ batch → ((which : ℕ) → home l c which ≡ home l f which)
    → IsTwin l c × (((which : ℕ) → kept l c which ≡ home l f which)
    ⊎ ((which : ℕ) → kept l c which ≡ with_batch batch which (home l f which)))
kept_two l batch f c valid is homes = (
  λ opened. subst (IsBatch (block_count l)) (sym is) valid,
  elim (cases_eq (twin_gate l c) 1) [
    | inl opened ↦ inr (λ which. kept_open l c which opened
        ∙ ap (λ (b : List Image). with_batch b which (home l c which)) is
        ∙ ap (with_batch batch which) (homes which))
    | inr shut ↦ inl (λ which. kept_shut l c which shut ∙ homes which)
  ],
)

-- The third leaves any bytes in the homes of the batch. The gate is opened.
pub kept_three : (l : Layout) (batch : List Image) (f c : List ℕ) → IsBatch (block_count l) batch
    → batch_in (twin_area l c) ≡ batch → twin_gate l c ≡ 1
    → ((which : ℕ) → IsNoneOf which batch → home l c which ≡ home l f which)
    → IsTwin l c × ((which : ℕ) → kept l c which ≡ with_batch batch which (home l f which))
kept_three l batch f c valid is opened homes = (
  λ opened. subst (IsBatch (block_count l)) (sym is) valid,
  λ which. kept_open l c which opened ∙ ap (λ (b : List Image). with_batch b which (home l c which)) is
      ∙ with_same batch which (home l c which) (home l f which) (homes which),
)

-- The fourth leaves any gate. The blocks at home are those of the batch.
pub kept_four : (l : Layout) (batch : List Image) (f c : List ℕ) → IsBatch (block_count l) batch
    → batch_in (twin_area l c) ≡ batch
    → ((which : ℕ) → home l c which ≡ with_batch batch which (home l f which))
    → IsTwin l c × ((which : ℕ) → kept l c which ≡ with_batch batch which (home l f which))
kept_four l batch f c valid is homes = (
  λ opened. subst (IsBatch (block_count l)) (sym is) valid,
  λ which. elim (cases_eq (twin_gate l c) 1) [
    | inl opened ↦ kept_open l c which opened ∙ ap (λ (b : List Image). with_batch b which (home l c which)) is
        ∙ ap (with_batch batch which) (homes which) ∙ with_again batch which (home l f which)
    | inr shut ↦ kept_shut l c which shut ∙ homes which
  ],
)

-- one block more of a batch stands at home
pub with_push : (images : List Image) (image : Image) (which : ℕ) (unit : List ℕ)
    → with_batch (images ++ image ∷ []) which unit
    ≡ with_batch images which (if image.no == which then image.unit else unit)
with_push [] image which unit = refl
with_push (first ∷ images) image which unit = elim (cases_eq first.no which) [
  | inl is ↦ let test : (first.no == which) ≡ true = grind (arith, nat_tests) in rw test refl
  | inr differ ↦
      let test : (first.no == which) ≡ false = grind (arith, nat_tests) in rw test (with_push images image which unit)
]
