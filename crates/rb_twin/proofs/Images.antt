-- The images among the bytes of an area, by their places.
use Rattle.std.proofs.Common.{◌≡◌, ◌≢◌, ℕ, zero, suc, ◌+◌, ◌-◌, ◌*◌, ◌<◌, List, [], ◌∷◌, ◌++◌, length, slice_index, refl, sym, ◌∙◌, ap, subst, arith}
use Rattle.std.specs.List.{AllByRecursion}
use Rattle.rb_base.specs.Fields.{part, number_at}
use Rattle.rb_base.specs.declared.sizes.TheConstants.{UNIT}
use Rattle.rb_twin.specs.Batches.{Image, IsNoneOf, Differ, images_in, batch_in}
use Rattle.rb_twin.specs.TwinLaws.{length-images}

-- the image in a place, and the number of its block
abbrev pub image_of : List ℕ → ℕ → Image
image_of area place = record { no = number_at area (8 + 4 * place) 4; unit = part area (UNIT * (place + 1)) UNIT }

abbrev pub name_of : List ℕ → ℕ → ℕ
name_of area place = number_at area (8 + 4 * place) 4

-- how many there are
pub counted : (area : List ℕ) → length (batch_in area) ≡ slice_index area 1
counted area = length-images area 0 (slice_index area 1)

-- one image more stands behind the others
pub images_more : (area : List ℕ) (place count : ℕ) → images_in area place (suc count) ≡ images_in area place count ++ image_of area (place + count) ∷ []
images_more area place zero = ap (λ (k : ℕ). image_of area k ∷ []) (omega arith)
images_more area place (suc count) =
    let here : place + 1 + count ≡ place + suc count = omega arith in
    ap (λ (rest : List Image). image_of area place ∷ rest) (images_more area (place + 1) count ∙ ap (λ (k : ℕ). images_in area (place + 1) count ++ image_of area k ∷ []) here)

-- areas with the same images
pub images_kept : (a b : List ℕ) (place count : ℕ) → ((k : ℕ) → k < count → image_of b (place + k) ≡ image_of a (place + k)) → images_in b place count ≡ images_in a place count
images_kept a b place zero same = refl
images_kept a b place (suc count) same =
    let here : image_of b place ≡ image_of a place = ap (image_of b) (omega arith) ∙ same 0 (omega arith) ∙ ap (image_of a) (omega arith) in
    let rest = images_kept a b (place + 1) count (λ k lt. ap (image_of b) (omega arith) ∙ same (k + 1) (omega (arith, lt)) ∙ ap (image_of a) (omega arith)) in
    ap (λ (x : Image). x ∷ images_in b (place + 1) count) here ∙ ap (λ (xs : List Image). image_of a place ∷ xs) rest

-- what holds of each, by the places
pub all_by : (P : Image → Type 0) (area : List ℕ) (place count : ℕ) → ((k : ℕ) → k < count → P (image_of area (place + k))) → AllByRecursion P (images_in area place count)
all_by P area place zero each = tt
all_by P area place (suc count) each = (
  subst (λ (k : ℕ). P (image_of area k)) (omega arith) (each 0 (omega arith)),
  all_by P area (place + 1) count (λ k lt. subst (λ (i : ℕ). P (image_of area i)) (omega arith) (each (k + 1) (omega (arith, lt)))),
)

pub all_at : (P : Image → Type 0) (area : List ℕ) (place count : ℕ) → AllByRecursion P (images_in area place count) → (k : ℕ) → k < count → P (image_of area (place + k))
all_at P area place zero all k lt = absurd (omega (arith, lt))
all_at P area place (suc count) all zero lt = subst (λ (i : ℕ). P (image_of area i)) (omega arith) all.0
all_at P area place (suc count) all (suc k) lt = subst (λ (i : ℕ). P (image_of area i)) (omega arith) (all_at P area (place + 1) count all.1 k (omega (arith, lt)))

-- that no two are of one block
pub differ_by : (area : List ℕ) (place count : ℕ) → ((i j : ℕ) → i < j → j < count → name_of area (place + i) ≢ name_of area (place + j)) → Differ (images_in area place count)
differ_by area place zero each = tt
differ_by area place (suc count) each = (
  all_by (λ image. image.no ≢ name_of area place) area (place + 1) count
      (λ k lt is. each 0 (k + 1) (omega arith) (omega (arith, lt)) (ap (name_of area) (omega arith) ∙ sym is ∙ ap (name_of area) (omega arith))),
  differ_by area (place + 1) count (λ i j before lt is. each (i + 1) (j + 1) (omega (arith, before)) (omega (arith, lt)) (ap (name_of area) (omega arith) ∙ is ∙ ap (name_of area) (omega arith))),
)

pub differ_at : (area : List ℕ) (place count : ℕ) → Differ (images_in area place count) → (i j : ℕ) → i < j → j < count → name_of area (place + i) ≢ name_of area (place + j)
differ_at area place zero differ i j before lt is = absurd (omega (arith, lt))
differ_at area place (suc count) differ zero j before lt is =
    let there : place + 1 + (j - 1) ≡ place + j = omega (arith, before) in
    all_at (λ image. image.no ≢ name_of area place) area (place + 1) count differ.0 (j - 1) (omega (arith, before, lt)) (ap (name_of area) there ∙ sym is ∙ ap (name_of area) (omega arith))
differ_at area place (suc count) differ (suc i) j before lt is =
    let there : place + 1 + (j - 1) ≡ place + j = omega (arith, before) in
    differ_at area (place + 1) count differ.1 i (j - 1) (omega (arith, before)) (omega (arith, before, lt)) (ap (name_of area) (omega arith) ∙ is ∙ ap (name_of area) (sym there))

-- one that is put behind others
pub all_push : (P : Image → Type 0) (images : List Image) (image : Image) → AllByRecursion P images → P image → AllByRecursion P (images ++ image ∷ [])
all_push P [] image all holds = (holds, tt)
all_push P (first ∷ images) image all holds = (all.0, all_push P images image all.1 holds)

pub differ_push : (images : List Image) (image : Image) → Differ images → IsNoneOf image.no images → Differ (images ++ image ∷ [])
differ_push [] image differ none = (tt, tt)
differ_push (first ∷ images) image differ none = (all_push (λ x. x.no ≢ first.no) images image differ.0 (λ is. none.0 (sym is)), differ_push images image differ.1 none.1)

pub length-push : (images : List Image) (image : Image) → length (images ++ image ∷ []) ≡ length images + 1
length-push [] image = refl
length-push (first ∷ images) image = let rest = length-push images image in omega (arith, rest)

-- of a whole batch
pub batch_at : (P : Image → Type 0) (area : List ℕ) → AllByRecursion P (batch_in area) → (k : ℕ) → k < slice_index area 1 → P (image_of area k)
batch_at P area all k lt = subst (λ (i : ℕ). P (image_of area i)) (omega arith) (all_at P area 0 (slice_index area 1) all k lt)

pub front_by : (P : Image → Type 0) (area : List ℕ) (count : ℕ) → ((k : ℕ) → k < count → P (image_of area k)) → AllByRecursion P (images_in area 0 count)
front_by P area count each = all_by P area 0 count (λ k lt. subst (λ (i : ℕ). P (image_of area i)) (omega arith) (each k lt))

pub names_differ : (area : List ℕ) → Differ (batch_in area) → (i j : ℕ) → i < j → j < slice_index area 1 → name_of area i ≢ name_of area j
names_differ area differ i j before lt is =
    differ_at area 0 (slice_index area 1) differ i j before lt (ap (name_of area) (omega arith) ∙ is ∙ ap (name_of area) (omega arith))

pub front_differ : (area : List ℕ) (count : ℕ) → ((i j : ℕ) → i < j → j < count → name_of area i ≢ name_of area j) → Differ (images_in area 0 count)
front_differ area count each = differ_by area 0 count (λ i j before lt is. each i j before lt (ap (name_of area) (omega arith) ∙ is ∙ ap (name_of area) (omega arith)))

pub none_before : (area : List ℕ) → Differ (batch_in area) → (place : ℕ) → place < slice_index area 1 → IsNoneOf (name_of area place) (images_in area 0 place)
none_before area differ place lt = front_by (λ image. image.no ≢ name_of area place) area place (λ k before. names_differ area differ k place before lt)

pub front_more : (area : List ℕ) (place : ℕ) → images_in area 0 (place + 1) ≡ images_in area 0 place ++ image_of area place ∷ []
front_more area place =
    let next : place + 1 ≡ suc place = omega arith in
    let here : 0 + place ≡ place = omega arith in
    ap (images_in area 0) next ∙ images_more area 0 place ∙ ap (λ (k : ℕ). images_in area 0 place ++ image_of area k ∷ []) here
