-- The units that wait: their bodies and groups, some of them, and one more.
use Rattle.std.proofs.Common.{◌≡◌, ℕ, zero, suc, ◌+◌, ◌-◌, ◌*◌, ◌<◌, ◌≤◌, min, List, [], ◌∷◌, ◌++◌, length, take, drop, map, get_or, set, slice_index, inl, inr, refl, sym, ◌∙◌, ap, arith}
use Rattle.std.proofs.lemmas.Bool.{cases_eq, cases_lt}
use Rattle.std.proofs.lemmas.List.{length-map, length-set, length-take-le, length-append, take-map, take_at, drop_at, take-append-drop, drop-drop, get_or-set_same, get_or-set_other, map-append, map-set, set-get_or, take-set-le, take_more_set, get_or_append_left, get_or_push}
use Rattle.std.specs.List.{flat_map}
use Rattle.rb_base.specs.declared.sizes.TheConstants.{UNIT}
use Rattle.rb_base.specs.Fields.{part}
use Rattle.rb_base.specs.Groups.{Patch, IsGroup}
use Rattle.rb_group.proofs.Spelling.{group_back}
use Rattle.rb_log.specs.GroupSlots.{group_unit}
use Rattle.rb_log.specs.WaitingUnits.{body_of, bodies_of, group_of_body, groups_of, groups_in, AreSpelled}
use Rattle.rb_log.proofs.GroupUnits.{length-body, piece}

-- as many groups as units
pub as_many : (units : List (List ℕ)) → length (groups_in units) ≡ length units
as_many units = length-map (bodies_of units) group_of_body ∙ length-map units body_of

pub get_or-map : {X Y : Type 0} (f : X → Y) (xs : List X) (i : ℕ) (d : X) (e : Y) → i < length xs → get_or (map f xs) i e ≡ f (get_or xs i d)
get_or-map f [] i d e lt = absurd (omega arith)
get_or-map f (x ∷ xs) zero d e lt = refl
get_or-map f (x ∷ xs) (suc i) d e lt = get_or-map f xs i d e (omega arith)

-- units put in the place of the first, with the same bodies
pub front_bodies : (units new : List (List ℕ)) (n : ℕ) → bodies_of new ≡ bodies_of (take n units) → bodies_of (new ++ drop n units) ≡ bodies_of units
front_bodies units new n same =
    map-append body_of new (drop n units) ∙ ap (λ (l : List (List ℕ)). l ++ bodies_of (drop n units)) same ∙ sym (map-append body_of (take n units) (drop n units)) ∙ ap bodies_of (take-append-drop n units)

-- Gates are set so far, and one more. The bodies stay.
pub record GatesSet (old units : List (List ℕ)) (i : ℕ) : Type 0 where
  pub bodies : bodies_of units ≡ bodies_of old
  pub gates : (k : ℕ) → k < i → slice_index (get_or units k []) (UNIT - 1) ≡ min 1 (length old - (k + 1))
  pub whole : (k : ℕ) → k < length units → length (get_or units k []) ≡ UNIT

pub gate_set : (old units : List (List ℕ)) (i next : ℕ) → i < length units → next ≡ min 1 (length old - (i + 1)) → GatesSet old units i → GatesSet old (set units i (set (get_or units i []) (UNIT - 1) next)) (i + 1)
gate_set old units i next lt is so_far =
    let unit = get_or units i [] in
    let long : length unit ≡ UNIT = so_far.whole i lt in
    let now = set units i (set unit (UNIT - 1) next) in
    record {
      bodies = map-set body_of units i (set unit (UNIT - 1) next) ∙ ap (set (bodies_of units) i) (take-set-le (UNIT - 1) unit (UNIT - 1) next (omega arith) ∙ sym (get_or-map body_of units i [] [] lt)) ∙ set-get_or (bodies_of units) i [] ∙ so_far.bodies;
      gates = λ k below. elim (cases_eq k i) [
        | inl same ↦ ap (λ (u : List ℕ). slice_index u (UNIT - 1)) (ap (λ (j : ℕ). get_or now j []) same ∙ get_or-set_same units i (set unit (UNIT - 1) next) [] lt) ∙ get_or-set_same unit (UNIT - 1) next 0 (omega (arith, long)) ∙ is ∙ ap (λ (j : ℕ). min 1 (length old - (j + 1))) (sym same)
        | inr differ ↦ ap (λ (u : List ℕ). slice_index u (UNIT - 1)) (get_or-set_other units i k (set unit (UNIT - 1) next) [] differ) ∙ so_far.gates k (omega (arith, below, differ))
      ];
      whole = λ k below. elim (cases_eq k i) [
        | inl same ↦ ap length (ap (λ (j : ℕ). get_or now j []) same ∙ get_or-set_same units i (set unit (UNIT - 1) next) [] lt) ∙ length-set unit (UNIT - 1) next ∙ long
        | inr differ ↦ ap length (get_or-set_other units i k (set unit (UNIT - 1) next) [] differ) ∙ so_far.whole k (omega (arith, below, length-set units i (set unit (UNIT - 1) next)))
      ];
    }

pub flat_part : (units : List (List ℕ)) (k : ℕ) → ((j : ℕ) → j < length units → length (get_or units j []) ≡ UNIT) → k < length units → part (flat_map (λ (unit : List ℕ). unit) units) (UNIT * k) UNIT ≡ get_or units k []
flat_part [] k whole lt = absurd (omega arith)
flat_part (unit ∷ units) zero whole lt = take_at unit (flat_map (λ (u : List ℕ). u) units) UNIT (whole 0 (omega arith))
flat_part (unit ∷ units) (suc k) whole lt =
    let rest = flat_map (λ (u : List ℕ). u) units in
    let at : UNIT * suc k ≡ UNIT + UNIT * k = omega arith in
    ap (take UNIT) (ap (λ (i : ℕ). drop i (unit ++ rest)) at ∙ sym (drop-drop (UNIT * k) UNIT (unit ++ rest)) ∙ ap (drop (UNIT * k)) (drop_at unit rest UNIT (whole 0 (omega arith))))
    ∙ flat_part units k (λ j below. whole (suc j) (omega (arith, below))) (omega (arith, lt))

-- a body spells its group
pub spells : (number : ℕ) (group : List Patch) → IsGroup group → group_of_body (drop 1 (group_unit 0 number group)) ≡ group
spells number group valid = group_back group _ valid

-- one unit more waits
pub one_more : (old units : List (List ℕ)) (place number : ℕ) (bytes : List ℕ) (group : List Patch) → take place units ≡ take place old → place < length units → IsGroup group → bytes ≡ piece number group 0
    → bodies_of (take (place + 1) (set units place bytes)) ≡ bodies_of (take place old) ++ drop 1 (group_unit 0 number group) ∷ []
one_more old units place number bytes group kept there valid is =
    let body : List ℕ = drop 1 (group_unit 0 number group) in
    let here : body_of bytes ≡ body = ap body_of is ∙ take_at body (0 ∷ []) (UNIT - 1) (length-body number group valid) in
    ap bodies_of (take_more_set units place bytes there ∙ ap (λ (l : List (List ℕ)). l ++ bytes ∷ []) kept) ∙ map-append body_of (take place old) (bytes ∷ []) ∙ ap (λ (b : List ℕ). bodies_of (take place old) ++ b ∷ []) here

pub more_groups : (bodies : List (List ℕ)) (number : ℕ) (group : List Patch) → IsGroup group → groups_of (bodies ++ drop 1 (group_unit 0 number group) ∷ []) ≡ groups_of bodies ++ group ∷ []
more_groups bodies number group valid = map-append group_of_body bodies (drop 1 (group_unit 0 number group) ∷ []) ∙ ap (λ (g : List Patch). groups_of bodies ++ g ∷ []) (spells number group valid)

pub more_spelled : (bodies : List (List ℕ)) (first number : ℕ) (group : List Patch) → IsGroup group → number ≡ first + length bodies → AreSpelled first bodies → AreSpelled first (bodies ++ drop 1 (group_unit 0 number group) ∷ [])
more_spelled bodies first number group valid is all k d lt =
    let body : List ℕ = drop 1 (group_unit 0 number group) in
    let many = length-map bodies group_of_body in
    let groups : get_or (groups_of (bodies ++ body ∷ [])) k d ≡ get_or (groups_of bodies ++ group ∷ []) k d = ap (λ (gs : List (List Patch)). get_or gs k d) (more_groups bodies number group valid) in
    elim (cases_lt k (length bodies)) [
      | inl before ↦ get_or_append_left bodies (body ∷ []) [] k before ∙ all k d before ∙ ap (λ (g : List Patch). drop 1 (group_unit 0 (first + k) g)) (sym (groups ∙ get_or_append_left (groups_of bodies) (group ∷ []) d k (omega (arith, before, many))))
      | inr behind ↦
          let last : length bodies ≡ k = omega (arith, lt, behind, length-append bodies (body ∷ [])) in
          get_or_push bodies body [] k last ∙ ap (λ (n : ℕ). drop 1 (group_unit 0 n group)) (omega (arith, is, last)) ∙ ap (λ (g : List Patch). drop 1 (group_unit 0 (first + k) g)) (sym (groups ∙ get_or_push (groups_of bodies) group d k (omega (arith, many, last))))
    ]

-- as many bodies as units wait
pub counted : (n : ℕ) (units : List (List ℕ)) → n ≤ length units → length (bodies_of (take n units)) ≡ n
counted n units le = length-map (take n units) body_of ∙ length-take-le n units le

-- the first units of a memory whose bodies stay
pub first_bodies : (n : ℕ) (units new : List (List ℕ)) → bodies_of new ≡ bodies_of units → bodies_of (take n new) ≡ bodies_of (take n units)
first_bodies n units new same = sym (take-map body_of n new) ∙ ap (take n) same ∙ take-map body_of n units
