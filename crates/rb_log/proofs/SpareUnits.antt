-- Units that are filled again: what a group leaves in one, and what the next makes of it.
use Rattle.std.proofs.Common.{◌≡◌, ℕ, ◌+◌, ◌-◌, ◌<◌, ◌≤◌, max, List, [], ◌∷◌, ◌++◌, length, take, drop, set, get_or, replicate, sym, ◌∙◌, ap, subst, refl, inl, inr, arith}
use Rattle.std.proofs.lemmas.Bool.{cases_eq, cases_lt}
use Rattle.std.proofs.lemmas.List.{append_assoc, take_at, drop_at, take-take, take-append-le, drop-append-le, drop-drop, drop-take, take-replicate, drop-replicate, replicate-append-replicate, length-append, length-replicate, length-take-le, length-drop, length-map, length-set, set_at, get_or-set_same, get_or-set_other, get_or_append_left, get_or_push}
use borrow.Rule.Slice.PartMut.{put_mid}
use Rattle.byteorder.specs.Endian.{big_bytes}
use Rattle.byteorder.specs.Numbers.{big_number-reads_back}
use Rattle.rb_base.specs.Fields.{part, number_at, with_number}
use Rattle.rb_base.specs.Groups.{Patch, group_length, IsGroup}
use Rattle.rb_base.specs.declared.sizes.TheConstants.{UNIT}
use Rattle.rb_group.specs.Spelling.{group_bytes}
use Rattle.rb_group.proofs.Spelling.{length-group}
use Rattle.rb_log.specs.GroupSlots.{group_unit}
use Rattle.rb_log.specs.WaitingUnits.{body_of, bodies_of, length_in, IsSpare, AreSpare}
use Rattle.rb_log.specs.declared.unit.TheConstants.{GROUP, LENGTH}
use Rattle.rb_log.proofs.GroupUnits.{piece, length-body}
use Rattle.rb_log.proofs.WaitingLemmas.{get_or-map}

-- the length is read from a unit or from its body
length_is : (unit : List ℕ) → 3 ≤ length unit → number_at unit (LENGTH - 1) 2 ≡ length_in (body_of unit)
length_is [] le = absurd (omega (arith, le))
length_is (a ∷ []) le = absurd (omega (arith, le))
length_is (a ∷ b ∷ []) le = absurd (omega (arith, le))
length_is (a ∷ b ∷ c ∷ rest) le = refl

-- the length and the number in front of the group's bytes, over those of before
fields_written : (front rest : List ℕ) (count number : ℕ) → length front ≡ GROUP - 1 → take (LENGTH - 1) front ≡ 0 ∷ [] → part front (LENGTH + 1) 4 ≡ replicate 4 0
    → with_number (with_number (front ++ rest) 1 2 count) 7 8 number ≡ 0 ∷ (big_bytes 2 count ++ (0 ∷ 0 ∷ 0 ∷ 0 ∷ (big_bytes 8 number ++ rest)))
fields_written front rest count number long first between =
    let behind : List ℕ = drop 3 front in
    let short : length behind ≡ 12 = omega (arith, length-drop 3 front, long) in
    let tail : drop 3 (front ++ rest) ≡ behind ++ rest = drop-append-le 3 front rest (omega (arith, long)) in
    let one : with_number (front ++ rest) 1 2 count ≡ 0 ∷ (big_bytes 2 count ++ (behind ++ rest)) =
    ap (λ (l : List ℕ). l ++ big_bytes 2 count ++ drop 3 (front ++ rest)) (take-append-le 1 front rest (omega (arith, long)) ∙ first) ∙ ap (λ (l : List ℕ). 0 ∷ (big_bytes 2 count ++ l)) tail in
    let gap : take 4 (behind ++ rest) ≡ replicate 4 0 = take-append-le 4 behind rest (omega (arith, short)) ∙ between in
    let last : drop 12 (behind ++ rest) ≡ rest = drop_at behind rest 12 short in
    let two : with_number (0 ∷ (big_bytes 2 count ++ (behind ++ rest))) 7 8 number ≡ 0 ∷ (big_bytes 2 count ++ (take 4 (behind ++ rest) ++ big_bytes 8 number ++ drop 12 (behind ++ rest))) = refl in
    ap (λ (l : List ℕ). with_number l 7 8 number) one ∙ two
    ∙ ap (λ (l : List ℕ). 0 ∷ (big_bytes 2 count ++ (l ++ big_bytes 8 number ++ drop 12 (behind ++ rest)))) gap
    ∙ ap (λ (l : List ℕ). 0 ∷ (big_bytes 2 count ++ (0 ∷ 0 ∷ 0 ∷ 0 ∷ (big_bytes 8 number ++ l)))) last

single : (l : List ℕ) → length l ≡ 1 → l ≡ get_or l 0 0 ∷ []
single [] e = absurd (omega (arith, e))
single (x ∷ []) e = refl
single (x ∷ y ∷ l) e = absurd (omega (arith, e))

-- What stands behind a group in the middle of a unit is 0 from the end of the longer of two groups on: of the one that
-- was there, and of the new one.
rest_clear : (unit : List ℕ) (end : ℕ) → IsSpare (body_of unit) → length_in (body_of unit) ≤ end → drop end (take (UNIT - GROUP) (drop (GROUP - 1) unit)) ≡ replicate (UNIT - GROUP - end) 0
rest_clear unit end spare le =
    let mid : List ℕ = take (UNIT - GROUP) (drop (GROUP - 1) unit) in
    let old : ℕ = length_in (body_of unit) in
    let is : drop (GROUP - 1) (body_of unit) ≡ mid = drop-take (GROUP - 1) (UNIT - GROUP) unit in
    let behind : drop old mid ≡ replicate (UNIT - GROUP - old) 0 = ap (drop old) (sym is) ∙ drop-drop old (GROUP - 1) (body_of unit) ∙ spare.behind in
    ap (λ (k : ℕ). drop k mid) (omega (arith, le)) ∙ sym (drop-drop (end - old) old mid) ∙ ap (drop (end - old)) behind ∙ drop-replicate (end - old) (UNIT - GROUP - old) 0 ∙ ap (λ (k : ℕ). replicate k 0) (omega (arith, le))

-- zeros written over those bytes of the old ones that aren't 0
zeros_behind : (all front old last clear : List ℕ) (at more zeros : ℕ) → all ≡ front ++ (old ++ last) → length front ≡ at → more ≤ length old → drop more old ≡ replicate zeros 0
    → clear ≡ replicate (length (take more (drop at all))) 0 → put_mid at more all clear ≡ (front ++ replicate (more + zeros) 0) ++ last
zeros_behind all front old last clear at more zeros is long few behind cleared =
    let rest : drop at all ≡ old ++ last = ap (drop at) is ∙ drop_at front (old ++ last) at long in
    let many : length (take more (drop at all)) ≡ more = ap (λ (l : List ℕ). length (take more l)) rest ∙ length-take-le more (old ++ last) (omega (arith, length-append old last, few)) in
    let kept : drop more (drop at all) ≡ replicate zeros 0 ++ last = ap (drop more) rest ∙ drop-append-le more old last few ∙ ap (λ (l : List ℕ). l ++ last) behind in
    ap (λ (l : List ℕ). l ++ (clear ++ drop more (drop at all))) (ap (take at) is ∙ take_at front (old ++ last) at long)
    ∙ ap (λ (l : List ℕ). front ++ (l ++ drop more (drop at all))) (cleared ∙ ap (λ (k : ℕ). replicate k 0) many)
    ∙ ap (λ (l : List ℕ). front ++ (replicate more 0 ++ l)) kept
    ∙ ap (λ (l : List ℕ). front ++ l) (sym (append_assoc (replicate more 0) (replicate zeros 0) last) ∙ ap (λ (l : List ℕ). l ++ last) (replicate-append-replicate more zeros 0))
    ∙ sym (append_assoc front (replicate (more + zeros) 0) last)

-- the group in the middle of a unit, zeros behind it, and a closed gate
middle_is : (unit into clear : List ℕ) (group : List Patch) (count end more : ℕ) → length unit ≡ UNIT → IsSpare (body_of unit) → IsGroup group → count ≡ group_length group
    → into ≡ group_bytes group ++ drop count (take (UNIT - GROUP) (drop (GROUP - 1) unit)) → length_in (body_of unit) ≤ end → count ≤ end → end ≤ UNIT - GROUP → more ≡ end - count
    → clear ≡ replicate (length (take more (drop (GROUP - 1 + count) (put_mid (GROUP - 1) (UNIT - GROUP) unit into)))) 0
    → set (put_mid (GROUP - 1 + count) more (put_mid (GROUP - 1) (UNIT - GROUP) unit into) clear) (UNIT - 1) 0
    ≡ take (GROUP - 1) unit ++ (group_bytes group ++ replicate (UNIT - GROUP - group_length group) 0 ++ 0 ∷ [])
middle_is unit into clear group count end more whole spare valid counts within old new fits more_is cleared =
    let front : List ℕ = take (GROUP - 1) unit in
    let text : List ℕ = group_bytes group in
    let back : List ℕ = drop (GROUP - 1) unit in
    let mid : List ℕ = take (UNIT - GROUP) back in
    let last : List ℕ = drop (UNIT - GROUP) back in
    let zeros : ℕ = UNIT - GROUP - end in
    let begins : List ℕ = front ++ text ++ replicate (more + zeros) 0 in
    let front_long : length front ≡ GROUP - 1 = length-take-le (GROUP - 1) unit (omega (arith, whole)) in
    let back_long : length back ≡ UNIT - GROUP + 1 = omega (arith, length-drop (GROUP - 1) unit, whole) in
    let mid_long : length mid ≡ UNIT - GROUP = length-take-le (UNIT - GROUP) back (omega (arith, back_long)) in
    let text_long : length text ≡ count = omega (arith, length-group group, counts) in
    let spelled : put_mid (GROUP - 1) (UNIT - GROUP) unit into ≡ (front ++ text) ++ (drop count mid ++ last) =
    ap (λ (l : List ℕ). front ++ (l ++ last)) within ∙ ap (λ (l : List ℕ). front ++ l) (append_assoc text (drop count mid) last) ∙ sym (append_assoc front text (drop count mid ++ last)) in
    let behind : drop more (drop count mid) ≡ replicate zeros 0 = drop-drop more count mid ∙ ap (λ (k : ℕ). drop k mid) (omega (arith, new, more_is)) ∙ rest_clear unit end spare old in
    let done : put_mid (GROUP - 1 + count) more (put_mid (GROUP - 1) (UNIT - GROUP) unit into) clear ≡ begins ++ last =
    zeros_behind (put_mid (GROUP - 1) (UNIT - GROUP) unit into) (front ++ text) (drop count mid) last clear (GROUP - 1 + count) more zeros spelled (omega (arith, length-append front text, front_long, text_long))
    (omega (arith, length-drop count mid, mid_long, fits, new, more_is)) behind cleared in
    let gate : begins ++ last ≡ begins ++ get_or last 0 0 ∷ [] = ap (λ (l : List ℕ). begins ++ l) (single last (omega (arith, length-drop (UNIT - GROUP) back, back_long))) in
    let long : length begins ≡ UNIT - 1 = omega (arith, length-append (front ++ text) (replicate (more + zeros) 0), length-append front text, front_long, text_long, length-replicate {A = ℕ} (more + zeros) 0, new, fits, more_is) in
    ap (λ (l : List ℕ). set l (UNIT - 1) 0) (done ∙ gate) ∙ set_at begins (get_or last 0 0) [] 0 (UNIT - 1) long
    ∙ ap (λ (l : List ℕ). l ++ 0 ∷ []) (append_assoc front text (replicate (more + zeros) 0)) ∙ append_assoc front (text ++ replicate (more + zeros) 0) (0 ∷ [])
    ∙ ap (λ (k : ℕ). front ++ (text ++ replicate k 0 ++ 0 ∷ [])) (omega (arith, new, fits, counts, more_is))

-- a group put over another one, with the bytes in front of it
pub piece_is : (unit into clear shut one new : List ℕ) (group : List Patch) (before count end more number : ℕ) → length unit ≡ UNIT → IsSpare (body_of unit) → IsGroup group → count ≡ group_length group
    → before ≡ number_at unit (LENGTH - 1) 2 → end ≡ max before count → into ≡ group_bytes group ++ drop count (take (UNIT - GROUP) (drop (GROUP - 1) unit)) → more ≡ end - count
    → clear ≡ replicate (length (take more (drop (GROUP - 1 + count) (put_mid (GROUP - 1) (UNIT - GROUP) unit into)))) 0
    → shut ≡ set (put_mid (GROUP - 1 + count) more (put_mid (GROUP - 1) (UNIT - GROUP) unit into) clear) (UNIT - 1) 0
    → one ≡ with_number shut 1 2 count → new ≡ with_number one 7 8 number → new ≡ piece number group 0
piece_is unit into clear shut one new group before count end more number whole spare valid counts before_is end_is within more_is cleared gate first second =
    let front : List ℕ = take (GROUP - 1) unit in
    let rest : List ℕ = replicate (UNIT - GROUP - group_length group) 0 in
    let old = before_is ∙ length_is unit (omega (arith, whole)) in
    let mid = middle_is unit into clear group count end more whole spare valid counts within (omega (arith, old, end_is)) (omega (arith, end_is)) (omega (arith, old, end_is, spare.within, counts, valid.within)) more_is cleared in
    let from_body : take (LENGTH - 1) front ≡ 0 ∷ [] = take-take (LENGTH - 1) (GROUP - 1) unit (omega arith) ∙ sym (take-take (LENGTH - 1) (UNIT - 1) unit (omega arith)) ∙ spare.first in
    let short : (n : ℕ) → 4 ≤ n → take 4 (drop 3 (take (3 + n) unit)) ≡ take 4 (drop 3 unit) = λ n le. ap (take 4) (drop-take 3 n unit) ∙ take-take 4 n (drop 3 unit) le in
    let between : part front (LENGTH + 1) 4 ≡ replicate 4 0 = short 12 (omega arith) ∙ sym (short 2044 (omega arith)) ∙ spare.between in
    second ∙ ap (λ (l : List ℕ). with_number l 7 8 number) (first ∙ ap (λ (l : List ℕ). with_number l 1 2 count) (gate ∙ mid))
    ∙ fields_written front (group_bytes group ++ rest ++ 0 ∷ []) count number (length-take-le (GROUP - 1) unit (omega (arith, whole))) from_body between
    ∙ ap (λ (k : ℕ). 0 ∷ (big_bytes 2 k ++ (0 ∷ 0 ∷ 0 ∷ 0 ∷ (big_bytes 8 number ++ (group_bytes group ++ rest ++ 0 ∷ []))))) counts

-- a group's own body is spare
pub group_spare : (number : ℕ) (group : List Patch) → IsGroup group → IsSpare (drop 1 (group_unit 0 number group))
group_spare number group valid =
    let body : List ℕ = drop 1 (group_unit 0 number group) in
    let zeros : List ℕ = replicate (UNIT - GROUP - group_length group) 0 in
    let long : length_in body ≡ group_length group = big_number-reads_back 2 (group_length group) ((0 ∷ 0 ∷ 0 ∷ 0 ∷ big_bytes 8 number) ++ group_bytes group ++ zeros) (omega (arith, valid.within)) in
    record {
      within = omega (arith, long, valid.within);
      first = refl;
      between = refl;
      behind = ap (λ (k : ℕ). drop (GROUP - 1 + k) body) long ∙ sym (drop-drop (group_length group) (GROUP - 1) body) ∙ drop_at (group_bytes group) zeros (group_length group) (length-group group)
          ∙ ap (λ (k : ℕ). replicate (UNIT - GROUP - k) 0) (sym long);
    }

-- so is one of zeros
zeros_spare : IsSpare (replicate (UNIT - 1) 0)
zeros_spare = record { within = omega arith; first = refl; between = refl; behind = drop-replicate (GROUP - 1) (UNIT - 1) 0 }

pub spare_at : (units : List (List ℕ)) (k : ℕ) → k < length units → AreSpare (bodies_of units) → IsSpare (body_of (get_or units k []))
spare_at units k lt all = subst IsSpare (get_or-map body_of units k [] [] lt) (all k (omega (arith, lt, length-map units body_of)))

pub all_spare : (units : List (List ℕ)) → ((k : ℕ) → k < length units → IsSpare (body_of (get_or units k []))) → AreSpare (bodies_of units)
all_spare units each k lt =
    let here : k < length units = omega (arith, lt, length-map units body_of) in
    subst IsSpare (sym (get_or-map body_of units k [] [] here)) (each k here)

-- a fresh unit behind the others
pub fresh_spare : (units : List (List ℕ)) → AreSpare (bodies_of units) → AreSpare (bodies_of (units ++ replicate UNIT 0 ∷ []))
fresh_spare units all = all_spare (units ++ replicate UNIT 0 ∷ []) (λ k lt. elim (cases_lt k (length units)) [
  | inl before ↦ subst (λ (u : List ℕ). IsSpare (body_of u)) (sym (get_or_append_left units (replicate UNIT 0 ∷ []) [] k before)) (spare_at units k before all)
  | inr behind ↦
      let last : length units ≡ k = omega (arith, lt, behind, length-append units (replicate UNIT 0 ∷ [])) in
      subst (λ (u : List ℕ). IsSpare (body_of u)) (sym (get_or_push units (replicate UNIT 0) [] k last)) (subst IsSpare (sym (take-replicate (UNIT - 1) UNIT 0 (omega arith))) zeros_spare)
])

-- a unit filled with a group
pub filled_spare : (units : List (List ℕ)) (place number : ℕ) (bytes : List ℕ) (group : List Patch) → AreSpare (bodies_of units) → IsGroup group → bytes ≡ piece number group 0 → AreSpare (bodies_of (set units place bytes))
filled_spare units place number bytes group all valid is =
    let body : List ℕ = drop 1 (group_unit 0 number group) in
    let here : body_of bytes ≡ body = ap body_of is ∙ take_at body (0 ∷ []) (UNIT - 1) (length-body number group valid) in
    all_spare (set units place bytes) (λ k lt.
    let within : k < length units = omega (arith, lt, length-set units place bytes) in
    elim (cases_eq k place) [
      | inl same ↦ subst (λ (u : List ℕ). IsSpare (body_of u)) (sym (ap (λ (j : ℕ). get_or (set units place bytes) j []) same ∙ get_or-set_same units place bytes [] (omega (arith, within, same)))) (subst IsSpare (sym here) (group_spare number group valid))
      | inr differ ↦ subst (λ (u : List ℕ). IsSpare (body_of u)) (sym (get_or-set_other units place k bytes [] differ)) (spare_at units k within all)
    ])
