-- The next record is found, and no other; an extent that takes the next turn drops the records of its old one.
use Rattle.std.proofs.Common.{◌≡◌, ◌≢◌, ◌⊎◌, inl, inr, ◌<◌, ◌≤◌, ◌==◌, ◌+◌, ◌-◌, ◌*◌, ℕ, zero, suc, true, false, nat_le, List, [], ◌∷◌, length, get_or, set, Option, Some, None, refl, sym, ◌∙◌, ap, subst, arith}
use Rattle.std.proofs.lemmas.Bool.{cases_eq, cases_lt}
use Rattle.std.proofs.lemmas.Bool.Decides.{nat_tests}
use Rattle.std.proofs.lemmas.List.{get_or-set_same, get_or-set_other, length-set}
use Rattle.std.proofs.Math.Nat.{div-add-mod, mod-lt}
use Rattle.rb_ring.specs.declared.extents.TheConstants.{EXTENTS, EXTENT_RECORDS}
use Rattle.rb_base.specs.declared.ids.Uba.{Uba}
use Rattle.rb_model.specs.Book.{turn_of}
use Rattle.rb_ring.specs.declared.extents.Extent.{Extent}
use Rattle.rb_segment.specs.Header.{Header, Segment, no_extent, ord_in, head_turn, record_in, undo_in, extent_with, next_option, position_of}
use Rattle.rb_segment.proofs.MayTurns.{may_full}
use Rattle.rb_segment.specs.Moves.{turned, added, with_header, with_record, next_place, Ring, MayTurn}
use Rattle.rb_undoblock.specs.Undo.{no_undo}
use Rattle.rb_undoblock.specs.declared.record.UndoRecord.{UndoRecord}

-- the extent that is found has the turn
pub found : (xs : List Extent) (turn e : ℕ) → extent_with xs turn ≡ Some e → (e < length xs) × ((get_or xs e no_extent).ord ≡ turn)
found [] turn e is = let none : None ≡ Some e = is in absurd (cc)
found (x ∷ xs) turn e is = elim (cases_eq x.ord turn) [
  | inl same ↦ let test : (x.ord == turn) ≡ true = grind (arith, nat_tests) in let first : Some 0 ≡ Some e = rw test at is in let zero_is : 0 ≡ e = cc in subst (λ (z : ℕ). (z < length (x ∷ xs)) × ((get_or (x ∷ xs) z no_extent).ord ≡ turn)) zero_is (omega arith, same)
  | inr ne ↦ let test : (x.ord == turn) ≡ false = grind (arith, nat_tests) in let later : next_option (extent_with xs turn) ≡ Some e = rw test at is in later_is (λ f. found xs turn f) (extent_with xs turn) refl e later
]
  where
    later_is : ((f : ℕ) → extent_with xs turn ≡ Some f → (f < length xs) × ((get_or xs f no_extent).ord ≡ turn)) → (o : Option ℕ) → extent_with xs turn ≡ o → (e : ℕ) → next_option o ≡ Some e → (e < length (x ∷ xs)) × ((get_or (x ∷ xs) e no_extent).ord ≡ turn)
    later_is deeper None was e is = let none : None ≡ Some e = is in absurd (cc)
    later_is deeper (Some f) was zero is = let wrong : Some (suc f) ≡ Some 0 = is in absurd (cc)
    later_is deeper (Some f) was (suc e) is = let same : Some (suc f) ≡ Some (suc e) = is in let at : (e < length xs) × ((get_or xs e no_extent).ord ≡ turn) = deeper e (was ∙ cc) in (omega (arith, at.0), at.1)

-- the one extent with a turn is found
pub finds : (xs : List Extent) (turn e : ℕ) → e < length xs → (get_or xs e no_extent).ord ≡ turn → ((f : ℕ) → f < length xs → (get_or xs f no_extent).ord ≡ turn → f ≡ e) → extent_with xs turn ≡ Some e
finds [] turn e within is one = absurd (omega arith)
finds (x ∷ xs) turn zero within is one = let test : (x.ord == turn) ≡ true = grind (arith, nat_tests) in rw test refl
finds (x ∷ xs) turn (suc e) within is one =
    let ne : x.ord ≢ turn = λ same. let zero_is : 0 ≡ suc e = one 0 (omega arith) same in absurd (omega arith) in
    let test : (x.ord == turn) ≡ false = grind (arith, nat_tests) in
    let deeper : extent_with xs turn ≡ Some e = finds xs turn e (omega arith) is (λ f lt at. let same : suc f ≡ suc e = one (suc f) (omega arith) at in omega arith) in
    rw (test, deeper) refl

pub finds_none : (xs : List Extent) (turn : ℕ) → ((f : ℕ) → f < length xs → (get_or xs f no_extent).ord ≢ turn) → extent_with xs turn ≡ None
finds_none [] turn none = refl
finds_none (x ∷ xs) turn none =
    let ne : x.ord ≢ turn = none 0 (omega arith) in
    let test : (x.ord == turn) ≡ false = grind (arith, nat_tests) in
    let deeper : extent_with xs turn ≡ None = finds_none xs turn (λ f lt. none (suc f) (omega arith)) in
    rw (test, deeper) refl

pub none_has : (xs : List Extent) (turn e : ℕ) → extent_with xs turn ≡ None → e < length xs → (get_or xs e no_extent).ord ≢ turn
none_has [] turn e is within same = omega arith
none_has (x ∷ xs) turn e is within same = elim (cases_eq x.ord turn) [
  | inl first ↦ let test : (x.ord == turn) ≡ true = grind (arith, nat_tests) in let some : (let o : Option ℕ = Some 0 in o) ≡ None = rw test at is in absurd (cc)
  | inr ne ↦ let test : (x.ord == turn) ≡ false = grind (arith, nat_tests) in let later : next_option (extent_with xs turn) ≡ None = rw test at is in later_is ne (λ e. none_has xs turn e) (extent_with xs turn) refl later e within same
]
  where
    later_is : (x.ord ≢ turn) → ((e : ℕ) → extent_with xs turn ≡ None → e < length xs → (get_or xs e no_extent).ord ≢ turn) → (o : Option ℕ) → extent_with xs turn ≡ o → next_option o ≡ None → (e : ℕ) → e < length (x ∷ xs) → (get_or (x ∷ xs) e no_extent).ord ≡ turn → ⊥
    later_is ne deeper (Some f) was is e within same = let wrong : Some (suc f) ≡ None = is in absurd (cc)
    later_is ne deeper None was is zero within same = ne same
    later_is ne deeper None was is (suc e) within same = deeper e was (omega arith) same

-- which records there are
pub made_of : (s : Segment) (i : ℕ) (r : UndoRecord) → record_in s i ≡ Some r → (1 ≤ i) × (i ≤ s.header.writes) × (undo_in s.undo (position_of i) (extent_with s.header.extents (turn_of i)) ≡ Some r)
made_of s i r is = elim (cases_lt 0 i) [
  | inl some ↦ elim (cases_lt s.header.writes i) [
    | inl over ↦ let a : nat_le i s.header.writes ≡ false = grind (arith, nat_tests) in let b : nat_le 1 i ≡ true = grind (arith, nat_tests) in let none : None ≡ Some r = rw (b, a) at is in absurd (cc)
    | inr le ↦ let a : nat_le i s.header.writes ≡ true = grind (arith, nat_tests) in let b : nat_le 1 i ≡ true = grind (arith, nat_tests) in (omega arith, omega arith, rw (b, a) at is)
  ]
  | inr none ↦ let b : nat_le 1 i ≡ false = grind (arith, nat_tests) in let no : None ≡ Some r = rw b at is in absurd (cc)
]

pub in_made : (s : Segment) (i : ℕ) → 1 ≤ i → i ≤ s.header.writes → record_in s i ≡ undo_in s.undo (position_of i) (extent_with s.header.extents (turn_of i))
in_made s i some le = let a : nat_le i s.header.writes ≡ true = grind (arith, nat_tests) in let b : nat_le 1 i ≡ true = grind (arith, nat_tests) in rw (b, a) refl

-- the number, the turn and the position of the next record of the head
positive : 0 < EXTENT_RECORDS
positive = omega arith

pub next_turn : (writes ord records : ℕ) → writes + 2 * EXTENT_RECORDS ≡ EXTENT_RECORDS * ord + records → records < EXTENT_RECORDS → turn_of (writes + 1) ≡ ord
next_turn writes ord records count few =
    let a = div-add-mod (writes + 1 - 1) EXTENT_RECORDS in
    let b = mod-lt (writes + 1 - 1) (positive) in
    omega (arith, a, b, count, few)

pub next_position : (writes ord records : ℕ) → writes + 2 * EXTENT_RECORDS ≡ EXTENT_RECORDS * ord + records → records < EXTENT_RECORDS → position_of (writes + 1) ≡ records
next_position writes ord records count few =
    let a = div-add-mod (writes + 1 - 1) EXTENT_RECORDS in
    let b = mod-lt (writes + 1 - 1) (positive) in
    omega (arith, a, b, count, few)

-- a record's turn and position tell its number
pub one_number : (p q : ℕ) → 1 ≤ p → 1 ≤ q → turn_of p ≡ turn_of q → position_of p ≡ position_of q → p ≡ q
one_number p q lp lq turns positions =
    let a = div-add-mod (p - 1) EXTENT_RECORDS in
    let b = div-add-mod (q - 1) EXTENT_RECORDS in
    omega (arith, a, b, turns, positions)

pub position_few : (i : ℕ) → position_of i < EXTENT_RECORDS
position_few i = mod-lt (i - 1) (positive)

-- no turn is above the head's, while the head isn't empty
pub turn_up_to : (writes ord records i : ℕ) → writes + 2 * EXTENT_RECORDS ≡ EXTENT_RECORDS * ord + records → records ≤ EXTENT_RECORDS → i ≤ writes → 1 ≤ i → turn_of i ≤ ord
turn_up_to writes ord records i count few le some =
    let a = div-add-mod (i - 1) EXTENT_RECORDS in
    let b = mod-lt (i - 1) (positive) in
    omega (arith, a, b, count, few)

-- the next record is found in the head
module _ (i : ℕ) (address : Uba) (touched : ℕ) (r : UndoRecord) (s : Segment) (ring : Ring s.header) (few : s.header.records < EXTENT_RECORDS) (room : length s.undo ≡ (EXTENTS * EXTENT_RECORDS)) where
  head_found : extent_with s.header.extents (head_turn s.header) ≡ Some s.header.head
  head_found = finds s.header.extents (head_turn s.header) s.header.head (omega (arith, ring.head_in, ring.extents)) refl (λ f lt is. sym (ring.apart s.header.head f (positive_turn) (sym is)))
    where
      positive_turn : 1 ≤ head_turn s.header
      positive_turn = omega (arith, ring.count)

  pub added_found : record_in (with_record i address touched r s) (s.header.writes + 1) ≡ Some r
  added_found =
      let turn : turn_of (s.header.writes + 1) ≡ head_turn s.header = next_turn s.header.writes (head_turn s.header) s.header.records ring.count few in
      let position : position_of (s.header.writes + 1) ≡ s.header.records = next_position s.header.writes (head_turn s.header) s.header.records ring.count few in
      let at : extent_with s.header.extents (turn_of (s.header.writes + 1)) ≡ Some s.header.head = ap (extent_with s.header.extents) turn ∙ head_found in
      in_made (with_record i address touched r s) (s.header.writes + 1) (omega arith) (omega arith)
      ∙ (ap (undo_in (set s.undo (next_place s.header) r) (position_of (s.header.writes + 1))) at
      ∙ (ap (λ (z : ℕ). Some (get_or (set s.undo (next_place s.header) r) (EXTENT_RECORDS * s.header.head + z) no_undo)) position
      ∙ ap Some (get_or-set_same s.undo (next_place s.header) r no_undo (omega (arith, ring.head_in)))))

  -- a record of an earlier number is what it was
  other_place : (k e : ℕ) → 1 ≤ k → k ≤ s.header.writes → extent_with s.header.extents (turn_of k) ≡ Some e → EXTENT_RECORDS * e + position_of k ≢ next_place s.header
  other_place k e some le at same =
      let f : (e < length s.header.extents) × (ord_in s.header e ≡ turn_of k) = found s.header.extents (turn_of k) e at in
      let p = position_few k in
      let e_is : e ≡ s.header.head = omega (arith, p, same, few) in
      let position : position_of k ≡ s.header.records = omega (arith, p, same, few) in
      let turn : turn_of k ≡ head_turn s.header = sym f.1 ∙ ap (ord_in s.header) e_is in
      let one : k ≡ s.header.writes + 1 = one_number k (s.header.writes + 1) some (omega arith) (turn ∙ sym (next_turn s.header.writes (head_turn s.header) s.header.records ring.count few)) (position ∙ sym (next_position s.header.writes (head_turn s.header) s.header.records ring.count few)) in
      omega (arith, one, le)

  undo_stays : (k : ℕ) (o : Option ℕ) → 1 ≤ k → k ≤ s.header.writes → extent_with s.header.extents (turn_of k) ≡ o → undo_in (set s.undo (next_place s.header) r) (position_of k) o ≡ undo_in s.undo (position_of k) o
  undo_stays k None some le at = refl
  undo_stays k (Some e) some le at = ap Some (get_or-set_other s.undo (next_place s.header) (EXTENT_RECORDS * e + position_of k) r no_undo (other_place k e some le at))

  pub added_others : (k : ℕ) → k ≤ s.header.writes → record_in (with_record i address touched r s) k ≡ record_in s k
  added_others k le = elim (cases_lt 0 k) [
    | inl some ↦ in_made (with_record i address touched r s) k (omega arith) (omega (arith, le)) ∙ (undo_stays k (extent_with s.header.extents (turn_of k)) (omega arith) le refl ∙ sym (in_made s k (omega arith) le))
    | inr none ↦ let zero_is : k ≡ 0 = omega arith in rw zero_is refl
  ]

-- an extent takes the next turn
module _ (e : ℕ) (h : Header) (ring : Ring h) (may : MayTurn h e) where
  -- a turn up to the head's is in the extent that it was in, unless that is e
  pub turned_others : (turn : ℕ) → 1 ≤ turn → turn ≤ head_turn h → (o : Option ℕ) → extent_with h.extents turn ≡ o → o ≢ Some e → extent_with (turned e h).extents turn ≡ o
  turned_others turn some le None was ne = finds_none (turned e h).extents turn (λ f lt. elim (cases_eq f e) [
    | inl at ↦ λ is. let here : (get_or (turned e h).extents f no_extent).ord ≡ head_turn h + 1 = rw at (ap (λ (z : Extent). z.ord) (get_or-set_same h.extents e (record { ord = head_turn h + 1; newest = 0 }) no_extent (omega (arith, may.within, ring.extents)))) in omega (arith, here, is, le)
    | inr nf ↦ λ is. none_has h.extents turn f was (omega (arith, lt, length-set h.extents e (record { ord = head_turn h + 1; newest = 0 }))) (ap (λ (z : Extent). z.ord) (sym (get_or-set_other h.extents e f (record { ord = head_turn h + 1; newest = 0 }) no_extent nf)) ∙ is)
  ])
  turned_others turn some le (Some f) was ne =
      let at : (f < length h.extents) × (ord_in h f ≡ turn) = found h.extents turn f was in
      let fe : f ≢ e = λ same. ne (ap Some same) in
      finds (turned e h).extents turn f (omega (arith, at.0, length-set h.extents e (record { ord = head_turn h + 1; newest = 0 }))) (ap (λ (z : Extent). z.ord) (get_or-set_other h.extents e f (record { ord = head_turn h + 1; newest = 0 }) no_extent fe) ∙ at.1) (λ g lt is. elim (cases_eq g e) [
        | inl ge ↦ let here : (get_or (turned e h).extents g no_extent).ord ≡ head_turn h + 1 = rw ge (ap (λ (z : Extent). z.ord) (get_or-set_same h.extents e (record { ord = head_turn h + 1; newest = 0 }) no_extent (omega (arith, may.within, ring.extents)))) in absurd (omega (arith, here, is, le))
        | inr gn ↦ let g_is : ord_in h g ≡ turn = ap (λ (z : Extent). z.ord) (sym (get_or-set_other h.extents e g (record { ord = head_turn h + 1; newest = 0 }) no_extent gn)) ∙ is in sym (ring.apart f g (omega (arith, at.1, some)) (at.1 ∙ sym g_is))
      ])

  -- the turn that e had is gone
  pub turned_gone : (turn : ℕ) → 1 ≤ turn → turn ≤ head_turn h → extent_with h.extents turn ≡ Some e → extent_with (turned e h).extents turn ≡ None
  turned_gone turn some le was =
      let at : (e < length h.extents) × (ord_in h e ≡ turn) = found h.extents turn e was in
      finds_none (turned e h).extents turn (λ g lt. elim (cases_eq g e) [
        | inl ge ↦ λ is. let here : (get_or (turned e h).extents g no_extent).ord ≡ head_turn h + 1 = rw ge (ap (λ (z : Extent). z.ord) (get_or-set_same h.extents e (record { ord = head_turn h + 1; newest = 0 }) no_extent (omega (arith, may.within, ring.extents)))) in omega (arith, here, is, le)
        | inr gn ↦ λ is. let g_is : ord_in h g ≡ turn = ap (λ (z : Extent). z.ord) (sym (get_or-set_other h.extents e g (record { ord = head_turn h + 1; newest = 0 }) no_extent gn)) ∙ is in gn (sym (ring.apart e g (omega (arith, at.1, some)) (at.1 ∙ sym g_is)))
      ])

  pub turned_ring : Ring (turned e h)
  turned_ring = record {
    extents = length-set h.extents e (record { ord = head_turn h + 1; newest = 0 }) ∙ ring.extents;
    head_in = may.within;
    apart = λ f g some same. elim (cases_eq f e) [
      | inl fe ↦ elim (cases_eq g e) [
        | inl ge ↦ fe ∙ sym ge
        | inr gn ↦ let a = ring.highest g in absurd (omega (arith, here f fe, there g gn, same, a))
      ]
      | inr fn ↦ elim (cases_eq g e) [
        | inl ge ↦ let a = ring.highest f in absurd (omega (arith, here g ge, there f fn, same, a))
        | inr gn ↦ ring.apart f g (omega (arith, there f fn, some)) (sym (there f fn) ∙ (same ∙ there g gn))
      ]
    ];
    highest = λ f. elim (cases_eq f e) [
      | inl fe ↦ omega (arith, here f fe, here e refl)
      | inr fn ↦ let a = ring.highest f in omega (arith, here e refl, there f fn, a)
    ];
    second = omega (arith, here e refl, ring.second);
    few = omega arith;
    count = let full = may_full h e may ring.few in omega (arith, here e refl, ring.count, full);
  }
    where
      here : (f : ℕ) → f ≡ e → ord_in (turned e h) f ≡ head_turn h + 1
      here f at = rw at (ap (λ (z : Extent). z.ord) (get_or-set_same h.extents e (record { ord = head_turn h + 1; newest = 0 }) no_extent (omega (arith, may.within, ring.extents))))

      there : (f : ℕ) → f ≢ e → ord_in (turned e h) f ≡ ord_in h f
      there f ne = ap (λ (z : Extent). z.ord) (get_or-set_other h.extents e f (record { ord = head_turn h + 1; newest = 0 }) no_extent ne)

-- where a number is an option's
pub some_cases : (o : Option ℕ) (e : ℕ) → (o ≡ Some e) ⊎ (o ≢ Some e)
some_cases None e = inr (λ is. cc)
some_cases (Some f) e = elim (cases_eq f e) [ inl is ↦ inl (ap Some is) | inr ne ↦ inr (λ is. let same : Some f ≡ Some e = is in ne (cc)) ]

module _ (e : ℕ) (s : Segment) (ring : Ring s.header) (may : MayTurn s.header e) where
  -- a record that was made is what it was, or its extent has the next turn
  pub turned_records : (k : ℕ) → k ≤ s.header.writes → (record_in (with_header (turned e s.header) s) k ≡ record_in s k) ⊎ ((extent_with s.header.extents (turn_of k) ≡ Some e) × (record_in (with_header (turned e s.header) s) k ≡ None))
  turned_records k le = elim (cases_lt 0 k) [
    | inr none ↦ let zero_is : k ≡ 0 = omega arith in inl (rw zero_is refl)
    | inl some ↦
        let up_to : turn_of k ≤ head_turn s.header = turn_up_to s.header.writes (head_turn s.header) s.header.records k ring.count ring.few le (omega arith) in
        elim (some_cases (extent_with s.header.extents (turn_of k)) e) [
          | inl was ↦ inr (was, in_made (with_header (turned e s.header) s) k (omega arith) le ∙ ap (undo_in s.undo (position_of k)) (turned_gone e s.header ring may (turn_of k) (omega arith) up_to was))
          | inr ne ↦ inl (in_made (with_header (turned e s.header) s) k (omega arith) le ∙ (ap (undo_in s.undo (position_of k)) (turned_others e s.header ring may (turn_of k) (omega arith) up_to (extent_with s.header.extents (turn_of k)) refl ne) ∙ sym (in_made s k (omega arith) le)))
        ]
  ]

  -- which of the two
  pub turned_drops : (k : ℕ) → k ≤ s.header.writes → extent_with s.header.extents (turn_of k) ≡ Some e → record_in (with_header (turned e s.header) s) k ≡ None
  turned_drops k le was = elim (cases_lt 0 k) [
    | inr none ↦ let zero_is : k ≡ 0 = omega arith in rw zero_is refl
    | inl some ↦
        let up_to : turn_of k ≤ head_turn s.header = turn_up_to s.header.writes (head_turn s.header) s.header.records k ring.count ring.few le (omega arith) in
        in_made (with_header (turned e s.header) s) k (omega arith) le ∙ ap (undo_in s.undo (position_of k)) (turned_gone e s.header ring may (turn_of k) (omega arith) up_to was)
  ]

  pub turned_leaves : (k : ℕ) → k ≤ s.header.writes → extent_with s.header.extents (turn_of k) ≢ Some e → record_in (with_header (turned e s.header) s) k ≡ record_in s k
  turned_leaves k le ne = elim (turned_records k le) [
    | inl same ↦ same
    | inr gone ↦ absurd (ne gone.0)
  ]

pub added_ring : (i : ℕ) (address : Uba) (touched : ℕ) (h : Header) → Ring h → h.records < EXTENT_RECORDS → Ring (added i address touched h)
added_ring i address touched h ring few = record { extents = ring.extents; head_in = ring.head_in; apart = ring.apart; highest = ring.highest; second = ring.second; few = omega arith; count = omega (arith, ring.count) }
