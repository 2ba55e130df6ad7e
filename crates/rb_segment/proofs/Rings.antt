-- The ring of a header in order, and what a turn makes of it.
use Rattle.std.proofs.Common.{◌≡◌, ◌≢◌, inl, inr, ◌<◌, ◌≤◌, ◌+◌, ◌*◌, ℕ, length, sym, ◌∙◌, ap, subst, arith}
use Rattle.std.proofs.lemmas.Bool.{cases_eq, cases_lt}
use Rattle.std.proofs.lemmas.List.{get_or-set_same, get_or-set_other, get_or_past}
use Rattle.rb_ring.specs.declared.extents.TheConstants.{EXTENTS, EXTENT_RECORDS}
use Rattle.rb_ring.specs.Ring.{IsRing}
use Rattle.rb_ring.specs.declared.extents.Extent.{Extent}
use Rattle.rb_segment.specs.Header.{Header, no_extent, ord_in, head_turn}
use Rattle.rb_segment.proofs.MayTurns.{may_oldest}
use Rattle.rb_segment.specs.Moves.{turned, Ring, MayTurn}

module _ (h : Header) (k : ℕ) (counted : length h.extents ≡ EXTENTS) (ring : IsRing (ord_in h) h.head k) where
  -- an extent with a turn is in the ring
  pub within_ring : (e : ℕ) → 1 ≤ ord_in h e → e < k
  within_ring e some = elim (cases_lt e k) [
    | inl lt ↦ lt
    | inr le ↦ elim (cases_lt e EXTENTS) [
      | inl few ↦ let none : ord_in h e ≡ 0 = ring.others e (omega arith) few in absurd (omega (arith, none))
      | inr past ↦ let none : ord_in h e ≡ 0 = ap (λ (z : Extent). z.ord) (get_or_past h.extents e no_extent (omega (arith, past, counted))) in absurd (omega (arith, none))
    ]
  ]

  pub apart_in : (e f : ℕ) → 1 ≤ ord_in h e → ord_in h e ≡ ord_in h f → e ≡ f
  apart_in e f some same = elim (cases_lt e f) [
    | inl lt ↦ absurd (ring.apart f (within_ring f (omega (arith, some, same))) e lt same)
    | inr le ↦ elim (cases_lt f e) [
      | inl lt ↦ absurd (ring.apart e (within_ring e some) f lt (sym same))
      | inr ge ↦ omega arith
    ]
  ]

  pub highest_in : (e : ℕ) → ord_in h e ≤ head_turn h
  highest_in e = elim (cases_lt 0 (ord_in h e)) [
    | inl some ↦ (ring.near e (within_ring e (omega (arith, some)))).up_to
    | inr none ↦ omega (arith, none)
  ]

  pub ring_of : (records : h.records ≤ EXTENT_RECORDS) → h.writes + 2 * EXTENT_RECORDS ≡ EXTENT_RECORDS * head_turn h + h.records → Ring h
  ring_of records count = record {
    extents = counted;
    head_in = omega (arith, ring.head_within, ring.few.1);
    apart = apart_in;
    highest = highest_in;
    second = second;
    few = records;
    count = count;
  }
    where
      second : 2 ≤ head_turn h
      second =
          let a = highest_in 0 in
          let b = highest_in 1 in
          let c : 1 ≤ ord_in h 0 = ring.positive 0 (omega (arith, ring.few.0)) in
          let d : 1 ≤ ord_in h 1 = ring.positive 1 (omega (arith, ring.few.0)) in
          let e : ord_in h 0 ≢ ord_in h 1 = ring.apart 1 (omega (arith, ring.few.0)) 0 (omega arith) in
          omega (arith, a, b, c, d, e)

  module _ (e : ℕ) (may : MayTurn h e) where
    abbrev Now : ℕ → ℕ
    Now = ord_in (turned e h)

    here : Now e ≡ head_turn h + 1
    here = ap (λ (z : Extent). z.ord) (get_or-set_same h.extents e (record { ord = head_turn h + 1; newest = 0 }) no_extent (omega (arith, may.within, counted)))

    there : (f : ℕ) → f ≢ e → Now f ≡ ord_in h f
    there f ne = ap (λ (z : Extent). z.ord) (get_or-set_other h.extents e f (record { ord = head_turn h + 1; newest = 0 }) no_extent ne)

    apart_now : (f : ℕ) (lower : ℕ) → 1 ≤ Now f → lower < f → Now lower ≢ Now f
    apart_now f lower some lt same = elim (cases_eq f e) [
      | inl fe ↦ let a = highest_in lower in let b = there lower (λ is. omega (arith, is, fe, lt)) in let c : Now f ≡ head_turn h + 1 = ap Now fe ∙ here in omega (arith, a, b, c, same)
      | inr fn ↦ elim (cases_eq lower e) [
        | inl le ↦ let a = highest_in f in let b = there f fn in let c : Now lower ≡ head_turn h + 1 = ap Now le ∙ here in omega (arith, a, b, c, same)
        | inr ln ↦ let one : f ≡ lower = apart_in f lower (subst (λ (z : ℕ). 1 ≤ z) (there f fn) some) (sym (there f fn) ∙ (sym same ∙ there lower ln)) in omega (arith, one, lt)
      ]
    ]

    -- the oldest extent takes the turn
    pub reused : ord_in h e ≢ 0 → IsRing Now e k
    reused in_ring = record {
      few = ring.few;
      head_within = within_ring e (omega (arith, in_ring));
      positive = λ f lt. elim (cases_eq f e) [ inl fe ↦ let c : Now f ≡ head_turn h + 1 = ap Now fe ∙ here in omega (arith, c) | inr fn ↦ let a = ring.positive f lt in let b = there f fn in omega (arith, a, b) ];
      near = λ f lt. elim (cases_eq f e) [
        | inl fe ↦ let c : Now f ≡ head_turn h + 1 = ap Now fe ∙ here in record { up_to = omega (arith, c, here); near = omega (arith, c, here, ring.few) }
        | inr fn ↦
            let a = ring.near f lt in
            let d = ring.near e (within_ring e (omega (arith, in_ring))) in
            let b = there f fn in
            let p = ring.positive f lt in
            let least = may_oldest h e may counted in_ring f p in
            let ne : ord_in h e ≢ ord_in h f = λ is. fn (sym (apart_in e f (omega (arith, in_ring)) is)) in
            record { up_to = omega (arith, a.up_to, b, here); near = omega (arith, d.near, b, here, least, ne) }
      ];
      apart = λ f lt lower below same. apart_now f lower (elim (cases_eq f e) [ inl fe ↦ let c : Now f ≡ head_turn h + 1 = ap Now fe ∙ here in omega (arith, c) | inr fn ↦ let a = ring.positive f lt in let b = there f fn in omega (arith, a, b) ]) below same;
      others = λ f le few. let ne : f ≢ e = λ is. let w = within_ring e (omega (arith, in_ring)) in omega (arith, is, le, w) in there f ne ∙ ring.others f le few;
    }

    -- the lowest extent out of the ring joins
    pub joins_at : ord_in h e ≡ 0 → e ≡ k
    joins_at out = elim (cases_lt e k) [
      | inl lt ↦ let p = ring.positive e lt in absurd (omega (arith, p, out))
      | inr le ↦ elim (cases_lt k e) [
        | inl above ↦ let none : ord_in h k ≡ 0 = ring.others k (omega arith) (omega (arith, above, may.within)) in let some = may.joins out k above in absurd (omega (arith, none, some))
        | inr ge ↦ omega arith
      ]
    ]

    pub joined : ord_in h e ≡ 0 → IsRing Now e (k + 1)
    joined out = record {
      few = (omega (arith, ring.few), omega (arith, at, may.within));
      head_within = omega (arith, at);
      positive = λ f lt. elim (cases_eq f e) [ inl fe ↦ let c : Now f ≡ head_turn h + 1 = ap Now fe ∙ here in omega (arith, c) | inr fn ↦ let a = ring.positive f (omega (arith, at, lt, fn)) in let b = there f fn in omega (arith, a, b) ];
      near = λ f lt. elim (cases_eq f e) [
        | inl fe ↦ let c : Now f ≡ head_turn h + 1 = ap Now fe ∙ here in record { up_to = omega (arith, c, here); near = omega (arith, c, here) }
        | inr fn ↦ let a = ring.near f (omega (arith, at, lt, fn)) in let b = there f fn in record { up_to = omega (arith, a.up_to, b, here); near = omega (arith, a.near, b, here) }
      ];
      apart = λ f lt lower below same. apart_now f lower (elim (cases_eq f e) [ inl fe ↦ let c : Now f ≡ head_turn h + 1 = ap Now fe ∙ here in omega (arith, c) | inr fn ↦ let a = ring.positive f (omega (arith, at, lt, fn)) in let b = there f fn in omega (arith, a, b) ]) below same;
      others = λ f le few. let ne : f ≢ e = λ is. omega (arith, is, le, at) in there f ne ∙ ring.others f (omega (arith, le)) few;
    }
      where
        at : e ≡ k
        at = joins_at out

    pub turned_is_ring : (k : ℕ) × IsRing (ord_in (turned e h)) (turned e h).head k
    turned_is_ring = elim (cases_eq (ord_in h e) 0) [ inl out ↦ (k + 1, joined out) | inr in_ring ↦ (k, reused in_ring) ]
