-- The extent that has a turn, as it is looked for, and the place of a record in it.
use Rattle.std.proofs.Common.{◌≡◌, ◌≢◌, ◌<◌, ◌≤◌, ◌+◌, ◌-◌, ◌*◌, ◌/◌, ◌%◌, ◌==◌, ◌&&◌, nat_le, ℕ, zero, suc, Bool, true, false, if◌then◌else◌}
use Rattle.std.proofs.Common.{List, [], ◌∷◌, length, get_or, Some, None, refl, sym, ◌∙◌, ap, arith}
use Rattle.std.proofs.lemmas.Bool.Decides.{nat_tests}
use Rattle.rb_ring.specs.declared.extents.TheConstants.{EXTENT_RECORDS}
use Rattle.rb_model.specs.Book.{turn_of}
use Rattle.rb_ring.specs.Ring.{extent_ord, record_count}
use Rattle.rb_ring.specs.declared.extents.Extent.{Extent}
use Rattle.rb_segment.specs.Header.{Header, Segment, extent_with, header_of, no_extent, position_of, record_in, undo_in}
use Rattle.rb_segment.proofs.Parts.{extent_read, extents_many, ring_read}
use Rattle.rb_segment.proofs.Records.{finds_none, in_made}
use Rattle.rb_undoblock.specs.Undo.{no_undo}

-- the first one that has it
first_with : (xs : List Extent) (turn e : ℕ) → e < length xs → (get_or xs e no_extent).ord ≡ turn → ((f : ℕ) → f < e → (get_or xs f no_extent).ord ≢ turn) → extent_with xs turn ≡ Some e
first_with [] turn e lt is before = absurd (omega (arith, lt))
first_with (x ∷ xs) turn zero lt is before = let test : (x.ord == turn) ≡ true = grind (arith, nat_tests) in rw test refl
first_with (x ∷ xs) turn (suc e) lt is before =
    let not : (x.ord == turn) ≡ false = differ x.ord turn (before 0 (omega arith)) in
    let deep : extent_with xs turn ≡ Some e = first_with xs turn e (omega (arith, lt)) is (λ f few. before (suc f) (omega (arith, few))) in
    rw (not, deep) refl
  where
    differ : (a b : ℕ) → a ≢ b → (a == b) ≡ false
    differ a b ne = grind (arith, nat_tests)

module _ (header : List ℕ) (turn : ℕ) where
  ord_is : (e : ℕ) → e < 8 → (get_or (header_of header).extents e no_extent).ord ≡ extent_ord header e
  ord_is e lt = ap (λ (x : Extent). x.ord) (extent_read header e lt)

  pub extent_first : (e : ℕ) → e < 8 → extent_ord header e ≡ turn → ((f : ℕ) → f < e → extent_ord header f ≢ turn) → extent_with (header_of header).extents turn ≡ Some e
  extent_first e lt is before = first_with (header_of header).extents turn e (omega (arith, lt, extents_many header)) (ord_is e lt ∙ is) (λ f few same. before f few (sym (ord_is f (omega (arith, few, lt))) ∙ same))

  pub extent_none : ((f : ℕ) → f < 8 → extent_ord header f ≢ turn) → extent_with (header_of header).extents turn ≡ None
  extent_none all = finds_none (header_of header).extents turn (λ f few same. let lt : f < 8 = omega (arith, few, extents_many header) in all f lt (sym (ord_is f lt) ∙ same))

module _ (header : List ℕ) (index : ℕ) (s : Segment) (same : s.header ≡ header_of header) where
  writes_is : s.header.writes ≡ record_count header
  writes_is = ap (λ (h : Header). h.writes) same ∙ (ring_read header).2

  extents_is : s.header.extents ≡ (header_of header).extents
  extents_is = ap (λ (h : Header). h.extents) same

  pub place_there : (e : ℕ) → 1 ≤ index → index ≤ record_count header → extent_with (header_of header).extents (2 + (index - 1) / EXTENT_RECORDS) ≡ Some e → record_in s index ≡ Some (get_or s.undo (EXTENT_RECORDS * e + (index - 1) % EXTENT_RECORDS) no_undo)
  place_there e some few at =
      in_made s index some (omega (arith, few, writes_is))
      ∙ ap (undo_in s.undo (position_of index)) (ap (λ (xs : List Extent). extent_with xs (turn_of index)) extents_is ∙ at)

  pub place_gone : 1 ≤ index → index ≤ record_count header → extent_with (header_of header).extents (2 + (index - 1) / EXTENT_RECORDS) ≡ None → record_in s index ≡ None
  place_gone some few at =
      in_made s index some (omega (arith, few, writes_is))
      ∙ ap (undo_in s.undo (position_of index)) (ap (λ (xs : List Extent). extent_with xs (turn_of index)) extents_is ∙ at)

  pub none_behind : record_count header < index → record_in s index ≡ None
  none_behind over = let test : nat_le index s.header.writes ≡ false = behind index s.header.writes (omega (arith, over, writes_is)) in by_first (nat_le 1 index) test
    where
      behind : (a b : ℕ) → b < a → nat_le a b ≡ false
      behind a b lt = grind (arith, nat_tests)

      by_first : (t : Bool) → nat_le index s.header.writes ≡ false → (if t && nat_le index s.header.writes then undo_in s.undo (position_of index) (extent_with s.header.extents (turn_of index)) else None) ≡ None
      by_first false test = refl
      by_first true test = rw test refl
