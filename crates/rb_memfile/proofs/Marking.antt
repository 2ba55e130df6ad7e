-- The places of a piece that goes past the end.
use Rattle.std.proofs.Common.{◌≡◌, ◌⊎◌, inl, inr, ⊎_elim, ◌==◌, ℕ, ◌+◌, ◌-◌, ◌<◌, ◌≤◌, min, max, List, length, take, get_or, sym, ap, ◌∙◌, arith}
use Rattle.std.proofs.lemmas.Bool.{cases_lt}
use Rattle.std.proofs.lemmas.List.{get_or-take, get_or_past, length-take}
use Rattle.rb_memfile.specs.declared.place.Place.{Place}
use Rattle.rb_memfile.specs.declared.place.Place.TheVariants.{Settled, Dirty}
use Rattle.rb_memfile.specs.Places.{IsMarked, at_place, after_write}

module _ (at count : ℕ) (piece bytes : List ℕ) (old mid now : List Place) (begins : at ≤ length bytes) (one_length : length old ≡ length bytes)
    (inside : count ≡ min (length piece) (length bytes - at))
    (over : (k : ℕ) → at ≤ k → k < at + length (take count piece) → at_place mid k ≡ after_write (get_or bytes k 0 == get_or (take count piece) (k - at) 0) (at_place old k))
    (outside : (k : ℕ) → (k < at) ⊎ (at + length (take count piece) ≤ k) → at_place mid k ≡ at_place old k)
    (long : length now ≡ max (length bytes) (at + length piece))
    (kept : (k : ℕ) → k < length bytes → at_place now k ≡ at_place mid k)
    (dirty : (k : ℕ) → length bytes ≤ k → k < length now → at_place now k ≡ Dirty) where
  past_end : (k : ℕ) → length bytes ≤ k → at + length piece ≤ k → at_place now k ≡ at_place old k
  past_end k far behind = get_or_past now k Settled (omega (arith, long, far, behind)) ∙ sym (get_or_past old k Settled (omega (arith, one_length, far)))

  pub marked_all : IsMarked at piece bytes old now
  marked_all = record {
    long = omega (arith, long, one_length);
    outside = λ k out.
        ⊎_elim (λ (before : k < at). kept k (omega (arith, before, begins)) ∙ outside k (inl before))
        (λ (behind : at + length piece ≤ k).
        ⊎_elim (λ (here : k < length bytes). kept k here ∙ outside k (inr (omega (arith, behind, length-take count piece))))
        (λ (far : length bytes ≤ k). past_end k far behind)
        (cases_lt k (length bytes)))
        out;
    over = λ k from to here.
        let few : k - at < count = omega (arith, inside, from, to, here) in
        let all : length (take count piece) ≡ count = omega (arith, inside, length-take count piece) in
        kept k here ∙ over k from (omega (arith, few, all, from))
        ∙ ap (λ (byte : ℕ). after_write (get_or bytes k 0 == byte) (at_place old k)) (get_or-take count piece (k - at) 0 few);
    past = λ k to far. dirty k far (omega (arith, long, to));
  }
