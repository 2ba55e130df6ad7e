-- Lists that a function of the place gives, of which one differs from another in one place at most.
use Rattle.std.proofs.Common.{◌≡◌, ◌≢◌, ℕ, ◌<◌, map, arith, ap, sym, ◌∙◌, inl, inr, slice_set}
use Rattle.std.proofs.lemmas.Bool.{cases_eq}
use Rattle.std.proofs.lemmas.Grind.{get_or-set_at}
use Rattle.std.proofs.lemmas.List.{length-set, get_or-set_other}
use Rattle.std.proofs.lemmas.List.FromFn.{length-map-range_with_len, get_or-map-range_with_len, fill_by_all}
use Rattle.std.specs.List.{range_with_len}

pub listed_same : {X : Type 0} (f g : ℕ → X) (n : ℕ) (d : X) → ((k : ℕ) → k < n → f k ≡ g k) → map f (range_with_len 0 n) ≡ map g (range_with_len 0 n)
listed_same f g n d same =
    sym (fill_by_all f (map g (range_with_len 0 n)) n d (length-map-range_with_len g 0 n) (λ k lt. get_or-map-range_with_len g 0 n k k d lt (omega arith) ∙ sym (same k lt)))

pub listed_set : {X : Type 0} (f g : ℕ → X) (n c : ℕ) (x d : X) → c < n → f c ≡ x → ((k : ℕ) → k < n → k ≢ c → f k ≡ g k) → map f (range_with_len 0 n) ≡ slice_set (map g (range_with_len 0 n)) c x
listed_set f g n c x d within there others =
    let before = map g (range_with_len 0 n) in
    let long = length-map-range_with_len g 0 n in
    sym
    (fill_by_all f (slice_set before c x) n d (length-set before c x ∙ long) (λ k lt.
    elim (cases_eq k c) [
      | inl same ↦ get_or-set_at before c k x d same (omega (arith, long)) ∙ sym there ∙ ap f (sym same)
      | inr differ ↦ get_or-set_other before c k x d differ ∙ get_or-map-range_with_len g 0 n k k d lt (omega arith) ∙ sym (others k lt differ)
    ]))
