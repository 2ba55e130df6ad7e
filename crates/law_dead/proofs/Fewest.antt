-- The segment with the fewest owners stays so as its dead go.
use Rattle.std.proofs.Common.{◌≡◌, ◌≢◌, inl, inr, ◌<◌, ◌≤◌, ◌+◌, ◌*◌, ◌/◌, ◌%◌, cond, ℕ, zero, suc, Bool, true, false, is_some, List, [], ◌∷◌, length, get_or, set, Option, Some, None, refl, sym, ◌∙◌, ap, subst, arith}
use Rattle.std.proofs.lemmas.Bool.{cases_eq, cases_lt, cases_Bool, cond-true, cond-false}
use Rattle.std.proofs.lemmas.List.{get_or-set_other, get_or-set_same, length-set, set_past}
use Rattle.std.proofs.lemmas.List.Sums.{sum_by-cons}
use Rattle.std.specs.List.{count_by, range_with_len}
use Rattle.rb_model.specs.Book.{Book, BookSlot, book_at, free_slot, fresh_book, left, owners}
use Rattle.rb_model.specs.State.{State}
use Rattle.rb_model.specs.Dead.{all_gone, dead_at, gone, segment_cleared, without}
use Rattle.rb_model.specs.Calls.{IsFewest}

-- the count with one item that doesn't count
count_set : (p : BookSlot → Bool) (l : List BookSlot) (i : ℕ) (x : BookSlot) → p x ≡ false → count_by p (set l i x) ≤ count_by p l
count_set p [] i x none = omega arith
count_set p (y ∷ l) zero x none =
    let before = sum_by-cons (λ z. cond (p z) 1 0) y l in
    let now = sum_by-cons (λ z. cond (p z) 1 0) x l in
    let zero_it = cond-false {A = ℕ} (p x) 1 0 none in
    omega (arith, before, now, zero_it)
count_set p (y ∷ l) (suc i) x none =
    let rest = count_set p l i x none in
    let before = sum_by-cons (λ z. cond (p z) 1 0) y l in
    let now = sum_by-cons (λ z. cond (p z) 1 0) y (set l i x) in
    omega (arith, before, now, rest)

left_fewer : (i : ℕ) (b : Book) → owners (left i b) ≤ owners b
left_fewer i b = count_set (λ s. is_some s.owner) b.slots i (let s = get_or b.slots i free_slot in record s { owner = None }) refl

-- one book has fewer owners at most, and all others are the same
record Fewer (g : ℕ) (h h2 : State) : Type 0 where
  many : length h2.books ≡ length h.books
  here : owners (book_at h2.books g) ≤ owners (book_at h.books g)
  others : (k : ℕ) → k ≢ g → book_at h2.books k ≡ book_at h.books k

fewer_one : (h : State) (t d g : ℕ) → t / 16 ≡ g → Fewer g h (without t d h)
fewer_one h t d g at = record {
  many = length-set h.books (t / 16) (left (t % 16) (book_at h.books (t / 16)));
  here = subst (λ (z : ℕ). owners (book_at (without t d h).books z) ≤ owners (book_at h.books z)) at here;
  others = λ k ne. get_or-set_other h.books (t / 16) k (left (t % 16) (book_at h.books (t / 16))) fresh_book (λ is. ne (is ∙ at));
}
  where
    here : owners (book_at (without t d h).books (t / 16)) ≤ owners (book_at h.books (t / 16))
    here = elim (cases_lt (t / 16) (length h.books)) [
      | inl there ↦ subst (λ (z : Book). owners z ≤ owners (book_at h.books (t / 16))) (sym (get_or-set_same h.books (t / 16) (left (t % 16) (book_at h.books (t / 16))) fresh_book there)) (left_fewer (t % 16) (book_at h.books (t / 16)))
      | inr past ↦ subst (λ (z : List Book). owners (book_at z (t / 16)) ≤ owners (book_at h.books (t / 16))) (sym (set_past h.books (t / 16) (left (t % 16) (book_at h.books (t / 16))) past)) (omega arith)
    ]

fewer_all : (goes : State → ℕ → Bool) (g a n : ℕ) (h : State) → ((t : ℕ) → a ≤ t → t < a + n → t / 16 ≡ g) → Fewer g h (all_gone goes (range_with_len a n) h)
fewer_all goes g a zero h at = record { many = refl; here = omega arith; others = λ k ne. refl }
fewer_all goes g a (suc n) h at =
    let first : Fewer g h (gone goes a (dead_at h a) h) = by (dead_at h a) in
    let rest = fewer_all goes g (a + 1) n (gone goes a (dead_at h a) h) (λ t low high. at t (omega (arith, low)) (omega (arith, high))) in
    record {
      many = rest.many ∙ first.many;
      here = let x = rest.here in let y = first.here in omega (arith, x, y);
      others = λ k ne. rest.others k ne ∙ first.others k ne;
    }
  where
    by : (o : Option ℕ) → Fewer g h (gone goes a o h)
    by None = record { many = refl; here = omega arith; others = λ k ne. refl }
    by (Some d) = elim (cases_Bool (goes h d)) [
      | inl it_goes ↦ subst (Fewer g h) (sym (cond-true (goes h d) (without a d h) h it_goes)) (fewer_one h a d g (at a (omega arith) (omega arith)))
      | inr it_stays ↦ subst (Fewer g h) (sym (cond-false (goes h d) (without a d h) h it_stays)) (record { many = refl; here = omega arith; others = λ k ne. refl })
    ]

pub fewest_stays : (h : State) (g : ℕ) → IsFewest h.books g → IsFewest (segment_cleared g h).books g
fewest_stays h g is =
    let f = fewer_all (λ h d. true) g (16 * g) 16 h (λ t low high. omega (arith, low, high)) in
    record {
      within = let n = f.many in let w = is.within in omega (arith, n, w);
      least = λ k lt. elim (cases_eq k g) [
        | inl at ↦ subst (λ (z : ℕ). owners (book_at (segment_cleared g h).books g) ≤ owners (book_at (segment_cleared g h).books z)) (sym at) (omega arith)
        | inr ne ↦
            let same = ap owners (f.others k ne) in
            let few = f.here in
            let most = is.least k (let n = f.many in omega (arith, n, lt)) in
            omega (arith, same, few, most)
      ];
      first = λ k lt same.
          let ne : k ≢ g = λ at. omega (arith, at, lt) in
          let other = ap owners (f.others k ne) in
          let few = f.here in
          let w = is.within in
          let most = is.least k (omega (arith, lt, w)) in
          is.first k lt (omega (arith, same, other, few, most));
    }
