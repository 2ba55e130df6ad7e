-- The slot that a transaction takes is the one that its session takes in the book.
use Rattle.std.proofs.Common.{◌≡◌, ◌≢◌, ◌<◌, ℕ, get_or, Option, Some, None, refl, sym, ◌∙◌, arith}
use Rattle.rb_base.specs.declared.sizes.TheConstants.{SLOTS}
use Rattle.rb_model.specs.Book.{Owner, Book, IsFirstFree, free_slot}
use Rattle.rb_segment.specs.Books.{IsBook, IsOwned}
use Rattle.rb_segment.specs.Header.{Header, slot_in}
use Rattle.rb_segment.specs.Moves.{MayClaim}

module _ (h : Header) (b : Book) (book : IsBook h b) where
  abbrev owner_of : ℕ → Option Owner
  owner_of j = (get_or b.slots j free_slot).owner

  idle_free : (j : ℕ) → j < SLOTS → (slot_in h j).state ≢ 1 → owner_of j ≡ None
  idle_free j few idle = by (owner_of j) (book.owners j few)
    where
      by : (o : Option Owner) → IsOwned h (slot_in h j) o → o ≡ None
      by None owned = refl
      by (Some o) owned = absurd (idle owned.state)

  free_idle : (j : ℕ) → j < SLOTS → owner_of j ≡ None → (slot_in h j).state ≢ 1
  free_idle j few = by (owner_of j) (book.owners j few)
    where
      by : (o : Option Owner) → IsOwned h (slot_in h j) o → o ≡ None → (slot_in h j).state ≢ 1
      by None owned is = owned
      by (Some o) owned is = absurd (let some : Some o ≡ None = is in cc)

  pub claims_first_free : (i : ℕ) → MayClaim h i → IsFirstFree b i
  claims_first_free i may = record {
    within = may.within;
    free = idle_free i may.within may.idle;
    least = λ j few free. let n = book.newest i may.within in let m = book.newest j few in let le = may.least j few (free_idle j few free) in omega (arith, n, m, le);
    first = λ j lower free is.
        let few : j < SLOTS = let w = may.within in omega (arith, w, lower) in
        may.first j lower (free_idle j few free) (sym (book.newest j few) ∙ (is ∙ book.newest i may.within));
  }

  pub first_free_claims : (i : ℕ) → IsFirstFree b i → MayClaim h i
  first_free_claims i freest = record {
    within = freest.within;
    idle = free_idle i freest.within freest.free;
    least = λ j few idle. let n = book.newest i freest.within in let m = book.newest j few in let le = freest.least j few (idle_free j few idle) in omega (arith, n, m, le);
    first = λ j lower idle is.
        let few : j < SLOTS = let w = freest.within in omega (arith, w, lower) in
        freest.first j lower (idle_free j few idle) (book.newest j few ∙ (is ∙ sym (book.newest i freest.within)));
  }
