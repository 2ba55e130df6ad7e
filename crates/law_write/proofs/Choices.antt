-- What a header's slots and a book's say alike: which are free with which newest number, and how many are owned.
use Rattle.std.proofs.Common.{◌≡◌, ◌<◌, ◌==◌, cond, ℕ, suc, List, [], ◌∷◌, length, map, get_or, Option, Some, None, is_some, refl, sym, ◌∙◌, ap, arith}
use Rattle.std.proofs.lemmas.Bool.{cond-true, cond-false, eq-eqb, ne_eqb}
use Rattle.std.proofs.lemmas.List.Sums.{sum_by-cons}
use Rattle.std.specs.List.{count_by, range_with_len, sum_by}
use Rattle.rb_base.specs.declared.sizes.TheConstants.{SLOTS}
use Rattle.rb_base.specs.Blocks.{block_of, header_block}
use Rattle.rb_base.specs.declared.shape.Shape.{Shape}
use Rattle.rb_model.specs.Book.{Owner, Book, BookSlot, free_slot, owners, slot_owner}
use Rattle.rb_segment.specs.Books.{IsBook, IsOwned}
use Rattle.rb_segment.specs.Header.{Header, header_of, segment_of, slot_in}
use Rattle.rb_txntable.specs.Slots.{active_count, no_slot, slot_at}
use Rattle.rb_txntable.specs.declared.slots.TableSlot.{TableSlot}
use Rattle.law_write.specs.Chosen.{free_number, book_number}

map_same : {A B X : Type 0} (f : A → X) (g : B → X) (xs : List A) (ys : List B) (d : A) (e : B) → length xs ≡ length ys → ((i : ℕ) → i < length xs → f (get_or xs i d) ≡ g (get_or ys i e)) → map f xs ≡ map g ys
map_same f g [] [] d e count same = refl
map_same f g [] (y ∷ ys) d e count same = absurd (omega (arith, count))
map_same f g (x ∷ xs) [] d e count same = absurd (omega (arith, count))
map_same {X = X} f g (x ∷ xs) (y ∷ ys) d e count same =
    ap (λ (z : X). z ∷ map f xs) (same 0 (omega arith)) ∙ ap (λ (l : List X). g y ∷ l) (map_same f g xs ys d e (omega (arith, count)) (λ i lt. same (suc i) (omega (arith, lt))))

sum_map : {A B : Type 0} (f : B → ℕ) (g : A → B) (xs : List A) → sum_by (λ x. f (g x)) xs ≡ sum_by f (map g xs)
sum_map f g [] = refl
sum_map f g (x ∷ xs) = let r = sum_map f g xs in let a = sum_by-cons (λ x. f (g x)) x xs in let b = sum_by-cons f (g x) (map g xs) in omega (arith, r, a, b)

abbrev active : TableSlot → ℕ
active slot = cond (slot.state == 1) 1 0

abbrev owned : BookSlot → ℕ
owned slot = cond (is_some slot.owner) 1 0

module _ (h : Header) (b : Book) (book : IsBook h b) (sixteen : length h.slots ≡ SLOTS) where
  same_counts : length h.slots ≡ length b.slots
  same_counts = sixteen ∙ sym book.slots

  pub free_alike : map free_number h.slots ≡ map book_number b.slots
  free_alike = map_same free_number book_number h.slots b.slots no_slot free_slot same_counts (λ i lt. one i (omega (arith, sixteen, lt)))
    where
      one : (i : ℕ) → i < SLOTS → free_number (slot_in h i) ≡ book_number (get_or b.slots i free_slot)
      one i lt = by (slot_owner b i) (book.owners i lt)
        where
          by : (o : Option Owner) → IsOwned h (slot_in h i) o → free_number (slot_in h i) ≡ cond (is_some o) None (Some (get_or b.slots i free_slot).newest)
          by None idle = cond-false ((slot_in h i).state == 1) None (Some (slot_in h i).newest) (ne_eqb (slot_in h i).state 1 idle) ∙ ap (λ (n : ℕ). Some n) (sym (book.newest i lt))
          by (Some o) owned = cond-true ((slot_in h i).state == 1) None (Some (slot_in h i).newest) (eq-eqb (slot_in h i).state 1 owned.state)

  -- one for each slot that is Active, and for each that has an owner
  marks_alike : map active h.slots ≡ map owned b.slots
  marks_alike = map_same active owned h.slots b.slots no_slot free_slot same_counts (λ i lt. one i (omega (arith, sixteen, lt)))
    where
      one : (i : ℕ) → i < SLOTS → active (slot_in h i) ≡ owned (get_or b.slots i free_slot)
      one i lt = by (slot_owner b i) (book.owners i lt)
        where
          by : (o : Option Owner) → IsOwned h (slot_in h i) o → active (slot_in h i) ≡ cond (is_some o) 1 0
          by None idle = cond-false ((slot_in h i).state == 1) 1 0 (ne_eqb (slot_in h i).state 1 idle)
          by (Some o) owned = cond-true ((slot_in h i).state == 1) 1 0 (eq-eqb (slot_in h i).state 1 owned.state)

  pub owners_alike : count_by (λ (slot : TableSlot). slot.state == 1) h.slots ≡ owners b
  owners_alike =
      sum_map (λ (n : ℕ). n) active h.slots
      ∙ (ap (λ (l : List ℕ). sum_by (λ n. n) l) marks_alike ∙ sym (sum_map (λ (n : ℕ). n) owned b.slots))

-- counted in the bytes of a header
pub active_is : (shape : Shape) (blocks : List (List ℕ)) (g : ℕ) → active_count (block_of blocks (header_block shape g)) ≡ count_by (λ (slot : TableSlot). slot.state == 1) (segment_of shape blocks g).header.slots
unfolding segment_of header_of
active_is shape blocks g = sum_map active (slot_at (block_of blocks (header_block shape g))) (range_with_len 0 SLOTS)
