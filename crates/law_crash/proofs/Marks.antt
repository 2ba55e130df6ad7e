-- The marks of the books after each step: a write makes one record more and may give something up, and nothing else does.
use Rattle.std.proofs.Common.{◌≡◌, inl, inr, ◌<◌, ◌≤◌, ℕ, Bool, true, false, List, length, refl, ◌∙◌, ap, arith, set}
use Rattle.std.proofs.lemmas.Bool.{cases_eq, cond_both}
use Rattle.std.proofs.lemmas.List.{get_or-set_same, get_or-set_other}
use Rattle.rb_base.specs.declared.shape.Shape.{Shape}
use Rattle.law_crash.specs.Between.{MarksGrow}
use Rattle.rb_model.specs.Book.{Book, book_at, finished, fresh_book, is_pinned, left, marked, needs_turn, taken, turned}
use Rattle.rb_model.specs.NextState.{books_written}

-- one book in the place of another
grows_at : (shape : Shape) (books : List Book) (g : ℕ) (b : Book) → length books ≡ shape.segments → (book_at books g).writes ≤ b.writes → (book_at books g).lost ≤ b.lost → MarksGrow shape books (set books g b)
grows_at shape books g b count writes lost = record {
  writes = λ k lt. elim (cases_eq k g) [
    | inl is ↦ let at = there k lt is in omega (arith, ap (λ (x : Book). x.writes) at, ap (λ (z : ℕ). (book_at books z).writes) is, writes)
    | inr ne ↦ let at = get_or-set_other books g k b fresh_book ne in omega (arith, ap (λ (x : Book). x.writes) at)
  ];
  lost = λ k lt. elim (cases_eq k g) [
    | inl is ↦ let at = there k lt is in omega (arith, ap (λ (x : Book). x.lost) at, ap (λ (z : ℕ). (book_at books z).lost) is, lost)
    | inr ne ↦ let at = get_or-set_other books g k b fresh_book ne in omega (arith, ap (λ (x : Book). x.lost) at)
  ];
}
  where
    there : (k : ℕ) → k < shape.segments → k ≡ g → book_at (set books g b) k ≡ b
    there k lt is = ap (λ (z : ℕ). book_at (set books g b) z) is ∙ get_or-set_same books g b fresh_book (omega (arith, count, lt, is))

-- a book of the same marks in its place
same_at : (shape : Shape) (books : List Book) (g : ℕ) (b : Book) → length books ≡ shape.segments → b.writes ≡ (book_at books g).writes → b.lost ≡ (book_at books g).lost → MarksGrow shape (set books g b) books
same_at shape books g b count writes lost = record {
  writes = λ k lt. elim (cases_eq k g) [
    | inl is ↦ let at = there k lt is in omega (arith, ap (λ (x : Book). x.writes) at, ap (λ (z : ℕ). (book_at books z).writes) is, writes)
    | inr ne ↦ let at = get_or-set_other books g k b fresh_book ne in omega (arith, ap (λ (x : Book). x.writes) at)
  ];
  lost = λ k lt. elim (cases_eq k g) [
    | inl is ↦ let at = there k lt is in omega (arith, ap (λ (x : Book). x.lost) at, ap (λ (z : ℕ). (book_at books z).lost) is, lost)
    | inr ne ↦ let at = get_or-set_other books g k b fresh_book ne in omega (arith, ap (λ (x : Book). x.lost) at)
  ];
}
  where
    there : (k : ℕ) → k < shape.segments → k ≡ g → book_at (set books g b) k ≡ b
    there k lt is = ap (λ (z : ℕ). book_at (set books g b) z) is ∙ get_or-set_same books g b fresh_book (omega (arith, count, lt, is))

turned_writes : (b : Book) → (turned b).writes ≡ b.writes
turned_writes b = cond_both (needs_turn b) _ b (λ (x : Book). x.writes ≡ b.writes) (λ is. cond_both (is_pinned b) _ _ (λ (x : Book). x.writes ≡ b.writes) (λ yes. refl) (λ no. refl)) (λ is. refl)

turned_lost : (b : Book) → b.lost ≤ (turned b).lost
turned_lost b = cond_both (needs_turn b) _ b (λ (x : Book). b.lost ≤ x.lost) (λ is. cond_both (is_pinned b) _ _ (λ (x : Book). b.lost ≤ x.lost) (λ yes. omega arith) (λ no. omega arith)) (λ is. omega arith)

pub grows_written : (shape : Shape) (books : List Book) (s g i : ℕ) (has : Bool) → length books ≡ shape.segments → MarksGrow shape books (books_written s g i has books)
grows_written shape books s g i true count = let b = book_at books g in grows_at shape books g (marked i b) count (omega (arith, turned_writes b)) (omega (arith, turned_lost b))
grows_written shape books s g i false count = let b = taken s i (book_at books g) in grows_at shape books g (marked i b) count (omega (arith, turned_writes b)) (omega (arith, turned_lost b))

pub grows_finished : (shape : Shape) (books : List Book) (n g i : ℕ) → length books ≡ shape.segments → MarksGrow shape books (set books g (finished n i (book_at books g)))
grows_finished shape books n g i count = grows_at shape books g (finished n i (book_at books g)) count (omega arith) (omega arith)

pub grows_left : (shape : Shape) (books : List Book) (g i : ℕ) → length books ≡ shape.segments → MarksGrow shape books (set books g (left i (book_at books g)))
grows_left shape books g i count = grows_at shape books g (left i (book_at books g)) count (omega arith) (omega arith)

-- and back: a commit and an end leave the marks
pub shrinks_finished : (shape : Shape) (books : List Book) (n g i : ℕ) → length books ≡ shape.segments → MarksGrow shape (set books g (finished n i (book_at books g))) books
shrinks_finished shape books n g i count = same_at shape books g (finished n i (book_at books g)) count refl refl

pub shrinks_left : (shape : Shape) (books : List Book) (g i : ℕ) → length books ≡ shape.segments → MarksGrow shape (set books g (left i (book_at books g))) books
shrinks_left shape books g i count = same_at shape books g (left i (book_at books g)) count refl refl
