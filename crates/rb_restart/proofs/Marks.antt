-- What one group on blocks of rows and the header of one table slot leaves of all headers and their books.
use Rattle.std.proofs.Common.{◌≡◌, ◌≢◌, ◌-◌, ◌/◌, inl, inr, ℕ, zero, suc, List, [], ◌∷◌, map, get_or, set, refl, sym, ◌∙◌, ap, subst}
use Rattle.std.proofs.lemmas.Bool.{cases_eq}
use Rattle.rb_base.specs.declared.sizes.TheConstants.{SLOTS}
use Rattle.rb_base.specs.declared.shape.Shape.{Shape}
use Rattle.rb_base.specs.declared.ids.Uba.{Uba}
use Rattle.rb_model.specs.Book.{BookSlot}
use Rattle.rb_restart.specs.Rollback.{SameBooks, found_book, header_in}
use Rattle.rb_segment.specs.Books.{idle_slot}
use Rattle.rb_segment.specs.Header.{Header, Segment, slot_in}
use Rattle.rb_segment.specs.Moves.{ended, taken_back}
use Rattle.rb_txntable.specs.Slots.{no_slot}
use Rattle.rb_txntable.specs.declared.slots.TableSlot.{TableSlot}
use Rattle.rb_txntable.specs.declared.slots.TheConstants.{ENDED}
use Rattle.law_blocks.specs.Groups.{GroupOn, header_at}
use Rattle.law_blocks.proofs.SegmentRead.{RowsOrHeader, header_is, segments_off}

module _ (shape : Shape) (t : ℕ) (Is : ℕ → Type 0) (before now : List (List ℕ)) (group : GroupOn shape Is before now) (only : (b : ℕ) → Is b → RowsOrHeader shape (t / SLOTS) b) where
  header_off : (g : ℕ) → g ≢ t / SLOTS → header_in shape now g ≡ header_in shape before g
  header_off g ne = sym (header_is shape now g) ∙ (ap (λ (s : Segment). s.header) (segments_off shape Is before now group (t / SLOTS) only g ne) ∙ header_is shape before g)

  -- where the one header tells the same book, all do
  pub books_same : found_book (header_at shape now t) ≡ found_book (header_at shape before t) → SameBooks shape before now
  books_same same g g_in = elim (cases_eq g (t / SLOTS)) [
    | inl at ↦ subst (λ (z : ℕ). found_book (header_in shape now z) ≡ found_book (header_in shape before z)) (sym at) same
    | inr ne ↦ ap found_book (header_off g ne)
  ]

-- a slot that keeps its number is the same in the book
slots_same : (slots : List TableSlot) (i : ℕ) (s : TableSlot) → idle_slot s ≡ idle_slot (get_or slots i no_slot) → map idle_slot (set slots i s) ≡ map idle_slot slots
slots_same [] i s same = refl
slots_same (x ∷ slots) zero s same = ap (λ (b : BookSlot). b ∷ map idle_slot slots) same
slots_same (x ∷ slots) (suc i) s same = ap (λ (l : List BookSlot). idle_slot x ∷ l) (slots_same slots i s same)

-- what a put back and an end of a slot leave of the book
pub book_back : (i : ℕ) (previous : Uba) (h : Header) → found_book (taken_back i previous h) ≡ found_book h
book_back i previous h = ap (λ (l : List BookSlot). record (found_book h) { slots = l }) (slots_same h.slots i (record (slot_in h i) { live = (slot_in h i).live - 1; newest_at = previous }) refl)

pub book_ended : (i : ℕ) (h : Header) → found_book (ended i h) ≡ found_book h
book_ended i h = ap (λ (l : List BookSlot). record (found_book h) { slots = l }) (slots_same h.slots i (record (slot_in h i) { state = ENDED }) refl)
