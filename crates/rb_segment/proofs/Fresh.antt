-- The header of a new file is in order and tells the fresh book, so the definitions can be met.
use Rattle.std.proofs.Common.{◌*◌, ◌≡◌, ◌≢◌, ◌<◌, ◌≤◌, ◌+◌, ℕ, zero, suc, get_or, replicate, refl, sym, ◌∙◌, ap, subst, arith}
use Rattle.std.proofs.lemmas.List.{length-replicate}
use Rattle.rb_base.specs.declared.sizes.TheConstants.{SLOTS}
use Rattle.rb_ring.specs.declared.extents.TheConstants.{EXTENTS, EXTENT_RECORDS}
use Rattle.rb_model.specs.Book.{BookSlot, free_slot, fresh_book}
use Rattle.rb_ring.specs.Ring.{IsRing}
use Rattle.rb_ring.specs.declared.extents.Extent.{Extent}
use Rattle.rb_segment.specs.Books.{IsBook, IsOwned, IsKeptTurn, turn_number, fresh_header, fresh_segment}
use Rattle.rb_segment.specs.Header.{no_extent, slot_in, extent_with, extent_in, ord_in, SlotNumbers, SlotInOrder, SegmentInOrder}
use Rattle.rb_txntable.specs.Slots.{no_slot}
use Rattle.rb_txntable.specs.declared.slots.TableSlot.{TableSlot}
use Rattle.rb_undoblock.specs.Undo.{no_undo}
use Rattle.rb_segment.proofs.Records.{made_of}

-- what a list of one thing has at each place
pub all_same : {A : Type 0} (x : A) (n i : ℕ) → get_or (replicate n x) i x ≡ x
all_same x zero i = refl
all_same x (suc n) zero = refl
all_same x (suc n) (suc i) = all_same x n i

pub fresh_slot : (i : ℕ) → slot_in fresh_header i ≡ no_slot
fresh_slot i = all_same no_slot SLOTS i

ord_out : (e : ℕ) → 2 ≤ e → ord_in fresh_header e ≡ 0
ord_out zero le = absurd (omega arith)
ord_out (suc zero) le = absurd (omega arith)
ord_out (suc (suc e)) le = ap (λ (z : Extent). z.ord) (all_same no_extent 6 e)

newest_zero : (e : ℕ) → (extent_in fresh_header e).newest ≡ 0
newest_zero zero = refl
newest_zero (suc zero) = refl
newest_zero (suc (suc e)) = ap (λ (z : Extent). z.newest) (all_same no_extent 6 e)

ring_near : (e : ℕ) → e < 2 → (1 ≤ ord_in fresh_header e) × (ord_in fresh_header e ≤ 2)
ring_near zero lt = (omega arith, omega arith)
ring_near (suc zero) lt = (omega arith, omega arith)
ring_near (suc (suc e)) lt = absurd (omega arith)

ring_apart : (e : ℕ) → e < 2 → (lower : ℕ) → lower < e → ord_in fresh_header lower ≢ ord_in fresh_header e
ring_apart zero lt lower below = absurd (omega arith)
ring_apart (suc zero) lt zero below = λ is. let two : 2 ≡ 1 = is in omega (arith, two)
ring_apart (suc zero) lt (suc lower) below = absurd (omega arith)
ring_apart (suc (suc e)) lt lower below = absurd (omega arith)

fresh_ring : IsRing (ord_in fresh_header) 0 2
fresh_ring = record {
  few = (omega arith, omega arith);
  head_within = omega arith;
  positive = λ e lt. (ring_near e lt).0;
  near = λ e lt. let a = ring_near e lt in record { up_to = a.1; near = omega (arith, a.0) };
  apart = ring_apart;
  others = λ e le few. ord_out e le;
}

pub fresh_order : SegmentInOrder 0 0 fresh_segment
fresh_order = record {
  header = record {
    slots_counted = refl;
    extents_counted = refl;
    ring = (2, fresh_ring);
    records = omega arith;
    slots = λ i few. subst (λ (z : TableSlot). SlotInOrder 0 z) (sym (fresh_slot i)) (record { state = omega arith; before = omega arith; newest = omega arith });
    lost = omega arith;
    newest = λ e few. let a = newest_zero e in omega (arith, a);
  };
  undo_counted = length-replicate (EXTENTS * EXTENT_RECORDS) no_undo;
  numbers = record {
    writes = omega arith;
    records = λ k r is. let m = made_of fresh_segment k r is in absurd (omega (arith, m.0, m.1));
    count = refl;
    begun = λ none. refl;
    slots = λ i few. subst (λ (z : TableSlot). SlotNumbers 0 0 z) (sym (fresh_slot i)) (record { wrap = omega arith; newest = omega arith; before = omega arith; not_lost = λ is. omega arith });
  };
}

-- the two turns that a fresh book keeps
kept_turns : (k : ℕ) → k < 2 → IsKeptTurn fresh_header (1 + k) × (get_or fresh_book.turns k 0 ≡ turn_number fresh_header (extent_with fresh_header.extents (1 + k)))
kept_turns zero lt = ((1, refl), refl)
kept_turns (suc zero) lt = ((0, refl), refl)
kept_turns (suc (suc k)) lt = absurd (omega arith)

pub fresh_is_book : IsBook fresh_header fresh_book
fresh_is_book = record {
  writes = refl;
  lost = refl;
  slots = refl;
  newest = λ i few. ap (λ (z : BookSlot). z.newest) (all_same free_slot SLOTS i) ∙ ap (λ (z : TableSlot). z.newest) (sym (fresh_slot i));
  owners = λ i few. subst (λ (z : BookSlot). IsOwned fresh_header (slot_in fresh_header i) z.owner) (sym (all_same free_slot SLOTS i)) (not_active i);
  ring = fresh_ring;
  kept = omega arith;
  turns = λ k lt. kept_turns k lt;
}
  where
    not_active : (i : ℕ) → (slot_in fresh_header i).state ≢ 1
    not_active i is = let none : (slot_in fresh_header i).state ≡ 0 = ap (λ (z : TableSlot). z.state) (fresh_slot i) in omega (arith, none, is)
