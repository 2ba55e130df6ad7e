-- What moves do to the limit of a place.
use Rattle.std.proofs.Common.{◌≡◌, inl, inr, ◌≤◌, ◌&&◌, nat_le, ℕ, zero, suc, true, Some, None, sym, ◌∙◌, arith}
use Rattle.std.proofs.lemmas.Bool.{cases_Bool, cond-true, cond-false, and_from, le-leb}
use Rattle.rb_model.specs.Book.{turn_of}
use Rattle.rb_segment.specs.Header.{Header, Segment, record_in, undo_in, position_of, extent_with, limit_in, limit_made}
use Rattle.rb_undoblock.specs.declared.record.UndoRecord.{UndoRecord}

-- what a move does to the limit of a turn it does to that of a place
pub limit_rises : (h h2 : Header) → h.lost ≤ h2.lost → h.writes ≤ h2.writes → ((i : ℕ) → i ≤ h.writes → limit_in h i ≤ limit_in h2 i) → (i : ℕ) → i ≤ h.writes → limit_made h i ≤ limit_made h2 i
limit_rises h h2 lost writes rises zero made = lost
limit_rises h h2 lost writes rises (suc i) made =
    let some : nat_le 1 (suc i) ≡ true = le-leb 1 (suc i) (omega arith) in
    let a = cond-true (nat_le 1 (suc i) && nat_le (suc i) h.writes) (limit_in h (suc i)) h.lost (and_from (nat_le 1 (suc i)) (nat_le (suc i) h.writes) some (le-leb (suc i) h.writes made)) in
    let b = cond-true (nat_le 1 (suc i) && nat_le (suc i) h2.writes) (limit_in h2 (suc i)) h2.lost (and_from (nat_le 1 (suc i)) (nat_le (suc i) h2.writes) some (le-leb (suc i) h2.writes (omega (arith, made, writes)))) in
    let c = rises (suc i) made in
    omega (arith, a, b, c)

pub limit_of_record : (s : Segment) (i : ℕ) (r : UndoRecord) → record_in s i ≡ Some r → limit_made s.header i ≡ limit_in s.header i
limit_of_record s i r is = elim (cases_Bool (nat_le 1 i && nat_le i s.header.writes)) [
  | inl made ↦ cond-true (nat_le 1 i && nat_le i s.header.writes) (limit_in s.header i) s.header.lost made
  | inr not_made ↦ let none : None ≡ Some r = sym (cond-false (nat_le 1 i && nat_le i s.header.writes) (undo_in s.undo (position_of i) (extent_with s.header.extents (turn_of i))) None not_made) ∙ is in absurd cc
]
