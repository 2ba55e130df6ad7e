-- Which of the dead go before a call: before a write those of its home, and those of its segment where that lacks room.
use Rattle.std.specs.Prelude.{◌≡◌, ◌⊎◌, ◌&&◌, ◌||◌, ℕ, nat_le, Bool, true, false, not, cond}
use Rattle.std.specs.List.{list_any}
use Rattle.rb_model.specs.Book.{Book, book_at, is_full, owners}
use Rattle.rb_model.specs.Calls.{Answer, Call, Done, Refused, Write, WritesAt, early_tests, is_owner, none_applies}
use Rattle.rb_model.specs.State.{State}
use Rattle.rb_model.specs.Dead.{home_cleared, segment_cleared}
use Rattle.rb_model.specs.declared.refusal.Refusal.TheVariants.{DiskFault, RollbackFull, WornOut}

-- the session has a slot in that book
abbrev pub has_slot_in : ℕ → Book → Bool
has_slot_in s b = list_any (λ slot. is_owner s slot.owner) b.slots

-- there is no place for its record, or no slot for its transaction
abbrev pub lacks_room : ℕ → Book → Bool
lacks_room s b = is_full b || (not (has_slot_in s b) && nat_le 16 (owners b))

-- the state with room in segment g, where its dead leave some
abbrev pub with_room : ℕ → ℕ → State → State
with_room s g h = cond (lacks_room s (book_at h.books g)) (segment_cleared g h) h

-- The state in which the last tests of a write are made, and the write itself: the dead of its home are gone, and
-- those of its segment, where that lacked room.
abbrev pub ready_for : ℕ → ℕ → ℕ → ℕ → State → State
ready_for s table key g h = with_room s g (home_cleared table key h)

-- there is room in the segment in which the session writes
abbrev pub HasRoom : State → ℕ → State → Type 0
HasRoom h s ready = (g : ℕ) × WritesAt h s g × (ready ≡ with_room s g h)

-- From the state without the dead of its home, that in which a write with this answer is made: no test that comes
-- before a full segment asks for room. Of one in which the disk failed both may be.
abbrev pub Readies : ℕ → State → Answer → State → Type 0
Readies s h Done ready = HasRoom h s ready
Readies s h (Refused (RollbackFull seg since)) ready = HasRoom h s ready
Readies s h (Refused WornOut) ready = HasRoom h s ready
Readies s h (Refused DiskFault) ready = (ready ≡ h) ⊎ HasRoom h s ready
Readies s h answer ready = ready ≡ h

-- The state in which a call with this answer is made, once the dead that stand in its way are put back. They stand in
-- the way of no call but a write, and of none that an early test refuses; where the disk fails, they may be left.
abbrev pub ClearsTo : State → Call → Answer → State → Type 0
ClearsTo h (Write s table key action) answer ready =
    ((none_applies (early_tests h (Write s table key action)) ≡ false) × (ready ≡ h))
    ⊎ ((none_applies (early_tests h (Write s table key action)) ≡ true)
    × (((answer ≡ Refused DiskFault) × (ready ≡ h)) ⊎ Readies s (home_cleared table key h) answer ready))
ClearsTo h call answer ready = ready ≡ h
