-- Which answers of a write ask for room in its segment, and the state in which those are given.
use Rattle.std.proofs.Common.{◌≡◌, ◌≢◌, ◌⊎◌, inl, inr, ◌<◌, ◌≤◌, ◌+◌, ◌-◌, ◌*◌, ◌++◌, ◌&&◌, ℕ, zero, suc, Bool, true, false, not, nat_le, cond, List, [], ◌∷◌, length, Option, Some, None, refl, sym, ◌∙◌, ap, subst, arith}
use Rattle.std.proofs.lemmas.Bool.{cond-false, cond-true, cond_both, false≢true}
use Rattle.std.specs.List.{AllByRecursion}
use Rattle.rb_base.specs.declared.sizes.TheConstants.{WORN}
use Rattle.rb_model.specs.Book.{book_at, is_full}
use Rattle.rb_model.specs.Calls.{Action, Answer, Call, Done, MayAnswer, Refused, Write, WritesAt, adds_now, early, early_tests, fault, first_of, is_empty, is_too_long, key_tests, later, none_applies, number_tests, old, refused_by, room_tests, rows_now, serial_tests, session_tests, waited, write_tests}
use Rattle.rb_model.specs.Clearing.{HasRoom, Readies, lacks_room, with_room}
use Rattle.rb_model.specs.Dead.{KeepsRest, segment_cleared}
use Rattle.rb_model.specs.Full.{full_block}
use Rattle.rb_model.specs.Isolation.{is_read_only}
use Rattle.rb_model.specs.Late.{late}
use Rattle.rb_model.specs.Queue.{Waiter, is_queued}
use Rattle.rb_model.specs.Rows.{Commits, has_row}
use Rattle.rb_model.specs.State.{Session, State, is_session, is_table, isolation_of, session_count}
use Rattle.rb_model.specs.Tests.{full_slots, holder, made_since}
use Rattle.rb_model.specs.declared.mode.Isolation.{Isolation}
use Rattle.rb_model.specs.declared.mode.Isolation.TheVariants as isolation
use Rattle.rb_model.specs.declared.refusal.Refusal.{Refusal}
use Rattle.rb_model.specs.declared.refusal.Refusal.TheVariants.{BlockFull, DiskFault, Duplicate, NotFound, ReadOnly, NoSession, NoTable, RollbackFull, SlotsFull, Stopped, TooOld, ValueTooLong, Waiting, WornOut}
use Rattle.rb_base.specs.declared.shape.Shape.{Shape}

-- 1 for an answer that asks for room in the segment
abbrev pub asking : Answer → ℕ
asking Done = 1
asking (Refused (RollbackFull seg since)) = 1
asking (Refused WornOut) = 1
asking _ = 0

-- none of the tests gives such an answer
abbrev Spare : List (Bool × Answer) → Type 0
Spare tests = AllByRecursion (λ t. asking t.1 ≡ 0) tests

spare_append : (a b : List (Bool × Answer)) → Spare a → Spare b → Spare (a ++ b)
spare_append [] b first second = second
spare_append (t ∷ a) b first second = (first.0, spare_append a b first.1 second)

spare_waited : (queue : List Waiter) (s : ℕ) (o : Option ℕ) → Spare (waited queue s o)
spare_waited queue s None = tt
spare_waited queue s (Some u) = (refl, (refl, tt))

spare_late : (n : ℕ) (o : Option ℕ) → Spare (refused_by n o)
spare_late n None = tt
spare_late n (Some by) = (refl, tt)

spare_serial : (commits : Commits) (i : Isolation) (table key : ℕ) → Spare (serial_tests commits i table key)
spare_serial commits isolation.ReadCommitted table key = tt
spare_serial commits (isolation.ReadOnly n) table key = tt
spare_serial commits (isolation.Serializable n) table key = spare_late n (late commits n table key)

spare_key : (h : State) (s table key : ℕ) (action : Action) → Spare (key_tests h s table key action)
spare_key h s table key action =
    spare_append _ _ (spare_append _ _ (spare_waited h.queue s (holder h table key)) (spare_serial h.commits (isolation_of h s) table key)) (refl, (refl, (refl, (refl, tt))))

-- so that one comes from behind them, and none of them applies
from_behind : (a b : List (Bool × Answer)) (r : Answer) → Spare a → first_of (a ++ b) Done ≡ r → asking r ≡ 1 → (none_applies a ≡ true) × (first_of b Done ≡ r)
from_behind [] b r spare is full = (refl, is)
from_behind (t ∷ a) b r spare is full =
    cond_both t.0 t.1 (first_of (a ++ b) Done) (λ (x : Answer). x ≡ r → (none_applies (t ∷ a) ≡ true) × (first_of b Done ≡ r))
    (λ yes e. let none : asking r ≡ 0 = sym (ap asking e) ∙ spare.0 in absurd (omega (arith, none, full)))
    (λ no e. let rest = from_behind a b r spare.1 e full in (rw no rest.0, rest.1)) is

-- what comes behind tests of which none applies
pub behind_passed : (a b : List (Bool × Answer)) → none_applies a ≡ true → first_of (a ++ b) Done ≡ first_of b Done
behind_passed [] b passed = refl
behind_passed (t ∷ a) b passed =
    cond_both t.0 t.1 (first_of (a ++ b) Done) (λ (x : Answer). x ≡ first_of b Done)
    (λ yes. let clash : false ≡ true = subst (λ (b : Bool). (not b && none_applies a) ≡ true) yes passed in absurd cc)
    (λ no. behind_passed a b (subst (λ (b : Bool). (not b && none_applies a) ≡ true) no passed))

-- the tests of room tell that the segment is full where it is
room_told : (h : State) (logged g seg since : ℕ) → first_of (room_tests h logged g) Done ≡ Refused (RollbackFull seg since) → (is_full (book_at h.books g) ≡ true) × (seg ≡ g)
room_told h logged g seg since is =
    cond_both (is_full (book_at h.books g)) (Refused (RollbackFull g (made_since (book_at h.books g)))) (first_of ((nat_le WORN logged, Refused WornOut) ∷ []) Done) (λ (x : Answer). x ≡ Refused (RollbackFull seg since) → (is_full (book_at h.books g) ≡ true) × (seg ≡ g))
    (λ yes e. (yes, (let same : g ≡ seg = cc in sym same)))
    (λ no e. absurd (cond_both (nat_le WORN logged) (Refused WornOut) Done (λ (x : Answer). x ≡ Refused (RollbackFull seg since) → ⊥) (λ worn e. cc) (λ fine e. cc) e)) is

-- and answer something else where it isn't
room_spare : (h : State) (logged g : ℕ) (r : Answer) → first_of (room_tests h logged g) Done ≡ r → ((seg since : ℕ) → r ≢ Refused (RollbackFull seg since)) → is_full (book_at h.books g) ≡ false
room_spare h logged g r is other =
    cond_both (is_full (book_at h.books g)) (Refused (RollbackFull g (made_since (book_at h.books g)))) (first_of ((nat_le WORN logged, Refused WornOut) ∷ []) Done) (λ (x : Answer). x ≡ r → is_full (book_at h.books g) ≡ false)
    (λ yes e. absurd (other g (made_since (book_at h.books g)) (sym e))) (λ no e. no) is

pub spare_told : (h : State) (logged g s table key : ℕ) (action : Action) (r : Answer) → asking r ≡ 1 → ((seg since : ℕ) → r ≢ Refused (RollbackFull seg since)) → first_of (write_tests h logged g s table key action) Done ≡ r → is_full (book_at h.books g) ≡ false
spare_told h logged g s table key action r asks other is =
    room_spare h logged g r (from_behind (key_tests h s table key action) (room_tests h logged g) r (spare_key h s table key action) is asks).1 other

-- A full segment, as the tests of a write tell it.
pub record IsFullAt (h : State) (s table key : ℕ) (action : Action) (g : ℕ) : Type 0 where
  pub at : WritesAt h s g
  pub passed : none_applies (key_tests h s table key action) ≡ true
  pub full : is_full (book_at h.books g) ≡ true

pub full_told : (h : State) (logged g s table key : ℕ) (action : Action) (seg since : ℕ) → WritesAt h s g → first_of (write_tests h logged g s table key action) Done ≡ Refused (RollbackFull seg since) → IsFullAt h s table key action seg
full_told h logged g s table key action seg since at is =
    let from = from_behind (key_tests h s table key action) (room_tests h logged g) (Refused (RollbackFull seg since)) (spare_key h s table key action) is refl in
    let told = room_told h logged g seg since from.1 in
    subst (IsFullAt h s table key action) (sym told.1) (record { at = at; passed = from.0; full = told.0 })

pub full_answer : (h : State) (logged s table key : ℕ) (action : Action) (seg since : ℕ) → none_applies (early_tests h (Write s table key action)) ≡ true → MayAnswer h logged (Write s table key action) (Refused (RollbackFull seg since)) → IsFullAt h s table key action seg
full_answer h logged s table key action seg since passed (early some e) = absurd (false≢true (sym some ∙ passed))
full_answer h logged s table key action seg since passed (later tests none (g, at, is) e) =
    full_told h logged g s table key action seg since at (ap (λ (l : List (Bool × Answer)). first_of l Done) (sym is) ∙ sym e)
full_answer h logged s table key action seg since passed (fault none e) = (let clash : Refused (RollbackFull seg since) ≡ Refused DiskFault = e in absurd cc)
full_answer h logged s table key action seg since passed (old none is) = (let clash : Refused (RollbackFull seg since) ≡ Refused (TooOld is.snapshot (book_at h.books is.seg).lost) = is.answer in absurd cc)

-- Where no test of the key applies, and it isn't too old, an answer asks for room.
pub asks_room : (h ready now : State) (logged s table key : ℕ) (action : Action) (r : Answer) → none_applies (early_tests now (Write s table key action)) ≡ true → none_applies (key_tests now s table key action) ≡ true
    → ((scn lost : ℕ) → r ≡ Refused (TooOld scn lost) → ⊥) → MayAnswer now logged (Write s table key action) r → HasRoom h s ready → Readies s h r ready
asks_room h ready now logged s table key action r first passed young (early some e) room = absurd (false≢true (sym some ∙ first))
asks_room h ready now logged s table key action r first passed young (later tests none (g, at, is) e) room =
    subst (λ (x : Answer). Readies s h x ready)
    (sym (e ∙ (ap (λ (l : List (Bool × Answer)). first_of l Done) is ∙ behind_passed (key_tests now s table key action) (room_tests now logged g) passed)))
    (cond_both (is_full (book_at now.books g)) (Refused (RollbackFull g (made_since (book_at now.books g)))) (first_of ((nat_le WORN logged, Refused WornOut) ∷ []) Done) (λ (x : Answer). Readies s h x ready)
    (λ yes. room)
    (λ no. cond_both (nat_le WORN logged) (Refused WornOut) Done (λ (x : Answer). Readies s h x ready) (λ worn. room) (λ fine. room)))
asks_room h ready now logged s table key action r first passed young (fault none e) room = subst (λ (x : Answer). Readies s h x ready) (sym e) (inr room)
asks_room h ready now logged s table key action r first passed young (old none is) room = absurd (young is.snapshot (book_at now.books is.seg).lost is.answer)

-- the early tests of a write, by what of the state they ask
abbrev early_by : ℕ → ℕ → Action → Bool → List Waiter → Isolation → Shape → List (Bool × Answer)
early_by table s action stopped queue i shape =
    (((stopped, Refused Stopped) ∷ (not (is_session s), Refused NoSession) ∷ []) ++ (is_queued s queue, Refused Waiting) ∷ [])
    ++ (is_read_only i, Refused ReadOnly) ∷ (not (nat_le 1 table && nat_le table shape.tables), Refused NoTable) ∷ (is_too_long action, Refused ValueTooLong) ∷ []

-- the early tests of a write in a state that differs in the dead alone
pub early_stay : (h h2 : State) (s table key : ℕ) (action : Action) → KeepsRest h h2 → 1 ≤ s → s ≤ session_count → early_tests h2 (Write s table key action) ≡ early_tests h (Write s table key action)
early_stay h h2 s table key action rest low high =
    ap (λ (b : Bool). early_by table s action b h2.queue (isolation_of h2 s) h2.shape) rest.stopped
    ∙ (ap (λ (queue : List Waiter). early_by table s action h.stopped queue (isolation_of h2 s) h2.shape) rest.queue
    ∙ (ap (λ (z : Session). early_by table s action h.stopped h.queue z.isolation h2.shape) (rest.living s low high)
    ∙ ap (λ (shape : Shape). early_by table s action h.stopped h.queue (isolation_of h s) shape) rest.shape))

-- the room that is made
pub room_made : (h : State) (s g : ℕ) → WritesAt h s g → lacks_room s (book_at h.books g) ≡ true → HasRoom h s (segment_cleared g h)
room_made h s g at lacks = (g, at, sym (cond-true (lacks_room s (book_at h.books g)) (segment_cleared g h) h lacks))

-- and the room that there is
pub room_there : (h : State) (s g : ℕ) → WritesAt h s g → lacks_room s (book_at h.books g) ≡ false → HasRoom h s h
room_there h s g at spare = (g, at, sym (cond-false (lacks_room s (book_at h.books g)) (segment_cleared g h) h spare))

-- where the segment has none to put back, it is all that there may be
pub room_calm : (h : State) (s g : ℕ) → WritesAt h s g → segment_cleared g h ≡ h → HasRoom h s h
room_calm h s g at calm = (g, at, sym (cond_both (lacks_room s (book_at h.books g)) (segment_cleared g h) h (λ (x : State). x ≡ h) (λ yes. calm) (λ no. refl)))
