-- A write that is tried once more where its segment had no room: which state is ready for its answer.
use Rattle.std.proofs.Common.{◌≡◌, ◌≢◌, ◌⊎◌, inl, inr, ◌<◌, ◌≤◌, ◌+◌, ◌*◌, ◌/◌, ◌%◌, ◌∷◌, ◌&&◌, ◌||◌, ⊎_elim, ℕ, suc, get_or, Bool, true, false, not, nat_le, cond, List, [], length, Option, Some, None, Result, Ok, Err, refl, sym, ◌∙◌, ap, subst, arith}
use Rattle.std.proofs.lemmas.Bool.{cases_Bool, false≢true}
use Rattle.std.proofs.lemmas.Bool.Decides.{nat_tests}
use Rattle.std.specs.List.{list_any}
use Rattle.rb_base.specs.Logs.{Laws}
use Rattle.rb_base.specs.declared.store.Store.{Ghosts}
use Rattle.rb_base.specs.declared.ids.Xid.{Xid}
use Rattle.rb_sessions.specs.declared.sessions.TheConstants.{SESSIONS}
use Rattle.law_blocks.specs.Standing.{env_of, homes_of, segments_of}
use Rattle.law_write.specs.Verdict.{IsOwnId}
use Rattle.law_blocks.specs.States.{BlocksStand}
use Rattle.law_write.proofs.Presence.{owner_within}
use Rattle.law_write.proofs.StoodBlocks.{stood_of}
use Rattle.law_dead.proofs.Fewest.{fewest_stays}
use Rattle.law_dead.proofs.Owing.{owes_none, segment_calm}
use Rattle.law_dead.proofs.Room.{cleared_living, holder_stays, key_tests_stay, none_living}
use Rattle.rb_engine.specs.Behind.{Behind, HasClearHome, HasPlace, LacksSlot, Led, Tried}
use Rattle.rb_engine.specs.Does.{Does, EngineView, Goes, Kept, Stands}
use Rattle.rb_engine.proofs.BehindLemmas.{behind_after, behind_as, led_on}
use Rattle.rb_engine.proofs.RoomLemmas.{IsFullAt, asks_room, early_stay, full_answer, room_calm, room_made, room_there}
use Rattle.rb_engine.proofs.WriteLemmas.{about}
use Rattle.rb_model.proofs.DeadLemmas.{segment_rest}
use Rattle.rb_model.specs.Answers.{write_answer}
use Rattle.rb_model.specs.Book.{Book, BookSlot, Owner, book_at, free_slot, is_full, owners, slot_owner}
use Rattle.rb_model.specs.Calls.{Action, Answer, HasNoSlot, MayAnswer, is_owner, Refused, Write, WritesAt, WritesIn, early_tests, key_tests, none_applies, serial_tests}
use Rattle.rb_model.specs.Clearing.{HasRoom, Readies, has_slot_in, lacks_room}
use Rattle.rb_model.specs.Dead.{KeepsRest, dead_at, dead_owed, dead_owner, segment_cleared}
use Rattle.rb_model.specs.Isolation as isolations
use Rattle.rb_model.specs.Rows.{Commits}
use Rattle.rb_model.specs.State.{Session, State, isolation_of, owner_at, session_count}
use Rattle.rb_model.specs.Tests.{holder}
use Rattle.rb_model.specs.declared.refusal.Refusal.{Refusal}
use Rattle.rb_model.specs.declared.refusal.Refusal.TheVariants as refusals
use Rattle.rb_model.specs.declared.refusal.Refusal.TheVariants.{RollbackFull, TooOld}
use Rattle.rb_model.specs.declared.wrote.Wrote.{Wrote}
use Rattle.rb_model.specs.declared.wrote.Wrote.TheVariants as wrotes
use Rattle.rb_sessions.specs.Kept.{kept_at}
use Rattle.rb_steps.proofs.Somewhere.{in_segment, slot_is_room}
use Rattle.rb_steps.proofs.May.{living_leave}
use Rattle.rb_steps.specs.Steps.{MayWrite, NotLate, NotOthers}

-- The state that is ready for an answer of a write that was tried once: with that answer, that it has room is said of
-- the state itself, where it has a place.
module _ (h : State) (xids : List Xid) (blocks : List (List ℕ)) (stand : BlocksStand h xids blocks) (s : ℕ) where
  has_room : (g : ℕ) × (i : ℕ) × WritesIn h s g i × (is_full (book_at h.books g) ≡ false) → HasRoom h s h
  has_room (g, i, within, spare) = room_there h s g (in_segment h s g i within) (slot_is_room h xids blocks stand s g i within spare)

  once_ready : (r : Result Wrote Refusal) → ((seg since : ℕ) → r ≡ Err (RollbackFull seg since) → ⊥) → HasPlace h s (write_answer r) → Readies s h (write_answer r) h
  once_ready (Ok wrotes.Done) other place = has_room place
  once_ready (Ok (wrotes.Waits on)) other place = refl
  once_ready (Err refusals.WornOut) other place = has_room place
  once_ready (Err refusals.DiskFault) other place = inl refl
  once_ready (Err (RollbackFull seg since)) other place = absurd (other seg since refl)
  once_ready (Err refusals.NoSession) other place = refl
  once_ready (Err refusals.Waiting) other place = refl
  once_ready (Err refusals.NotFirst) other place = refl
  once_ready (Err refusals.ReadOnly) other place = refl
  once_ready (Err refusals.NoTable) other place = refl
  once_ready (Err refusals.ValueTooLong) other place = refl
  once_ready (Err refusals.Duplicate) other place = refl
  once_ready (Err refusals.NotFound) other place = refl
  once_ready (Err refusals.BlockFull) other place = refl
  once_ready (Err refusals.SlotsFull) other place = refl
  once_ready (Err refusals.NoSavepoint) other place = refl
  once_ready (Err refusals.TooManySavepoints) other place = refl
  once_ready (Err refusals.NoCursor) other place = refl
  once_ready (Err refusals.CursorThere) other place = refl
  once_ready (Err refusals.TooManyCursors) other place = refl
  once_ready (Err refusals.NotWaiting) other place = refl
  once_ready (Err refusals.Stopped) other place = refl
  once_ready (Err (refusals.Deadlock on)) other place = refl
  once_ready (Err (refusals.TooOld scn lost)) other place = refl
  once_ready (Err (refusals.CantSerialize scn by)) other place = refl

-- A session lacks room in a segment that is full, or has no slot left for it.
full_lacks : (h : State) (s g : ℕ) → is_full (book_at h.books g) ≡ true → lacks_room s (book_at h.books g) ≡ true
full_lacks h s g full = rw full refl

-- the living leave a slot of a segment to a session that has none
left_free : {S : Type 0} {s : Ghosts S} {who : ℕ} → (h : State) (e : EngineView S) → (st : Stands s h e) → (on : h.stopped ≡ false) → (1 ≤ who) × (who ≤ SESSIONS) → HasNoSlot h who → (g : ℕ) → g < length h.books
    → ((i : ℕ) (o : Owner) → i < 16 → slot_owner (book_at h.books g) i ≡ Some o → o.session ≤ session_count) → owners (book_at h.books g) ≤ 15
left_free {S} {s} {who} h e st on there none g within living =
    let goes = st.goes on in
    let id = (goes.remembers.each who there.0 there.1).id in
    let own : (kept_at e.memory.sessions who).own ≡ None = no_own (kept_at e.memory.sessions who).own id in
    living_leave h goes.xids (s.blocks e.store) who (kept_at e.memory.sessions who).own (record { stand = goes.holds.blocks; session = there.0; id = id }) there.1 own g living within
  where
    no_own : (o : Option Xid) → IsOwnId h (env_of h.shape (s.blocks e.store)) who o → o ≡ None
    no_own None id = refl
    no_own (Some x) id = let f = id.owned x refl in absurd (none f.0 f.1.owner f.1.at f.1.session)

sixteen : (n : ℕ) → nat_le 16 n ≡ true → 16 ≤ n
sixteen n is = grind (arith, nat_tests, is)

-- a session that has no slot has none in a book
any_none : (p : BookSlot → Bool) (l : List BookSlot) → ((i : ℕ) → i < length l → p (get_or l i free_slot) ≡ false) → list_any p l ≡ false
any_none p [] none = refl
any_none p (x ∷ l) none = rw (none 0 (omega arith), any_none p l (λ i lt. none (suc i) (omega (arith, lt)))) refl

no_slot_lacks : (h : State) (s g : ℕ) → length (book_at h.books g).slots ≤ 16 → HasNoSlot h s → nat_le 16 (owners (book_at h.books g)) ≡ true → lacks_room s (book_at h.books g) ≡ true
no_slot_lacks h s g sixteen none many =
    let b : Book = book_at h.books g in
    let has : has_slot_in s b ≡ false = any_none (λ slot. is_owner s slot.owner) b.slots (λ i lt. other i (omega (arith, lt, sixteen)) (slot_owner b i) refl) in
    by (is_full b) has
  where
    other : (i : ℕ) → i < 16 → (o : Option Owner) → slot_owner (book_at h.books g) i ≡ o → is_owner s o ≡ false
    other i few None at = refl
    other i few (Some o) at =
        let seg : (16 * g + i) / 16 ≡ g = omega (arith, few) in
        let slot : (16 * g + i) % 16 ≡ i = omega (arith, few) in
        let here : owner_at h (16 * g + i) ≡ Some o = ap (λ (z : ℕ). slot_owner (book_at h.books z) ((16 * g + i) % 16)) seg ∙ (ap (slot_owner (book_at h.books g)) slot ∙ at) in
        let ne = none (16 * g + i) o here in grind (arith, nat_tests)

    by : (full : Bool) → has_slot_in s (book_at h.books g) ≡ false → (full || (not (has_slot_in s (book_at h.books g)) && nat_le 16 (owners (book_at h.books g)))) ≡ true
    by true has = refl
    by false has = rw (has, many) refl

module _ {S : Type 0} (s : Ghosts S) (laws : Laws s) (h : State) (old : EngineView S) (st : Stands s h old) (on : h.stopped ≡ false) (who table key : ℕ) (action : Action)
    (there : (1 ≤ who) × (who ≤ SESSIONS)) (early : none_applies (early_tests h (Write who table key action)) ≡ true) (clear : HasClearHome h table key) where
  abbrev goes : Goes s h old
  goes = st.goes on

  -- what the first try says of the segment
  pub record IsCut (seg : ℕ) : Type 0 where
    pub at : WritesAt h who seg
    pub passed : none_applies (key_tests h who table key action) ≡ true
    pub lacks : lacks_room who (book_at h.books seg) ≡ true

  pub cut_by : (mid : EngineView S) (seg since : ℕ) → Tried s h who table key action (Err (RollbackFull seg since)) old mid → IsCut seg
  cut_by mid seg since (inl b) =
      let reply = b.does.reply in
      let is : IsFullAt h who table key action seg = full_answer h (s.lsn b.mid.store) who table key action seg since early (subst (λ (z : State). MayAnswer z (s.lsn b.mid.store) (Write who table key action) (Refused (RollbackFull seg since))) b.clears.0 reply) in
      record { at = is.at; passed = is.passed; lacks = full_lacks h who seg is.full }
  cut_by mid seg since (inr (g, is, lacks)) =
      let same : seg ≡ g = cc in
      subst IsCut (sym same) (record { at = inr (lacks.none, lacks.fewest); passed = lacks.passed; lacks = no_slot_lacks h who g (let n = (goes.holds.blocks.tell.books g (let counted = goes.holds.blocks.tell.books_counted in let within = lacks.fewest.within in omega (arith, counted, within))).slots in omega (arith, n)) lacks.none lacks.full })

  -- the state itself is ready for an answer
  ready_answers : (mid : EngineView S) (r : Result Wrote Refusal) → Readies who h (write_answer r) h → Behind s (λ (x : State). (x ≡ h) × HasPlace h who (write_answer r)) h (Write who table key action) (write_answer r) old mid → Behind s (Readies who h (write_answer r)) h (Write who table key action) (write_answer r) old mid
  ready_answers mid r ready b = behind_as s laws h (Write who table key action) (write_answer r) old mid (λ x is. subst (Readies who h (write_answer r)) (sym is.0) ready) b

  -- with another answer it asks for no more room than there is
  pub once_answers : (mid : EngineView S) (r : Result Wrote Refusal) → ((seg since : ℕ) → r ≡ Err (RollbackFull seg since) → ⊥) → Tried s h who table key action r old mid → Behind s (Readies who h (write_answer r)) h (Write who table key action) (write_answer r) old mid
  once_answers mid r other (inl b) = behind_as s laws h (Write who table key action) (write_answer r) old mid (λ x is. subst (Readies who h (write_answer r)) (sym is.0) (once_ready h goes.xids (s.blocks old.store) goes.holds.blocks who r other is.1)) b
  once_answers mid r other (inr (g, is, lacks)) = absurd (other g 0 is)

  pub segment_in : (seg : ℕ) → WritesAt h who seg → seg < h.shape.segments
  segment_in seg (inl (i, owned)) =
      let within = owner_within h goes.xids (segments_of h.shape (s.blocks old.store)) (homes_of h.shape (s.blocks old.store)) (stood_of h goes.xids (s.blocks old.store) goes.holds.blocks) (16 * seg + i) owned.1 owned.2 in
      omega (arith, within)
  segment_in seg (inr (none, fewest)) = let counted = goes.holds.blocks.tell.books_counted in let within = fewest.within in omega (arith, counted, within)

  -- WHERE NONE IS DEAD the answer stays.
  module _ (calm : dead_owed h ≡ 0) where
    living : (g i : ℕ) (o : Owner) → g < length h.books → i < 16 → slot_owner (book_at h.books g) i ≡ Some o → o.session ≤ session_count
    living g i o within few at =
        let counted = goes.holds.blocks.tell.books_counted in
        let seg : (16 * g + i) / 16 ≡ g = omega (arith, few) in
        let slot : (16 * g + i) % 16 ≡ i = omega (arith, few) in
        let here : owner_at h (16 * g + i) ≡ Some o = ap (λ (z : ℕ). slot_owner (book_at h.books z) ((16 * g + i) % 16)) seg ∙ (ap (slot_owner (book_at h.books g)) slot ∙ at) in
        none_living o (sym (ap dead_owner here) ∙ owes_none h calm (16 * g + i) (omega (arith, few, within, counted)))

    pub calm_ready : (mid : EngineView S) (seg since : ℕ) → Tried s h who table key action (Err (RollbackFull seg since)) old mid → Behind s (Readies who h (write_answer (Err (RollbackFull seg since)))) h (Write who table key action) (write_answer (Err (RollbackFull seg since))) old mid
    calm_ready mid seg since (inl b) =
        let cut = cut_by mid seg since (inl b) in
        let room : HasRoom h who h = room_calm h who seg cut.at (segment_calm h seg calm (segment_in seg cut.at)) in
        ready_answers mid (Err (RollbackFull seg since)) room b
    calm_ready mid seg since (inr (g, is, lacks)) =
        let none = left_free h old st on there lacks.none g lacks.fewest.within (λ i o few at. living g i o lacks.fewest.within few at) in
        let full = sixteen (owners (book_at h.books g)) lacks.full in
        absurd (omega (arith, none, full))

  -- WHERE THE SEGMENT IS CLEARED, and the write tried once more.
  module _ (seg : ℕ) (cut : IsCut seg) where
    abbrev pub Cleared : State
    Cleared = segment_cleared seg h

    rest : KeepsRest h Cleared
    rest = segment_rest seg h

    holder_same : holder Cleared table key ≡ holder h table key
    holder_same = holder_stays h seg table key clear.none clear.owned

    pub early_cleared : none_applies (early_tests Cleared (Write who table key action)) ≡ true
    early_cleared = ap none_applies (early_stay h Cleared who table key action rest there.0 there.1) ∙ early

    pub may_cleared : MayWrite h who table key → MayWrite Cleared who table key
    may_cleared may = (
      λ u held. may.0 u (sym holder_same ∙ held),
      ap (λ (commits : Commits). serial_tests commits (isolation_of Cleared who) table key) rest.commits
          ∙ (ap (λ (z : Session). serial_tests h.commits z.isolation table key) (rest.living who there.0 there.1) ∙ may.1),
    )

    passed_cleared : none_applies (key_tests Cleared who table key action) ≡ true
    passed_cleared = ap none_applies (key_tests_stay h seg who table key action there.0 there.1 clear.none clear.owned) ∙ cut.passed

    -- then it asks for room
    pub second_ready : (mid new : EngineView S) → Stands s Cleared mid → (r : Result Wrote Refusal) → ((scn lost : ℕ) → r ≡ Err (TooOld scn lost) → ⊥) → Tried s Cleared who table key action r mid new
        → Behind s (Readies who h (write_answer r)) Cleared (Write who table key action) (write_answer r) mid new
    second_ready mid new stands r young (inl b) =
        behind_as s laws Cleared (Write who table key action) (write_answer r) mid new
        (λ x is. subst (Readies who h (write_answer r)) (sym is.0)
        (asks_room h Cleared Cleared (s.lsn b.mid.store) who table key action (write_answer r) early_cleared passed_cleared (λ scn lost is. young scn lost (old_by r scn lost is))
        (subst (λ (z : State). MayAnswer z (s.lsn b.mid.store) (Write who table key action) (write_answer r)) b.clears.0 b.does.reply)
        (room_made h who seg cut.at cut.lacks))) b
      where
        old_by : (r : Result Wrote Refusal) (scn lost : ℕ) → write_answer r ≡ Refused (TooOld scn lost) → r ≡ Err (TooOld scn lost)
        old_by (Ok wrotes.Done) scn lost is = cc
        old_by (Ok (wrotes.Waits on)) scn lost is = cc
        old_by (Err why) scn lost is = let same : why ≡ TooOld scn lost = cc in ap (λ (w : Refusal). Err w) same
    second_ready mid new stands r young (inr (g, is, lacks)) =
        let goes2 = stands.goes (rest.stopped ∙ on) in
        let within : seg < length Cleared.books = (let counted = goes2.holds.blocks.tell.books_counted in let same = ap (λ (z : Rattle.rb_base.specs.declared.shape.Shape.Shape). z.segments) rest.shape in let there = segment_in seg cut.at in omega (arith, counted, same, there)) in
        let few = left_free Cleared mid stands (rest.stopped ∙ on) there lacks.none seg within (λ i o small at. cleared_living h seg i o small at) in
        let least = lacks.fewest.least seg within in
        let full = sixteen (owners (book_at Cleared.books g)) lacks.full in
        absurd (omega (arith, few, least, full))
