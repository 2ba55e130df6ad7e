-- Why a call is too old, what the test of a serializable write finds, and what the write does then.
use Rattle.std.proofs.Common.{◌≡◌, ◌≢◌, ◌≤◌, ◌++◌, ◌&&◌, ℕ, Bool, true, false, not, nat_le, List, [], Option, Some, None, Result, Ok, Err, IfErr, IfOk, OnOk, refl, sym, ◌∙◌, ap, subst, arith}
use Rattle.std.proofs.lemmas.Bool.{and_from, le-leb}
use Rattle.rb_sessions.specs.declared.sessions.TheConstants.{SESSIONS}
use Rattle.rb_write.specs.declared.ask.AttemptFault.{AttemptFault}
use Rattle.rb_write.specs.declared.ask.AttemptFault.TheVariants as attempts
use Rattle.rb_base.specs.Blocks.{home_block}
use Rattle.rb_base.specs.Logs.{Laws, Logs}
use Rattle.rb_base.specs.declared.ids.Xid.{Xid}
use Rattle.rb_base.specs.declared.store.Store.{Ghosts}
use Rattle.rb_cr.specs.Builds.{IsHomeOld, IsHomeRead}
use Rattle.rb_cr.specs.Faults.{Because}
use Rattle.rb_cr.specs.declared.faults.CrFault.{CrFault}
use Rattle.rb_cr.specs.declared.faults.CrFault.TheVariants as faults
use Rattle.rb_cr.specs.declared.scratch.Snapshot.{Snapshot}
use Rattle.rb_engine.specs.Checks.{NotOld}
use Rattle.rb_engine.specs.Does.{Does, EngineView, Goes, Kept, Stands}
use Rattle.rb_engine.specs.Lateness.{IsKeyWorn, IsRefusedLate, IsTimely, IsWriteWorn, LateAs, WriteNeedsLost}
use Rattle.rb_engine.proofs.DoesLemmas.{does_fault, does_loaded, fault_survives}
use Rattle.rb_engine.proofs.WriteLemmas.{answered}
use Rattle.rb_model.specs.Book.{book_at}
use Rattle.rb_model.specs.Calls.{Action, Answer, Call, Done, ReadsAt, Refused, MayAnswer, Write, WritesAt, early_tests, first_of, is_disk_fault, none_applies, refused_by, serial_tests, waited, write_tests}
use Rattle.rb_model.specs.Late.{late}
use Rattle.rb_model.specs.Queue.{Waiter}
use Rattle.rb_model.specs.Rows.{last_scn}
use Rattle.rb_model.specs.State.{State, isolation_of}
use Rattle.rb_model.specs.Tests.{holder}
use Rattle.rb_model.specs.declared.mode.Isolation.{Isolation}
use Rattle.rb_model.specs.declared.mode.Isolation.TheVariants as isolation
use Rattle.rb_model.specs.declared.refusal.Refusal.{Refusal}
use Rattle.rb_model.specs.declared.refusal.Refusal.TheVariants as refusals
use Rattle.rb_model.specs.declared.wrote.Wrote.{Wrote}
use Rattle.law_read.specs.Late.{late_above}
use Rattle.law_read.specs.Reading.{History}
use Rattle.rb_sessions.specs.Kept.{KeptSession, kept_at}
use Rattle.law_blocks.specs.Standing.{env_of}
use Rattle.law_blocks.specs.States.{BlocksStand}
use Rattle.rb_steps.proofs.Firsts.{first_serial, row_tests}
use Rattle.rb_steps.specs.Steps.{NotLate, NotOthers, refusal_of}
use Rattle.law_sessions.specs.Views.{Remembers, history}
use Rattle.law_sessions.proofs.Late as views
use Rattle.law_sessions.proofs.Readable.{write_read}
use Rattle.law_sessions.proofs.Lost.{lost_is}
use Rattle.rb_rollback.specs.Backs.{SameStore}

-- A call that reads at a snapshot may be too old where a segment lost something above it.
pub old_reply : (h : State) (xids : List Xid) (blocks : List (List ℕ)) → BlocksStand h xids blocks → (logged : ℕ) (call : Call) (why : ℕ → Type 0) (n scn lost : ℕ) → none_applies (early_tests h call) ≡ true → ReadsAt h call n
    → Because (env_of h.shape blocks) n why (faults.TooOld scn lost) → MayAnswer h logged call (Refused (refusals.TooOld scn lost))
old_reply h xids blocks stand logged call why n scn lost early reads because =
    let seg = because.2.0 in
    let book = lost_is h xids blocks seg n stand (let b = because.1 in let d = because.2.1 in omega (arith, b, d)) in
    let given_up : (book_at h.books seg).lost ≡ lost = book.1 ∙ sym because.2.1 in
    MayAnswer.old early (record {
      snapshot = n;
      reads = reads;
      seg = seg;
      there = book.0;
      above = (let b = because.1 in omega (arith, b, given_up));
      answer = too_old scn lost n (book_at h.books seg).lost because.0 (sym given_up);
    })
  where
    too_old : (a b x y : ℕ) → a ≡ x → b ≡ y → Refused (refusals.TooOld a b) ≡ Refused (refusals.TooOld x y)
    too_old a b x y e f = rw (e, f) refl

-- What the walk back over the key's home finds is what the machine says of the row.
module _ (h : State) (xids : List Xid) (blocks : List (List ℕ)) (sessions : List KeptSession) (stand : BlocksStand h xids blocks) (knows : Remembers h xids (env_of h.shape blocks) sessions) (s table key : ℕ) (there : (1 ≤ s) × (s ≤ SESSIONS)) (in_tables : (1 ≤ table) × (table ≤ h.shape.tables)) where
  its : isolation_of h s ≡ (kept_at sessions s).isolation
  its = sym (knows.each s there.0 there.1).isolation

  -- one that isn't serializable is never late
  pub timely_else : ((n : ℕ) → (kept_at sessions s).isolation ≢ isolation.Serializable n) → NotLate h s table key
  timely_else other = by (isolation_of h s) refl
    where
      by : (i : Isolation) → isolation_of h s ≡ i → serial_tests h.commits i table key ≡ []
      by isolation.ReadCommitted is = refl
      by (isolation.ReadOnly n) is = refl
      by (isolation.Serializable n) is = absurd (other n (sym its ∙ is))

  module _ (n : ℕ) (serial : (kept_at sessions s).isolation ≡ isolation.Serializable n) where
    abbrev pub Snap : Snapshot
    Snap = record { scn = n; own = None; upto = 0 }

    abbrev pub Home : ℕ
    Home = home_block h.shape table key

    abbrev pub Past : History
    Past = history h xids blocks Home None

    pub is_serial : isolation_of h s ≡ isolation.Serializable n
    is_serial = its ∙ serial

    within : (h.commits.base ≤ n) × (n ≤ last_scn h.commits)
    within = let snapshot = (knows.each s there.0 there.1).snapshot in subst (λ (i : Isolation). (h.commits.base ≤ Rattle.rb_model.specs.Isolation.snapshot_at (last_scn h.commits) i) × (Rattle.rb_model.specs.Isolation.snapshot_at (last_scn h.commits) i ≤ last_scn h.commits)) serial snapshot

    pub reads : IsHomeRead h.shape blocks Home Past Snap
    reads = write_read h xids blocks stand table key n in_tables.0 in_tables.1 within.0

    late_is : late_above n key Past.list ≡ late h.commits n table key
    late_is = views.late_is h xids blocks table key n stand in_tables.0 within.0

    pub timely : (found : Result (Option ℕ) CrFault) → IfOk found (λ by. by ≡ late_above n key Past.list) → IfErr found (IsHomeOld h.shape blocks Home Past Snap)
        → (result : Result (Unit {0}) Refusal) → OnOk result (found ≡ Ok None) → IfErr result (LateAs n found) → IsTimely h xids blocks s table key result
    timely found is old (Ok done) none why = not_late found is none
      where
        not_late : (found : Result (Option ℕ) CrFault) → IfOk found (λ by. by ≡ late_above n key Past.list) → found ≡ Ok None → NotLate h s table key
        not_late (Ok by) is none =
            let clean : late h.commits n table key ≡ None = sym late_is ∙ (sym is ∙ (let e : by ≡ None = cc in e)) in
            ap (λ (i : Isolation). serial_tests h.commits i table key) is_serial ∙ ap (refused_by n) clean
        not_late (Err fault) is none = (let clash : Err fault ≡ Ok None = none in absurd cc)
    timely (Ok None) is old (Err why) none late = absurd late
    timely (Ok (Some by)) is old (Err why) none late = subst (IsRefusedLate h xids blocks s table key) (sym late) (is_serial, sym late_is ∙ sym is)
    timely (Err (faults.TooOld scn lost)) is old (Err why) none late =
        subst (IsRefusedLate h xids blocks s table key) (sym late) (is_at scn old.0, subst (λ (m : ℕ). IsKeyWorn h xids blocks table key m (faults.TooOld scn lost)) (sym old.0) old)
      where
        is_at : (scn : ℕ) → scn ≡ n → isolation_of h s ≡ isolation.Serializable scn
        is_at scn e = is_serial ∙ ap (λ (m : ℕ). isolation.Serializable m) (sym e)
    timely (Err faults.Failed) is old (Err why) none late = subst (IsRefusedLate h xids blocks s table key) (sym late) cc

-- nobody is waited for where no other session holds the key
none_waited : (queue : List Waiter) (s : ℕ) (o : Option ℕ) → ((u : ℕ) → o ≡ Some u → u ≡ s) → none_applies (waited queue s o) ≡ true
none_waited queue s None own = refl
none_waited queue s (Some u) own =
    let same : u ≡ s = own u refl in
    let test : (nat_le u s && nat_le s u) ≡ true = and_from (nat_le u s) (nat_le s u) (le-leb u s (omega (arith, same))) (le-leb s u (omega (arith, same))) in
    rw test refl

-- A write that comes too late for its transaction does nothing.
module _ {S : Type 0} (s : Ghosts S) (told : s.tells) (laws : Laws s) (h : State) (old : EngineView S) (st : Stands s h old) (going : h.stopped ≡ false) (who table key : ℕ) (action : Action)
    (there : (1 ≤ who) × (who ≤ SESSIONS)) (early : none_applies (early_tests h (Write who table key action)) ≡ true) (others : NotOthers h who table key) (place : (g : ℕ) × WritesAt h who g)
    (new : EngineView S) (same : SameStore s old.store new.store) where
  abbrev pub goes : Goes s h old
  goes = st.goes going

  first_late : (n by : ℕ) → isolation_of h who ≡ isolation.Serializable n → late h.commits n table key ≡ Some by
      → first_of (write_tests h (s.lsn old.store) place.0 who table key action) Done ≡ Refused (refusals.CantSerialize n by)
  first_late n by serial is =
      first_serial h (s.lsn old.store) place.0 0 who table key action others
      ∙ ap (λ (l : List (Bool × Answer)). first_of (l ++ row_tests h (s.lsn old.store) place.0 0 who table key action) Done) (ap (λ (i : Isolation). serial_tests h.commits i table key) serial ∙ ap (refused_by n) is)

  step_serial : (why : Refusal) → is_disk_fault why ≡ false → IsRefusedLate h goes.xids (s.blocks old.store) who table key why → new.memory ≡ old.memory → Logs s old.store new.store [] true → Does s h (Write who table key action) (Refused why) old new
  step_serial (refusals.CantSerialize n by) other late memory logs =
      does_loaded s told laws h (Write who table key action) (Refused (refusals.CantSerialize n by)) old new st
      (answered s told laws h old st going who table key action there early place.0 place.1 (Refused (refusals.CantSerialize n by)) (first_late n by late.0 late.1)) refl refl (λ s t k a is done. cc) memory (λ _. logs) same
  step_serial (refusals.TooOld n lost) other late memory logs =
      does_loaded s told laws h (Write who table key action) (Refused (refusals.TooOld n lost)) old new st
      (old_reply h goes.xids (s.blocks old.store) goes.holds.blocks (s.lsn old.store) (Write who table key action) _ n n lost early (late.0, none_waited h.queue who (holder h table key) others) late.1)
      refl refl (λ s t k a is done. cc) memory (λ _. logs) same
  step_serial refusals.DiskFault other late memory logs = (let clash : true ≡ false = other in absurd cc)
  step_serial _ other late memory logs = absurd late

  step_unread : new.memory ≡ record old.memory { stopped = true } → Logs s old.store new.store [] false → Does s h (Write who table key action) (Refused refusals.DiskFault) old new
  step_unread stops logs = does_fault s told laws h (Write who table key action) old new st going early stops same (fault_survives s told laws h goes.xids old.store new.store st.shape goes.holds logs)

  pub step_late : (why : Refusal) → IsRefusedLate h goes.xids (s.blocks old.store) who table key why → (is_disk_fault why ≡ true → new.memory ≡ record old.memory { stopped = true }) → (is_disk_fault why ≡ false → new.memory ≡ old.memory)
      → Logs s old.store new.store [] (not (is_disk_fault why)) → Does s h (Write who table key action) (Refused why) old new
  step_late (refusals.CantSerialize n by) late stops stays logs = step_serial (refusals.CantSerialize n by) refl late (stays refl) logs
  step_late (refusals.TooOld n lost) late stops stays logs = step_serial (refusals.TooOld n lost) refl late (stays refl) logs
  step_late refusals.DiskFault late stops stays logs = step_unread (stops refl) logs
  step_late _ late stops stays logs = absurd late

-- the store's blocks are those from before it was loaded from
pub needs_lost_before : {S : Type 0} (s : Ghosts S) (told : s.tells) (h : State) (old mid : S) (memory : Kept) (who table key scn lost : ℕ) → Logs s old mid [] true
    → WriteNeedsLost s h (record { memory = memory; store = mid }) who table key scn lost → WriteNeedsLost s h (record { memory = memory; store = old }) who table key scn lost
needs_lost_before s told h old mid memory who table key scn lost logs needs = (needs.0, subst (λ b. IsWriteWorn h needs.0 b who table key scn lost) (logs.blocks told refl) needs.1)

-- what the home, the segment or the log refuses isn't too old
pub attempt_not_old : (fault : AttemptFault) (scn lost : ℕ) → refusal_of fault ≡ refusals.TooOld scn lost → ⊥
attempt_not_old attempts.Failed scn lost is = cc
attempt_not_old attempts.Duplicate scn lost is = cc
attempt_not_old attempts.NotFound scn lost is = cc
attempt_not_old attempts.BlockFull scn lost is = cc
attempt_not_old attempts.SlotsFull scn lost is = cc
attempt_not_old (attempts.RollbackFull seg since) scn lost is = cc
attempt_not_old (attempts.NoSlot seg) scn lost is = cc
attempt_not_old attempts.WornOut scn lost is = cc

pub young_not_old : (r : Result Wrote Refusal) → IfErr r NotOld → (scn lost : ℕ) → r ≡ Err (refusals.TooOld scn lost) → ⊥
young_not_old (Ok w) young scn lost is = (let clash : Ok w ≡ Err (refusals.TooOld scn lost) = is in cc)
young_not_old (Err why) young scn lost is = young scn lost (let same : why ≡ refusals.TooOld scn lost = cc in same)

pub same_resumed : (w u : ℕ) (a b : Result Wrote Refusal) → ◌≡◌ {A = Option (ℕ × Result Wrote Refusal)} (Some (w, a)) (Some (u, b)) → (w ≡ u) × (a ≡ b)
same_resumed w u a b is = let same : ◌≡◌ {A = ℕ × Result Wrote Refusal} (w, a) (u, b) = cc in (ap (λ (p : ℕ × Result Wrote Refusal). p.0) same, ap (λ (p : ℕ × Result Wrote Refusal). p.1) same)
