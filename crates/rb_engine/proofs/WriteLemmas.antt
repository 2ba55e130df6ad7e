-- What a write of a session does with the state, from the group of its step.
use Rattle.std.proofs.Common.{◌≡◌, ◌≢◌, ◌≤◌, ◌+◌, ◌/◌, ◌%◌, ◌&&◌, ℕ, Bool, true, false, not, nat_le, List, [], ◌∷◌, ◌++◌, length, map, set, if◌then◌else◌, ◌-◌, Option, Some, None, Result, Ok, Err, IfErr, IfOk, refl, sym, ◌∙◌, ap, subst, arith}
use Rattle.rb_base.specs.declared.sizes.TheConstants.{SLOTS}
use Rattle.rb_sessions.specs.declared.sessions.TheConstants.{SESSIONS}
use Rattle.rb_engine.proofs.CopyLemmas.{copies_same, copies_written}
use Rattle.std.proofs.lemmas.List.{length-set}
use Rattle.std.proofs.lemmas.Bool.Decides.{nat_tests}
use Rattle.rb_write.specs.Asks.{AreYoung}
use Rattle.rb_write.specs.Holding.{holder_in}
use Rattle.rb_write.specs.Refusals.{has_failed}
use Rattle.rb_write.specs.declared.ask.AttemptFault.{AttemptFault}
use Rattle.rb_write.specs.declared.ask.AttemptFault.TheVariants as faults
use Rattle.rb_base.specs.Groups.{Patch}
use Rattle.rb_base.specs.Logs.{Laws, Logs, group_of}
use Rattle.rb_base.specs.declared.ids.Xid.{Xid}
use Rattle.rb_base.specs.declared.shape.Shape.{Shape}
use Rattle.rb_base.specs.declared.store.Store.{Ghosts}
use Rattle.rb_engine.specs.Does.{Does, EngineView, Goes, IsInStep, Kept, Keeps, Knows, Stands}
use Rattle.rb_engine.specs.Retains.{Retains}
use Rattle.rb_engine.specs.Scanning.{OtherHolds}
use Rattle.rb_engine.proofs.DoesLemmas.{does_by, does_calm, does_fault, does_loaded, goes_logged, knows_on, remembers_logged, refused_none}
use Rattle.rb_engine.proofs.QueueLemmas.{all_asked, holds_queue, knows_same, one_asked, queue_waiting, survives_queue}
use Rattle.rb_engine.proofs.StepLemmas.{few_less, fit_at, fit_held, in_step_moved, in_step_same}
use Rattle.rb_engine.proofs.RetainsLemmas.{retains}
use Rattle.law_crash.proofs.Crashes.{survives_on}
use Rattle.law_crash.proofs.Owners.{OwnedBy, owned_by}
use Rattle.law_crash.proofs.StepsHeld.{holds_written, write_fault}
use Rattle.law_crash.specs.Crash.{Survives}
use Rattle.law_crash.specs.Made.{GivesOne, WriteMade}
use Rattle.rb_model.specs.Calls.{Action, Answer, Call, Done, Refused, MayAnswer, Waits, Write, early_tests, failed_in, first_of, is_disk_fault, none_applies, serial_tests, waited, write_tests, WritesAt, WritesIn}
use Rattle.rb_model.specs.Change.{Asked}
use Rattle.rb_model.specs.NextState.{AfterWait, change_in, queued, written}
use Rattle.rb_model.specs.Answers.{write_answer}
use Rattle.rb_model.specs.Queue.{Waiter, closes, is_queued, waiting}
use Rattle.rb_model.specs.declared.wrote.Wrote.{Wrote}
use Rattle.rb_model.specs.declared.wrote.Wrote.TheVariants as wrote
use Rattle.rb_model.specs.Book.{Owner}
use Rattle.rb_model.specs.State.{State, isolation_of, owner_at}
use Rattle.rb_model.specs.Tests.{holder}
use Rattle.rb_model.specs.declared.refusal.Refusal.{Refusal}
use Rattle.rb_model.specs.declared.refusal.Refusal.TheVariants.{Deadlock, DiskFault}
use Rattle.rb_model.proofs.Stops.{the_fault}
use Rattle.rb_sessions.specs.Kept.{KeptSession, holding, kept_at, with_kept, wrote}
use Rattle.law_blocks.specs.Standing.{env_of}
use Rattle.law_blocks.specs.States.{BlocksStand}
use Rattle.rb_steps.proofs.Firsts.{row_tests, split_tests}
use Rattle.rb_steps.proofs.HolderWords.{holder_is}
use Rattle.rb_steps.proofs.Somewhere.{in_segment}
use Rattle.rb_steps.proofs.Young.{young}
use Rattle.rb_steps.specs.Steps.{IsAbout, IsHolder, NotOthers, refusal_of}
use Rattle.law_write.specs.Verdict.{IsOwnId}
use Rattle.law_sessions.specs.Views.{Remembers}
use Rattle.law_sessions.proofs.Queues.{held_remembered, queue_remembered}
use Rattle.law_sessions.proofs.Written.{written_remembered}
use Rattle.rb_rollback.specs.Backs.{SameStore}
use Rattle.rb_rollback.proofs.Backs.{holds_logged, survives_same}

-- a fault of an attempt is one of the disk exactly where a call failed
pub failed_is : (fault : AttemptFault) → is_disk_fault (refusal_of fault) ≡ has_failed {T = Xid} (Err fault)
failed_is faults.Failed = refl
failed_is faults.Duplicate = refl
failed_is faults.NotFound = refl
failed_is faults.BlockFull = refl
failed_is faults.SlotsFull = refl
failed_is (faults.RollbackFull seg since) = refl
failed_is (faults.NoSlot seg) = refl
failed_is faults.WornOut = refl

pub the_failure : (fault : AttemptFault) → is_disk_fault (refusal_of fault) ≡ true → refusal_of fault ≡ DiskFault
the_failure fault is = the_fault (refusal_of fault) is

pub same_some : (u v : ℕ) → ◌≡◌ {A = Option ℕ} (Some u) (Some v) → u ≡ v
same_some u v is = cc

pub few_group : (patches : List Patch) → length (group_of patches) ≤ 1
few_group [] = omega arith
few_group (p ∷ patches) = omega arith

-- the session's id in the table is that of its slot
pub own_id : {S : Type 0} (s : Ghosts S) (h : State) (old : EngineView S) (goes : Goes s h old) (who : ℕ) → (1 ≤ who) × (who ≤ SESSIONS) → IsOwnId h (env_of h.shape (s.blocks old.store)) who (kept_at old.memory.sessions who).own
own_id s h old goes who there = (goes.remembers.each who there.0 there.1).id

module _ {S : Type 0} (s : Ghosts S) (told : s.tells) (laws : Laws s) (h : State) (old : EngineView S) (st : Stands s h old) (going : h.stopped ≡ false) (who table key : ℕ) (action : Action)
    (there : (1 ≤ who) × (who ≤ SESSIONS)) (early : none_applies (early_tests h (Write who table key action)) ≡ true) where
  abbrev pub goes : Goes s h old
  goes = st.goes going

  pub about : IsAbout h goes.xids who (kept_at old.memory.sessions who).own (s.blocks old.store)
  about = record { stand = goes.holds.blocks; session = there.0; id = own_id s h old goes who there }

  -- what it gives up is old enough
  kept_undo : {blocks now : List (List ℕ)} (x : Xid) → WriteMade h goes.xids who table key action x blocks now → Keeps h (Write who table key action) Done (written h who x.seg x.slot (change_in h x.seg table key action))
  kept_undo {now = now} x made u t k a is done =
      let after : State = written h who x.seg x.slot (change_in h x.seg table key action) in
      let id : OwnedBy after now who x = owned_by after goes.xids now who x made.stand made.id in
      let one : who ≡ u = cc in
      subst (λ (n : ℕ). Retains h n after) one (retains h goes.xids (s.blocks old.store) goes.holds.blocks who x.seg x.slot made.in_slot id.there id.few after (change_in h x.seg table key action) refl)

  -- by that log number
  pub answered : (g : ℕ) → WritesAt h who g → (r : Answer) → first_of (write_tests h (s.lsn old.store) g who table key action) Done ≡ r
      → MayAnswer h (s.lsn old.store) (Write who table key action) r
  answered g within r is = MayAnswer.later (write_tests h (s.lsn old.store) g who table key action) early (g, within, refl) (sym is)

  module _ (new : EngineView S) (same : SameStore s old.store new.store) where
    pub step_done : (x : Xid) → GivesOne s old.store new.store true (λ now. WriteMade h goes.xids who table key action x (s.blocks old.store) now)
        → new.memory.sessions ≡ with_kept old.memory.sessions who (wrote x (kept_at old.memory.sessions who)) → new.memory.waits ≡ old.memory.waits → new.memory.scn ≡ old.memory.scn → new.memory.stopped ≡ old.memory.stopped → new.memory.copies ≡ old.memory.copies → new.memory.dead ≡ old.memory.dead → (1 ≤ table) × (table ≤ h.shape.tables) → Does s h (Write who table key action) Done old new
    step_done x one table_is waits scn stopped copies dead in_tables =
        let after : State = written h who x.seg x.slot (change_in h x.seg table key action) in
        let high : who ≤ length h.sessions = let n = st.knows.sixteen in omega (arith, n, there.1) in
        let single = one.one refl in
        let blocks : s.blocks new.store ≡ _ = one.logs.blocks told refl in
        let made : WriteMade h goes.xids who table key action x (s.blocks old.store) (s.blocks new.store) = subst (λ b. WriteMade h goes.xids who table key action x (s.blocks old.store) b) (sym blocks) (one.made (omega (arith, single))) in
        let all : (fault : _) → _ = λ fault. holds_written s told laws h goes.xids who old.store new.store table key action x st.shape goes.holds fault one in
        let granted : first_of (write_tests h (s.lsn old.store) x.seg who table key action) Done ≡ Done = subst (λ (n : ℕ). first_of (write_tests h n x.seg who table key action) Done ≡ Done) (sym goes.holds.logged) made.granted in
        let knows = written_remembered h goes.xids (s.blocks old.store) (s.blocks new.store) who x.seg x.slot (change_in h x.seg table key action) x goes.holds.blocks there.0 high made.in_slot made.stand made.id made.ids old.memory.sessions there.1 goes.remembers in
        does_calm s h after (Write who table key action) Done old new 1 st
        (answered x.seg (in_segment h who x.seg x.slot made.in_slot) Done granted) (x.seg, x.slot, made.in_slot, refl) (λ _. kept_undo x made)
        (knows_on h after old.memory new.memory st.knows (length-set h.sessions _ _) refl refl stopped scn (λ on. knows_same h after old.memory new.memory refl refl waits (ap (λ (l : List KeptSession). map (λ k. k.asked) l) table_is ∙ all_asked old.memory.sessions (who - 1) (wrote x (kept_at old.memory.sessions who)) refl) (st.knows.queue on))) same
        (λ _. (
          refl,
          (let n = one.logs.number refl in omega (arith, n, single)),
          record {
            xids = goes.xids;
            holds = (all None).0;
            remembers = subst (Remembers after goes.xids (env_of h.shape (s.blocks new.store))) (sym table_is) knows;
            copies = copies_written h after goes.xids who table key action x (s.blocks old.store) (s.blocks new.store) old.memory.copies new.memory.copies refl refl goes.holds.blocks in_tables made copies goes.copies;
          },
        ))
        dead (λ k is. cc)
        (λ before _ keeps. (all before).1 keeps)

    -- a call of the store failed
    pub step_failed : (x : Xid) → GivesOne s old.store new.store false (λ now. WriteMade h goes.xids who table key action x (s.blocks old.store) now)
        → new.memory ≡ record old.memory { stopped = true } → Does s h (Write who table key action) (Refused DiskFault) old new
    step_failed x one stops = does_fault s told laws h (Write who table key action) old new st going early stops same
        (λ keeps. write_fault s told laws h goes.xids who old.store new.store table key action x st.shape goes.holds one keeps)

    -- or the write was refused
    pub step_refused : (why : Refusal) → is_disk_fault why ≡ false → (g : ℕ) → WritesAt h who g → first_of (write_tests h (s.lsn old.store) g who table key action) Done ≡ Refused why
        → new.memory ≡ old.memory → Logs s old.store new.store [] true → Does s h (Write who table key action) (Refused why) old new
    step_refused why other g within is memory logs =
        does_loaded s told laws h (Write who table key action) (Refused why) old new st (answered g within (Refused why) is) (rw other refl) (refused_none h (Write who table key action) why) (λ s t k a is done. cc) memory (λ _. logs) same

    module _ (u : ℕ) (held : OtherHolds h who table key (Some u)) (place : (g : ℕ) × WritesAt h who g) (mid : Kept) (before : mid ≡ old.memory) (logs : Logs s old.store new.store [] true) where
      queue_is : mid.waits ≡ h.queue
      queue_is = ap (λ (k : Kept). k.waits) before ∙ (st.knows.queue going).waits

      first_waited : (b : Bool) → closes mid.waits who u ≡ b → (r : Answer) → (if b then Refused (Deadlock u) else Waits u) ≡ r → first_of (write_tests h (s.lsn old.store) place.0 who table key action) Done ≡ r
      first_waited b ring r is =
          ap (λ (l : List (Bool × Answer)). first_of l Done) (split_tests h (s.lsn old.store) place.0 0 who table key action)
          ∙ of_holder (holder h table key) held.0 (serial_tests h.commits (isolation_of h who) table key ++ row_tests h (s.lsn old.store) place.0 0 who table key action)
        where
          differ : not (nat_le u who && nat_le who u) ≡ true
          differ = let ne = held.1 in grind (arith, nat_tests)

          by : (b : Bool) → closes h.queue who u ≡ b → (if b then Refused (Deadlock u) else Waits u) ≡ r → (rest : List (Bool × Answer)) → first_of (waited h.queue who (Some u) ++ rest) Done ≡ r
          by true ring is rest = rw (differ, ring) is
          by false ring is rest = rw (differ, ring) is

          of_holder : (o : Option ℕ) → o ≡ Some u → (rest : List (Bool × Answer)) → first_of (waited h.queue who o ++ rest) Done ≡ r
          of_holder o at rest = subst (λ (p : Option ℕ). first_of (waited h.queue who p ++ rest) Done ≡ r) (sym at) (by b (ap (λ (l : List Waiter). closes l who u) (sym queue_is) ∙ ring) is rest)

      -- or another session holds the key, and is waited for
      pub step_waits : closes mid.waits who u ≡ false → (asked : Asked) → asked ≡ record { table = table; key = key; action = action }
          → new.memory ≡ record mid { sessions = with_kept mid.sessions who (holding asked (kept_at mid.sessions who)); waits = waiting who u mid.waits } → Does s h (Write who table key action) (Waits u) old new
      step_waits free asked is memory =
          let now : State = queued h who asked u in
          let after : AfterWait h (Write who table key action) u now = ap (λ (a : Asked). queued h who a u) is in
          let knows = st.knows.queue going in
          let sessions : mid.sessions ≡ old.memory.sessions = ap (λ (k : Kept). k.sessions) before in
          let table_is : new.memory.sessions ≡ with_kept old.memory.sessions who (holding asked (kept_at old.memory.sessions who)) = ap (λ (k : Kept). k.sessions) memory ∙ ap (λ (l : List KeptSession). with_kept l who (holding asked (kept_at l who))) sessions in
          does_by s h now (Write who table key action) (Waits u) old new 0 st
          (answered place.0 place.1 (Waits u) (first_waited false free (Waits u) refl)) after (λ _ s t k a is done. cc)
          (knows_on h now old.memory new.memory st.knows refl refl refl (ap (λ (k : Kept). k.stopped) memory ∙ ap (λ (k : Kept). k.stopped) before) (ap (λ (k : Kept). k.scn) memory ∙ ap (λ (k : Kept). k.scn) before) (λ _. record {
            waits = ap (λ (k : Kept). k.waits) memory ∙ ap (waiting who u) queue_is;
            asked = ap (λ (l : List KeptSession). map (λ k. k.asked) l) table_is ∙ (one_asked old.memory.sessions (who - 1) (holding asked (kept_at old.memory.sessions who)) ∙ ap (λ (l : List (Option Asked)). set l (who - 1) (Some asked)) knows.asked);
          })) same
          (λ _. (
            refl,
            logs.number refl,
            record {
              xids = goes.xids;
              holds = holds_queue h now.queue now.asked s goes.xids new.store (holds_logged s told laws h goes.xids old.store new.store goes.holds logs);
              remembers = subst (Remembers now goes.xids (env_of h.shape (s.blocks new.store))) (sym table_is)
                  (queue_remembered h now.queue now.asked h.safe goes.xids (env_of h.shape (s.blocks new.store)) (with_kept old.memory.sessions who (holding asked (kept_at old.memory.sessions who)))
                  (held_remembered h goes.xids (env_of h.shape (s.blocks new.store)) old.memory.sessions who asked there.0 there.1 (remembers_logged s told laws h goes.xids old.memory.sessions old.store new.store logs goes.remembers)));
              copies = copies_same h now goes.xids (s.blocks old.store) (s.blocks new.store) old.memory.copies new.memory.copies refl refl (logs.blocks told refl) (ap (λ (k : Kept). k.copies) memory ∙ ap (λ (k : Kept). k.copies) before) goes.copies;
            },
          ))
          (λ on. ap (λ (k : Kept). k.dead) memory ∙ (ap (λ (k : Kept). k.dead) before ∙ st.owes going))
          (λ fault _ keeps. survives_queue h now.queue now.asked s (s.slots old.store) fault h old.store new.store (survives_same s told laws h h goes.xids old.store new.store true st.shape refl refl refl refl goes.holds logs keeps))

      -- or is not, as they would wait in a ring
      pub step_ring : closes mid.waits who u ≡ true → new.memory ≡ mid → Does s h (Write who table key action) (Refused (Deadlock u)) old new
      step_ring ring memory =
          does_loaded s told laws h (Write who table key action) (Refused (Deadlock u)) old new st
          (answered place.0 place.1 (Refused (Deadlock u)) (first_waited true ring (Refused (Deadlock u)) refl)) refl refl (λ s t k a is done. cc) (memory ∙ before) (λ _. logs) same

      pub step_waited : (r : Result Wrote Refusal) (asked : Asked) → asked ≡ record { table = table; key = key; action = action }
          → IfErr r (λ why. (why ≡ Deadlock u) × (closes mid.waits who u ≡ true) × (new.memory ≡ mid))
          → IfOk r (λ w. (w ≡ wrote.Waits u) × (closes mid.waits who u ≡ false) × (new.memory ≡ record mid { sessions = with_kept mid.sessions who (holding asked (kept_at mid.sessions who)); waits = waiting who u mid.waits }))
          → Does s h (Write who table key action) (write_answer r) old new
      step_waited (Ok w) asked is ring waits = subst (λ (x : Wrote). Does s h (Write who table key action) (write_answer (Ok x)) old new) (sym waits.0) (step_waits waits.1 asked is waits.2)
      step_waited (Err why) asked is ring waits = subst (λ (x : Refusal). Does s h (Write who table key action) (Refused x) old new) (sym ring.0) (step_ring ring.1 ring.2)

-- The engine stays in order as a session begins to wait, or is refused.
module _ {S : Type 0} (s : Ghosts S) (kept now : Kept) (old new : S) (is : IsInStep s kept old) (going : kept.stopped ≡ false) (logs : Logs s old new [] true) (who u : ℕ) (there : (1 ≤ who) × (who ≤ SESSIONS)) (free : is_queued who kept.waits ≡ false)
    (asked : Asked) where
  waits_in_step : now ≡ record kept { sessions = with_kept kept.sessions who (holding asked (kept_at kept.sessions who)); waits = waiting who u kept.waits } → IsInStep s now new
  waits_in_step memory =
      let k = holding asked (kept_at kept.sessions who) in
      let fit = fit_held (s.shape_of old) asked (kept_at kept.sessions who) (fit_at s kept old is who) in
      let moved : now.sessions ≡ with_kept kept.sessions who k = ap (λ (z : Kept). z.sessions) memory in
      in_step_moved s kept now old new is logs.same_shape (ap (λ (z : Kept). z.dead) memory) who there k fit moved
      (queue_waiting kept now who u asked is.queue there is.counted free (ap (λ (z : Kept). z.waits) memory) moved)
      (λ _. (logs.failed, few_less s kept now old new is logs.same_shape (ap (λ (z : Kept). z.dead) memory) who there k fit moved going (let n = logs.number refl in omega (arith, n))))

  same_in_step : now ≡ kept → IsInStep s now new
  same_in_step memory = in_step_same s kept now old new is logs.same_shape (ap (λ (z : Kept). z.dead) memory) (ap (λ (z : Kept). z.sessions) memory) (ap (λ (z : Kept). z.waits) memory)
      (λ _. (logs.failed, (let n = logs.number refl in omega (arith, n)), going))

  pub waited_in_step : (r : Result Wrote Refusal) → IfErr r (λ why. (why ≡ Deadlock u) × (closes kept.waits who u ≡ true) × (now ≡ kept))
      → IfOk r (λ w. (w ≡ wrote.Waits u) × (closes kept.waits who u ≡ false) × (now ≡ record kept { sessions = with_kept kept.sessions who (holding asked (kept_at kept.sessions who)); waits = waiting who u kept.waits }))
      → IsInStep s now new
  waited_in_step (Ok w) ring waits = waits_in_step waits.2
  waited_in_step (Err why) ring waits = same_in_step ring.2

-- Some session in the table has the id of the transaction that holds a key.
module _ (h : State) (xids : List Xid) (blocks : List (List ℕ)) (sessions : List KeptSession) (knows : Remembers h xids (env_of h.shape blocks) sessions) (table key : ℕ) (x : Xid) (held : IsHolder h (env_of h.shape blocks) table key (Some x)) where
  pub holder_there : BlocksStand h xids blocks → ((u : ℕ) → holder h table key ≡ Some u → u ≤ SESSIONS) → ((u : ℕ) → 1 ≤ u → u ≤ SESSIONS → (kept_at sessions u).own ≢ Some x) → ⊥
  holder_there stand living none =
      let range = stand.tell.owner_there held.0 held.1 held.3 in
      let up : held.0 ≤ SESSIONS = living held.0 held.2 in
      none held.0 range.0 up ((knows.each held.0 range.0 up).id.owns held.1 held.3 ∙ ap (λ (y : Xid). Some y) (sym held.4))

  -- and no other one has it
  pub holder_only : (u : ℕ) → 1 ≤ u → u ≤ SESSIONS → (kept_at sessions u).own ≡ Some x → held.0 ≡ u
  holder_only u low high own =
      let mine = (knows.each u low high).id.owned x own in
      let a : x.seg ≡ held.1 / SLOTS = ap (λ (y : Xid). y.seg) held.4 in
      let b : x.slot ≡ held.1 % SLOTS = ap (λ (y : Xid). y.slot) held.4 in
      let d : x.seg ≡ mine.0 / SLOTS = ap (λ (y : Xid). y.seg) mine.2 in
      let e : x.slot ≡ mine.0 % SLOTS = ap (λ (y : Xid). y.slot) mine.2 in
      let slot : held.1 ≡ mine.0 = omega (arith, a, b, d, e) in
      let one : held.3.owner ≡ mine.1.owner = same_owner held.3.owner mine.1.owner (sym held.3.at ∙ (ap (owner_at h) slot ∙ mine.1.at)) in
      sym held.3.session ∙ (ap (λ (o : Owner). o.session) one ∙ mine.1.session)
    where
      same_owner : (o p : Owner) → ◌≡◌ {A = Option Owner} (Some o) (Some p) → o ≡ p
      same_owner o p is = cc

-- Calls that gave no group, and what a call does after them.
module _ {S : Type 0} (s : Ghosts S) (told : s.tells) (laws : Laws s) (h : State) (old mid : EngineView S) (st : Stands s h old) (memory : mid.memory ≡ old.memory) (logs : Logs s old.store mid.store [] true) where
  -- the engine stands for the same state
  pub stands_loaded : Stands s h mid
  stands_loaded = record {
    told = told;
    shape = logs.same_shape ∙ st.shape;
    knows = subst (Knows h) (sym memory) st.knows;
    goes = λ going. goes_logged s told laws h old mid (st.goes going) logs (ap (λ (k : Kept). k.sessions) memory) (ap (λ (k : Kept). k.copies) memory);
    owes = λ going. ap (λ (k : Kept). k.dead) memory ∙ st.owes going;
  }

  -- the call does what it does without them
  pub does_after : (call : Call) (answer : Answer) (new : EngineView S) → Does s h call answer mid new → Does s h call answer old new
  does_after call answer new does =
      let number : s.lsn mid.store ≡ s.lsn old.store = let n = logs.number refl in omega (arith, n) in record {
        reply = subst (λ (n : ℕ). MayAnswer h n call answer) number does.reply;
        now = does.now;
        after = does.after;
        keeps = does.keeps;
        stands = does.stands;
        groups = does.groups;
        grows = does.grows;
        few = does.few;
        lsn = λ going. does.lsn going ∙ ap (λ (n : ℕ). n + does.groups) number;
        survives = λ before going keeps. survives_on s (s.slots old.store) {first = None} {fault = failed_in call answer before} h h does.now old.store mid.store new.store going
            (survives_same s told laws {fault = None} h h (st.goes going).xids old.store mid.store true st.shape refl refl refl refl (st.goes going).holds logs keeps)
            (subst (λ (k : Option ℕ). Survives s k (failed_in call answer before) h does.now mid.store new.store) logs.same_slots (does.survives before going keeps));
      }

-- Who holds a key by its block is who does in the machine.
pub holder_found : {S : Type 0} (s : Ghosts S) (store : S) (h : State) (xids : List Xid) (table key : ℕ) (o : Option Xid) → 1 ≤ table → table ≤ (s.shape_of store).tables → (AreYoung (s.shape_of store) (s.blocks store) → o ≡ holder_in (s.shape_of store) (s.blocks store) table key)
    → BlocksStand h xids (s.blocks store) → s.shape_of store ≡ h.shape → IsHolder h (env_of h.shape (s.blocks store)) table key o
holder_found s store h xids table key o first last is stand shape =
    let blocks = s.blocks store in
    let are_young : AreYoung (s.shape_of store) blocks = subst (λ (k : Shape). AreYoung k blocks) (sym shape) (young h xids blocks stand) in
    let up : table ≤ h.shape.tables = subst (λ (k : Shape). table ≤ k.tables) shape last in
    let at = is are_young ∙ ap (λ (k : Shape). holder_in k blocks table key) shape in
    subst (λ (x : Option Xid). IsHolder h (env_of h.shape blocks) table key x) (sym at) (holder_is h xids blocks stand table key first up)

pub none_holds : (h : State) (who table key : ℕ) → holder h table key ≡ None → NotOthers h who table key
none_holds h who table key none u is = let clash : None ≡ Some u = sym none ∙ is in absurd cc

pub own_holds : (h : State) (who table key u : ℕ) → holder h table key ≡ Some u → u ≡ who → NotOthers h who table key
own_holds h who table key u held mine v is = let same : u ≡ v = same_some u v (sym held ∙ is) in sym same ∙ mine
