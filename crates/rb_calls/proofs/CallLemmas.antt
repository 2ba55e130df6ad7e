-- What one call and one write that is tried again do over an engine, as the engine tells it.
use Rattle.std.proofs.Common.{◌≡◌, ◌≢◌, ◌∙◌, ⊎_elim, IfErr, refl, sym, ap, subst, arith, ℕ, zero, suc, ◌+◌, ◌-◌, ◌<◌, ◌≤◌, Bool, true, false, List, Result, Ok, Err, Option, None, Some}
use Rattle.std.proofs.lemmas.Bool.{cases_Bool, false≢true}
use Rattle.std.specs.Bool.{MatchBool}
use Rattle.rb_base.specs.Counts.{IsCountedAs, err_is}
use Rattle.rb_base.specs.declared.store.Store.{Ghosts}
use Rattle.rb_calls.specs.Made.{Made}
use Rattle.rb_calls.specs.Resumes.{TriedAgain}
use Rattle.rb_calls.specs.Since.{IsSince, StandsAs, engine_outside}
use Rattle.rb_engine.proofs.QueueLemmas.{survives_from, survives_queue}
use Rattle.rb_engine.specs.Behind.{Behind, Resumes}
use Rattle.rb_engine.specs.Does.{Does, EngineView, Stands}
use Rattle.rb_engine.specs.Makes.{Makes}
use Rattle.rb_engine.specs.Worn.{CallNeedsLost, IsWorn}
use Rattle.law_crash.specs.Crash.{Survives}
use Rattle.rb_lines.specs.Ran.{Did}
use Rattle.rb_model.specs.Answers.{activity_answer, fetch_answer, get_answer, write_answer}
use Rattle.rb_model.specs.declared.activity.Activity.{Activity}
use Rattle.rb_engine.proofs.MakesLemmas.{makes_refused}
use Rattle.rb_model.specs.Calls.{Absent, Answer, Call, Done, End, Flushed, Swept, Given, Idle, Marked, Committed, Numbered, Refused, Shown, MayAnswer, Waits, failed_in, is_disk_fault, is_fault}
use Rattle.rb_model.specs.Calls.{Write, Commit, CommitLater, Flush, Sweep, Rollback, SetMode, SetSavepoint, RollbackTo, OpenCursor, Fetch, CloseCursor, Get, Cancel, Marks, Show, Checkpoint}
use Rattle.rb_model.specs.Change.{Asked}
use Rattle.rb_model.specs.NextState.{After, unqueued}
use Rattle.law_crash.specs.Made.{BackBy}
use Rattle.rb_model.specs.Clearing.{ClearsTo}
use Rattle.rb_model.specs.Dead.{dead_owed}
use Rattle.rb_model.specs.Out.{Logged, CallOut, Readied, cleared_by, goes_on, left_queue}
use Rattle.rb_model.specs.Queue.{first_ready, left_by}
use Rattle.rb_model.specs.State.{State, asked_of}
use Rattle.rb_model.specs.declared.refusal.Refusal.{Refusal}
use Rattle.rb_model.specs.declared.refusal.Refusal.TheVariants.{DiskFault, TooOld}
use Rattle.rb_model.specs.declared.row.Fetched.{Fetched}
use Rattle.rb_model.specs.declared.row.Fetched.TheVariants as fetched
use Rattle.rb_model.specs.declared.row.Row.{Row}
use Rattle.rb_model.specs.declared.wrote.Wrote.{Wrote}
use Rattle.rb_model.specs.declared.wrote.Wrote.TheVariants as wrote
use Rattle.rb_model.specs.Lines.{caller}
use Rattle.rb_script.specs.Commands.{asked_by}
use Rattle.rb_script.specs.declared.command.Request.{Request}
use Rattle.rb_model.proofs.Stops.{after_stops, fine_stays, other_refusal}
use Rattle.rb_rollback.specs.Backs.{SameStore}

-- what a session asks for is told to it
pub caller_asked : (s : ℕ) (request : Request) → caller (asked_by s request) ≡ Some s
caller_asked s request = grind arith

pub on_no_fault : (r : Answer) → goes_on r ≡ true → is_fault r ≡ false
on_no_fault Done e = refl
on_no_fault (Waits on) e = refl
on_no_fault (Committed n) e = refl
on_no_fault (Numbered n) e = refl
on_no_fault (Flushed n) e = refl
on_no_fault (Swept n) e = refl
on_no_fault (Given key value) e = refl
on_no_fault End e = refl
on_no_fault Absent e = refl
on_no_fault (Marked seg writes lost) e = refl
on_no_fault (Shown s activity) e = refl
on_no_fault Idle e = refl
on_no_fault (Refused why) e = absurd (false≢true e)

-- where it is too old, what it reads is worn

pub worn_by : {S : Type 0} (s : Ghosts S) (h : State) (e : EngineView S) (c : Call) (scn lost : ℕ) → CallNeedsLost s h e c scn lost → IsWorn h (s.blocks e.store) c scn lost
worn_by s h e (Write who table key action) scn lost needs = needs
worn_by s h e (Fetch who name) scn lost needs = (needs.0, needs.1)
worn_by s h e (Get who table key) scn lost needs = needs
worn_by s h e (Show who) scn lost needs = tt
worn_by s h e (Commit who) scn lost needs = tt
worn_by s h e (CommitLater who) scn lost needs = tt
worn_by s h e (Rollback who) scn lost needs = tt
worn_by s h e (SetMode who mode) scn lost needs = tt
worn_by s h e (SetSavepoint who name) scn lost needs = tt
worn_by s h e (RollbackTo who name) scn lost needs = tt
worn_by s h e (OpenCursor who name table lo hi) scn lost needs = tt
worn_by s h e (CloseCursor who name) scn lost needs = tt
worn_by s h e (Cancel who) scn lost needs = tt
worn_by s h e (Marks seg) scn lost needs = tt
worn_by s h e Flush scn lost needs = tt
worn_by s h e (Sweep k) scn lost needs = tt
worn_by s h e Checkpoint scn lost needs = tt

-- the outcome of a write that answers so
pub old_outcome : (outcome : Result Wrote Refusal) (scn lost : ℕ) → write_answer outcome ≡ Refused (TooOld scn lost) → outcome ≡ Err (TooOld scn lost)
old_outcome (Ok wrote.Done) scn lost is = cc
old_outcome (Ok (wrote.Waits on)) scn lost is = cc
old_outcome (Err why) scn lost is = cc

-- and of a fetch
pub old_fetch : (outcome : Result Fetched Refusal) (row : Row) (scn lost : ℕ) → fetch_answer outcome row ≡ Refused (TooOld scn lost) → outcome ≡ Err (TooOld scn lost)
old_fetch (Ok fetched.Row) row scn lost is = cc
old_fetch (Ok fetched.End) row scn lost is = cc
old_fetch (Err why) row scn lost is = cc

-- and of a read of one key
pub old_get : (outcome : Result Fetched Refusal) (row : Row) (scn lost : ℕ) → get_answer outcome row ≡ Refused (TooOld scn lost) → outcome ≡ Err (TooOld scn lost)
old_get (Ok fetched.Row) row scn lost is = cc
old_get (Ok fetched.End) row scn lost is = cc
old_get (Err why) row scn lost is = cc

-- what a session has under way changes no block
pub shows : (h : State) (who lsn : ℕ) (blocks : List (List ℕ)) (outcome : Result (Option Activity) Refusal) → Makes h (Show who) (activity_answer who outcome) lsn blocks blocks
shows h who lsn blocks (Ok None) = refl
shows h who lsn blocks (Ok (Some activity)) = refl
shows h who lsn blocks (Err why) = makes_refused h (Show who) lsn blocks blocks refl why (λ scn lost is. refl)

-- and tells of no fault
pub shows_fine : (outcome : Result (Option Activity) Refusal) → IfErr outcome (λ why. why ≢ DiskFault) → err_is is_disk_fault outcome ≡ false
shows_fine (Ok activity) other = refl
shows_fine (Err why) other = other_refusal why other

-- one call, as the engine tells it

-- where nothing is put back no block changes
back_none : (h : State) (blocks : List (List ℕ)) → BackBy h.shape (cleared_by h h) blocks blocks
back_none h blocks = let none : dead_owed h - dead_owed h ≡ 0 = omega arith in rw none refl

module _ {S : Type 0} (s : Ghosts S) where
  -- by what the engine says of the outcome of a call that no dead stand in the way of
  pub made_by : (c : Call) (old new : EngineView S) (a b : Answer) (fault : Bool) → ((h : State) → ClearsTo h c a h) → b ≡ a → is_fault b ≡ fault → ((h : State) → Stands s h old → Does s h c a old new)
      → ((h : State) → Stands s h old → fault ≡ false → Makes h c a (s.lsn new.store) (s.blocks old.store) (s.blocks new.store))
      → ((h : State) → Stands s h old → (scn lost : ℕ) → a ≡ Refused (TooOld scn lost) → CallNeedsLost s h old c scn lost)
      → SameStore s old.store new.store → IsCountedAs (s.faults old.store) (s.faults new.store) fault → Made s c b old new
  made_by c old new a b fault clears is f did makes lost same disk =
      let e : is_fault a ≡ fault = sym (ap is_fault is) ∙ f in
      subst (λ (r : Answer). Made s c r old new) (sym is)
      (record {
        did = λ h st.
            let does = did h st in
            record {
              ready = h;
              clears = clears h;
              mid = old;
              lsn = omega arith;
              back = back_none h (s.blocks old.store);
              does = does;
              makes = λ fine. makes h st (sym e ∙ fine);
              lost = lost h st;
              few = λ began on. let n = does.lsn on in let few = does.few began on in omega (arith, n, few);
              survives = does.survives;
            };
        same = same;
        disk = subst (λ (x : Bool). IsCountedAs (s.faults old.store) (s.faults new.store) x) (sym e) disk;
      })

  -- by what it says of a write's, which may be made behind some of the dead
  pub made_write : (c : Call) (old new : EngineView S) (a b : Answer) (fault : Bool) → b ≡ a → is_fault b ≡ fault → ((h : State) → Stands s h old → Behind s (ClearsTo h c a) h c a old new)
      → SameStore s old.store new.store → IsCountedAs (s.faults old.store) (s.faults new.store) fault → Made s c b old new
  made_write c old new a b fault is f did same disk =
      let e : is_fault a ≡ fault = sym (ap is_fault is) ∙ f in
      subst (λ (r : Answer). Made s c r old new) (sym is)
      (record {
        did = λ h st.
            let b = did h st in
            record {
              ready = b.ready;
              clears = b.clears;
              mid = b.mid;
              lsn = b.led.lsn;
              back = b.led.back;
              does = b.does;
              makes = b.makes;
              lost = b.lost;
              few = b.few;
              survives = b.survives;
            };
        same = same;
        disk = subst (λ (x : Bool). IsCountedAs (s.faults old.store) (s.faults new.store) x) (sym e) disk;
      })

  -- the machine in the state in which a call is made, once the dead that stood in its way are put back
  abbrev pub ready_at : Logged → State → EngineView S → Logged
  ready_at m ready mid = record { state = ready; lsn = s.lsn mid.store; fault = m.fault; blocks = s.blocks mid.store }

  -- what was put back of the store's blocks, was of the machine's
  pub readied_at : (m : Logged) (h : State) (c : Call) (r : Answer) (ready : State) (old mid : EngineView S) → m.lsn ≡ s.lsn old.store → m.blocks ≡ s.blocks old.store → ClearsTo h c r ready → s.lsn mid.store ≡ s.lsn old.store + cleared_by h ready
      → BackBy h.shape (cleared_by h ready) (s.blocks old.store) (s.blocks mid.store) → Readied (record m { state = h }) engine_outside c r (ready_at m ready mid)
  readied_at m h c r ready old mid number blocks clears lsn back = record {
    state = clears;
    lsn = lsn ∙ ap (λ (n : ℕ). n + cleared_by h ready) (sym number);
    fault = refl;
    back = subst (λ (b : List (List ℕ)). BackBy h.shape (cleared_by h ready) b (s.blocks mid.store)) (sym blocks) back;
  }

  -- from a state that the engine stood for, to the one that it stands for after the call
  pub did_call : (m : Logged) (c : Call) (r : Answer) (old new : EngineView S) (P : Logged → Type 0) → StandsAs s old m → m.state.stopped ≡ false → Made s c r old new
      → ((now : Logged) → CallOut m engine_outside c r now → P now) → Did (StandsAs s) (IsSince s) old new m P
  did_call m c r old new P is going made so =
      let from = made.did m.state is.engine in
      let does = from.does in
      let no_fault : does.now.stopped ≡ false → is_fault r ≡ false = λ on. ⊎_elim
      (λ (e : is_fault r ≡ true). absurd (false≢true (sym on ∙ ap (λ (h : State). h.stopped) (after_stops from.ready does.now c r e does.after))))
      (λ (e : is_fault r ≡ false). e)
      (cases_Bool (is_fault r)) in
      let now : Logged = record { state = does.now; lsn = s.lsn new.store; fault = failed_in c r m.fault; blocks = s.blocks new.store } in
      record {
        now = now;
        reached = record { engine = does.stands; lsn = refl; blocks = refl };
        passed = record { same = made.same; crash = λ kept. from.survives m.fault going kept; still = λ on. made.disk.still (no_fault on) };
        ran = so now (record {
          ready = ready_at m from.ready from.mid;
          readied = readied_at m m.state c r from.ready old from.mid is.lsn is.blocks from.clears from.lsn from.back;
          made = record {
            reply = does.reply;
            worn = λ n gone old_one. worn_by s from.ready from.mid c n gone (from.lost n gone old_one);
            state = does.after;
            fault = refl;
            groups = does.groups;
            grows = does.grows;
            lsn = does.lsn;
            makes = λ on. (from.makes (no_fault on), ((does.stands.goes on).xids, (does.stands.goes on).holds.blocks));
          };
          few = λ on. let n = is.lsn in let few = from.few going on in omega (arith, n, few);
        });
      }

-- one write that is tried again

-- each turn leaves fewer ready
pub fewer_on : (old new turn : ℕ) → new < old → old ≤ 16 → (1 ≤ turn → old + turn ≤ 16) → new + (turn + 1) ≤ 16
fewer_on old new zero less few so = omega (arith, less, few)
fewer_on old new (suc turn) less few so = let so_far = so (omega arith) in omega (arith, less, so_far)

pub none_some : {A : Type 0} {r : Option A} {x : A} → r ≡ None → r ≡ Some x → ⊥
none_some {A} {r} {x} none some = let clash : ◌≡◌ {A = Option A} None (Some x) = sym none ∙ some in cc

-- what was done up to a call that did nothing
pub did_still : {M : Type 0} {stands : M → Logged → Type 0} {since : M → M → Logged → Logged → Type 0} (old mid new : M) (m : Logged) (P : Logged → Type 0) → new ≡ mid → Did stands since old mid m P → Did stands since old new m P
did_still {M} {stands} {since} old mid new m P still did = subst (λ (x : M). Did stands since old x m P) (sym still) did

module _ {S : Type 0} (s : Ghosts S) (m : Logged) (w : ℕ) (outcome : Result Wrote Refusal) (old new : EngineView S) (is : StandsAs s old m) (going : m.state.stopped ≡ false) (same : SameStore s old.store new.store)
    (quiet : is_fault (write_answer outcome) ≡ false → s.faults new.store ≡ s.faults old.store) where
  abbrev r : Answer
  r = write_answer outcome

  abbrev call : Asked → Call
  call a = Write w a.table a.key a.action

  abbrev Again : Asked → Type 0
  Again a = Behind s (ClearsTo (unqueued m.state w) (call a) r) (unqueued m.state w) (call a) r old new

  -- the dead that stood in its way are put back
  readied : (a : Asked) (b : Again a) → Readied (left_queue m w) engine_outside (call a) r (ready_at s m b.ready b.mid)
  readied a b = readied_at s m (unqueued m.state w) (call a) r b.ready old b.mid is.lsn is.blocks b.clears b.led.lsn b.led.back

  -- no fault: the state after the write
  fine : (P : Logged → Type 0) (a : Asked) → asked_of m.state w ≡ Some a → first_ready m.state.queue ≡ Some w → Again a → is_fault r ≡ false
      → ((now : Logged) → TriedAgain m engine_outside w r now → P now) → Did (StandsAs s) (IsSince s) old new m P
  fine P a known ready b e so =
      let does = b.does in
      let now : Logged = record { state = does.now; lsn = s.lsn new.store; fault = failed_in (call a) r m.fault; blocks = s.blocks new.store } in
      record {
        now = now;
        reached = record { engine = does.stands; lsn = refl; blocks = refl };
        passed = record {
          same = same;
          crash = λ kept. survives_from m.state (left_by w m.state.queue) m.state.asked s (s.slots old.store) now.fault does.now old.store new.store (b.survives m.fault going kept);
          still = λ on. quiet e;
        };
        ran = so now (record {
          asked = a;
          known = known;
          ready = ready;
          resumed = record {
            ready = ready_at s m b.ready b.mid;
            readied = readied a b;
            reply = does.reply;
            worn = λ n gone old_one. worn_by s b.ready b.mid (call a) n gone (b.lost n gone old_one);
            state = subst (λ (v : Bool). MatchBool v (does.now ≡ record b.ready { queue = m.state.queue; stopped = true }) (After b.ready (call a) r does.now)) (sym e) does.after;
            fault = refl;
            groups = does.groups;
            grows = does.grows;
            few = λ on. let n = is.lsn in let few = b.few going on in omega (arith, n, few);
            lsn = does.lsn;
            makes = λ on. (b.makes e, ((does.stands.goes on).xids, (does.stands.goes on).holds.blocks));
          };
          stopped = (fine_stays b.ready does.now (call a) r e does.after).stopped ∙ b.led.rest.stopped ∙ going ∙ sym e;
        });
      }

  -- a fault: the session keeps its place
  failed : (P : Logged → Type 0) (a : Asked) → asked_of m.state w ≡ Some a → first_ready m.state.queue ≡ Some w → Again a → is_fault r ≡ true
      → ((now : Logged) → TriedAgain m engine_outside w r now → P now) → Did (StandsAs s) (IsSince s) old new m P
  failed P a known ready b e so =
      let left : State = record b.ready { stopped = true } in
      let halted : State = record b.ready { queue = m.state.queue; stopped = true } in
      let now : Logged = record { state = halted; lsn = s.lsn new.store; fault = failed_in (call a) r m.fault; blocks = s.blocks new.store } in
      let after : b.does.now ≡ left = after_stops b.ready b.does.now (call a) r e b.does.after in
      let stands : Stands s left new = subst (λ (h : State). Stands s h new) after b.does.stands in
      record {
        now = now;
        reached = record {
          engine = record {
            told = stands.told;
            shape = stands.shape;
            knows = record { sixteen = stands.knows.sixteen; stopped = stands.knows.stopped; scn = stands.knows.scn; queue = λ on. absurd (false≢true (sym on)) };
            goes = λ on. absurd (false≢true (sym on));
            owes = λ on. absurd (false≢true (sym on));
          };
          lsn = refl;
          blocks = refl;
        };
        passed = record {
          same = same;
          crash = λ kept. survives_queue left m.state.queue b.ready.asked s (s.slots old.store) now.fault m.state old.store new.store
              (survives_from m.state (left_by w m.state.queue) m.state.asked s (s.slots old.store) now.fault left old.store new.store
              (subst (λ (h : State). Survives s (s.slots old.store) now.fault (unqueued m.state w) h old.store new.store) after (b.survives m.fault going kept)));
          still = λ on. absurd (false≢true (sym on));
        };
        ran = so now (record {
          asked = a;
          known = known;
          ready = ready;
          resumed = record {
            ready = ready_at s m b.ready b.mid;
            readied = readied a b;
            reply = b.does.reply;
            worn = λ n gone old_one. worn_by s b.ready b.mid (call a) n gone (b.lost n gone old_one);
            state = subst (λ (v : Bool). MatchBool v (halted ≡ halted) (After b.ready (call a) r halted)) (sym e) refl;
            fault = refl;
            groups = 0;
            grows = λ on. absurd (false≢true (sym on));
            few = λ on. absurd (false≢true (sym on));
            lsn = λ on. absurd (false≢true (sym on));
            makes = λ on. absurd (false≢true (sym on));
          };
          stopped = sym e;
        });
      }

  pub did_resume : (P : Logged → Type 0) → Resumes s m.state (Some (w, outcome)) old new
      → ((now : Logged) → TriedAgain m engine_outside w r now → P now) → Did (StandsAs s) (IsSince s) old new m P
  did_resume P (on, ready, a, known, b) so = ⊎_elim
      (λ (e : is_fault r ≡ true). failed P a known ready b e so)
      (λ (e : is_fault r ≡ false). fine P a known ready b e so)
      (cases_Bool (is_fault r))
