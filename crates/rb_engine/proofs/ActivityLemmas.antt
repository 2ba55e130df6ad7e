-- What the table of sessions and the queue tell of what a session has under way is what the machine answers.
use Rattle.std.proofs.Common.{◌≡◌, ◌≤◌, ◌==◌, ℕ, true, false, List, [], ◌∷◌, length, Option, None, Some, is_none, if◌then◌else◌, refl, sym, ◌∙◌, ap, arith}
use Rattle.std.proofs.lemmas.Bool.{cond-false, cond-true}
use Rattle.std.proofs.lemmas.Bool.Decides.{nat_tests}
use Rattle.rb_base.specs.Logs.{Laws, no_logs}
use Rattle.rb_base.specs.declared.store.Store.{Ghosts}
use Rattle.rb_engine.specs.Checks.{has_nothing, is_free}
use Rattle.rb_engine.specs.Does.{Does, EngineView, Goes, Stands}
use Rattle.rb_engine.proofs.DoesLemmas.{does_loaded}
use Rattle.rb_engine.proofs.ModeLemmas.{idle_is}
use Rattle.rb_model.specs.Calls as machine
use Rattle.rb_model.specs.Calls.{Answer, MayAnswer, Show, activity_of, early_tests, is_empty, is_idle, none_applies, wait_by}
use Rattle.rb_model.specs.Isolation.{mode_of}
use Rattle.rb_model.specs.NextState.{After, Grows}
use Rattle.rb_model.specs.Queue.{Waiter, place_of}
use Rattle.rb_model.specs.State as model
use Rattle.rb_model.specs.State.{State, session_of}
use Rattle.rb_model.specs.declared.activity.Activity.{Activity}
use Rattle.rb_model.specs.declared.activity.Wait.{Wait}
use Rattle.rb_model.specs.declared.mode.Isolation.{Isolation}
use Rattle.rb_sessions.specs.Kept.{kept_at}
use Rattle.rb_sessions.specs.declared.row.Session.{Session}
use Rattle.rb_sessions.specs.declared.sessions.TheConstants.{SESSIONS}
use Rattle.law_blocks.specs.Standing.{env_of}
use Rattle.law_sessions.proofs.Cursors.{named_is}
use Rattle.law_sessions.specs.Views.{IsSession}

-- no place in the queue is no wait
free_is : (place : Option (Option ℕ)) → is_free (wait_by place) ≡ is_none place
free_is None = refl
free_is (Some None) = refl
free_is (Some (Some u)) = refl

no_cursor : (cursors : List model.Cursor) → (length cursors == 0) ≡ is_empty cursors
no_cursor [] = refl
no_cursor (c ∷ cursors) = let test : (length (c ∷ cursors) == 0) ≡ false = grind (arith, nat_tests) in test

-- four fields say what is under way
same_activity : (changes cursors changes2 cursors2 : ℕ) (i i2 : Isolation) (wait wait2 : Wait) → changes ≡ changes2 → cursors ≡ cursors2 → i ≡ i2 → wait ≡ wait2
    → let one : Activity = record { changes = changes; cursors = cursors; mode = mode_of i; wait = wait } in
    let two : Activity = record { changes = changes2; cursors = cursors2; mode = mode_of i2; wait = wait2 } in one ≡ two
same_activity changes cursors changes2 cursors2 i i2 wait wait2 a b c d = rw (a, b, c, d) refl

module _ {S : Type 0} (s : Ghosts S) (laws : Laws s) (h : State) (e : EngineView S) (st : Stands s h e) (going : h.stopped ≡ false) (runs : s.failed e.store ≡ false) (who : ℕ) (there : (1 ≤ who) × (who ≤ SESSIONS)) (early : none_applies (early_tests h (Show who)) ≡ true)
    (session : Session) (wait : Wait) (isolation : session.isolation ≡ (kept_at e.memory.sessions who).isolation) (count : session.length ≡ (kept_at e.memory.sessions who).count) (savepoints : session.savepoints ≡ length (kept_at e.memory.sessions who).savepoints)
    (cursors : session.cursors ≡ length (kept_at e.memory.sessions who).cursors) (waits : wait ≡ wait_by (place_of who e.memory.waits)) where
  abbrev goes : Goes s h e
  goes = st.goes going

  its : IsSession h goes.xids (env_of h.shape (s.blocks e.store)) who (kept_at e.memory.sessions who)
  its = goes.remembers.each who there.0 there.1

  reads : session.isolation ≡ (session_of h who).isolation
  reads = isolation ∙ its.isolation

  changes : session.length ≡ length (session_of h who).own
  changes = count ∙ its.count

  open_now : session.cursors ≡ length (session_of h who).cursors
  open_now = cursors ∙ (named_is h goes.xids (env_of h.shape (s.blocks e.store)) who [] e.memory.sessions goes.remembers there.0 there.1).2

  waits_so : wait ≡ wait_by (place_of who h.queue)
  waits_so = waits ∙ ap (λ (q : List Waiter). wait_by (place_of who q)) (st.knows.queue going).waits

  nothing : has_nothing session wait ≡ is_idle h who
  nothing =
      let idle = idle_is session (session_of h who) reads changes (savepoints ∙ ap (λ (l : List model.Savepoint). length l) its.savepoints) in
      rw (idle, open_now, no_cursor (session_of h who).cursors, waits_so, free_is (place_of who h.queue)) refl

  -- the engine stays as it is
  stays : (answer : Answer) → answer ≡ machine.granted h (Show who) → After h (Show who) answer h → Grows h (Show who) answer 0 → Does s h (Show who) answer e e
  stays answer is after grows =
      does_loaded s st.told laws h (Show who) answer e e st (MayAnswer.later [] early refl is) after grows (λ s t k a is done. cc) refl (λ on. no_logs s e.store runs) (record { shape = refl; slots = refl })

  pub does_idle : has_nothing session wait ≡ true → Does s h (Show who) machine.Idle e e
  does_idle none = stays machine.Idle (sym (cond-true (is_idle h who) machine.Idle (machine.Shown who (activity_of h who)) (sym nothing ∙ none))) refl refl

  pub does_shown : has_nothing session wait ≡ false → Does s h (Show who) (machine.Shown who (record { changes = session.length; cursors = session.cursors; mode = mode_of session.isolation; wait = wait })) e e
  does_shown some =
      stays _
      (ap (λ (a : Activity). machine.Shown who a) (same_activity session.length session.cursors (length (session_of h who).own) (length (session_of h who).cursors) session.isolation (session_of h who).isolation wait (wait_by (place_of who h.queue)) changes open_now reads waits_so)
      ∙ sym (cond-false (is_idle h who) machine.Idle (machine.Shown who (activity_of h who)) (sym nothing ∙ some))) refl refl
