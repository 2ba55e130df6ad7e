-- What a session does that leaves the queue: it gives its write up, or tries it once more.
use Rattle.std.proofs.Common.{◌≡◌, ℕ, true, false, List, map, Option, Some, None, refl, sym, ◌∙◌, ap, arith}
use Rattle.std.specs.Option.{option_map}
use Rattle.rb_base.specs.Logs.{Laws, no_logs}
use Rattle.rb_base.specs.declared.store.Store.{Ghosts}
use Rattle.rb_engine.specs.Does.{Does, EngineView, IsQueue, Kept, KnowsQueue, Stands}
use Rattle.rb_engine.proofs.DoesLemmas.{does_by, does_refused_late}
use Rattle.rb_engine.proofs.QueueLemmas.{asked_is, goes_queue, survives_queue}
use Rattle.rb_model.specs.Calls as machine
use Rattle.rb_model.specs.Calls.{Answer, Call, MayAnswer, early_tests, name_tests, none_applies, number_tests}
use Rattle.rb_model.specs.NextState.{unqueued}
use Rattle.rb_model.specs.Queue.{is_queued, left_by}
use Rattle.rb_model.specs.State.{State, asked_of}
use Rattle.rb_model.specs.declared.refusal.Refusal.TheVariants.{NotWaiting}
use Rattle.rb_sessions.specs.Kept.{KeptSession, asked_of_pending, kept_at}
use Rattle.rb_sessions.specs.declared.pending.Pending.{Pending}
use Rattle.rb_rollback.proofs.Backs.{survives_same}

module _ {S : Type 0} (s : Ghosts S) (h : State) (who : ℕ) (kept now : Kept) (store : S) (st : Stands s h (record { memory = kept; store = store })) (left : now ≡ record kept { waits = left_by who kept.waits }) where
  sessions : now.sessions ≡ kept.sessions
  sessions = ap (λ (k : Kept). k.sessions) left

  knows_left : h.stopped ≡ false → KnowsQueue (unqueued h who) now
  knows_left going = let knows = st.knows.queue going in record {
    waits = ap (λ (k : Kept). k.waits) left ∙ ap (left_by who) knows.waits;
    asked = ap (λ (l : List KeptSession). map (λ k. k.asked) l) sessions ∙ knows.asked;
  }

  -- without the session in its queue the engine stands for the state without it
  pub stands_left : Stands s (unqueued h who) (record { memory = now; store = store })
  stands_left = record {
    told = st.told;
    shape = st.shape;
    knows = record {
      sixteen = st.knows.sixteen;
      stopped = ap (λ (k : Kept). k.stopped) left ∙ st.knows.stopped;
      scn = ap (λ (k : Kept). k.scn) left ∙ st.knows.scn;
      queue = knows_left;
    };
    goes = λ going. goes_queue h (left_by who h.queue) h.asked s (record { memory = kept; store = store }) now sessions (ap (λ (k : Kept). k.copies) left) (st.goes going);
    owes = λ going. ap (λ (k : Kept). k.dead) left ∙ st.owes going;
  }

  -- A session that waits gives its write up.
  pub does_cancelled : (told : s.tells) (laws : Laws s) → (runs : s.failed store ≡ false) → (going : h.stopped ≡ false) → none_applies (number_tests h who) ≡ true → is_queued who kept.waits ≡ true
      → Does s h (machine.Cancel who) machine.Done (record { memory = kept; store = store }) (record { memory = now; store = store })
  does_cancelled told laws runs going early waits =
      let queued : is_queued who h.queue ≡ true = ap (is_queued who) (sym (st.knows.queue going).waits) ∙ waits in
      let logs = no_logs s store runs in
      let goes = st.goes going in
      does_by s h (unqueued h who) (machine.Cancel who) machine.Done (record { memory = kept; store = store }) (record { memory = now; store = store }) 0 st
      (MayAnswer.later (name_tests h (machine.Cancel who)) early refl (rw queued refl)) refl (λ _ s t k a is done. cc)
      stands_left.knows (record { shape = refl; slots = refl })
      (λ _. (refl, omega arith, stands_left.goes going))
      (λ _. stands_left.owes going)
      (λ fault _ keeps. survives_queue h (left_by who h.queue) h.asked s (s.slots store) fault h store store (survives_same s told laws h h goes.xids store store true st.shape refl refl refl refl goes.holds logs keeps))

-- a session that isn't in the queue has nothing to give up
pub not_waiting : {S : Type 0} (s : Ghosts S) (laws : Laws s) (h : State) (who : ℕ) (old : EngineView S) → (st : Stands s h old) → (old.memory.stopped ≡ false → s.failed old.store ≡ false) → (going : h.stopped ≡ false)
    → none_applies (number_tests h who) ≡ true → is_queued who old.memory.waits ≡ false → Does s h (machine.Cancel who) (machine.Refused NotWaiting) old old
not_waiting s laws h who old st runs going early waits =
    let out : is_queued who h.queue ≡ false = ap (is_queued who) (sym (st.knows.queue going).waits) ∙ waits in
    does_refused_late s laws h (machine.Cancel who) NotWaiting old st runs (MayAnswer.later (name_tests h (machine.Cancel who)) early refl (rw out refl)) (λ clash. cc)

-- what the table has of the session that is ready is what the state has
pub asked_held : (h : State) (kept : Kept) → KnowsQueue h kept → (who : ℕ) (held : Option Pending) (p : Pending) → option_map asked_of_pending held ≡ (kept_at kept.sessions who).asked → held ≡ Some p → asked_of h who ≡ Some (asked_of_pending p)
asked_held h kept knows who held p told is = asked_is h kept knows who ∙ (sym told ∙ ap (option_map asked_of_pending) is)

-- and it has something of each session in the queue
pub held_some : (kept : Kept) (who : ℕ) (held : Option Pending) → IsQueue kept → is_queued who kept.waits ≡ true → option_map asked_of_pending held ≡ (kept_at kept.sessions who).asked → held ≡ None → ⊥
held_some kept who held queue waits told none =
    let some = queue.held who waits in
    let clash : None ≡ Some some.0 = ap (option_map asked_of_pending) (sym none) ∙ (told ∙ some.1) in
    cc
