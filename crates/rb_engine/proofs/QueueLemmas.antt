-- The queue in memory and in a state, and that neither a store nor a crash knows anything of it.
use Rattle.std.proofs.Common.{◌≡◌, ◌≢◌, inl, inr, ◌≤◌, ◌-◌, ◌==◌, ◌||◌, ℕ, zero, suc, Bool, true, false, List, [], ◌∷◌, length, map, set, get_or, Option, None, refl, sym, ◌∙◌, ap, subst, arith}
use Rattle.rb_sessions.specs.declared.sessions.TheConstants.{SESSIONS}
use Rattle.rb_engine.proofs.CopyLemmas.{copies_same}
use Rattle.std.proofs.lemmas.Bool.{cases_eq, ne_eqb}
use Rattle.std.proofs.lemmas.List.{get_or-set_other, get_or-set_same}
use Rattle.rb_base.specs.Moments.{weaker}
use Rattle.rb_base.specs.declared.ids.Xid.{Xid}
use Rattle.rb_base.specs.declared.store.Store.{Ghosts}
use Rattle.rb_engine.specs.Does.{EngineView, Goes, IsQueue, Kept, KnowsQueue}
use Rattle.law_crash.proofs.Beside.{blocks_stand, has_beside}
use Rattle.law_crash.specs.Between.{FoundSome, at_end, one_commit, one_write, reached, up_to}
use Rattle.law_crash.specs.Crash.{AtEnd, OnTheWay, RestartsAt, Survives}
use Rattle.law_crash.specs.Holds.{Holds}
use Rattle.law_crash.specs.Images.{HasSome}
use Rattle.rb_model.specs.Book.{Book}
use Rattle.rb_model.specs.Calls.{Call}
use Rattle.rb_model.specs.Change.{Asked}
use Rattle.rb_model.specs.Queue.{Waiter, freed_by, is_queued, left_by, waiting}
use Rattle.rb_model.specs.State.{State, asked_of}
use Rattle.rb_sessions.specs.Kept.{KeptSession, fresh, holding, kept_at, with_kept}
use Rattle.law_blocks.specs.Standing.{env_of}
use Rattle.law_sessions.proofs.Queues.{queue_remembered}
use Rattle.rb_waits.proofs.Turns.{free_keeps, freed_stay, leave_keeps, left_is_out, others_stay, wait_adds, wait_keeps}
use Rattle.rb_waits.specs.Room.{AreQueuedOnce}

-- The writes that sessions wait with, over a step of one session of the table.

pub asked_set : (l : List KeptSession) (i j : ℕ) (k : KeptSession) → k.asked ≡ (get_or l i fresh).asked → (get_or (set l i k) j fresh).asked ≡ (get_or l j fresh).asked
asked_set [] i j k same = refl
asked_set (x ∷ l) zero zero k same = same
asked_set (x ∷ l) zero (suc j) k same = refl
asked_set (x ∷ l) (suc i) zero k same = refl
asked_set (x ∷ l) (suc i) (suc j) k same = asked_set l i j k same

pub all_asked : (l : List KeptSession) (i : ℕ) (k : KeptSession) → k.asked ≡ (get_or l i fresh).asked → map (λ x. x.asked) (set l i k) ≡ map (λ x. x.asked) l
all_asked [] i k same = refl
all_asked (x ∷ l) zero k same = ap (λ (a : Option Asked). a ∷ map (λ x. x.asked) l) same
all_asked (x ∷ l) (suc i) k same = ap (λ (rest : List (Option Asked)). x.asked ∷ rest) (all_asked l i k same)

pub one_asked : (l : List KeptSession) (i : ℕ) (k : KeptSession) → map (λ x. x.asked) (set l i k) ≡ set (map (λ x. x.asked) l) i k.asked
one_asked [] i k = refl
one_asked (x ∷ l) zero k = refl
one_asked (x ∷ l) (suc i) k = ap (λ (rest : List (Option Asked)). x.asked ∷ rest) (one_asked l i k)

asked_get : (l : List KeptSession) (i : ℕ) → get_or (map (λ x. x.asked) l) i None ≡ (get_or l i fresh).asked
asked_get [] i = refl
asked_get (x ∷ l) zero = refl
asked_get (x ∷ l) (suc i) = asked_get l i

-- what the state has of a session is what the table has
pub asked_is : (h : State) (kept : Kept) → KnowsQueue h kept → (s : ℕ) → asked_of h s ≡ (kept_at kept.sessions s).asked
asked_is h kept knows s = ap (λ (l : List (Option Asked)). get_or l (s - 1) None) (sym knows.asked) ∙ asked_get kept.sessions (s - 1)

-- The queue stays in order.

pub queue_same : (kept now : Kept) → IsQueue kept → now.waits ≡ kept.waits → ((u : ℕ) → (kept_at now.sessions u).asked ≡ (kept_at kept.sessions u).asked) → IsQueue now
queue_same kept now is waits asked = record {
  once = subst AreQueuedOnce (sym waits) is.once;
  held = λ u queued. let f = is.held u (ap (is_queued u) (sym waits) ∙ queued) in (f.0, asked u ∙ f.1);
}

-- as those are ready that waited for a session
pub queue_freed : (kept now : Kept) (s : ℕ) → IsQueue kept → now.waits ≡ freed_by s kept.waits → ((u : ℕ) → (kept_at now.sessions u).asked ≡ (kept_at kept.sessions u).asked) → IsQueue now
queue_freed kept now s is waits asked = record {
  once = subst AreQueuedOnce (sym waits) (free_keeps s kept.waits is.once);
  held = λ u queued. let f = is.held u (sym (freed_stay s u kept.waits) ∙ (ap (is_queued u) (sym waits) ∙ queued)) in (f.0, asked u ∙ f.1);
}

-- as a session leaves it
pub queue_left : (kept now : Kept) (s : ℕ) → IsQueue kept → now.waits ≡ left_by s kept.waits → now.sessions ≡ kept.sessions → IsQueue now
queue_left kept now s is waits sessions = record {
  once = subst AreQueuedOnce (sym waits) (leave_keeps s kept.waits is.once);
  held = λ u queued.
      let there : is_queued u (left_by s kept.waits) ≡ true = ap (is_queued u) (sym waits) ∙ queued in
      let other : u ≢ s = λ same. (let clash : false ≡ true = sym (left_is_out s kept.waits) ∙ (ap (λ (z : ℕ). is_queued z (left_by s kept.waits)) (sym same) ∙ there) in cc) in
      let f = is.held u (sym (others_stay s u kept.waits other) ∙ there) in
      (f.0, ap (λ (l : List KeptSession). (kept_at l u).asked) sessions ∙ f.1);
}

-- as one begins to wait, with its write
pub queue_waiting : (kept now : Kept) (s on : ℕ) (a : Asked) → IsQueue kept → (1 ≤ s) × (s ≤ SESSIONS) → length kept.sessions ≡ SESSIONS → is_queued s kept.waits ≡ false → now.waits ≡ waiting s on kept.waits
    → now.sessions ≡ with_kept kept.sessions s (holding a (kept_at kept.sessions s)) → IsQueue now
queue_waiting kept now s on a is there sixteen free waits sessions = record {
  once = subst AreQueuedOnce (sym waits) (wait_keeps s on kept.waits is.once there.0 there.1 free);
  held = λ u queued.
      let all : is_queued u kept.waits || (s == u) ≡ true = sym (wait_adds s on u kept.waits) ∙ (ap (is_queued u) (sym waits) ∙ queued) in
      elim (cases_eq (u - 1) (s - 1)) [
        | inl this ↦ (
          a,
          ap (λ (l : List KeptSession). (kept_at l u).asked) sessions ∙ (ap (λ (i : ℕ). (get_or (set kept.sessions (s - 1) (holding a (kept_at kept.sessions s))) i fresh).asked) this
              ∙ ap (λ (k : KeptSession). k.asked) (get_or-set_same kept.sessions (s - 1) (holding a (kept_at kept.sessions s)) fresh (omega (arith, there, sixteen)))),
        )
        | inr other ↦
            let ne : (s == u) ≡ false = ne_eqb s u (λ same. other (ap (λ (z : ℕ). z - 1) (sym same))) in
            let f = is.held u (sym (or-false (is_queued u kept.waits)) ∙ (ap (λ (b : Bool). is_queued u kept.waits || b) (sym ne) ∙ all)) in
            (f.0, ap (λ (l : List KeptSession). (kept_at l u).asked) sessions ∙ (ap (λ (k : KeptSession). k.asked) (get_or-set_other kept.sessions (s - 1) (u - 1) (holding a (kept_at kept.sessions s)) fresh other) ∙ f.1))
      ];
}
  where
    or-false : (b : Bool) → b || false ≡ b
    or-false true = refl
    or-false false = refl

-- What memory knows of the queue.

pub knows_same : (h h2 : State) (kept now : Kept) → h2.queue ≡ h.queue → h2.asked ≡ h.asked → now.waits ≡ kept.waits → map (λ k. k.asked) now.sessions ≡ map (λ k. k.asked) kept.sessions → KnowsQueue h kept → KnowsQueue h2 now
knows_same h h2 kept now queue same waits asked knows = record { waits = waits ∙ (knows.waits ∙ sym queue); asked = asked ∙ (knows.asked ∙ sym same) }

pub knows_freed : (h h2 : State) (kept now : Kept) (s : ℕ) → h2.queue ≡ freed_by s h.queue → h2.asked ≡ h.asked → now.waits ≡ freed_by s kept.waits → map (λ k. k.asked) now.sessions ≡ map (λ k. k.asked) kept.sessions → KnowsQueue h kept → KnowsQueue h2 now
knows_freed h h2 kept now s queue same waits asked knows = record { waits = waits ∙ (ap (freed_by s) knows.waits ∙ sym queue); asked = asked ∙ (knows.asked ∙ sym same) }

-- A state with another queue has the same blocks, and a crash leaves the same of it.
module _ (h : State) (queue : List Waiter) (asked : List (Option Asked)) where
  abbrev pub Next : State
  Next = record h { queue = queue; asked = asked }

  some_state : (books : List Book) (blocks : List (List ℕ)) (lsn : ℕ) → HasSome h books blocks lsn → HasSome Next books blocks lsn
  some_state books blocks lsn is = record { number = is.number; acknowledged = is.acknowledged; made = is.made; found = has_beside h queue asked h.safe books is.number blocks lsn is.found }

  module _ {S : Type 0} (s : Ghosts S) where
    pub holds_queue : (xids : List Xid) (store : S) → Holds s h xids store → Holds s Next xids store
    holds_queue xids store holds = record {
      blocks = blocks_stand h queue asked h.safe xids (s.blocks store) holds.blocks;
      logged = holds.logged;
      images = λ keeps. let k = holds.images keeps in record { base = k.base; first = k.first; stable = k.stable; each = λ count few. some_state h.books _ _ (k.each count few) };
    }

    pub goes_queue : (e : EngineView S) (memory : Kept) → memory.sessions ≡ e.memory.sessions → memory.copies ≡ e.memory.copies → Goes s h e → Goes s Next (record { memory = memory; store = e.store })
    goes_queue e memory same copies goes = record {
      xids = goes.xids;
      holds = holds_queue goes.xids e.store goes.holds;
      remembers = subst (Rattle.law_sessions.specs.Views.Remembers Next goes.xids (env_of h.shape (s.blocks e.store))) (sym same) (queue_remembered h queue asked h.safe goes.xids (env_of h.shape (s.blocks e.store)) e.memory.sessions goes.remembers);
      copies = copies_same h Next goes.xids (s.blocks e.store) (s.blocks e.store) e.memory.copies memory.copies refl refl refl copies goes.copies;
    }

    -- The images that a crash leaves.
    module _ (slots : Option ℕ) (fault : Option Call) where
      restarts_at : (books : List Book) (n : ℕ) (i : s.image) → RestartsAt s.opens slots books h n i → RestartsAt s.opens slots books Next n i
      restarts_at books n i is = record { blocks = is.blocks; lsn = is.lsn; opening = is.opening; has = has_beside h queue asked h.safe books n is.blocks is.lsn is.has }

      some_at : (books : List Book) (i : s.image) → FoundSome (RestartsAt s.opens slots) books h i → FoundSome (RestartsAt s.opens slots) books Next i
      some_at books i is = record { number = is.number; acknowledged = is.acknowledged; made = is.made; found = restarts_at books is.number i is.found }

      ends : (i : s.image) → AtEnd s.opens slots fault h i → AtEnd s.opens slots fault Next i
      ends i (up_to is) = up_to (some_at h.books i is)
      ends i (one_commit who call stopped own is) = one_commit who call stopped own (record { blocks = is.blocks; lsn = is.lsn; opening = is.opening; has = record { logged = is.has.logged; sound = is.has.sound; marks = is.has.marks } })
      ends i (one_write who table key action g k call stopped within is) = one_write who table key action g k call stopped within (some_at _ i is)

      on_the_way : (before : State) (i : s.image) → OnTheWay s.opens slots fault before h i → OnTheWay s.opens slots fault before Next i
      on_the_way before i (reached n low high is) = reached n low high (restarts_at h.books n i is)
      on_the_way before i (at_end is) = at_end (ends i is)

      pub survives_queue : (before : State) (old new : S) → Survives s slots fault before h old new → Survives s slots fault before Next old new
      survives_queue before old new is = record {
        extends = record { shape = is.extends.shape; base = is.extends.base; rows = is.extends.rows; more = is.extends.more; list = is.extends.list; marks = is.extends.marks; safe = is.extends.safe };
        any_moment = weaker s.moment s.left_since old new (OnTheWay s.opens slots fault before h) (OnTheWay s.opens slots fault before Next) (on_the_way before) is.any_moment;
        now_only = λ i left. ends i (is.now_only i left);
      }

      -- on the way from a state with another queue
      from_queue : (now : State) (i : s.image) → OnTheWay s.opens slots fault Next now i → OnTheWay s.opens slots fault h now i
      from_queue now i (reached n low high is) = reached n low high is
      from_queue now i (at_end is) = at_end is

      pub survives_from : (now : State) (old new : S) → Survives s slots fault Next now old new → Survives s slots fault h now old new
      survives_from now old new is = record {
        extends = record { shape = is.extends.shape; base = is.extends.base; rows = is.extends.rows; more = is.extends.more; list = is.extends.list; marks = is.extends.marks; safe = is.extends.safe };
        any_moment = weaker s.moment s.left_since old new (OnTheWay s.opens slots fault Next now) (OnTheWay s.opens slots fault h now) (from_queue now) is.any_moment;
        now_only = is.now_only;
      }
