-- What a rollback leaves, change by change, from the groups of its steps.
use Rattle.std.proofs.Common.{◌≡◌, ◌≤◌, ◌+◌, ◌-◌, inl, ℕ, true, false, List, [], length, map, take, Option, Some, refl, sym, ◌∙◌, ap, subst, arith}
use Rattle.rb_sessions.specs.declared.sessions.TheConstants.{SESSIONS}
use Rattle.rb_engine.proofs.CopyLemmas.{copies_aged}
use Rattle.std.proofs.lemmas.List.{length-set, set-set}
use Rattle.rb_base.specs.Logs.{Laws, no_logs}
use Rattle.rb_base.specs.declared.ids.Xid.{Xid}
use Rattle.rb_base.specs.declared.store.Store.{Ghosts}
use Rattle.rb_engine.specs.Does.{Does, EngineView, Goes, Stands}
use Rattle.rb_engine.proofs.DoesLemmas.{does_calm, holds_session, knows_on, with_session}
use Rattle.rb_engine.specs.Finishing.{commit_call}
use Rattle.rb_engine.specs.declared.finish.Lasting.{Lasting}
use Rattle.rb_engine.proofs.FinishLemmas.{after_end, grows_end, may_end, no_sweep, no_write, goes, no_early, none_own, own_by, own_id}
use Rattle.law_crash.specs.Crash.{Survives}
use Rattle.law_crash.specs.Holds.{Holds}
use Rattle.law_crash.proofs.Crashes.{survives_on}
use Rattle.law_crash.proofs.Owners.{OwnedBy}
use Rattle.rb_model.specs.Calls.{Done, MayAnswer, Rollback, RollbackTo, is_empty, name_tests}
use Rattle.rb_model.specs.Change.{Change}
use Rattle.rb_engine.proofs.QueueLemmas.{all_asked, holds_queue, knows_freed, knows_same, survives_queue}
use Rattle.rb_model.specs.Queue.{freed_by, is_queued}
use Rattle.rb_model.specs.NextState.{EndsAs, cursors_of, ended, freeing, left_open, rolled_to, up_to, without_owner}
use Rattle.rb_model.specs.State.{Savepoint, Session, State, savepoint_of, session_of, session_own, with_changes}
use Rattle.rb_sessions.specs.Kept.{KeptSession, kept_at, rolled_back, with_kept}
use Rattle.rb_sessions.specs.Kept.{committed as kept_committed, rolled_to as kept_rolled_to}
use Rattle.rb_model.specs.NextState.{with_own}
use Rattle.law_blocks.specs.Standing.{env_of}
use Rattle.rb_steps.proofs.LeftOwn.{own_left}
use Rattle.law_sessions.specs.Views.{Remembers}
use Rattle.law_sessions.proofs.Ended.{back_remembered, end_remembered}
use Rattle.law_sessions.proofs.Savepoints.{cut_remembered}
use Rattle.law_home.specs.Walk.{own}
use Rattle.rb_rollback.specs.Backs.{PutsAllBack, PutsBack, SameStore}
use Rattle.rb_rollback.proofs.Backs.{Starts, survives_same}

-- The put backs of changes of a transaction, and its end.
module _ {S : Type 0} (s : Ghosts S) (told : s.tells) (laws : Laws s) (h : State) (old : EngineView S) (who : ℕ) (x : Xid) (st : Stands s h old) (going : h.stopped ≡ false)
    (there : (1 ≤ who) × (who ≤ SESSIONS)) (own_is : (kept_at old.memory.sessions who).own ≡ Some x) where
  abbrev pub held : Goes s h old
  held = goes s told laws h old who x st going there own_is

  abbrev pub id : OwnedBy h (s.blocks old.store) who x
  id = own_by s told laws h old who x st going there own_is

  pub starts : Starts s h held.xids who x (length (session_own h who)) old.store
  starts = record {
    shape = st.shape;
    holds = held.holds;
    low = there.0;
    high = let n = st.knows.sixteen in omega (arith, there, n);
    id = own_id s told laws h old who x st going there own_is;
    going = going;
    own = omega arith;
  }

  module _ (new : EngineView S) (same : SameStore s old.store new.store) where
    -- a rollback that went well
    pub does_back : is_queued who old.memory.waits ≡ false → PutsAllBack s h held.xids who x old.store new.store true
        → new.memory.sessions ≡ with_kept old.memory.sessions who (rolled_back (kept_at old.memory.sessions who)) → new.memory.waits ≡ freed_by who old.memory.waits → new.memory.scn ≡ old.memory.scn → new.memory.stopped ≡ old.memory.stopped → new.memory.copies ≡ old.memory.copies → new.memory.dead ≡ old.memory.dead → Does s h (Rollback who) Done old new
    does_back free done table_is waits scn stopped copies dead =
        let cursors = left_open 0 (cursors_of h who) in
        let bare = without_owner x.seg x.slot (ended h who cursors) in
        let now = freeing bare who in
        let after : EndsAs h who cursors now = inl (x.seg, x.slot, id.owned, refl) in
        let all = done cursors in
        does_calm s h now (Rollback who) Done old new (length (session_own h who) + 1) st (MayAnswer.later [] (no_early h old.memory who st.knows going there free) refl refl) after (λ _ s t k a is done. cc)
        (knows_on h now old.memory new.memory st.knows (length-set h.sessions _ _) refl refl stopped scn (λ on. knows_freed h now old.memory new.memory who refl refl waits (ap (λ (l : List KeptSession). map (λ k. k.asked) l) table_is ∙ all_asked old.memory.sessions (who - 1) (rolled_back (kept_at old.memory.sessions who)) refl) (st.knows.queue on))) same
        (λ _. (
          inl (x.seg, x.slot, id.owned, refl),
          all.2,
          record {
            xids = held.xids;
            holds = holds_queue bare now.queue now.asked s held.xids new.store all.0;
            remembers = subst (Remembers now held.xids (env_of h.shape (s.blocks new.store))) (sym table_is)
                (back_remembered h now held.xids (s.blocks old.store) (env_of h.shape (s.blocks new.store)) old.memory.sessions who held.holds.blocks held.remembers there.0 there.1 after all.1);
            copies = copies_aged h now held.xids (s.blocks old.store) (s.blocks new.store) old.memory.copies new.memory.copies refl refl held.holds.blocks all.5 copies held.copies;
          },
        ))
        dead (λ k is. cc)
        (λ before _ keeps. survives_queue bare now.queue now.asked s (s.slots old.store) before h old.store new.store (all.3 before keeps))

    -- The end of a transaction of which no change is left, by a commit.
    pub does_left : (l : Lasting) → is_queued who old.memory.waits ≡ false → session_own h who ≡ [] → PutsAllBack s h held.xids who x old.store new.store true
        → new.memory.sessions ≡ with_kept old.memory.sessions who (kept_committed (kept_at old.memory.sessions who)) → new.memory.waits ≡ freed_by who old.memory.waits → new.memory.scn ≡ old.memory.scn → new.memory.stopped ≡ old.memory.stopped → new.memory.copies ≡ old.memory.copies → new.memory.dead ≡ old.memory.dead → Does s h (commit_call l who) Done old new
    does_left l free none done table_is waits scn stopped copies dead =
        let cursors = cursors_of h who in
        let bare = without_owner x.seg x.slot (ended h who cursors) in
        let now = freeing bare who in
        let after : EndsAs h who cursors now = inl (x.seg, x.slot, id.owned, refl) in
        let nothing : is_empty (session_own h who) ≡ true = none_own (session_own h who) (ap (λ (l : List Change). length l) none) in
        let all = done cursors in
        does_calm s h now (commit_call l who) Done old new 1 st (may_end l h (s.lsn old.store) who nothing (no_early h old.memory who st.knows going there free)) (after_end l h now who nothing after) (λ _ s t k a is done. no_write l who s t k a is)
        (knows_on h now old.memory new.memory st.knows (length-set h.sessions _ _) refl refl stopped scn (λ on. knows_freed h now old.memory new.memory who refl refl waits (ap (λ (l : List KeptSession). map (λ k. k.asked) l) table_is ∙ all_asked old.memory.sessions (who - 1) (kept_committed (kept_at old.memory.sessions who)) refl) (st.knows.queue on))) same
        (λ _. (
          grows_end l h who 1 nothing (inl (x.seg, x.slot, id.owned, refl)),
          (let n = all.2 in let empty = ap (λ (l : List Change). length l) none in omega (arith, n, empty)),
          record {
            xids = held.xids;
            holds = holds_queue bare now.queue now.asked s held.xids new.store all.0;
            remembers = subst (Remembers now held.xids (env_of h.shape (s.blocks new.store))) (sym table_is)
                (end_remembered h now held.xids (s.blocks old.store) (env_of h.shape (s.blocks new.store)) old.memory.sessions who held.holds.blocks held.remembers there.0 there.1 none after all.1);
            copies = copies_aged h now held.xids (s.blocks old.store) (s.blocks new.store) old.memory.copies new.memory.copies refl refl held.holds.blocks all.5 copies held.copies;
          },
        ))
        dead (no_sweep l who)
        (λ before _ keeps. survives_queue bare now.queue now.asked s (s.slots old.store) before h old.store new.store (all.3 before keeps))

    -- A rollback to a savepoint that went well.
    pub does_cut : is_queued who old.memory.waits ≡ false → (name : List ℕ) (p : Savepoint) → savepoint_of h who name ≡ Some p → PutsBack s h held.xids who p.kept x old.store new.store true → s.failed new.store ≡ false
        → new.memory.sessions ≡ with_kept old.memory.sessions who (kept_rolled_to name p.kept (kept_at old.memory.sessions who)) → new.memory.waits ≡ old.memory.waits → new.memory.scn ≡ old.memory.scn → new.memory.stopped ≡ old.memory.stopped → new.memory.copies ≡ old.memory.copies → new.memory.dead ≡ old.memory.dead → Does s h (RollbackTo who name) Done old new
    does_cut free name p named done runs table_is waits scn stopped copies dead =
        let mine = session_own h who in
        let m : State = with_own h who (take p.kept mine) in
        let now = rolled_to h who name p.kept in
        let session : Session = record (session_of h who) { own = take p.kept mine; savepoints = up_to name (session_of h who).savepoints; cursors = left_open p.kept (cursors_of h who) } in
        let high : who ≤ length h.sessions = let n = st.knows.sixteen in omega (arith, there, n) in
        let in_m : (1 ≤ who) × (who ≤ length m.sessions) = (there.0, (let n = length-set h.sessions (who - 1) (with_changes h who (take p.kept mine)) in omega (arith, n, high))) in
        let again : with_session m who session ≡ now = ap (λ (z : List Session). let n : State = record h { sessions = z } in n) (set-set h.sessions (who - 1) (with_changes h who (take p.kept mine)) session) in
        let cut : Holds s (with_session m who session) held.xids new.store = holds_session s told laws m who held.xids new.store session in_m (sym (own_left h who there.0 high (take p.kept mine))) done.0 in
        let shape_new : s.shape_of new.store ≡ h.shape = same.shape ∙ st.shape in
        does_calm s h now (RollbackTo who name) Done old new (length mine - p.kept) st (MayAnswer.later (name_tests h (RollbackTo who name)) (no_early h old.memory who st.knows going there free) refl (rw named refl)) (p, named, refl) (λ _ s t k a is done. cc)
        (knows_on h now old.memory new.memory st.knows (length-set h.sessions _ _) refl refl stopped scn (λ on. knows_same h now old.memory new.memory refl refl waits (ap (λ (l : List KeptSession). map (λ k. k.asked) l) table_is ∙ all_asked old.memory.sessions (who - 1) (kept_rolled_to name p.kept (kept_at old.memory.sessions who)) refl) (st.knows.queue on))) same
        (λ _. (
          (p, named, refl),
          done.2,
          record {
            xids = held.xids;
            holds = subst (λ (z : State). Holds s z held.xids new.store) again cut;
            remembers = subst (Remembers now held.xids (env_of h.shape (s.blocks new.store))) (sym table_is)
                (cut_remembered h held.xids (env_of h.shape (s.blocks old.store)) (env_of h.shape (s.blocks new.store)) who name p.kept there.0 done.1 old.memory.sessions there.1 held.remembers);
            copies = copies_aged h now held.xids (s.blocks old.store) (s.blocks new.store) old.memory.copies new.memory.copies refl refl held.holds.blocks done.5 copies held.copies;
          },
        ))
        dead (λ k is. cc)
        (λ before _ keeps. survives_on s (s.slots old.store) h m now old.store new.store new.store going (done.3 before keeps)
        (subst (λ (k : Option ℕ). Survives s k before m now new.store new.store) same.slots (survives_same s told laws m now held.xids new.store new.store true shape_new refl refl refl refl done.0 (no_logs s new.store runs) keeps)))
