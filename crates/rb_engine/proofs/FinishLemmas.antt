-- What a commit leaves, from the groups of its step, and what the end of a transaction without a slot does.
use Rattle.std.proofs.Common.{◌≡◌, ◌≢◌, inl, inr, ◌<◌, ◌≤◌, ◌+◌, ◌*◌, ◌-◌, ◌^◌, ◌∷◌, ◌++◌, nat_le, ℕ, true, false, not, min, List, [], length, map, Option, Some, None, Result, Ok, Err, OnOk, refl, sym, ◌∙◌, ap, subst, arith, append-nil, length-append}
use Rattle.rb_sessions.specs.declared.sessions.TheConstants.{SESSIONS}
use Rattle.rb_engine.proofs.CopyLemmas.{copies_committed, copies_same}
use Rattle.std.proofs.lemmas.Bool.{le-leb, and_from}
use Rattle.std.proofs.lemmas.List.{length-set}
use Rattle.std.specs.Result.{is_err}
use Rattle.rb_base.specs.Blocks.{after_groups}
use Rattle.rb_base.specs.Groups.{Patch}
use Rattle.rb_base.specs.Logs.{Flushes, Laws, LogsBy, more_flushes, no_logs}
use Rattle.rb_base.specs.declared.ids.Xid.{Xid}
use Rattle.rb_base.specs.declared.store.Store.{Ghosts}
use Rattle.rb_engine.specs.Does.{Does, EngineView, Goes, Keeps, Kept, Knows, Stands}
use Rattle.rb_engine.specs.Finishing.{Commits, commit_call, lasting, number_told}
use Rattle.rb_engine.specs.Makes.{MadeReading}
use Rattle.rb_engine.specs.declared.finish.Lasting.{Lasting}
use Rattle.rb_engine.specs.declared.finish.Lasting.TheVariants.{AtOnce, Later}
use Rattle.rb_engine.proofs.DoesLemmas.{does_calm, does_fault, holds_session, knows_on}
use Rattle.rb_engine.proofs.QueueLemmas.{all_asked, holds_queue, knows_freed, survives_queue}
use Rattle.law_crash.specs.Crash.{Survives}
use Rattle.law_crash.specs.Holds.{Holds}
use Rattle.law_crash.specs.Between.{IsCommit}
use Rattle.law_crash.specs.Made.{CommitMade, GivesOne, KeepsIds}
use Rattle.law_crash.proofs.Beside.{blocks_stand}
use Rattle.law_crash.proofs.CommitHeld.{commit_fault, holds_flushed, holds_later}
use Rattle.law_crash.proofs.Crashes.{survives_on}
use Rattle.law_crash.proofs.Owners.{OwnedBy, none_owned, owned_by}
use Rattle.rb_model.specs.Calls.{Action, Call, Done, HasNoSlot, Owned, Refused, MayAnswer, Sweep, Write, early_tests, failed_in, is_empty, none_applies, session_tests}
use Rattle.rb_model.specs.Change.{Change}
use Rattle.rb_model.specs.NextState.{After, Ends, EndsAs, Grows, GrowsBy, committed, cursors_of, ended, freeing, not_present}
use Rattle.rb_model.specs.Queue.{freed_by, is_queued}
use Rattle.rb_model.specs.Rows.{last_scn}
use Rattle.rb_model.specs.State.{Cursor, State, all_safe, is_session, no_session, session_count, session_own}
use Rattle.rb_model.specs.declared.refusal.Refusal.TheVariants.{DiskFault}
use Rattle.rb_sessions.specs.Kept.{KeptSession, kept_at, with_kept}
use Rattle.rb_sessions.specs.Kept as table
use Rattle.law_blocks.specs.Standing.{env_of, logged_of}
use Rattle.law_blocks.specs.States.{BlocksStand, lives_of, past_of}
use Rattle.law_blocks.proofs.BlocksAs.{commit_logged}
use Rattle.rb_steps.proofs.Finishing.{scn_is}
use Rattle.law_write.specs.Verdict.{IsOwnId}
use Rattle.law_sessions.specs.Views.{Remembers}
use Rattle.law_blocks.specs.Groups.{IsCommitted}
use Rattle.law_sessions.proofs.Ended.{committed_remembered}
use Rattle.law_sessions.proofs.Queues.{queue_remembered}
use Rattle.rb_base.specs.declared.sizes.TheConstants.{SLOTS}
use Rattle.rb_rollback.specs.Backs.{Fails, SameStore}
use Rattle.rb_rollback.proofs.Backs.{survives_same}

pub some_own : (l : List Change) → 0 < length l → is_empty l ≡ false
some_own [] some = absurd (omega (arith, some))
some_own (c ∷ l) some = refl

pub none_own : (l : List Change) → length l ≡ 0 → is_empty l ≡ true
none_own [] e = refl
none_own (c ∷ l) e = absurd (omega (arith, e))

pub no_items : (l : List Change) → length l ≡ 0 → l ≡ []
no_items [] e = refl
no_items (c ∷ l) e = absurd (omega (arith, e))

-- Of both calls that commit.

is_commit : (l : Lasting) (who : ℕ) → IsCommit who (Some (commit_call l who))
is_commit AtOnce who = inl refl
is_commit Later who = inr refl

pub early_commit : (l : Lasting) (h : State) (who : ℕ) → early_tests h (commit_call l who) ≡ session_tests h who
early_commit AtOnce h who = refl
early_commit Later h who = refl

may_commit : (l : Lasting) (h : State) (logged who n : ℕ) → is_empty (session_own h who) ≡ false → n ≡ last_scn h.commits + 1 → none_applies (session_tests h who) ≡ true → MayAnswer h logged (commit_call l who) (number_told l n)
may_commit AtOnce h logged who n full next early = MayAnswer.later [] early refl (rw (full, next) refl)
may_commit Later h logged who n full next early = MayAnswer.later [] early refl (rw (full, next) refl)

after_commit : (l : Lasting) (h : State) (who n g i : ℕ) → is_empty (session_own h who) ≡ false → Owned h who g i → After h (commit_call l who) (number_told l n) (lasting l (freeing (committed h who g i) who))
after_commit AtOnce h who n g i full owned = inl (full, (g, i, owned, refl))
after_commit Later h who n g i full owned = inl (full, (g, i, owned, refl))

grows_commit : (l : Lasting) (h : State) (who n : ℕ) → is_empty (session_own h who) ≡ false → Grows h (commit_call l who) (number_told l n) 1
grows_commit AtOnce h who n full = inl (full, refl)
grows_commit Later h who n full = inl (full, refl)

no_failure : (l : Lasting) (who n : ℕ) (before : Option Call) → failed_in (commit_call l who) (number_told l n) before ≡ before
no_failure AtOnce who n before = refl
no_failure Later who n before = refl

pub reads_nothing : (l : Lasting) (h : State) (who lsn : ℕ) (blocks : List (List ℕ)) → MadeReading h (commit_call l who) ⊥ lsn blocks blocks
reads_nothing AtOnce h who lsn blocks = refl
reads_nothing Later h who lsn blocks = refl

-- and where the session has no changes
pub may_end : (l : Lasting) (h : State) (logged who : ℕ) → is_empty (session_own h who) ≡ true → none_applies (session_tests h who) ≡ true → MayAnswer h logged (commit_call l who) Done
may_end AtOnce h logged who none early = MayAnswer.later [] early refl (rw none refl)
may_end Later h logged who none early = MayAnswer.later [] early refl (rw none refl)

pub after_end : (l : Lasting) (h h2 : State) (who : ℕ) → is_empty (session_own h who) ≡ true → EndsAs h who (cursors_of h who) h2 → After h (commit_call l who) Done h2
after_end AtOnce h h2 who none ends = inr (none, ends)
after_end Later h h2 who none ends = inr (none, ends)

pub grows_end : (l : Lasting) (h : State) (who n : ℕ) → is_empty (session_own h who) ≡ true → Ends h who 0 n → GrowsBy h (commit_call l who) n
grows_end AtOnce h who n none ends = inr (none, ends)
grows_end Later h who n none ends = inr (none, ends)

module _ {S : Type 0} (s : Ghosts S) (told : s.tells) (laws : Laws s) (h : State) (xids : List Xid) (who : ℕ) (x : Xid) (old : S) (shape : s.shape_of old ≡ h.shape) (holds : Holds s h xids old)
    (some : 0 < length (session_own h who)) where
  pub commits_failed : {Between : S → S → Type 0} (l : Lasting) (new : S) (groups : List (List Patch)) → length groups ≤ 1 → LogsBy s Between old new groups false → (1 ≤ length groups → CommitMade h xids who x (s.blocks old) (after_groups (s.lsn old + 1) groups (s.blocks old)))
      → Fails s (Some (commit_call l who)) h old new
  commits_failed l new groups few logs made keeps = commit_fault s told laws h xids who x old shape holds (Some (commit_call l who)) new groups (is_commit l who) few logs made (some_own (session_own h who) some) keeps

  -- the commit's group is given, and waits
  pub commits_later : (mid : S) → GivesOne s old mid true (λ now. CommitMade h xids who x (s.blocks old) now) → Commits s Later h xids who x old mid true
  commits_later mid one =
      let next = committed h who x.seg x.slot in
      let held : (before : Option Call) → Holds s next (xids ++ x ∷ []) mid × (s.keeps → Survives s (s.slots old) before h next old mid) = λ before. holds_later s told laws h xids who x old shape holds before mid one in
      let single = one.one refl in
      let number : s.lsn mid ≡ s.lsn old + 1 = let a = one.logs.number refl in omega (arith, a, single) in
      let made : CommitMade h xids who x (s.blocks old) (s.blocks mid) = subst (λ b. CommitMade h xids who x (s.blocks old) b) (sym (one.logs.blocks told refl)) (one.made (omega (arith, single))) in
      ((held None).0, made.ids, number, λ before. (held before).1, made.group)

  -- and all that waits is made last
  module _ (mid : S) (one : GivesOne s old mid true (λ now. CommitMade h xids who x (s.blocks old) now)) (going : h.stopped ≡ false) where
    pub commits_done : {T E : Type 0} (new : S) (r : Result T E) → Flushes s mid new [] (not (is_err r)) → (s.keeps → OnOk r (s.pending new ≡ [])) → Commits s AtOnce h xids who x old new (not (is_err r))
    commits_done new (Ok value) flush none =
        let next : State = committed h who x.seg x.slot in
        let given = commits_later mid one in
        let flushed : (before : Option Call) → Holds s (all_safe next) (xids ++ x ∷ []) new × (s.keeps → Survives s (s.slots mid) before next (all_safe next) mid new) = λ before. holds_flushed s laws next (xids ++ x ∷ []) mid new (one.logs.same_shape ∙ shape) given.0 told before flush none in
        let number : s.lsn new ≡ s.lsn old + 1 = let a = given.2 in let b = flush.number refl in omega (arith, a, b) in
        let same : s.blocks new ≡ s.blocks mid = flush.blocks told refl in (
          (flushed None).0,
          subst (λ (b : List (List ℕ)). KeepsIds h (env_of h.shape (s.blocks old)) (env_of h.shape b)) (sym same) given.1,
          number,
          λ before keeps. survives_on s (s.slots old) h next (all_safe next) old mid new going (given.3 before keeps)
              (subst (λ (k : Option ℕ). Survives s k before next (all_safe next) mid new) one.logs.same_slots ((flushed before).1 keeps)),
          subst (λ (b : List (List ℕ)). IsCommitted h.shape (SLOTS * x.seg + x.slot) (last_scn h.commits + 1) (s.blocks old) b) (sym same) given.4,
        )
    commits_done new (Err fault) flush none =
        let both : Flushes s old new one.groups false = subst (λ (l : List (List Patch)). Flushes s old new l false) (append-nil one.groups) (more_flushes s old mid new one.groups [] false one.logs flush) in
        commits_failed AtOnce new one.groups one.few both one.made

-- neither call is a write
-- a commit is no sweep
pub no_sweep : (l : Lasting) (s k : ℕ) → commit_call l s ≢ Sweep k
no_sweep AtOnce s k is = cc
no_sweep Later s k is = cc

pub no_write : (l : Lasting) (who s t k : ℕ) (a : Action) → commit_call l who ≡ Write s t k a → {X : Type 0} → X
no_write AtOnce who s t k a is = cc
no_write Later who s t k a is = cc

-- a session of that number is there
pub is_there : (who : ℕ) → (1 ≤ who) × (who ≤ SESSIONS) → is_session who ≡ true
is_there who there = and_from (nat_le 1 who) (nat_le who session_count) (le-leb 1 who there.0) (le-leb who session_count there.1)

-- no early test of a call of it applies, where it isn't in the queue
pub no_early : (h : State) (kept : Kept) (who : ℕ) → Knows h kept → h.stopped ≡ false → (1 ≤ who) × (who ≤ SESSIONS) → is_queued who kept.waits ≡ false → none_applies (session_tests h who) ≡ true
no_early h kept who knows going there free =
    let out : is_queued who h.queue ≡ false = ap (is_queued who) (sym (knows.queue going).waits) ∙ free in
    rw (going, is_there who there, out) refl

module _ {S : Type 0} (s : Ghosts S) (told : s.tells) (laws : Laws s) (h : State) (old : EngineView S) (who : ℕ) (x : Xid) (st : Stands s h old) (going : h.stopped ≡ false)
    (there : (1 ≤ who) × (who ≤ SESSIONS)) (own : (kept_at old.memory.sessions who).own ≡ Some x) where
  pub goes : Goes s h old
  goes = st.goes going

  pub who_in : (1 ≤ who) × (who ≤ length h.sessions)
  who_in = let n = st.knows.sixteen in (there.0, omega (arith, there, n))

  pub own_id : IsOwnId h (env_of h.shape (s.blocks old.store)) who (Some x)
  own_id = subst (IsOwnId h (env_of h.shape (s.blocks old.store)) who) own (goes.remembers.each who there.0 there.1).id

  pub own_by : OwnedBy h (s.blocks old.store) who x
  own_by = owned_by h goes.xids (s.blocks old.store) who x goes.holds.blocks own_id

  -- it has as many live changes
  pub count_is : (kept_at old.memory.sessions who).count ≡ length (session_own h who)
  count_is = (goes.remembers.each who there.0 there.1).count

  -- the next commit's number
  pub next_known : (n : ℕ) → s.lsn old.store ≤ 2 ^ 62 → n ≡ min (old.memory.scn + 1) (2 ^ 64 - 1) → n ≡ last_scn h.commits + 1
  next_known n few is =
      let same = st.knows.scn in
      let number = scn_is h goes.xids (s.blocks old.store) goes.holds.blocks in
      let logged = commit_logged h.shape (s.blocks old.store) (past_of h goes.xids) (lives_of h (env_of h.shape (s.blocks old.store))) goes.holds.blocks.standing in
      omega (arith, few, is, same, number, logged, goes.holds.logged)

  module _ (some : 0 < length (session_own h who)) (new : EngineView S) (same : SameStore s old.store new.store) where
    pub does_committed : (l : Lasting) → is_queued who old.memory.waits ≡ false → (n : ℕ) → n ≡ last_scn h.commits + 1 → Commits s l h goes.xids who x old.store new.store true
        → new.memory.sessions ≡ with_kept old.memory.sessions who (table.committed (kept_at old.memory.sessions who)) → new.memory.waits ≡ freed_by who old.memory.waits → new.memory.scn ≡ n → new.memory.stopped ≡ old.memory.stopped → new.memory.copies ≡ old.memory.copies → new.memory.dead ≡ old.memory.dead → Does s h (commit_call l who) (number_told l n) old new
    does_committed l free n next done table_is waits scn stopped copies dead =
        let bare : State = committed h who x.seg x.slot in
        let now : State = lasting l (freeing bare who) in
        let full = some_own (session_own h who) some in
        let more : last_scn now.commits ≡ last_scn h.commits + 1 = let l = length-append h.commits.list (session_own h who ∷ []) in omega (arith, l) in
        let stand : BlocksStand bare (goes.xids ++ x ∷ []) (s.blocks new.store) = blocks_stand (lasting l bare) bare.queue bare.asked bare.safe (goes.xids ++ x ∷ []) (s.blocks new.store) done.0.blocks in
        does_calm s h now (commit_call l who) (number_told l n) old new 1 st
        (may_commit l h (s.lsn old.store) who n full next (no_early h old.memory who st.knows going there free))
        (after_commit l h who n x.seg x.slot full own_by.owned) (λ _ s t k a is done. no_write l who s t k a is)
        (record {
          sixteen = subst (λ (n : ℕ). SESSIONS ≤ n) (sym (length-set h.sessions _ _)) st.knows.sixteen;
          stopped = stopped ∙ st.knows.stopped;
          scn = scn ∙ (next ∙ sym more);
          queue = λ on. knows_freed h now old.memory new.memory who refl refl waits (ap (λ (l : List KeptSession). map (λ k. k.asked) l) table_is ∙ all_asked old.memory.sessions (who - 1) (table.committed (kept_at old.memory.sessions who)) refl) (st.knows.queue on);
        }) same
        (λ _. (
          grows_commit l h who n full,
          done.2,
          record {
            xids = goes.xids ++ x ∷ [];
            holds = holds_queue (lasting l bare) now.queue now.asked s (goes.xids ++ x ∷ []) new.store done.0;
            remembers = subst (Remembers now (goes.xids ++ x ∷ []) (env_of h.shape (s.blocks new.store))) (sym table_is)
                (queue_remembered (freeing bare who) now.queue now.asked now.safe (goes.xids ++ x ∷ []) (env_of h.shape (s.blocks new.store)) (with_kept old.memory.sessions who (table.committed (kept_at old.memory.sessions who)))
                (committed_remembered h goes.xids (s.blocks old.store) (s.blocks new.store) old.memory.sessions who x goes.holds.blocks goes.remembers there.0 there.1 own done.1));
            copies =
                let last : logged_of h.shape (s.blocks new.store) ≡ logged_of h.shape (s.blocks old.store) + 1 = omega (arith, done.0.logged, goes.holds.logged, done.2) in
                copies_committed h now goes.xids (s.blocks old.store) (s.blocks new.store) who x old.memory.copies new.memory.copies refl refl goes.holds.blocks own_by.owned
                (record { stand = stand; ids = done.1; last = last; group = done.4 }) copies goes.copies;
          },
        ))
        dead (no_sweep l who)
        (λ before _ keeps. subst (λ (k : Option Call). Survives s (s.slots old.store) k h now old.store new.store) (sym (no_failure l who n before)) (survives_queue (lasting l bare) now.queue now.asked s (s.slots old.store) before h old.store new.store (done.3 before keeps)))

  pub does_not : (new : EngineView S) → SameStore s old.store new.store → (call : Call) → none_applies (early_tests h call) ≡ true → Fails s (Some call) h old.store new.store → new.memory ≡ record old.memory { stopped = true } → Does s h call (Refused DiskFault) old new
  does_not new same call early fails stops = does_fault s told laws h call old new st going early stops same fails

-- A transaction without a table slot ends in memory alone.
pub does_ended : {S : Type 0} (s : Ghosts S) (laws : Laws s) (h : State) (call : Call) (who : ℕ) (cursors : List Cursor) (old new : EngineView S) → (st : Stands s h old) → (going : h.stopped ≡ false)
    → (1 ≤ who) × (who ≤ SESSIONS) → (s.failed old.store ≡ false) → ((now : State) → Keeps h call Done now) → (kept_at old.memory.sessions who).own ≡ None → (kept_at old.memory.sessions who).count ≡ 0 → none_applies (early_tests h call) ≡ true
    → (HasNoSlot h who → is_empty (session_own h who) ≡ true → MayAnswer h (s.lsn old.store) call Done)
    → (HasNoSlot h who → is_empty (session_own h who) ≡ true → After h call Done (freeing (ended h who cursors) who)) → (HasNoSlot h who → is_empty (session_own h who) ≡ true → GrowsBy h call 0)
    → (HasNoSlot h who → session_own h who ≡ [] → (xids : List Xid) → BlocksStand h xids (s.blocks old.store) → Remembers h xids (env_of h.shape (s.blocks old.store)) old.memory.sessions → Remembers (freeing (ended h who cursors) who) xids (env_of h.shape (s.blocks old.store)) new.memory.sessions)
    → map (λ k. k.asked) new.memory.sessions ≡ map (λ k. k.asked) old.memory.sessions → new.memory.waits ≡ freed_by who old.memory.waits
    → new.memory.scn ≡ old.memory.scn → new.memory.stopped ≡ old.memory.stopped → new.memory.copies ≡ old.memory.copies → new.memory.dead ≡ old.memory.dead → ((k : ℕ) → call ≢ Sweep k) → new.store ≡ old.store → Does s h call Done old new
does_ended s laws h call who cursors old new st going there runs retains own empty early reply after grows knows asked waits scn stopped copies dead other store =
    let goes = st.goes going in
    let session = goes.remembers.each who there.0 there.1 in
    let who_in : (1 ≤ who) × (who ≤ length h.sessions) = let n = st.knows.sixteen in (there.0, omega (arith, there, n)) in
    let free = none_owned h (env_of h.shape (s.blocks old.store)) who (subst (IsOwnId h (env_of h.shape (s.blocks old.store)) who) own session.id) in
    let bare = ended h who cursors in
    let now = freeing bare who in
    let none : length (session_own h who) ≡ 0 = sym session.count ∙ empty in
    let own_is : session_own h who ≡ [] = no_items (session_own h who) none in
    let nothing = none_own (session_own h who) none in
    let logs = no_logs s old.store runs in
    let kept : Holds s now goes.xids old.store = holds_queue bare now.queue now.asked s goes.xids old.store (holds_session s st.told laws h who goes.xids old.store (record no_session { cursors = map not_present cursors }) who_in (sym own_is) goes.holds) in
    does_calm s h now call Done old new 0 st (reply free nothing) (after free nothing) (λ _. retains now)
    (knows_on h now old.memory new.memory st.knows (length-set h.sessions _ _) refl refl stopped scn (λ on. knows_freed h now old.memory new.memory who refl refl waits asked (st.knows.queue on)))
    (record { shape = ap s.shape_of store; slots = ap s.slots store })
    (λ _. (
      grows free nothing,
      omega (arith, ap s.lsn store),
      record {
        xids = goes.xids;
        holds = subst (Holds s now goes.xids) (sym store) kept;
        remembers = subst (λ (y : _). Remembers now goes.xids (env_of h.shape (s.blocks y)) new.memory.sessions) (sym store) (knows free own_is goes.xids goes.holds.blocks goes.remembers);
        copies = copies_same h now goes.xids (s.blocks old.store) (s.blocks new.store) old.memory.copies new.memory.copies refl refl (ap s.blocks store) copies goes.copies;
      },
    ))
    dead other
    (λ before _ keeps. subst (λ (y : _). Survives s (s.slots old.store) before h now old.store y) (sym store) (survives_same s st.told laws h now goes.xids old.store old.store true st.shape refl refl refl refl goes.holds logs keeps))
