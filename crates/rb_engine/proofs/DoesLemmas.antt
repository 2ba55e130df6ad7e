-- What a call does with the state that its engine stands for, from what it does with the memory and the store.
use Rattle.std.proofs.Common.{◌≡◌, ◌≢◌, ⊎_elim, ◌<◌, ◌≤◌, ◌+◌, ◌-◌, ℕ, Bool, true, false, not, List, [], length, map, set, is_some, Option, Some, None, Result, Ok, Err, IfErr, OnOk, refl, sym, ◌∙◌, ap, subst, arith}
use Rattle.rb_engine.proofs.CopyLemmas.{copies_same}
use Rattle.std.proofs.lemmas.Bool.{cases_Bool, false≢true}
use Rattle.std.specs.Result.{is_err}
use Rattle.rb_base.specs.Blocks.{block_of, header_block}
use Rattle.rb_base.specs.Counts.{err_is}
use Rattle.rb_base.specs.Logs.{Flushes, Laws, Logs, LogsBy, no_logs}
use Rattle.rb_base.specs.declared.ids.Xid.{Xid}
use Rattle.rb_base.specs.declared.store.Store.{Ghosts}
use Rattle.rb_engine.specs.Checks.{Refuses}
use Rattle.rb_engine.proofs.FewLemmas.{grows_few}
use Rattle.rb_engine.specs.Does.{Does, EngineView, Goes, Kept, Keeps as Retained, Knows, KnowsQueue, Stands}
use Rattle.rb_engine.proofs.QueueLemmas.{knows_same}
use Rattle.law_crash.specs.Crash.{Survives}
use Rattle.law_crash.specs.Holds.{Holds}
use Rattle.law_crash.specs.Images.{HasSome}
use Rattle.law_crash.proofs.CommitHeld.{holds_flushed}
use Rattle.law_crash.proofs.Crashes.{extends_same, grow_same, some_later}
use Rattle.law_crash.proofs.Steps.{keeps_on, none_each, read_has}
use Rattle.rb_model.specs.Book.{book_at}
use Rattle.rb_model.specs.Calls.{Answer, Call, Fetch, Get, Marked, Refused, Sweep, MayAnswer, early_tests, failed_in, is_disk_fault, is_fault, none_applies}
use Rattle.rb_model.specs.NextState.{After, Grows, with_cursors}
use Rattle.rb_model.specs.Dead.{dead_owed}
use Rattle.rb_model.specs.Rows.{last_scn}
use Rattle.rb_model.specs.State.{Cursor, Session, State, all_safe, session_of, session_own}
use Rattle.rb_model.specs.declared.refusal.Refusal.{Refusal}
use Rattle.rb_model.specs.declared.refusal.Refusal.TheVariants.{DiskFault, TooOld}
use Rattle.law_dead.proofs.Leaving.{calls_owe}
use Rattle.rb_model.proofs.Stops.{after_shape, after_stops, fine_stays, other_refusal, went_on}
use Rattle.rb_ring.specs.Ring.{lost_number, record_count}
use Rattle.rb_segment.specs.Header.{Header, header_of}
use Rattle.rb_sessions.specs.Kept.{KeptSession}
use Rattle.law_blocks.specs.Standing.{env_of, logged_of, segments_of}
use Rattle.law_blocks.specs.States.{BlocksStand}
use Rattle.law_blocks.proofs.SegmentRead.{header_is}
use Rattle.rb_steps.proofs.Finishing.{cursors_free}
use Rattle.law_write.proofs.Told as told
use Rattle.law_sessions.proofs.Queues.{queue_remembered}
use Rattle.law_sessions.specs.Views.{Remembers}
use Rattle.rb_rollback.specs.Backs.{SameStore}
use Rattle.rb_rollback.proofs.Backs.{holds_logged, survives_same}

-- no call changes how many sessions there are
pub after_sessions : (h h2 : State) (c : Call) (r : Answer) → After h c r h2 → length h2.sessions ≡ length h.sessions
after_sessions h h2 c r after = ⊎_elim
    (λ (is : is_fault r ≡ true). ap (λ (x : State). length x.sessions) (after_stops h h2 c r is after))
    (λ (is : is_fault r ≡ false). (fine_stays h h2 c r is after).sessions)
    (cases_Bool (is_fault r))

-- what memory knows of a state, it knows of each one with as many sessions, the same number and the same stop
pub knows_on : (h h2 : State) (kept now : Kept) → Knows h kept → length h2.sessions ≡ length h.sessions → h2.stopped ≡ h.stopped → last_scn h2.commits ≡ last_scn h.commits → now.stopped ≡ kept.stopped → now.scn ≡ kept.scn → (h.stopped ≡ false → KnowsQueue h2 now) → Knows h2 now
knows_on h h2 kept now knows sessions stopped number same scn queue = record {
  sixteen = let many = knows.sixteen in omega (arith, many, sessions);
  stopped = same ∙ (knows.stopped ∙ sym stopped);
  scn = scn ∙ (knows.scn ∙ sym number);
  queue = λ going. queue (sym stopped ∙ going);
}

-- a memory that is stopped knows the state that is
pub knows_stop : (h : State) (kept now : Kept) → Knows h kept → now ≡ record kept { stopped = true } → Knows (record h { stopped = true }) now
knows_stop h kept now knows is = record {
  sixteen = knows.sixteen;
  stopped = ap (λ (k : Kept). k.stopped) is;
  scn = ap (λ (k : Kept). k.scn) is ∙ knows.scn;
  queue = λ clash. absurd (false≢true (sym clash));
}

-- the state with another session of that number
abbrev pub with_session : State → ℕ → Session → State
with_session h who session = record h { sessions = set h.sessions (who - 1) session }

module _ {S : Type 0} (s : Ghosts S) where
  -- from the state after the call, and what the store and the table have of it unless it is stopped
  pub does_by : (h now : State) (call : Call) (answer : Answer) (old new : EngineView S) (n : ℕ) → Stands s h old
      → MayAnswer h (s.lsn old.store) call answer → After h call answer now → (h.stopped ≡ false → Retained h call answer now)
      → Knows now new.memory → SameStore s old.store new.store
      → (now.stopped ≡ false → Grows h call answer n × (s.lsn new.store ≡ s.lsn old.store + n) × Goes s now new)
      → (now.stopped ≡ false → new.memory.dead ≡ dead_owed now)
      → ((before : Option Call) → h.stopped ≡ false → s.keeps → Survives s (s.slots old.store) (failed_in call answer before) h now old.store new.store)
      → Does s h call answer old new
  does_by h now call answer old new n st reply after retains knows same goes owes survives = record {
    reply = reply;
    now = now;
    after = after;
    keeps = retains;
    stands = record {
      told = st.told;
      shape = same.shape ∙ st.shape ∙ sym (after_shape h now call answer after);
      knows = knows;
      goes = λ going. (goes going).2;
      owes = owes;
    };
    groups = n;
    grows = λ going. (goes going).0;
    few = λ began going. let from = st.goes began in grows_few h from.xids (s.blocks old.store) from.holds.blocks call answer n (goes going).0;
    lsn = λ going. (goes going).1;
    survives = survives;
  }

  -- Every call but a sweep leaves the dead as they are.
  pub does_calm : (h now : State) (call : Call) (answer : Answer) (old new : EngineView S) (n : ℕ) → Stands s h old
      → MayAnswer h (s.lsn old.store) call answer → After h call answer now → (h.stopped ≡ false → Retained h call answer now)
      → Knows now new.memory → SameStore s old.store new.store
      → (now.stopped ≡ false → Grows h call answer n × (s.lsn new.store ≡ s.lsn old.store + n) × Goes s now new)
      → new.memory.dead ≡ old.memory.dead → ((k : ℕ) → call ≢ Sweep k)
      → ((before : Option Call) → h.stopped ≡ false → s.keeps → Survives s (s.slots old.store) (failed_in call answer before) h now old.store new.store)
      → Does s h call answer old new
  does_calm h now call answer old new n st reply after retains knows same goes dead other survives =
      does_by h now call answer old new n st reply after retains knows same goes
      (λ going. dead ∙ (st.owes (went_on h now call answer after going) ∙ sym (calls_owe h now (s.lsn old.store) call answer reply after other))) survives

  module _ (told : s.tells) (laws : Laws s) where
    -- The store has a state that differs in what one session has beside its changes.
    pub holds_session : (h : State) (who : ℕ) (xids : List Xid) (store : S) (session : Session) → (1 ≤ who) × (who ≤ length h.sessions) → session.own ≡ session_own h who → Holds s h xids store → Holds s (with_session h who session) xids store
    holds_session h who xids store session there own holds =
        let h2 = with_session h who session in
        let stays = extends_same h h2 refl refl (grow_same h.shape h.books) (omega arith) in
        let so : (b : List (List ℕ)) (n : ℕ) → HasSome h h.books b n → HasSome h2 h2.books b n = λ b n has. some_later h h2 h.books h2.books b n stays (omega arith) (grow_same h.shape h.books) has in
        record {
          blocks = cursors_free h who session there own xids (s.blocks store) holds.blocks;
          logged = holds.logged;
          images = λ keeps. let k = holds.images keeps in record { base = k.base; first = k.first; stable = k.stable; each = λ count few. so _ _ (k.each count few) };
        }

    -- A table remembers the state over calls that gave no group and went well.
    pub remembers_logged : {Between : S → S → Type 0} (h : State) (xids : List Xid) (sessions : List KeptSession) (old new : S) → LogsBy s Between old new [] true → Remembers h xids (env_of h.shape (s.blocks old)) sessions → Remembers h xids (env_of h.shape (s.blocks new)) sessions
    remembers_logged h xids sessions old new logs knows = subst (λ b. Remembers h xids (env_of h.shape b) sessions) (sym (logs.blocks told refl)) knows

    pub goes_logged : {Between : S → S → Type 0} (h : State) (old new : EngineView S) → Goes s h old → LogsBy s Between old.store new.store [] true → new.memory.sessions ≡ old.memory.sessions → new.memory.copies ≡ old.memory.copies → Goes s h new
    goes_logged h old new goes logs same copies = record {
      xids = goes.xids;
      holds = holds_logged s told laws h goes.xids old.store new.store goes.holds logs;
      remembers = subst (Remembers h goes.xids (env_of h.shape (s.blocks new.store))) (sym same) (remembers_logged h goes.xids old.memory.sessions old.store new.store logs goes.remembers);
      copies = copies_same h h goes.xids (s.blocks old.store) (s.blocks new.store) old.memory.copies new.memory.copies refl refl (logs.blocks told refl) copies goes.copies;
    }

    -- A call that does nothing but load or make groups last, with an answer that leaves the state.
    pub does_loaded : {Between : S → S → Type 0} (h : State) (call : Call) (answer : Answer) (old new : EngineView S) → Stands s h old
        → MayAnswer h (s.lsn old.store) call answer → After h call answer h → Grows h call answer 0 → Retained h call answer h
        → new.memory ≡ old.memory → (h.stopped ≡ false → LogsBy s Between old.store new.store [] true) → SameStore s old.store new.store → Does s h call answer old new
    does_loaded h call answer old new st reply after grows retains memory logs same =
        does_by h h call answer old new 0 st reply after (λ _. retains) (subst (Knows h) (sym memory) st.knows) same
        (λ going. (grows, (logs going).number refl, goes_logged h old new (st.goes going) (logs going) (ap (λ (k : Kept). k.sessions) memory) (ap (λ (k : Kept). k.copies) memory)))
        (λ going. ap (λ (k : Kept). k.dead) memory ∙ st.owes going)
        (λ before going keeps. survives_same s told laws h h (st.goes going).xids old.store new.store true st.shape refl refl refl refl (st.goes going).holds (logs going) keeps)

    -- A call that makes last all that waits: every commit is acknowledged then.
    pub does_flushed : (h : State) (call : Call) (answer : Answer) (old new : EngineView S) → Stands s h old → h.stopped ≡ false
        → MayAnswer h (s.lsn old.store) call answer → After h call answer (all_safe h) → Grows h call answer 0 → Retained h call answer (all_safe h)
        → new.memory ≡ old.memory → Flushes s old.store new.store [] true → (s.keeps → s.pending new.store ≡ []) → SameStore s old.store new.store → Does s h call answer old new
    does_flushed h call answer old new st going reply after grows retains memory logs none same =
        let goes = st.goes going in
        let now = all_safe h in
        let both : (fault : Option Call) → Holds s now goes.xids new.store × (s.keeps → Survives s (s.slots old.store) fault h now old.store new.store) = λ fault. holds_flushed s laws h goes.xids old.store new.store st.shape goes.holds told fault logs none in
        does_by h now call answer old new 0 st reply after (λ _. retains)
        (subst (Knows now) (sym memory) (knows_on h now old.memory old.memory st.knows refl refl refl refl refl (λ on. knows_same h now old.memory old.memory refl refl refl refl (st.knows.queue on)))) same
        (λ _. (
          grows,
          logs.number refl,
          record {
            xids = goes.xids;
            holds = (both None).0;
            remembers = subst (λ (k : Kept). Remembers now goes.xids (env_of h.shape (s.blocks new.store)) k.sessions) (sym memory)
                (queue_remembered h h.queue h.asked now.safe goes.xids (env_of h.shape (s.blocks new.store)) old.memory.sessions
                (remembers_logged h goes.xids old.memory.sessions old.store new.store logs goes.remembers));
            copies = copies_same h now goes.xids (s.blocks old.store) (s.blocks new.store) old.memory.copies new.memory.copies refl refl (logs.blocks told refl) (ap (λ (k : Kept). k.copies) memory) goes.copies;
          },
        ))
        (λ _. ap (λ (k : Kept). k.dead) memory ∙ st.owes going)
        (λ before _ keeps. (both (failed_in call answer before)).1 keeps)

    -- A fault of the disk, in calls that gave no group. What memory has is known of the state that is stopped.
    pub does_fault_known : (h : State) (call : Call) (old new : EngineView S) → Stands s h old
        → none_applies (early_tests h call) ≡ true → Knows (record h { stopped = true }) new.memory
        → SameStore s old.store new.store → (s.keeps → Survives s (s.slots old.store) (Some call) h (record h { stopped = true }) old.store new.store)
        → Does s h call (Refused DiskFault) old new
    does_fault_known h call old new st early knows same survives =
        does_by h (record h { stopped = true }) call (Refused DiskFault) old new 0 st (MayAnswer.fault early refl) refl (λ _ s t k a is done. cc) knows same
        (λ clash. absurd (false≢true (sym clash)))
        (λ clash. absurd (false≢true (sym clash)))
        (λ before going keeps. survives keeps)

    -- Or it is as before, but stopped.
    pub does_fault : (h : State) (call : Call) (old new : EngineView S) → Stands s h old → h.stopped ≡ false
        → none_applies (early_tests h call) ≡ true → new.memory ≡ record old.memory { stopped = true }
        → SameStore s old.store new.store → (s.keeps → Survives s (s.slots old.store) (Some call) h (record h { stopped = true }) old.store new.store)
        → Does s h call (Refused DiskFault) old new
    does_fault h call old new st going early stops same survives = does_fault_known h call old new st early (knows_stop h old.memory new.memory st.knows stops) same survives

    pub fault_survives : {Between : S → S → Type 0} {fault : Option Call} → (h : State) (xids : List Xid) (old new : S) → s.shape_of old ≡ h.shape → Holds s h xids old → LogsBy s Between old new [] false → s.keeps → Survives s (s.slots old) fault h (record h { stopped = true }) old new
    fault_survives h xids old new shape holds logs keeps = survives_same s told laws h (record h { stopped = true }) xids old new false shape refl refl refl refl holds logs keeps

    -- A call that changed what one session has beside its changes, and perhaps loaded blocks.
    pub does_session : (h : State) (call : Call) (answer : Answer) (who : ℕ) (session : Session) (old new : EngineView S) → Stands s h old → h.stopped ≡ false
        → (1 ≤ who) × (who ≤ length h.sessions) → session.own ≡ session_own h who
        → MayAnswer h (s.lsn old.store) call answer → After h call answer (with_session h who session) → Grows h call answer 0
        → Retained h call answer (with_session h who session) → is_fault answer ≡ false
        → new.memory.stopped ≡ old.memory.stopped → new.memory.scn ≡ old.memory.scn → new.memory.waits ≡ old.memory.waits → new.memory.copies ≡ old.memory.copies → new.memory.dead ≡ old.memory.dead → ((k : ℕ) → call ≢ Sweep k) → map (λ k. k.asked) new.memory.sessions ≡ map (λ k. k.asked) old.memory.sessions
        → ((xids : List Xid) → BlocksStand h xids (s.blocks old.store) → Remembers h xids (env_of h.shape (s.blocks old.store)) old.memory.sessions → Remembers (with_session h who session) xids (env_of h.shape (s.blocks old.store)) new.memory.sessions)
        → Logs s old.store new.store [] true → SameStore s old.store new.store → Does s h call answer old new
    does_session h call answer who session old new st going there own reply after grows retains fine stopped scn waits copies dead other asked remembers logs same =
        let h2 = with_session h who session in
        let goes = st.goes going in
        does_by h h2 call answer old new 0 st reply after (λ _. retains)
        (knows_on h h2 old.memory new.memory st.knows (after_sessions h h2 call answer after) refl refl stopped scn (λ on. knows_same h h2 old.memory new.memory refl refl waits asked (st.knows.queue on))) same
        (λ _. (
          grows,
          logs.number refl,
          record {
            xids = goes.xids;
            holds = holds_session h who goes.xids new.store session there own (holds_logged s told laws h goes.xids old.store new.store goes.holds logs);
            remembers = remembers_logged h2 goes.xids new.memory.sessions old.store new.store logs (remembers goes.xids goes.holds.blocks goes.remembers);
            copies = copies_same h h2 goes.xids (s.blocks old.store) (s.blocks new.store) old.memory.copies new.memory.copies refl refl (logs.blocks told refl) copies goes.copies;
          },
        ))
        (λ _. dead ∙ (st.owes going ∙ sym (calls_owe h h2 (s.lsn old.store) call answer reply after other)))
        (λ before _ keeps. survives_same s told laws h h2 goes.xids old.store new.store true st.shape refl refl refl refl goes.holds logs keeps)

    -- One that changed its cursors alone.
    pub does_cursors : (h : State) (call : Call) (answer : Answer) (who : ℕ) (cursors : List Cursor) (old new : EngineView S) → Stands s h old → h.stopped ≡ false
        → (1 ≤ who) × (who ≤ length h.sessions)
        → MayAnswer h (s.lsn old.store) call answer → After h call answer (with_cursors h who cursors) → Grows h call answer 0
        → Retained h call answer (with_cursors h who cursors) → is_fault answer ≡ false
        → new.memory.stopped ≡ old.memory.stopped → new.memory.scn ≡ old.memory.scn → new.memory.waits ≡ old.memory.waits → new.memory.copies ≡ old.memory.copies → new.memory.dead ≡ old.memory.dead → ((k : ℕ) → call ≢ Sweep k) → map (λ k. k.asked) new.memory.sessions ≡ map (λ k. k.asked) old.memory.sessions
        → ((xids : List Xid) → BlocksStand h xids (s.blocks old.store) → Remembers h xids (env_of h.shape (s.blocks old.store)) old.memory.sessions → Remembers (with_cursors h who cursors) xids (env_of h.shape (s.blocks old.store)) new.memory.sessions)
        → Logs s old.store new.store [] true → SameStore s old.store new.store → Does s h call answer old new
    does_cursors h call answer who cursors old new st going there =
        does_session h call answer who (record (session_of h who) { cursors = cursors }) old new st going there refl

-- a result that isn't a fault of the disk
pub no_fault : {T : Type 0} (r : Result T Refusal) → IfErr r (λ why. why ≢ DiskFault) → err_is is_disk_fault r ≡ false
no_fault (Ok value) other = refl
no_fault (Err why) other = other_refusal why other

-- what a segment's block says of its marks is what the machine answers
pub marks_told : (h : State) (xids : List Xid) (blocks : List (List ℕ)) → BlocksStand h xids blocks → (seg : ℕ) → seg < h.shape.segments → (block : List ℕ) → block ≡ block_of blocks (header_block h.shape seg)
    → (w l : ℕ) → w ≡ record_count block → l ≡ lost_number block → Marked seg w l ≡ Marked seg (book_at h.books seg).writes (book_at h.books seg).lost
unfolding header_of record_count lost_number
marks_told h xids blocks stand seg there block read w l made lost =
    let is = told.book h xids blocks stand seg there in
    let header : (segments_of h.shape blocks seg).header ≡ header_of block = header_is h.shape blocks seg ∙ ap header_of (sym read) in
    let writes : (book_at h.books seg).writes ≡ w = is.writes ∙ ap (λ (k : Header). k.writes) header ∙ sym made in
    let given : (book_at h.books seg).lost ≡ l = is.lost ∙ ap (λ (k : Header). k.lost) header ∙ sym lost in
    rw (writes, given) refl

-- what is said of a result that is Ok
pub ok_of : {T E : Type 0} {P : Type 0} (r : Result T E) → is_err r ≡ false → OnOk r P → P
ok_of (Ok value) fine so = so
ok_of (Err fault) fine so = (let clash : true ≡ false = fine in absurd cc)

-- A refusal that gave no group gave the log as many as one may.
pub refused_none : (h : State) (call : Call) (why : Refusal) → Grows h call (Refused why) 0
refused_none h (Fetch s name) (TooOld scn lost) = omega arith
refused_none h (Get s table key) (TooOld scn lost) = omega arith
refused_none h _ (TooOld scn lost) = refl
refused_none h call _ = refl

-- An early test refuses the call, and nothing is done.
pub does_refused : {S : Type 0} (s : Ghosts S) (laws : Laws s) (h : State) (call : Call) (why : Refusal) (old : EngineView S) → Stands s h old
    → (old.memory.stopped ≡ false → s.failed old.store ≡ false) → Refuses (early_tests h call) why → why ≢ DiskFault → Does s h call (Refused why) old old
does_refused s laws h call why old st runs refuses other =
    does_loaded s st.told laws h call (Refused why) old old st (MayAnswer.early refuses.0 refuses.1) (rw (other_refusal why other) refl) (refused_none h call why) (λ s t k a is done. cc) refl
    (λ going. no_logs s old.store (runs (st.knows.stopped ∙ going))) (record { shape = refl; slots = refl })

-- A later test refuses it.
pub does_refused_late : {S : Type 0} (s : Ghosts S) (laws : Laws s) (h : State) (call : Call) (why : Refusal) (old : EngineView S) → Stands s h old
    → (old.memory.stopped ≡ false → s.failed old.store ≡ false) → MayAnswer h (s.lsn old.store) call (Refused why) → why ≢ DiskFault → Does s h call (Refused why) old old
does_refused_late s laws h call why old st runs reply other =
    does_loaded s st.told laws h call (Refused why) old old st reply (rw (other_refusal why other) refl) (refused_none h call why) (λ s t k a is done. cc) refl
    (λ going. no_logs s old.store (runs (st.knows.stopped ∙ going))) (record { shape = refl; slots = refl })

-- an option by what its test answered
pub none_of : {X : Type 0} (o : Option X) (b : Bool) → is_some o ≡ not b → b ≡ true → o ≡ None
none_of None b is at = refl
none_of (Some x) b is at = (let clash : true ≡ false = is ∙ ap not at in absurd cc)

pub some_of : {X : Type 0} (o : Option X) (b : Bool) → is_some o ≡ not b → b ≡ false → (x : X) × (o ≡ Some x)
some_of None b is at = (let clash : false ≡ true = is ∙ ap not at in absurd cc)
some_of (Some x) b is at = (x, refl)

pub is_some_of : {X : Type 0} (o : Option X) → is_some o ≡ true → (x : X) × (o ≡ Some x)
is_some_of None at = (let clash : false ≡ true = at in absurd cc)
is_some_of (Some x) at = (x, refl)

pub not_some : {X : Type 0} (o : Option X) → is_some o ≡ false → o ≡ None
not_some None at = refl
not_some (Some x) at = (let clash : true ≡ false = at in absurd cc)
