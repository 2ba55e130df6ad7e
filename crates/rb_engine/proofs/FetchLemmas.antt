-- What a search for a cursor's next row finds, from what the rebuilds of homes show, and what a fetch makes of it.
use Rattle.std.proofs.Common.{not, ap, map, ◌-◌, ◌≡◌, inl, inr, ◌<◌, ◌≤◌, ◌%◌, ◌==◌, ◌&&◌, ◌||◌, nat_lt, if◌then◌else◌, ℕ, Bool, true, false, List, [], length, Option, Some, None, Result, Ok, Err, IfOk, IfErr, refl, sym, ◌∙◌, subst, arith, is_none, ◌∷◌}
use Rattle.rb_sessions.specs.declared.sessions.TheConstants.{SESSIONS}
use Rattle.rb_engine.specs.Does.{with_copies}
use Rattle.law_copies.specs.Copies.{CopiesStand}
use Rattle.rb_engine.proofs.CopyLemmas.{copies_same, knows_copies}
use Rattle.std.proofs.lemmas.Bool.{cases_Bool, cond_both}
use Rattle.std.proofs.lemmas.Bool.Decides.{nat_tests}
use Rattle.std.proofs.lemmas.Result.{IfErr-weaker}
use Rattle.rb_base.specs.Logs.{Laws, no_logs}
use Rattle.rb_base.specs.declared.ids.Xid.{Xid}
use Rattle.rb_base.specs.declared.shape.Shape.{Shape}
use Rattle.rb_base.specs.declared.store.Store.{Ghosts}
use Rattle.rb_cr.specs.Builds.{IsHomeOld, IsHomeRead}
use Rattle.rb_cr.specs.Rows.{IsBehind as IsBehindKey, IsNext, IsWanted}
use Rattle.rb_cr.specs.declared.faults.CrFault.{CrFault}
use Rattle.rb_cr.specs.declared.faults.CrFault.TheVariants as faults
use Rattle.rb_cr.specs.declared.scratch.Snapshot.{Snapshot}
use Rattle.rb_engine.specs.Checks.{Refuses}
use Rattle.rb_engine.proofs.QueueLemmas.{all_asked, knows_same}
use Rattle.rb_engine.specs.Scanning.{Begins, CannotRead, Finds, HasKey, HasNext, HasNone, IsBehind, IsReader, NeedsLost}
use Rattle.rb_engine.proofs.SeenHomes.{seen_in_home}
use Rattle.rb_model.specs.Next.{is_after}
use Rattle.rb_model.specs.State.{Session, State, cursor_of, is_session, is_waiting, session_of}
use Rattle.rb_model.specs.declared.row.Row.{Row}
use Rattle.law_read.specs.Reading.{Reading}
use Rattle.rb_sessions.specs.declared.cursor.Cursor.{Cursor}
use Rattle.law_blocks.specs.Standing.{env_of, homes_of}
use Rattle.law_sessions.specs.Laws.{rows_seen}
use Rattle.law_sessions.specs.Scan.{IsAskedKey}
use Rattle.law_sessions.specs.Views.{history, home_in, IsCursor, Remembers}
use Rattle.law_sessions.proofs.Fetching as views
use Rattle.rb_engine.specs.Does.{Does, EngineView, Goes, Kept, Knows, Stands}
use Rattle.rb_engine.proofs.CleanLemmas.{env_same}
use Rattle.rb_engine.proofs.DoesLemmas.{after_sessions, does_by, does_calm, holds_session, knows_on}
use Rattle.rb_engine.specs.Cleaning.{CleansRead, HasCleaned, MustIn, ReadIn, Serves}
use Rattle.rb_engine.specs.Makes.{ReadBy}
use Rattle.law_crash.proofs.Crashes.{survives_on}
use Rattle.law_crash.specs.Crash.{Survives}
use Rattle.law_home.specs.Walk.{Env}
use Rattle.rb_engine.proofs.LateLemmas.{old_reply}
use Rattle.rb_model.specs.Calls as machine
use Rattle.rb_model.specs.Calls.{Answer, Refused, MayAnswer, early_tests, is_fault, none_applies, next_row, session_tests}
use Rattle.rb_model.specs.NextState.{After, Grows, cursors_of, with_cursors, with_taken}
use Rattle.rb_model.specs.State as state
use Rattle.rb_model.specs.declared.refusal.Refusal.TheVariants.{NoCursor, NoSession, Stopped, TooOld, Waiting}
use Rattle.rb_model.specs.declared.refusal.Refusal.{Refusal}
use Rattle.rb_model.specs.declared.row.Fetched.{Fetched}
use Rattle.rb_model.specs.declared.row.Fetched.TheVariants as fetched
use Rattle.rb_sessions.specs.Kept.{KeptSession, kept_at, named, with_kept, with_last}
use Rattle.rb_sessions.specs.Kept as table
use Rattle.law_sessions.proofs.Cursors.{named_is}
use Rattle.law_sessions.proofs.Taken.{taken}
use Rattle.rb_rollback.specs.Backs.{SameStore}
use Rattle.rb_rollback.proofs.Backs.{survives_same}

behind_of : (blocks first g : ℕ) (last : Option ℕ) → Begins blocks first g last → (k : ℕ) → k % blocks ≡ g → is_after blocks last k ≡ true → IsBehindKey (if g == first then last else None) k
behind_of blocks first g None begins k home after = cond_both (g == first) None None (λ (o : Option ℕ). IsBehindKey o k) (λ yes. tt) (λ no. tt)
behind_of blocks first g (Some l) begins k home after = cond_both (g == first) (Some l) None (λ (o : Option ℕ). IsBehindKey o k)
    (λ yes. later (l % blocks) (k % blocks) l k (same (k % blocks) (l % blocks) g first home (begins.1 l refl) yes) after) (λ no. tt)
  where
    same : (a b g first : ℕ) → a ≡ g → first ≡ b → (g == first) ≡ true → b ≡ a
    same a b g first x y e = grind (arith, nat_tests)

    later : (a b l k : ℕ) → a ≡ b → (nat_lt a b || ((a == b) && nat_lt l k)) ≡ true → l < k
    later a b l k e is = grind (arith, nat_tests)

after_of : (blocks first g : ℕ) (last : Option ℕ) → Begins blocks first g last → (k : ℕ) → k % blocks ≡ g → IsBehindKey (if g == first then last else None) k → is_after blocks last k ≡ true
after_of blocks first g None begins k home behind = refl
after_of blocks first g (Some l) begins k home behind = elim (cases_Bool (g == first)) [
  | inl first_one ↦
      let less : l < k = subst (λ (b : Bool). IsBehindKey (if b then Some l else None) k) first_one behind in
      same_home (l % blocks) (k % blocks) l k g first home (begins.1 l refl) first_one less
  | inr later ↦ later_home (l % blocks) (k % blocks) l k g first home (begins.1 l refl) begins.0 later
]
  where
    same_home : (a b l k g first : ℕ) → b ≡ g → first ≡ a → (g == first) ≡ true → l < k → (nat_lt a b || ((a == b) && nat_lt l k)) ≡ true
    same_home a b l k g first x y e lt = grind (arith, nat_tests)

    later_home : (a b l k g first : ℕ) → b ≡ g → first ≡ a → first ≤ g → (g == first) ≡ false → (nat_lt a b || ((a == b) && nat_lt l k)) ≡ true
    later_home a b l k g first x y le e = grind (arith, nat_tests)

module _ (h : State) (xids : List Xid) (blocks : List (List ℕ)) (m : Cursor) (reader : IsReader h xids blocks m) (g : ℕ) (g_in : g < h.shape.blocks) where
  -- the home may be read at the cursor's snapshot
  may_read : Reading (env_of h.shape blocks) (history h xids blocks (home_in h.shape m.table g) m.own) m.own m.upto m.scn (homes_of h.shape blocks (home_in h.shape m.table g))
  may_read = views.reads h xids blocks reader.stand reader.session (record { name = reader.name; cursor = m }) reader.cursor reader.is g g_in

  pub home_read : (shape : Shape) → shape ≡ h.shape → (block : ℕ) → block ≡ home_in h.shape m.table g
      → IsHomeRead shape blocks block (history h xids blocks (home_in h.shape m.table g) m.own) (record { scn = m.scn; own = m.own; upto = m.upto })
  home_read shape same block at =
      let hist = history h xids blocks (home_in h.shape m.table g) m.own in
      let snap : Snapshot = record { scn = m.scn; own = m.own; upto = m.upto } in
      subst (λ (k : Shape). IsHomeRead k blocks block hist snap) (sym same) (subst (λ (n : ℕ). IsHomeRead h.shape blocks n hist snap) (sym at) may_read)

  module _ (first : ℕ) (begins : Begins h.shape.blocks first g m.last) (after : Option ℕ) (after_is : after ≡ (if g == first then m.last else None)) where
    abbrev seen : ℕ → Option (List ℕ)
    seen = rows_seen h xids blocks m g

    wanted_of : (k : ℕ) → IsAskedKey h.shape.blocks m.lo m.hi m.last g k → IsWanted after m.lo m.hi k
    wanted_of k asked = (subst (λ (o : Option ℕ). IsBehindKey o k) (sym after_is) (behind_of h.shape.blocks first g m.last begins k asked.home asked.after), asked.low, asked.high)

    has_next : (row : Row) → IsNext after m.lo m.hi seen row → HasNext h xids blocks m g row
    has_next row next =
        let home : row.key % h.shape.blocks ≡ g = seen_in_home h xids blocks m g row.key row.value.items (omega (arith, g_in)) g_in next.shows in
        record {
          asked = record {
            home = home;
            low = next.wanted.1;
            high = next.wanted.2;
            after = after_of h.shape.blocks first g m.last begins row.key home (subst (λ (o : Option ℕ). IsBehindKey o row.key) after_is next.wanted.0);
          };
          row = next.shows;
          least = λ k asked less. nothing k asked less (seen k) refl;
        }
      where
        nothing : (k : ℕ) → IsAskedKey h.shape.blocks m.lo m.hi m.last g k → k < row.key → (o : Option (List ℕ)) → seen k ≡ o → seen k ≡ None
        nothing k asked less None is = is
        nothing k asked less (Some v) is = let low = next.least k v (wanted_of k asked) is in absurd (omega (arith, low, less))

    has_none : ((k : ℕ) → IsWanted after m.lo m.hi k → seen k ≡ None) → HasNone h xids blocks m g
    has_none none k asked = none k (wanted_of k asked)

    -- what the search of a home found
    pub found_next : (row : Row) (result : Result Bool CrFault) → IfOk result (λ found. found ≡ true → IsNext after m.lo m.hi seen row) → IfOk result (λ found. found ≡ false → (k : ℕ) → IsWanted after m.lo m.hi k → seen k ≡ None)
        → IfOk result (λ found. (found ≡ true → HasNext h xids blocks m g row) × (found ≡ false → HasNone h xids blocks m g))
    found_next row (Ok found) given none = (λ yes. has_next row (given yes), λ no. has_none (none no))
    found_next row (Err fault) given none = tt

-- why a home couldn't be read
pub is_behind : (h : State) (xids : List Xid) (blocks : List (List ℕ)) (m : Cursor) (g : ℕ) (shape : Shape) → shape ≡ h.shape → (block : ℕ) → block ≡ home_in h.shape m.table g → HasKey h.shape.blocks m.lo m.hi g → (result : Result Bool CrFault)
    → IfErr result (IsHomeOld shape blocks block (history h xids blocks (home_in h.shape m.table g) m.own) (record { scn = m.scn; own = m.own; upto = m.upto }))
    → IfErr result (λ fault. HasKey h.shape.blocks m.lo m.hi g × IsBehind h xids blocks m g fault)
is_behind h xids blocks m g shape same block at key result because =
    let hist = history h xids blocks (home_in h.shape m.table g) m.own in
    let snap : Snapshot = record { scn = m.scn; own = m.own; upto = m.upto } in
    IfErr-weaker result (IsHomeOld shape blocks block hist snap) (λ fault. HasKey h.shape.blocks m.lo m.hi g × IsBehind h xids blocks m g fault)
    (λ fault is. (key, subst (λ (k : Shape). IsHomeOld k blocks (home_in h.shape m.table g) hist snap fault) same (subst (λ (n : ℕ). IsHomeOld shape blocks n hist snap fault) at is))) because

-- what a fetch answers behind its early tests, by the cursor of the name
pub answer_by : (h : State) (who : ℕ) (name : List ℕ) (o : Option state.Cursor) (r : Answer) → cursor_of h who name ≡ o → r ≡ machine.first_of ((is_none o, Refused NoCursor) ∷ []) (next_row h o)
    → r ≡ machine.first_of (machine.name_tests h (machine.Fetch who name)) (machine.granted h (machine.Fetch who name))
answer_by h who name o r is answer = subst (λ (z : Option state.Cursor). r ≡ machine.first_of ((is_none z, Refused NoCursor) ∷ []) (next_row h z)) (sym is) answer

-- an engine that stands for a state, and a cursor that its table has
module _ {S : Type 0} (s : Ghosts S) (laws : Laws s) (h : State) (old : EngineView S) (st : Stands s h old) (going : h.stopped ≡ false) (who : ℕ) (there : (1 ≤ who) × (who ≤ SESSIONS)) (name : List ℕ) (early : none_applies (early_tests h (machine.Fetch who name)) ≡ true)
    (m : Cursor) (is_named : named name (kept_at old.memory.sessions who).cursors ≡ Some m) where
  abbrev blocks : List (List ℕ)
  blocks = s.blocks old.store

  abbrev goes : Goes s h old
  goes = st.goes going

  -- it is one in the machine
  cursor_for : (xids : List Xid) → Remembers h xids (env_of h.shape blocks) old.memory.sessions
      → (c : state.Cursor) × (cursor_of h who name ≡ Some c) × IsCursor h xids (env_of h.shape blocks) who (record { name = name; cursor = m }) c
  cursor_for xids knows = (named_is h xids (env_of h.shape blocks) who name old.memory.sessions knows there.0 there.1).1 m is_named

  reader : IsReader h goes.xids blocks m
  reader = let one = cursor_for goes.xids goes.remembers in record { stand = goes.holds.blocks; session = who; low = there.0; name = name; cursor = one.0; is = one.2 }

  -- of which the store stands for the state
  pub serves : Serves s h goes.xids m old.store
  serves = record { shape = st.shape; holds = goes.holds; reader = reader; going = going }

  one : (c : state.Cursor) × (cursor_of h who name ≡ Some c) × IsCursor h goes.xids (env_of h.shape blocks) who (record { name = name; cursor = m }) c
  one = cursor_for goes.xids goes.remembers

  answers : (logged : ℕ) (r : Answer) → next_row h (Some one.0) ≡ r → MayAnswer h logged (machine.Fetch who name) r
  answers logged r is = MayAnswer.later (machine.name_tests h (machine.Fetch who name)) early refl (answer_by h who name (Some one.0) r one.1 (sym is))

  -- what the search couldn't read
  pub needs_lost : (fault : CrFault) (scn lost : ℕ) → fault ≡ faults.TooOld scn lost → ((xids : List Xid) → Serves s h xids m old.store → CopiesStand h xids blocks old.memory.copies.kept → CannotRead h xids blocks m fault) → NeedsLost s h old who name scn lost
  needs_lost fault scn lost is found =
      let one = cursor_for goes.xids goes.remembers in (
        goes.xids,
        record {
          stand = goes.holds.blocks;
          cursor = one.0;
          named = one.1;
          kept = m;
          is = one.2;
          cannot = subst (CannotRead h goes.xids blocks m) is (found goes.xids serves goes.copies);
        },
        is_named,
      )

  -- what it cleaned
  pub cleans_read : (well : Type 0) (new : S) (result : Result Fetched CrFault) → (well → (f : Fetched) × (result ≡ Ok f))
      → ((xids : List Xid) → Serves s h xids m old.store → CopiesStand h xids blocks old.memory.copies.kept → HasCleaned s h xids (ReadIn h xids blocks m) (MustIn h xids blocks m result) h.shape.blocks old.store new) → CleansRead s h old who name well new
  cleans_read well new result fine cleaned =
      let clean = cleaned goes.xids serves goes.copies in record {
        xids = goes.xids;
        cursor = m;
        is = is_named;
        only = clean.only;
        all = λ yes b read young. clean.all b (subst (λ (r : Result Fetched CrFault). MustIn h goes.xids blocks m r b) (sym (fine yes).1) read) young;
      }

  -- and so of the machine's cursor
  pub read_by : (well : Type 0) (new : S) (result : Result Fetched CrFault) → (well → (f : Fetched) × (result ≡ Ok f))
      → ((xids : List Xid) → Serves s h xids m old.store → CopiesStand h xids blocks old.memory.copies.kept → HasCleaned s h xids (ReadIn h xids blocks m) (MustIn h xids blocks m result) h.shape.blocks old.store new) → ReadBy h who name well (s.lsn new) blocks (s.blocks new)
  read_by well new result fine cleaned =
      let clean = cleaned goes.xids serves goes.copies in
      let one = cursor_for goes.xids goes.remembers in record {
        xids = goes.xids;
        cursor = one.0;
        named = one.1;
        kept = m;
        is = one.2;
        only = clean.only;
        all = λ yes b read young. clean.all b (subst (λ (r : Result Fetched CrFault). MustIn h goes.xids blocks m r b) (sym (fine yes).1) read) young;
      }

  -- what the search found, and what that makes of the call
  module _ (new : EngineView S) (same : SameStore s old.store new.store) (runs : s.failed new.store ≡ false) (row : Row) (result : Result Fetched CrFault)
      (found : (xids : List Xid) → Serves s h xids m old.store → CopiesStand h xids blocks old.memory.copies.kept → Finds h xids blocks m result row)
      (cleaned : (xids : List Xid) → Serves s h xids m old.store → CopiesStand h xids blocks old.memory.copies.kept → HasCleaned s h xids (ReadIn h xids blocks m) (MustIn h xids blocks m result) h.shape.blocks old.store new.store)
      (kept : (xids : List Xid) → Serves s h xids m old.store → CopiesStand h xids blocks old.memory.copies.kept → CopiesStand h xids (s.blocks new.store) new.memory.copies.kept) where
    abbrev clean : HasCleaned s h goes.xids (ReadIn h goes.xids blocks m) (MustIn h goes.xids blocks m result) h.shape.blocks old.store new.store
    clean = cleaned goes.xids serves goes.copies

    finds : (r : Result Fetched CrFault) → result ≡ r → Finds h goes.xids blocks m r row
    finds r is = subst (λ (x : Result Fetched CrFault). Finds h goes.xids blocks m x row) is (found goes.xids serves goes.copies)

    env : env_of h.shape (s.blocks new.store) ≡ env_of h.shape blocks
    env = env_same h.shape blocks (s.blocks new.store) clean.only.segments

    -- an answer that leaves the state
    stays : (answer : Answer) → is_fault answer ≡ false → MayAnswer h (s.lsn old.store) (machine.Fetch who name) answer → After h (machine.Fetch who name) answer h
        → Grows h (machine.Fetch who name) answer clean.count → new.memory ≡ with_copies new.memory.copies old.memory → Does s h (machine.Fetch who name) answer old new
    stays answer fine reply after grows memory =
        does_by s h h (machine.Fetch who name) answer old new clean.count st reply after (λ _ s t k a is done. cc) (subst (Knows h) (sym memory) (knows_copies h old.memory new.memory.copies st.knows)) same
        (λ on. (
          grows,
          clean.lsn,
          record {
            xids = goes.xids;
            holds = clean.holds;
            remembers = subst (λ (e : Env). Remembers h goes.xids e new.memory.sessions) (sym env) (subst (λ (k : Kept). Remembers h goes.xids (env_of h.shape blocks) k.sessions) (sym memory) goes.remembers);
            copies = kept goes.xids serves goes.copies;
          },
        ))
        (λ on. ap (λ (k : Kept). k.dead) memory ∙ st.owes on)
        (λ before on keeps. clean.survives (machine.failed_in (machine.Fetch who name) answer before) keeps)

    pub does_row : result ≡ Ok fetched.Row → new.memory.stopped ≡ old.memory.stopped → new.memory.scn ≡ old.memory.scn → new.memory.waits ≡ old.memory.waits → new.memory.dead ≡ old.memory.dead
        → new.memory.sessions ≡ with_kept old.memory.sessions who (table.with_cursors (kept_at old.memory.sessions who) (with_last name row.key (kept_at old.memory.sessions who).cursors))
        → Does s h (machine.Fetch who name) (machine.Given row.key row.value.items) old new
    does_row is stopped scn waits dead moved =
        let f = finds (Ok fetched.Row) is in
        let gives = views.gives h goes.xids blocks goes.holds.blocks who (record { name = name; cursor = m }) one.0 one.2 f.0 row.key row.value.items f.2 f.3 in
        let session : Session = record (session_of h who) { cursors = with_taken name (cursors_of h who) } in
        let h2 : State = with_cursors h who (with_taken name (cursors_of h who)) in
        let in_table : (1 ≤ who) × (who ≤ length h.sessions) = (there.0, (let n = st.knows.sixteen in omega (arith, n, there))) in
        let asked = ap (λ (l : List KeptSession). map (λ k. k.asked) l) moved ∙ all_asked old.memory.sessions (who - 1) (table.with_cursors (kept_at old.memory.sessions who) (with_last name row.key (kept_at old.memory.sessions who).cursors)) refl in
        let remembers : Remembers h2 goes.xids (env_of h.shape blocks) new.memory.sessions =
        subst (Remembers h2 goes.xids (env_of h.shape blocks)) (sym moved) (taken h goes.xids blocks goes.holds.blocks who name m f.0 row.key row.value.items f.2 f.3 old.memory.sessions goes.remembers there.0 there.1 is_named) in
        does_calm s h h2 (machine.Fetch who name) (machine.Given row.key row.value.items) old new clean.count st
        (answers _ (machine.Given row.key row.value.items) gives) refl (λ _ s t k a is done. cc)
        (knows_on h h2 old.memory new.memory st.knows (after_sessions h h2 (machine.Fetch who name) (machine.Given row.key row.value.items) refl) refl refl stopped scn (λ on. knows_same h h2 old.memory new.memory refl refl waits asked (st.knows.queue on))) same
        (λ _. (
          clean.few,
          clean.lsn,
          record {
            xids = goes.xids;
            holds = holds_session s st.told laws h who goes.xids new.store session in_table refl clean.holds;
            remembers = subst (λ (e : Env). Remembers h2 goes.xids e new.memory.sessions) (sym env) remembers;
            copies = copies_same h h2 goes.xids (s.blocks new.store) (s.blocks new.store) new.memory.copies new.memory.copies refl refl refl refl (kept goes.xids serves goes.copies);
          },
        ))
        dead (λ k is. cc)
        (λ before _ keeps. survives_on s (s.slots old.store) h h h2 old.store new.store new.store going (clean.survives before keeps)
        (subst (λ (k : Option ℕ). Survives s k before h h2 new.store new.store) same.slots (survives_same s st.told laws h h2 goes.xids new.store new.store true (same.shape ∙ st.shape) refl refl refl refl clean.holds (no_logs s new.store runs) keeps)))

    pub does_end : result ≡ Ok fetched.End → new.memory ≡ with_copies new.memory.copies old.memory → Does s h (machine.Fetch who name) machine.End old new
    does_end is memory =
        stays machine.End refl (answers _ machine.End (views.ends h goes.xids blocks goes.holds.blocks who (record { name = name; cursor = m }) one.0 one.2 (finds (Ok fetched.End) is))) refl clean.few memory

    pub does_old : (scn lost : ℕ) → result ≡ Err (faults.TooOld scn lost) → new.memory ≡ with_copies new.memory.copies old.memory → Does s h (machine.Fetch who name) (Refused (TooOld scn lost)) old new
    does_old scn lost is memory =
        let behind = finds (Err (faults.TooOld scn lost)) is in
        stays (Refused (TooOld scn lost)) refl
        (old_reply h goes.xids blocks goes.holds.blocks (s.lsn old.store) (machine.Fetch who name) _ m.scn scn lost early (one.0, one.1, sym one.2.number) behind.5)
        refl clean.few memory

-- no early test answers that it is too old
pub not_old : (h : State) (who : ℕ) (why : Refusal) (scn lost : ℕ) → Refuses (session_tests h who) why → why ≡ TooOld scn lost → ⊥
not_old h who why scn lost refuses is = first h.stopped (not (is_session who)) (is_waiting h who) (ap (λ (w : Refusal). Refused w) (sym is) ∙ refuses.1)
  where
    first : (a b c : Bool) → Refused (TooOld scn lost) ≡ machine.first_of ((a, Refused Stopped) ∷ (b, Refused NoSession) ∷ (c, Refused Waiting) ∷ []) machine.Done → ⊥
    first true b c e = cc
    first false true c e = cc
    first false false true e = cc
    first false false false e = cc

-- it tells these two numbers
pub same_old : (a b x y : ℕ) → (let r : Result Fetched Refusal = Err (TooOld a b) in r) ≡ Err (TooOld x y) → (a ≡ x) × (b ≡ y)
same_old a b x y e = ((let one : a ≡ x = cc in one), (let two : b ≡ y = cc in two))
