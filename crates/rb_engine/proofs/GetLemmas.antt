-- What a read of one key finds in the key's home, and what that makes of the call.
use Rattle.std.proofs.Common.{◌≡◌, ◌≢◌, inl, inr, ◌<◌, ◌≤◌, ◌-◌, ◌*◌, ◌+◌, ◌%◌, ℕ, true, false, List, [], Some, None, refl, sym, ◌∙◌, ap, subst, arith}
use Rattle.rb_base.specs.Blocks.{home_block}
use Rattle.rb_base.specs.declared.store.Store.{Ghosts}
use Rattle.rb_cr.specs.declared.faults.CrFault.TheVariants as faults
use Rattle.rb_engine.specs.Cleaning.{HasCleaned, IsHere, IsOnTheWay, Serves}
use Rattle.rb_engine.specs.Does.{Does, EngineView, Goes, Kept, Knows, Stands, with_copies}
use Rattle.rb_engine.specs.Getting.{GetNeedsLost, KeyRead}
use Rattle.rb_engine.specs.Scanning.{HasNext, HasNone, IsBehind, IsReader, opened_now}
use Rattle.rb_engine.proofs.CleanLemmas.{env_same}
use Rattle.rb_engine.proofs.CopyLemmas.{knows_copies}
use Rattle.rb_engine.proofs.DoesLemmas.{does_by}
use Rattle.rb_engine.proofs.LateLemmas.{old_reply}
use Rattle.law_copies.specs.Copies.{CopiesStand}
use Rattle.law_home.specs.Walk.{Env}
use Rattle.law_blocks.specs.Standing.{env_of}
use Rattle.law_sessions.proofs.Cursors.{opened_is}
use Rattle.law_sessions.proofs.Fetching as views
use Rattle.law_sessions.specs.Laws.{cursor_opened}
use Rattle.law_sessions.specs.Scan.{IsAskedKey}
use Rattle.law_sessions.specs.Views.{IsCursor, Remembers, home_in}
use Rattle.rb_model.proofs.KeyLemmas.{first_asked}
use Rattle.rb_model.specs.Calls as machine
use Rattle.rb_model.specs.Calls.{Answer, Refused, MayAnswer, early_tests, none_applies, next_row}
use Rattle.rb_model.specs.KeyLaws.{or_absent}
use Rattle.rb_model.specs.NextState.{After, Grows, opened_cursor}
use Rattle.rb_model.specs.Rows.{last_scn}
use Rattle.rb_model.specs.State as state
use Rattle.rb_model.specs.State.{State, is_table}
use Rattle.rb_model.specs.declared.refusal.Refusal.TheVariants.{TooOld}
use Rattle.rb_model.specs.declared.row.Row.{Row}
use Rattle.rb_sessions.specs.Kept.{kept_at}
use Rattle.rb_sessions.specs.declared.cursor.Cursor.{Cursor}
use Rattle.rb_sessions.specs.declared.sessions.TheConstants.{SESSIONS}
use Rattle.rb_rollback.specs.Backs.{SameStore}

-- an engine that stands for a state, and a cursor over one key as a session of it would open it now
module _ {S : Type 0} (s : Ghosts S) (h : State) (old : EngineView S) (st : Stands s h old) (going : h.stopped ≡ false) (who : ℕ) (there : (1 ≤ who) × (who ≤ SESSIONS)) (table key : ℕ) (in_tables : is_table h table ≡ true)
    (early : none_applies (early_tests h (machine.Get who table key)) ≡ true) (m : Cursor) (m_is : m ≡ cursor_opened h (kept_at old.memory.sessions who) table key key) (home : ℕ) (home_is : home ≡ key % h.shape.blocks) where
  abbrev blocks : List (List ℕ)
  blocks = s.blocks old.store

  abbrev goes : Goes s h old
  goes = st.goes going

  abbrev c : state.Cursor
  c = opened_cursor h who [] table key key

  abbrev call : machine.Call
  call = machine.Get who table key

  -- it is one in the machine
  is : IsCursor h goes.xids (env_of h.shape blocks) who (record { name = []; cursor = m }) c
  is =
      subst (λ (z : Cursor). IsCursor h goes.xids (env_of h.shape blocks) who (record { name = []; cursor = z }) c) (sym m_is)
      (opened_is h goes.xids blocks old.memory.sessions who [] table key key goes.holds.blocks goes.remembers there.0 there.1 in_tables)

  reader : IsReader h goes.xids blocks m
  reader = record { stand = goes.holds.blocks; session = who; low = there.0; name = []; cursor = c; is = is }

  -- of which the store stands for the state
  pub serves : Serves s h goes.xids m old.store
  serves = record { shape = st.shape; holds = goes.holds; reader = reader; going = going }

  -- it asks for its key alone, so that no other home has a row of it
  only_key : (f k : ℕ) → IsAskedKey h.shape.blocks m.lo m.hi m.last f k → k ≡ key
  only_key f k asked = let low = asked.low in let high = asked.high in let a = is.lo in let b = is.hi in omega (arith, low, high, a, b)

  nowhere_else : (f : ℕ) → f ≢ home → HasNone h goes.xids blocks m f
  nowhere_else f other k asked = absurd (other (sym asked.home ∙ ap (λ (n : ℕ). n % h.shape.blocks) (only_key f k asked) ∙ sym home_is))

  -- where its home is
  at : home_in h.shape m.table home ≡ home_block h.shape table key
  at = ap (λ (t : ℕ). (t - 1) * h.shape.blocks + home) is.table ∙ ap (λ (n : ℕ). (table - 1) * h.shape.blocks + n) home_is

  on_the_way : IsOnTheWay h.shape m home
  on_the_way = record {
    there = subst (λ (n : ℕ). n < h.shape.blocks) (sym home_is) (let some = goes.holds.blocks.tell.in_range.few_blocks.0 in omega (arith, some));
    key = (key, sym home_is, (let a = is.lo in omega (arith, a)), (let b = is.hi in omega (arith, b)));
    behind = λ l last. (let clash : None ≡ Some l = sym (ap (λ (z : Cursor). z.last) m_is) ∙ last in absurd cc);
  }

  -- the answer, by what the cursor would give first
  answers : (logged : ℕ) (r : Answer) → r ≡ or_absent (next_row h (Some c)) → MayAnswer h logged call r
  answers logged r gives = MayAnswer.later [] early refl (gives ∙ sym (first_asked table key (machine.rows_seen h who)))

  -- what couldn't be read
  pub needs_lost : (scn lost : ℕ) → IsBehind h goes.xids blocks m home (faults.TooOld scn lost) → GetNeedsLost s h old who table key scn lost
  needs_lost scn lost behind = (goes.xids, record { stand = goes.holds.blocks; kept = m; is = is; behind = subst (λ (n : ℕ). IsBehind h goes.xids blocks m n (faults.TooOld scn lost)) home_is behind })

  -- what was cleaned
  module _ (new : S) (clean : HasCleaned s h goes.xids (IsHere h.shape m home) (IsHere h.shape m home) 1 old.store new) where
    pub key_read : (well : Type 0) → KeyRead h table key well (s.lsn new) blocks (s.blocks new)
    key_read well = record {
      only = record {
        segments = clean.only.segments;
        each = λ b. elim (clean.only.each b) [
          | inl same ↦ inl same
          | inr here ↦ inr (here.0.1 ∙ at, here.1)
        ];
      };
      all = λ yes young. clean.all (home_block h.shape table key) (on_the_way, sym at) young;
    }

  module _ (new : EngineView S) (same : SameStore s old.store new.store) (clean : HasCleaned s h goes.xids (IsHere h.shape m home) (IsHere h.shape m home) 1 old.store new.store)
      (kept : CopiesStand h goes.xids (s.blocks new.store) new.memory.copies.kept) (memory : new.memory ≡ with_copies new.memory.copies old.memory) where
    env : env_of h.shape (s.blocks new.store) ≡ env_of h.shape blocks
    env = env_same h.shape blocks (s.blocks new.store) clean.only.segments

    -- an answer leaves the state
    stays : (answer : Answer) → MayAnswer h (s.lsn old.store) call answer → After h call answer h → Grows h call answer clean.count → Does s h call answer old new
    stays answer reply after grows =
        does_by s h h call answer old new clean.count st reply after (λ _ s t k a is done. cc) (subst (Knows h) (sym memory) (knows_copies h old.memory new.memory.copies st.knows)) same
        (λ on. (
          grows,
          clean.lsn,
          record {
            xids = goes.xids;
            holds = clean.holds;
            remembers = subst (λ (e : Env). Remembers h goes.xids e new.memory.sessions) (sym env) (subst (λ (k : Kept). Remembers h goes.xids (env_of h.shape blocks) k.sessions) (sym memory) goes.remembers);
            copies = kept;
          },
        ))
        (λ on. ap (λ (k : Kept). k.dead) memory ∙ st.owes on)
        (λ before on keeps. clean.survives (machine.failed_in call answer before) keeps)

    pub does_row : (row : Row) → HasNext h goes.xids blocks m home row → Does s h call (machine.Given row.key row.value.items) old new
    does_row row next =
        let gives = views.gives h goes.xids blocks goes.holds.blocks who (record { name = []; cursor = m }) c is home row.key row.value.items (λ f lt. nowhere_else f (λ e. let one = e in omega (arith, one, lt))) next in
        stays (machine.Given row.key row.value.items) (answers _ (machine.Given row.key row.value.items) (sym (ap or_absent gives))) refl clean.few

    pub does_absent : HasNone h goes.xids blocks m home → Does s h call machine.Absent old new
    does_absent none =
        let ends = views.ends h goes.xids blocks goes.holds.blocks who (record { name = []; cursor = m }) c is (λ g g_in. all g) in
        stays machine.Absent (answers _ machine.Absent (sym (ap or_absent ends))) refl clean.few
      where
        all : (g : ℕ) → HasNone h goes.xids blocks m g
        all g k asked =
            let here : g ≡ home = sym asked.home ∙ ap (λ (n : ℕ). n % h.shape.blocks) (only_key g k asked) ∙ sym home_is in
            subst (λ (n : ℕ). HasNone h goes.xids blocks m n) (sym here) none k asked

    pub does_old : (scn lost : ℕ) → IsBehind h goes.xids blocks m home (faults.TooOld scn lost) → Does s h call (Refused (TooOld scn lost)) old new
    does_old scn lost behind =
        stays (Refused (TooOld scn lost)) (old_reply h goes.xids blocks goes.holds.blocks (s.lsn old.store) call _ m.scn scn lost early is.number behind) refl clean.few

-- a cursor as memory opens it is one as the machine opens it
pub opened_at : (h : State) (kept : Kept) (who table lo hi : ℕ) → kept.scn ≡ last_scn h.commits → opened_now kept who table lo hi ≡ cursor_opened h (kept_at kept.sessions who) table lo hi
opened_at h kept who table lo hi scn = rw scn refl
