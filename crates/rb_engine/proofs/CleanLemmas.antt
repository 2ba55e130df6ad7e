-- What a reader's cleaning leaves: the store stands for the state, the cursor is one of it, and each home has the rows
-- that it had, and lacks what it lacked.
use Rattle.std.proofs.Common.{◌≡◌, ◌⊎◌, inl, inr, ◌<◌, ◌≤◌, ◌+◌, ◌-◌, ◌*◌, ℕ, Bool, true, false, not, List, [], length, map, Option, Some, None, Result, Ok, Err, OnOk, refl, sym, ◌∙◌, ap, subst, arith}
use Rattle.std.specs.Result.{is_err}
use Rattle.std.proofs.Math.Nat.{add-mul, mul-le-mul_right}
use Rattle.std.proofs.lemmas.Bool.{cases_eq, cases_lt}
use Rattle.std.proofs.lemmas.List.{get_or-map, get_or_past, length-map}
use Rattle.rb_base.specs.Blocks.{block_of, table_blocks}
use Rattle.rb_base.specs.Logs.{Laws, Logs}
use Rattle.rb_base.specs.declared.faults.Failed.{Failed}
use Rattle.rb_base.specs.declared.ids.Xid.{Xid}
use Rattle.rb_base.specs.declared.shape.Shape.{Shape}
use Rattle.rb_base.specs.declared.sizes.TheConstants.{WORN}
use Rattle.rb_base.specs.declared.store.Store.{Ghosts}
use Rattle.rb_cr.specs.Faults.{Because}
use Rattle.rb_cr.specs.declared.faults.CrFault.{CrFault}
use Rattle.rb_cr.specs.declared.faults.CrFault.TheVariants as faults
use Rattle.rb_engine.specs.Cleaning.{Cleans, HasCleaned, IsBefore, IsClean, IsHere, IsOnTheWay, OnlyCleaned, ReadIn, Serves}
use Rattle.rb_engine.specs.Scanning.{HasKey, HasNext, HasNone, IsBehind, IsReader}
use Rattle.rb_engine.proofs.DoesLemmas.{fault_survives}
use Rattle.rb_heap.specs.Cleaning.{cleaned_home}
use Rattle.rb_heap.specs.Homes.{home_of}
use Rattle.law_crash.specs.Crash.{Survives}
use Rattle.law_crash.specs.Holds.{Holds}
use Rattle.law_crash.specs.Made.{CleanMade, GivesAny}
use Rattle.law_crash.proofs.Crashes.{survives_on}
use Rattle.law_crash.proofs.StepsHeld.{clean_fault, holds_cleaned}
use Rattle.rb_model.specs.Calls.{Call}
use Rattle.rb_model.specs.State.{State}
use Rattle.rb_model.specs.declared.row.Row.{Row}
use Rattle.law_read.specs.Heights.{BeyondIn, StatusBeyond}
use Rattle.law_read.specs.Reading.{History, Worn}
use Rattle.rb_restart.proofs.Slots.{owed_is}
use Rattle.rb_segment.specs.Header.{Segment}
use Rattle.rb_segment.specs.Segments.{owed_in}
use Rattle.rb_sessions.specs.declared.cursor.Cursor.{Cursor}
use Rattle.law_blocks.proofs.CleanedSound.{home_walked}
use Rattle.law_blocks.specs.Says.{says, walk_home}
use Rattle.law_blocks.specs.Standing.{env_of, homes_of, segments_of}
use Rattle.law_blocks.specs.States.{BlocksStand, lives_of, past_of}
use Rattle.law_blocks.specs.Values.{owed, rows_here}
use Rattle.rb_txntable.specs.declared.looks.Look.{Look}
use Rattle.rb_txntable.specs.declared.looks.Look.TheVariants.{Active, At, Before}
use Rattle.law_sessions.specs.Laws.{rows_seen}
use Rattle.law_sessions.specs.Views.{history, home_in, reader_slot}
use Rattle.law_home.specs.Homes.{here, narrow}
use Rattle.law_home.specs.Kinds.{Status, Free, Open, Exact, Bound}
use Rattle.law_home.specs.Steps.{cleaned, cleaned_entry, cleaned_status, told_by}
use Rattle.law_home.specs.Walk.{Env, Home, entry_at, free_entry}
use Rattle.rb_rollback.specs.Backs.{Fails}
use Rattle.rb_rollback.proofs.Backs.{holds_logged, survives_same}

-- Where the segments are the same, so is all that they say.

pub env_same : (shape : Shape) (before now : List (List ℕ)) → segments_of shape now ≡ segments_of shape before → env_of shape now ≡ env_of shape before
env_same shape before now same = ap (says shape) same

pub owed_same : (shape : Shape) (before now : List (List ℕ)) → segments_of shape now ≡ segments_of shape before → owed_in shape now ≡ owed_in shape before
owed_same shape before now same = owed_is shape now ∙ (ap (λ (f : ℕ → Segment). owed shape f) same ∙ sym (owed_is shape before))

pub history_same : (h : State) (xids : List Xid) (before now : List (List ℕ)) (b : ℕ) (own : Option Xid) → env_of h.shape now ≡ env_of h.shape before → history h xids now b own ≡ history h xids before b own
history_same h xids before now b own same =
    ap (λ (env : Env). let hist : History = record {
      base = h.commits.base;
      rows = rows_here h.shape b h.commits.rows;
      list = map (narrow b) (past_of h xids).list;
      lives = map (here b) (lives_of h env);
      reader = reader_slot own;
    } in hist) same

module _ (h : State) (xids : List Xid) (before now : List (List ℕ)) (m : Cursor) (same : env_of h.shape now ≡ env_of h.shape before) where
  pub reader_same : BlocksStand h xids now → IsReader h xids before m → IsReader h xids now m
  reader_same stand reader = record {
    stand = stand;
    session = reader.session;
    low = reader.low;
    name = reader.name;
    cursor = reader.cursor;
    is = subst (λ (env : Env). Rattle.law_sessions.specs.Views.IsCursor h xids env reader.session (record { name = reader.name; cursor = m }) reader.cursor) (sym same) reader.is;
  }

  seen_same : (g : ℕ) → rows_seen h xids now m g ≡ rows_seen h xids before m g
  seen_same g = ap (λ (hist : History). Rattle.law_read.specs.Reading.answer hist m.own m.upto m.scn) (history_same h xids before now (home_in h.shape m.table g) m.own same)

  pub none_same : (g : ℕ) → HasNone h xids now m g → HasNone h xids before m g
  none_same g none = subst (λ (rows : ℕ → Option (List ℕ)). Rattle.law_sessions.specs.Scan.NoneIn h.shape.blocks m.lo m.hi m.last rows g) (seen_same g) none

  pub next_same : (g : ℕ) (row : Row) → HasNext h xids now m g row → HasNext h xids before m g row
  next_same g row next = subst (λ (rows : ℕ → Option (List ℕ)). Rattle.law_sessions.specs.Scan.IsNextIn h.shape.blocks m.lo m.hi m.last rows g row.key row.value.items) (seen_same g) next

-- A home that can't be read once it is cleaned couldn't be read before.

status_beyond : (env : Env) (n : ℕ) (x : Xid) (st : Status) → StatusBeyond env n x (cleaned_status env x st) → StatusBeyond env n x st
status_beyond env n x Free is = is
status_beyond env n x Open is = by (env.look x) refl is
  where
    by : (l : Look) → env.look x ≡ l → StatusBeyond env n x (told_by (env.look x)) → Rattle.law_read.specs.Heights.LookBeyond n (env.look x)
    by Active e told = subst (λ (l : Look). StatusBeyond env n x (told_by l)) e told
    by (At c) e told = absurd (subst (λ (l : Look). StatusBeyond env n x (told_by l)) e told)
    by (Before b) e told = subst (λ (l : Look). Rattle.law_read.specs.Heights.LookBeyond n l) (sym e) (subst (λ (l : Look). StatusBeyond env n x (told_by l)) e told)
status_beyond env n x (Exact c) is = is
status_beyond env n x (Bound b) is = is

entry_cleaned : (env : Env) (b : Home) (j : ℕ) → entry_at (cleaned env b) j ≡ cleaned_entry env (entry_at b j)
entry_cleaned env b j = elim (cases_lt j (length b.entries)) [
  | inl lt ↦ get_or-map (cleaned_entry env) b.entries j free_entry free_entry lt
  | inr past ↦
      get_or_past (map (cleaned_entry env) b.entries) j free_entry (let n = length-map b.entries (cleaned_entry env) in omega (arith, past, n))
      ∙ ap (cleaned_entry env) (sym (get_or_past b.entries j free_entry past))
]

pub worn_before : (env : Env) (hist : History) (n : ℕ) (b : Home) (seg : ℕ) → Worn env hist n (cleaned env b) seg → Worn env hist n b seg
worn_before env hist n b seg (inl (j, over)) =
    let entry = subst (BeyondIn env n seg) (entry_cleaned env b j) over in
    inl (j, (status_beyond env n (entry_at b j).xid (entry_at b j).status entry.0, entry.1))
worn_before env hist n b seg (inr cause) = inr cause

-- another reason of the same fault
because_of : (env : Env) (n : ℕ) (why other : ℕ → Type 0) → ((seg : ℕ) → why seg → other seg) → (fault : CrFault) → Because env n why fault → Because env n other fault
because_of env n why other so faults.Failed is = tt
because_of env n why other so (faults.TooOld scn lost) is = (is.0, is.1, (is.2.0, is.2.1, so is.2.0 is.2.2))

module _ (h : State) (xids : List Xid) (before now : List (List ℕ)) (stand : BlocksStand h xids before) (m : Cursor) (g : ℕ) (there : home_in h.shape m.table g < table_blocks h.shape) (same : env_of h.shape now ≡ env_of h.shape before) where
  abbrev B : ℕ
  B = home_in h.shape m.table g

  -- the home as it is read is as it was, or cleaned
  homes_read : (block_of now B ≡ block_of before B) ⊎ IsClean h.shape before now B
      → (homes_of h.shape now B ≡ homes_of h.shape before B) ⊎ (homes_of h.shape now B ≡ cleaned (env_of h.shape before) (homes_of h.shape before B))
  homes_read (inl is) = inl (ap (λ (l : List ℕ). walk_home h.shape B (home_of l)) is)
  homes_read (inr clean) = inr (ap (walk_home h.shape B) clean ∙ home_walked h.shape before (past_of h xids) (lives_of h (env_of h.shape before)) stand.standing B there)

  pub behind_same : (block_of now B ≡ block_of before B) ⊎ IsClean h.shape before now B → (fault : CrFault) → IsBehind h xids now m g fault → IsBehind h xids before m g fault
  behind_same is fault behind =
      let hist = history h xids before B m.own in
      let over : Because (env_of h.shape before) m.scn (Worn (env_of h.shape before) hist m.scn (homes_of h.shape now B)) fault =
      subst (λ (k : History). Because (env_of h.shape before) m.scn (Worn (env_of h.shape before) k m.scn (homes_of h.shape now B)) fault) (history_same h xids before now B m.own same)
      (subst (λ (env : Env). Because env m.scn (Worn env (history h xids now B m.own) m.scn (homes_of h.shape now B)) fault) same behind) in
      because_of (env_of h.shape before) m.scn (Worn (env_of h.shape before) hist m.scn (homes_of h.shape now B)) (Worn (env_of h.shape before) hist m.scn (homes_of h.shape before B)) (λ seg worn. by seg worn (homes_read is)) fault over
    where
      by : (seg : ℕ) → Worn (env_of h.shape before) (history h xids before B m.own) m.scn (homes_of h.shape now B) seg
          → (homes_of h.shape now B ≡ homes_of h.shape before B) ⊎ (homes_of h.shape now B ≡ cleaned (env_of h.shape before) (homes_of h.shape before B))
          → Worn (env_of h.shape before) (history h xids before B m.own) m.scn (homes_of h.shape before B) seg
      by seg worn (inl e) = subst (λ (b : Home). Worn (env_of h.shape before) (history h xids before B m.own) m.scn b seg) e worn
      by seg worn (inr e) = worn_before (env_of h.shape before) (history h xids before B m.own) m.scn (homes_of h.shape before B) seg (subst (λ (b : Home). Worn (env_of h.shape before) (history h xids before B m.own) m.scn b seg) e worn)

-- a home of a table is a block of rows
pub in_table : (table g : ℕ) (shape : Shape) → g < shape.blocks → (1 ≤ table) × (table ≤ shape.tables) → home_in shape table g < table_blocks shape
in_table table g shape lt there =
    let up = mul-le-mul_right shape.blocks (let w : table - 1 + 1 ≤ shape.tables = omega (arith, there) in w) in
    let split = add-mul (table - 1) 1 shape.blocks in
    omega (arith, up, split, lt)

-- what is left of a block, whichever it is
pub same_or_clean : {A B C : Type 0} → A ⊎ (B × C) → A ⊎ C
same_or_clean (inl a) = inl a
same_or_clean (inr b) = inr b.1

-- the number of a home in its table is told by its block
one_home : (table blocks f g : ℕ) → (table - 1) * blocks + f ≡ (table - 1) * blocks + g → f ≡ g
one_home table blocks f g same = omega (arith, same)

module _ {S : Type 0} (s : Ghosts S) where
  module _ (told : s.tells) (laws : Laws s) (h : State) (xids : List Xid) (m : Cursor) where
    -- The cursor goes on over what is left.
    pub serves_on : {May Must : ℕ → Type 0} {most : ℕ} (old new : S) → s.shape_of new ≡ s.shape_of old → Serves s h xids m old → HasCleaned s h xids May Must most old new → Serves s h xids m new
    serves_on old new shape serves clean = record {
      shape = shape ∙ serves.shape;
      holds = clean.holds;
      reader = reader_same h xids (s.blocks old) (s.blocks new) m (env_same h.shape (s.blocks old) (s.blocks new) clean.only.segments) clean.holds.blocks serves.reader;
      going = serves.going;
    }

    -- Nothing was cleaned.
    pub none_cleaned : (May Must : ℕ → Type 0) (most : ℕ) (old new : S) → Serves s h xids m old → Logs s old new [] true → ((b : ℕ) → Must b → s.lsn new < WORN → IsClean h.shape (s.blocks old) (s.blocks new) b) → HasCleaned s h xids May Must most old new
    none_cleaned May Must most old new serves logs all =
        let same : s.blocks new ≡ s.blocks old = logs.blocks told refl in record {
          holds = holds_logged s told laws h xids old new serves.holds logs;
          only = record { segments = ap (segments_of h.shape) same; each = λ b. inl (ap (λ (l : List (List ℕ)). block_of l b) same) };
          all = all;
          count = 0;
          few = omega arith;
          lsn = let n = logs.number refl in omega (arith, n);
          survives = λ before keeps. survives_same s told laws h h xids old new true serves.shape refl refl refl refl serves.holds logs keeps;
        }

    module _ (g : ℕ) (on : IsOnTheWay h.shape m g) where
      abbrev Here : ℕ
      Here = home_in h.shape m.table g

      abbrev Made : S → List (List ℕ) → Type 0
      Made old now = CleanMade h xids Here (s.blocks old) now

      -- A home on the way was cleaned, or there was nothing to clean, or the log is worn out.
      pub home_cleaned : (old mid : S) → Serves s h xids m old → (s.lsn old < WORN → IsClean h.shape (s.blocks old) (s.blocks mid) Here) → GivesAny s old mid true (Made old) → HasCleaned s h xids (IsHere h.shape m g) (IsHere h.shape m g) 1 old mid
      home_cleaned old mid serves clean (inl one) =
          let all : (before : Option Call) → Holds s h xids mid × (s.keeps → Survives s (s.slots old) before h h old mid) = λ before. holds_cleaned s told laws h xids old mid Here serves.shape serves.holds before one in
          let made : Made old (s.blocks mid) × (s.lsn mid ≡ s.lsn old + 1) =
          (let single = one.one refl in (subst (Made old) (sym (one.logs.blocks told refl)) (one.made (omega (arith, single))), (let n = one.logs.number refl in omega (arith, n, single)))) in
          record {
            holds = (all None).0;
            only = record {
              segments = made.0.segments;
              each = λ b. elim (cases_eq b Here) [
                | inl is ↦ inr ((on, is), subst (IsClean h.shape (s.blocks old) (s.blocks mid)) (sym is) made.0.home)
                | inr ne ↦ inl (made.0.others b ne)
              ];
            };
            all = λ b is young. subst (IsClean h.shape (s.blocks old) (s.blocks mid)) (sym is.1) made.0.home;
            count = 1;
            few = omega arith;
            lsn = made.1;
            survives = λ before keeps. (all before).1 keeps;
          }
      home_cleaned old mid serves clean (inr logs) =
          none_cleaned (IsHere h.shape m g) (IsHere h.shape m g) 1 old mid serves logs
          (λ b is young. subst (IsClean h.shape (s.blocks old) (s.blocks mid)) (sym is.1)
          (clean (let n = logs.number refl in omega (arith, n, young))))

      -- It couldn't be cleaned.
      pub home_fails : (old mid : S) → Serves s h xids m old → GivesAny s old mid false (Made old) → (fault : Option Call) → Fails s fault h old mid
      home_fails old mid serves (inl one) fault keeps = clean_fault s told laws h xids old mid Here serves.shape serves.holds one keeps
      home_fails old mid serves (inr logs) fault keeps = fault_survives s told laws h xids old mid serves.shape serves.holds logs keeps

      -- What a step's result says.
      pub step_cleaned : (old mid : S) (block : ℕ) (r : Result (Unit {0}) Failed) → block ≡ Here → is_err r ≡ false → Serves s h xids m old
          → GivesAny s old mid (not (is_err r)) (λ now. CleanMade h xids block (s.blocks old) now)
          → (s.lsn old < WORN → OnOk r (IsClean h.shape (s.blocks old) (s.blocks mid) block)) → HasCleaned s h xids (IsHere h.shape m g) (IsHere h.shape m g) 1 old mid
      step_cleaned old mid block (Ok done) at fine serves gives clean =
          home_cleaned old mid serves (λ young. subst (IsClean h.shape (s.blocks old) (s.blocks mid)) at (clean young))
          (subst (λ (b : ℕ). GivesAny s old mid true (λ now. CleanMade h xids b (s.blocks old) now)) at gives)
      step_cleaned old mid block (Err fault) at fine serves gives clean = (let clash : true ≡ false = fine in absurd cc)

      pub step_fails : (old mid : S) (block : ℕ) (r : Result (Unit {0}) Failed) → block ≡ Here → is_err r ≡ true → Serves s h xids m old
          → GivesAny s old mid (not (is_err r)) (λ now. CleanMade h xids block (s.blocks old) now) → (fault : Option Call) → Fails s fault h old mid
      step_fails old mid block (Ok done) at fails serves gives = (let clash : false ≡ true = fails in absurd cc)
      step_fails old mid block (Err error) at fails serves gives = home_fails old mid serves (subst (λ (b : ℕ). GivesAny s old mid false (λ now. CleanMade h xids b (s.blocks old) now)) at gives)

    -- Homes before were cleaned, and then this one.
    pub more_cleaned : (g a : ℕ) (old mid new : S) → s.slots mid ≡ s.slots old → Serves s h xids m old → HasCleaned s h xids (IsBefore h.shape m g) (IsBefore h.shape m g) a old mid → HasCleaned s h xids (IsHere h.shape m g) (IsHere h.shape m g) 1 mid new
        → HasCleaned s h xids (IsBefore h.shape m (g + 1)) (IsBefore h.shape m (g + 1)) (a + 1) old new
    more_cleaned g a old mid new slots_mid serves one two =
        let env : env_of h.shape (s.blocks mid) ≡ env_of h.shape (s.blocks old) = env_same h.shape (s.blocks old) (s.blocks mid) one.only.segments in
        record {
          holds = two.holds;
          only = record { segments = two.only.segments ∙ one.only.segments; each = λ b. both env b (one.only.each b) (two.only.each b) };
          all = λ b is young. whole env b is (let n = two.lsn in omega (arith, n, young)) (two.all b) young (one.only.each b) (two.only.each b);
          count = one.count + two.count;
          few = let x = one.few in let y = two.few in omega (arith, x, y);
          lsn = let x = one.lsn in let y = two.lsn in omega (arith, x, y);
          survives = λ before keeps. survives_on s (s.slots old) h h h old mid new serves.going (one.survives before keeps) (subst (λ (k : Option ℕ). Survives s k before h h mid new) slots_mid (two.survives before keeps));
        }
      where
        -- no home is met twice
        apart : (b : ℕ) → IsBefore h.shape m g b → IsHere h.shape m g b → ⊥
        apart b before now = let same = one_home m.table h.shape.blocks before.0 g (sym before.2.1 ∙ now.1) in let less = before.1 in omega (arith, same, less)

        -- clean as the state between says is clean as the one before does, where the block was the same
        as_before : env_of h.shape (s.blocks mid) ≡ env_of h.shape (s.blocks old) → (b : ℕ) → block_of (s.blocks mid) b ≡ block_of (s.blocks old) b → IsClean h.shape (s.blocks mid) (s.blocks new) b → IsClean h.shape (s.blocks old) (s.blocks new) b
        as_before env b same clean = clean ∙ (ap (λ (e : Env). cleaned_home e.look (home_of (block_of (s.blocks mid) b))) env ∙ ap (λ (l : List ℕ). cleaned_home (env_of h.shape (s.blocks old)).look (home_of l)) same)

        still : (b : ℕ) → block_of (s.blocks new) b ≡ block_of (s.blocks mid) b → IsClean h.shape (s.blocks old) (s.blocks mid) b → IsClean h.shape (s.blocks old) (s.blocks new) b
        still b same clean = ap (λ (l : List ℕ). home_of l) same ∙ clean

        both : env_of h.shape (s.blocks mid) ≡ env_of h.shape (s.blocks old) → (b : ℕ) → (block_of (s.blocks mid) b ≡ block_of (s.blocks old) b) ⊎ (IsBefore h.shape m g b × IsClean h.shape (s.blocks old) (s.blocks mid) b)
            → (block_of (s.blocks new) b ≡ block_of (s.blocks mid) b) ⊎ (IsHere h.shape m g b × IsClean h.shape (s.blocks mid) (s.blocks new) b)
            → (block_of (s.blocks new) b ≡ block_of (s.blocks old) b) ⊎ (IsBefore h.shape m (g + 1) b × IsClean h.shape (s.blocks old) (s.blocks new) b)
        both env b (inl x) (inl y) = inl (y ∙ x)
        both env b (inr x) (inl y) = inr ((x.0.0, (let less = x.0.1 in omega (arith, less)), x.0.2), still b y x.1)
        both env b (inl x) (inr y) = inr ((g, omega arith, y.0), as_before env b x y.1)
        both env b (inr x) (inr y) = absurd (apart b x.0 y.0)

        whole : env_of h.shape (s.blocks mid) ≡ env_of h.shape (s.blocks old) → (b : ℕ) → IsBefore h.shape m (g + 1) b → s.lsn mid < WORN → (IsHere h.shape m g b → s.lsn new < WORN → IsClean h.shape (s.blocks mid) (s.blocks new) b) → s.lsn new < WORN
            → (block_of (s.blocks mid) b ≡ block_of (s.blocks old) b) ⊎ (IsBefore h.shape m g b × IsClean h.shape (s.blocks old) (s.blocks mid) b)
            → (block_of (s.blocks new) b ≡ block_of (s.blocks mid) b) ⊎ (IsHere h.shape m g b × IsClean h.shape (s.blocks mid) (s.blocks new) b)
            → IsClean h.shape (s.blocks old) (s.blocks new) b
        whole env b (f, less, is) was here now x y = elim (cases_eq f g) [
          | inl same ↦
              let this : IsHere h.shape m g b = subst (λ (n : ℕ). IsHere h.shape m n b) same is in
              elim x [
                | inl unchanged ↦ as_before env b unchanged (here this now)
                | inr before ↦ absurd (apart b before.0 this)
              ]
          | inr ne ↦
              let before : IsBefore h.shape m g b = (f, omega (arith, less, ne), is) in
              elim y [
                | inl unchanged ↦ still b unchanged (one.all b before was)
                | inr this ↦ absurd (apart b before this.0)
              ]
        ]

    -- Calls that only loaded, behind a cleaning.
    pub cleaned_loaded : {May Must : ℕ → Type 0} {most : ℕ} (old mid new : S) → Serves s h xids m old → s.shape_of mid ≡ s.shape_of old → s.slots mid ≡ s.slots old → HasCleaned s h xids May Must most old mid → Logs s mid new [] true → HasCleaned s h xids May Must most old new
    cleaned_loaded {May = May} old mid new serves shape slots clean logs =
        let same : s.blocks new ≡ s.blocks mid = logs.blocks told refl in record {
          holds = holds_logged s told laws h xids mid new clean.holds logs;
          only = subst (λ (l : List (List ℕ)). OnlyCleaned h.shape May (s.blocks old) l) (sym same) clean.only;
          all = λ b is young. subst (λ (l : List (List ℕ)). IsClean h.shape (s.blocks old) l b) (sym same)
              (clean.all b is (let n = logs.number refl in omega (arith, n, young)));
          count = clean.count;
          few = clean.few;
          lsn = let n = logs.number refl in let k = clean.lsn in omega (arith, n, k);
          survives = λ before keeps. survives_on s (s.slots old) h h h old mid new serves.going (clean.survives before keeps)
              (subst (λ (k : Option ℕ). Survives s k before h h mid new) slots (survives_same s told laws h h xids mid new true (shape ∙ serves.shape) refl refl refl refl clean.holds logs keeps));
        }

    -- A call that failed, behind a cleaning.
    pub cleaned_fails : {May Must : ℕ → Type 0} {most : ℕ} (old mid new : S) → Serves s h xids m old → s.slots mid ≡ s.slots old → HasCleaned s h xids May Must most old mid → ((fault : Option Call) → Fails s fault h mid new) → (fault : Option Call) → Fails s fault h old new
    cleaned_fails old mid new serves slots clean fails fault keeps =
        survives_on s (s.slots old) h h (record h { stopped = true }) old mid new serves.going (clean.survives fault keeps) (subst (λ (k : Option ℕ). Survives s k fault h (record h { stopped = true }) mid new) slots (fails fault keeps))

    -- Calls that only loaded behind a cleaning, whether they went well or not.
    pub cleans_loaded : {May Must : ℕ → Type 0} {most : ℕ} (old mid new : S) (going : Bool) → Serves s h xids m old → s.shape_of mid ≡ s.shape_of old → s.slots mid ≡ s.slots old → HasCleaned s h xids May Must most old mid → Logs s mid new [] going → Cleans s h xids May Must most old new going
    cleans_loaded old mid new true serves shape slots clean logs = cleaned_loaded old mid new serves shape slots clean logs
    cleans_loaded old mid new false serves shape slots clean logs = cleaned_fails old mid new serves slots clean (λ fault keeps. fault_survives s told laws h xids mid new (shape ∙ serves.shape) clean.holds logs keeps)

    -- Calls that only loaded, before a cleaning.
    pub serves_loaded : (old new : S) → Serves s h xids m old → Logs s old new [] true → Serves s h xids m new
    serves_loaded old new serves logs = serves_on old new logs.same_shape serves (none_cleaned (λ b. ⊥) (λ b. ⊥) 0 old new serves logs (λ b is young. absurd is))

    pub loaded_cleans : (May Must : ℕ → Type 0) (most : ℕ) (old mid new : S) (going : Bool) → Serves s h xids m old → Logs s old mid [] true → Cleans s h xids May Must most mid new going → Cleans s h xids May Must most old new going
    loaded_cleans May Must most old mid new true serves logs clean =
        let same : s.blocks mid ≡ s.blocks old = logs.blocks told refl in record {
          holds = clean.holds;
          only = subst (λ (l : List (List ℕ)). OnlyCleaned h.shape May l (s.blocks new)) same clean.only;
          all = λ b is young. subst (λ (l : List (List ℕ)). IsClean h.shape l (s.blocks new) b) same (clean.all b is young);
          count = clean.count;
          few = clean.few;
          lsn = let n = logs.number refl in let k = clean.lsn in omega (arith, n, k);
          survives = λ before keeps. survives_on s (s.slots old) h h h old mid new serves.going
              (survives_same s told laws {fault = before} h h xids old mid true serves.shape refl refl refl refl serves.holds logs keeps)
              (subst (λ (k : Option ℕ). Survives s k before h h mid new) logs.same_slots (clean.survives before keeps));
        }
    loaded_cleans May Must most old mid new false serves logs clean = λ fault keeps.
        survives_on s (s.slots old) h h (record h { stopped = true }) old mid new serves.going
        (survives_same s told laws {fault = fault} h h xids old mid true serves.shape refl refl refl refl serves.holds logs keeps)
        (subst (λ (k : Option ℕ). Survives s k fault h (record h { stopped = true }) mid new) logs.same_slots (clean fault keeps))

    -- The same of other blocks, of which more may be cleaned, and fewer must be.
    pub cleaned_as : (May More Must Less : ℕ → Type 0) (few most : ℕ) (old new : S) → ((b : ℕ) → May b → More b) → ((b : ℕ) → Less b → Must b) → few ≤ most → HasCleaned s h xids May Must few old new → HasCleaned s h xids More Less most old new
    cleaned_as May More Must Less few most old new more less le clean = record {
      holds = clean.holds;
      only = record { segments = clean.only.segments; each = λ b. by b (clean.only.each b) };
      all = λ b is young. clean.all b (less b is) young;
      count = clean.count;
      few = let k = clean.few in omega (arith, k, le);
      lsn = clean.lsn;
      survives = clean.survives;
    }
      where
        by : (b : ℕ) → (block_of (s.blocks new) b ≡ block_of (s.blocks old) b) ⊎ (May b × IsClean h.shape (s.blocks old) (s.blocks new) b) → (block_of (s.blocks new) b ≡ block_of (s.blocks old) b) ⊎ (More b × IsClean h.shape (s.blocks old) (s.blocks new) b)
        by b (inl same) = inl same
        by b (inr is) = inr (more b is.0, is.1)

    -- A search has come to home g, and cleaned the homes before.
    module _ (g : ℕ) (old mid new : S) (shape : s.shape_of mid ≡ s.shape_of old) (slots : s.slots mid ≡ s.slots old) (serves : Serves s h xids m old) (before : HasCleaned s h xids (IsBefore h.shape m g) (IsBefore h.shape m g) g old mid) where
      abbrev pub env_mid : env_of h.shape (s.blocks mid) ≡ env_of h.shape (s.blocks old)
      env_mid = env_same h.shape (s.blocks old) (s.blocks mid) before.only.segments

      pub serves_mid : Serves s h xids m mid
      serves_mid = serves_on old mid shape serves before

      pub turned : (Serves s h xids m mid → HasCleaned s h xids (IsHere h.shape m g) (IsHere h.shape m g) 1 mid new) → HasCleaned s h xids (IsBefore h.shape m (g + 1)) (IsBefore h.shape m (g + 1)) (g + 1) old new
      turned here = more_cleaned g g old mid new slots serves before (here serves_mid)

      pub turn_fails : (Serves s h xids m mid → (fault : Option Call) → Fails s fault h mid new) → (fault : Option Call) → Fails s fault h old new
      turn_fails fails = cleaned_fails old mid new serves slots before (fails serves_mid)

    -- The homes up to g are read, as none before has a next row.
    pub read_up_to : (g : ℕ) (old : S) → ((f : ℕ) → f < g → HasNone h xids (s.blocks old) m f) → (b : ℕ) → IsBefore h.shape m (g + 1) b → ReadIn h xids (s.blocks old) m b
    read_up_to g old none b (f, less, at) = (f, (at, λ e lt. none e (omega (arith, less, lt))))

    -- And no other is, where g has the next row,
    pub read_no_more : (g : ℕ) (old : S) (row : Row) → HasNext h xids (s.blocks old) m g row → (b : ℕ) → ReadIn h xids (s.blocks old) m b → IsBefore h.shape m (g + 1) b
    read_no_more g old row next b (f, (at, none)) = elim (cases_lt g f) [
      | inl past ↦
          let nothing : rows_seen h xids (s.blocks old) m g row.key ≡ None = none g past row.key next.asked in
          let clash : None ≡ Some row.value.items = sym nothing ∙ next.row in
          absurd cc
      | inr up ↦ (f, omega (arith, up), at)
    ]

    -- or where the homes end.
    pub read_in_table : (g : ℕ) (old : S) → ((f : ℕ) → g ≤ f → f < h.shape.blocks → HasKey h.shape.blocks m.lo m.hi f → ⊥) → (b : ℕ) → ReadIn h xids (s.blocks old) m b → IsBefore h.shape m g b
    read_in_table g old past b (f, (at, none)) = elim (cases_lt f g) [ inl less ↦ (f, less, at) | inr from ↦ absurd (past f from at.0.there at.0.key) ]

    pub read_by_end : (g : ℕ) (old : S) → ((f : ℕ) → f < g → HasNone h xids (s.blocks old) m f) → (b : ℕ) → IsBefore h.shape m g b → ReadIn h xids (s.blocks old) m b
    read_by_end g old none b (f, less, at) = (f, (at, λ e lt. none e (omega (arith, less, lt))))

-- what is young, or as it was, stays so
pub young_on : (worn old mid new : ℕ) → (mid ≤ worn) ⊎ (mid ≡ old) → (new ≤ worn) ⊎ (new ≡ mid) → (new ≤ worn) ⊎ (new ≡ old)
young_on worn old mid new before (inl up) = inl up
young_on worn old mid new (inl up) (inr same) = inl (omega (arith, up, same))
young_on worn old mid new (inr first) (inr same) = inr (same ∙ first)
