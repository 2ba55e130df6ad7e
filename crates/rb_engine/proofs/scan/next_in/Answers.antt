use Rattle.std.proofs.Common.{Bool, IfErr, IfSome, Option, ◌≡◌, ◌<◌, ◌≤◌, ◌+◌, ◌-◌, ◌*◌, ◌%◌, ◌++◌, ℕ, List, [], length, true, false, not, Some, IfOk, OnOk, Result, Ok, Err, ◌∙◌, refl, sym, ap, subst, arith, length-append}
use Rattle.std.specs.Result.{is_err}
use Rattle.rb_base.specs.Blocks.{block_of, table_blocks}
use Rattle.rb_base.specs.Logs.{Laws, Logs, more_logs, no_logs}
use Rattle.rb_base.specs.declared.ids.Xid.{Xid}
use Rattle.rb_base.specs.declared.faults.Failed.{Failed}
use Rattle.rb_base.specs.declared.shape.Shape.{Shape}
use Rattle.rb_base.specs.declared.sizes.TheConstants.{WORN}
use Rattle.rb_cleanout.specs.Cleaned.{look_of}
use Rattle.rb_cr.specs.Faults.{is_failed}
use Rattle.rb_cr.specs.declared.faults.CrFault.{CrFault}
use Rattle.rb_heap.specs.Cleaning.{cleaned_home}
use Rattle.rb_heap.specs.Homes.{home_of}
use Rattle.rb_txntable.specs.declared.looks.Look.{Look}
use Rattle.law_blocks.specs.Standing.{env_of}
use Rattle.rb_engine.specs.Cleaning.{HasCleaned, IsClean, IsHere, IsOnTheWay, Serves}
use Rattle.rb_engine.specs.Scanning.{Begins, HasKey, HasNext, HasNone, IsBehind}
use Rattle.rb_engine.proofs.AheadLemmas.{rows_go_on}
use Rattle.rb_engine.proofs.CleanLemmas.{behind_same, cleans_loaded, env_same, in_table, loaded_cleans, next_same, none_cleaned, none_same, same_or_clean, serves_loaded, serves_on, step_cleaned, step_fails}
use Rattle.rb_engine.proofs.DoesLemmas.{fault_survives}
use Rattle.rb_engine.proofs.FetchLemmas.{found_next, home_read, is_behind}
use Rattle.rb_engine.proofs.SharedLemmas.{read_with, reads_keep}
use Rattle.law_copies.specs.Copies.{CopiesStand}
use Rattle.law_copies.proofs.Outliving.{same_keeps}
use Rattle.rb_model.specs.State.{State}
use Rattle.law_read.specs.Reading.{History}
use Rattle.law_sessions.specs.Views.{history, home_in}
use Rattle.rb_engine.proofs.scan.next_in.Given.{Over}
use Rattle.rb_engine.proofs.scan.next_in.Goals as goal

laws_of : (g : Over) → Laws g.S.Store
laws_of g = record {
  stable_left = λ store b n i keeps stable here. g.met.S.Store.stable_left store b n i keeps stable here;
  stable_numbered = λ store b n keeps stable. g.met.S.Store.stable_numbered store b n keeps stable;
  stable_patched = λ store b n keeps stable. g.met.S.Store.stable_patched store b n keeps stable;
  now_counts = λ store t i keeps le here. g.met.S.Store.now_counts store t i keeps le here;
  only_now = λ store i keeps here. g.met.S.Store.only_now store i keeps here;
  holds_back_same = λ store. g.met.S.Store.holds_back_same store;
  holds_back_joined = λ a b c first second. g.met.S.Store.holds_back_joined a b c first second;
}

-- a block of the cursor's table, by the code's numbers
block_at : (table from blocks g : ℕ) (shape : Shape) → from ≡ table → blocks ≡ shape.blocks → (from - 1) * blocks + g ≡ home_in shape table g
block_at table from blocks g shape e f = rw (e, f) refl

-- the key of the range, and the place of the home, as the state's shape has them
on_way : (shape state : Shape) (m : Rattle.rb_sessions.specs.declared.cursor.Cursor.Cursor) (blocks first g : ℕ) → shape ≡ state → blocks ≡ shape.blocks → g < shape.blocks → HasKey blocks m.lo m.hi g → Begins shape.blocks first g m.last → IsOnTheWay state m g
on_way shape state m blocks first g same is there key begins = record {
  there = subst (λ (k : Shape). g < k.blocks) same there;
  key = subst (λ (n : ℕ). HasKey n m.lo m.hi g) (is ∙ ap (λ (k : Shape). k.blocks) same) key;
  behind = λ last at. let first_is = begins.1 last at in let le = begins.0 in let bs = ap (λ (n : ℕ). last % n) (ap (λ (k : Shape). k.blocks) same) in omega (arith, first_is, le, bs);
}

pub returns-then-not-is_asked-clause-cleans : goal.returns-then-not-is_asked-clause-cleans
returns-then-not-is_asked-clause-cleans g c = λ told h xids serves.
    let s = g.S.Store in
    let old = c.args.store.now in
    let m = c.args.cursor.now in
    let blocks : c.shape-blocks.result.blocks ≡ h.shape.blocks = ap (λ (k : Shape). k.blocks) (c.shape-blocks.ensures.shape ∙ serves.shape) in
    none_cleaned s told (laws_of g) h xids m (IsHere h.shape m c.args.g) (IsHere h.shape m c.args.g) 1 old old serves (no_logs s old c.requires.going)
    (λ b is spare.
    let key : HasKey c.shape-blocks.result.blocks m.lo m.hi c.args.g = subst (λ (n : ℕ). HasKey n m.lo m.hi c.args.g) (sym blocks) is.0.key in
    absurd (c.is_asked.ensures.none c.if-not-is_asked.true key.0 key.1 key.2 key.3))

pub returns-then-not-is_asked-clause-logs : goal.returns-then-not-is_asked-clause-logs
returns-then-not-is_asked-clause-logs g c = ([], no_logs g.S.Store c.args.store.now c.requires.going, omega arith)

-- the block told its rows, and has nothing to clean
pub returns-in-Ok-Some-clause-told : goal.returns-in-Ok-Some-clause-told
returns-in-Ok-Some-clause-told g c = λ told h xids serves copies.
    let s = g.S.Store in
    let m = c.args.cursor.now in
    let old = s.blocks c.args.store.now in
    let shape = c.shape-blocks.ensures.shape in
    let bs : c.shape-blocks.result.blocks ≡ (s.shape_of c.args.store.now).blocks = ap (λ (k : Shape). k.blocks) shape in
    let way = on_way (s.shape_of c.args.store.now) h.shape m c.shape-blocks.result.blocks c.args.first c.args.g serves.shape bs c.requires.there (c.is_asked.ensures.some c.if-not-is_asked.false) c.requires.begins in
    let at = block_at m.table c.from.result c.shape-blocks.result.blocks c.args.g h.shape c.from.ensures (bs ∙ ap (λ (k : Shape). k.blocks) serves.shape) in
    let hist = history h xids old (home_in h.shape m.table c.args.g) m.own in
    let read = home_read h xids old m serves.reader c.args.g way.there (s.shape_of c.args.store.now) serves.shape _ at in
    let begins = subst (λ (k : Shape). Begins k.blocks c.args.first c.args.g m.last) serves.shape c.requires.begins in
    let is : (found : Bool) → c.in-Ok-Some.found ≡ found → c.next_told.result ≡ Ok (Some found) = λ found same. cc in
    found_next h xids old m serves.reader c.args.g way.there c.args.first begins c.after_in.result c.after_in.ensures c.next_told.new.row (Ok c.in-Ok-Some.found)
    (λ yes. c.next_told.ensures.given told hist read (is true yes)) (λ no. c.next_told.ensures.none told hist read (is false no))

pub returns-in-Ok-Some-clause-cleans : goal.returns-in-Ok-Some-clause-cleans
returns-in-Ok-Some-clause-cleans g c = λ told h xids serves.
    let s = g.S.Store in
    let m = c.args.cursor.now in
    let old = c.args.store.now in
    let new = c.next_told.new.store in
    let logs = c.in-Ok-Some.ensures.logs in
    let bs : c.shape-blocks.result.blocks ≡ h.shape.blocks = ap (λ (k : Shape). k.blocks) (c.shape-blocks.ensures.shape ∙ serves.shape) in
    let at = block_at m.table c.from.result c.shape-blocks.result.blocks c.args.g h.shape c.from.ensures bs in
    let block = (c.from.result - 1) * c.shape-blocks.result.blocks + c.args.g in
    let rest : (look : Xid → Look) → cleaned_home look (home_of (block_of (s.blocks old) block)) ≡ home_of (block_of (s.blocks old) block) =
    subst (λ (o : Option Bool). IfSome o (λ found. (look : Xid → Look) → cleaned_home look (home_of (block_of (s.blocks old) block)) ≡ home_of (block_of (s.blocks old) block))) c.in-Ok-Some.field-0-is (c.in-Ok-Some.ensures.clean told) in
    none_cleaned s told (laws_of g) h xids m (IsHere h.shape m c.args.g) (IsHere h.shape m c.args.g) 1 old new serves logs
    (λ b is young. subst (IsClean h.shape (s.blocks old) (s.blocks new)) (at ∙ sym is.1)
    (ap (λ (z : List (List ℕ)). home_of (block_of z block)) (logs.blocks told refl) ∙ sym (rest (env_of h.shape (s.blocks old)).look)))

pub returns-in-Ok-Some-clause-copies : goal.returns-in-Ok-Some-clause-copies
returns-in-Ok-Some-clause-copies g c = λ told h xids serves copies fine.
    subst (λ (z : List (List ℕ)). CopiesStand h xids z c.args.copies.now.kept) (sym (c.in-Ok-Some.ensures.logs.blocks told refl)) copies

pub returns-in-Err-clause-cleans : goal.returns-in-Err-clause-cleans
returns-in-Err-clause-cleans g c = λ told h xids serves fault keeps.
    fault_survives g.S.Store told (laws_of g) h xids c.args.store.now c.next_told.new.store serves.shape serves.holds c.in-Err.ensures.logs keeps

pub returns-then-is_err-clause-cleans : goal.returns-then-is_err-clause-cleans
returns-then-is_err-clause-cleans g c = λ told h xids serves.
    let s = g.S.Store in
    let m = c.args.cursor.now in
    let logs = c.in-Ok-None.ensures.logs in
    let shape = c.shape-blocks.ensures.shape in
    let bs : c.shape-blocks.result.blocks ≡ (s.shape_of c.args.store.now).blocks = ap (λ (k : Shape). k.blocks) shape in
    let on = on_way (s.shape_of c.args.store.now) h.shape m c.shape-blocks.result.blocks c.args.first c.args.g serves.shape bs c.requires.there (c.is_asked.ensures.some c.if-not-is_asked.false) c.requires.begins in
    let at = block_at m.table c.from.result c.shape-blocks.result.blocks c.args.g h.shape c.from.ensures (bs ∙ ap (λ (k : Shape). k.blocks) serves.shape) in
    let loaded = serves_loaded s told (laws_of g) h xids m c.args.store.now c.next_told.new.store serves logs in
    loaded_cleans s told (laws_of g) h xids m (IsHere h.shape m c.args.g) (IsHere h.shape m c.args.g) 1 c.args.store.now c.next_told.new.store c.clean_step.new.store false serves logs
    (step_fails s told (laws_of g) h xids m c.args.g on c.next_told.new.store c.clean_step.new.store ((c.from.result - 1) * c.shape-blocks.result.blocks + c.args.g) c.clean_step.result at (sym c.is_err.ensures.value ∙ c.if-is_err.true) loaded
    (c.clean_step.ensures.gives told h xids loaded.shape loaded.holds))

pub returns-then-is_err-clause-logs : goal.returns-then-is_err-clause-logs
returns-then-is_err-clause-logs g c =
    let s = g.S.Store in
    let step = c.clean_step.ensures.logs in
    let fails : Logs s c.next_told.new.store c.clean_step.new.store step.0 false = subst (λ fails. Logs s c.next_told.new.store c.clean_step.new.store step.0 (not fails)) (sym c.is_err.ensures.value ∙ c.if-is_err.true) step.1 in
    ([] ++ step.0, more_logs s c.args.store.now c.next_told.new.store c.clean_step.new.store [] step.0 false c.in-Ok-None.ensures.logs fails, step.2)

-- the home is cleaned, where it is to be
module _ (g : Over) (c : goal.After-next_at g) (told : g.S.Store.tells) (h : State) (xids : List Xid) (serves : Serves g.S.Store h xids c.args.cursor.now c.args.store.now) where
  -- the load before changed nothing
  loaded : Serves g.S.Store h xids c.args.cursor.now c.next_told.new.store
  loaded = serves_loaded g.S.Store told (laws_of g) h xids c.args.cursor.now c.args.store.now c.next_told.new.store serves c.in-Ok-None.ensures.logs

  as_before : g.S.Store.blocks c.next_told.new.store ≡ g.S.Store.blocks c.args.store.now
  as_before = c.in-Ok-None.ensures.logs.blocks told refl

  bs : c.shape-blocks.result.blocks ≡ h.shape.blocks
  bs = ap (λ (k : Shape). k.blocks) (c.shape-blocks.ensures.shape ∙ serves.shape)

  at : (c.from.result - 1) * c.shape-blocks.result.blocks + c.args.g ≡ home_in h.shape c.args.cursor.now.table c.args.g
  at = block_at c.args.cursor.now.table c.from.result c.shape-blocks.result.blocks c.args.g h.shape c.from.ensures bs

  on : IsOnTheWay h.shape c.args.cursor.now c.args.g
  on = on_way (g.S.Store.shape_of c.args.store.now) h.shape c.args.cursor.now c.shape-blocks.result.blocks c.args.first c.args.g serves.shape (ap (λ (k : Shape). k.blocks) c.shape-blocks.ensures.shape) c.requires.there (c.is_asked.ensures.some c.if-not-is_asked.false) c.requires.begins

  fine : is_err c.clean_step.result ≡ false
  fine = sym c.is_err.ensures.value ∙ c.if-is_err.false

  clean : HasCleaned g.S.Store h xids (IsHere h.shape c.args.cursor.now c.args.g) (IsHere h.shape c.args.cursor.now c.args.g) 1 c.next_told.new.store c.clean_step.new.store
  clean =
      step_cleaned g.S.Store told (laws_of g) h xids c.args.cursor.now c.args.g on c.next_told.new.store c.clean_step.new.store ((c.from.result - 1) * c.shape-blocks.result.blocks + c.args.g) c.clean_step.result at fine loaded
      (c.clean_step.ensures.gives told h xids loaded.shape loaded.holds) (λ young. c.clean_step.ensures.cleaned told h xids loaded.shape loaded.holds young)

  same_shape : g.S.Store.shape_of c.clean_step.new.store ≡ g.S.Store.shape_of c.next_told.new.store
  same_shape = c.clean_step.ensures.logs.1.same_shape

  mid : Serves g.S.Store h xids c.args.cursor.now c.clean_step.new.store
  mid = serves_on g.S.Store told (laws_of g) h xids c.args.cursor.now c.next_told.new.store c.clean_step.new.store same_shape loaded clean

  abbrev blocks : List (List ℕ)
  blocks = g.S.Store.blocks c.clean_step.new.store

  abbrev hist : History
  hist = history h xids blocks (home_in h.shape c.args.cursor.now.table c.args.g) c.args.cursor.now.own

  -- what is kept stands as the home is cleaned
  here : CopiesStand h xids (g.S.Store.blocks c.args.store.now) c.args.copies.now.kept → CopiesStand h xids blocks c.args.copies.now.kept
  here copies =
      same_keeps h h refl xids (g.S.Store.blocks c.next_told.new.store) blocks c.args.copies.now.kept refl clean.only.segments
      (subst (λ (z : List (List ℕ)). CopiesStand h xids z c.args.copies.now.kept) (sym as_before) copies)

  b_in : home_in h.shape c.args.cursor.now.table c.args.g < table_blocks h.shape
  b_in = in_table c.args.cursor.now.table c.args.g h.shape on.there (subst (λ (k : Shape). (1 ≤ c.args.cursor.now.table) × (c.args.cursor.now.table ≤ k.tables)) serves.shape c.requires.table)

  abbrev env : Rattle.law_blocks.specs.Standing.env_of h.shape blocks ≡ Rattle.law_blocks.specs.Standing.env_of h.shape (g.S.Store.blocks c.next_told.new.store)
  env = env_same h.shape (g.S.Store.blocks c.next_told.new.store) blocks clean.only.segments

pub returns-clause-told : goal.returns-clause-told
returns-clause-told g c = λ told h xids serves copies.
    let m = c.args.cursor.now in
    let old = g.S.Store.blocks c.next_told.new.store in
    let b = g.S.Store.blocks c.clean_step.new.store in
    let served = mid g c told h xids serves in
    let way = on g c told h xids serves in
    let read = read_with h xids b m served.reader c.args.g way.there (g.S.Store.shape_of c.clean_step.new.store) served.shape _ (at g c told h xids serves) c.args.copies.now.kept (here g c told h xids serves copies) in
    let begins = subst (λ (k : Shape). Begins k.blocks c.args.first c.args.g m.last) serves.shape c.requires.begins in
    let found = found_next h xids b m served.reader c.args.g way.there c.args.first begins c.after_in.result c.after_in.ensures c.next_at.new.row c.next_at.result
    (c.next_at.ensures.given told (hist g c told h xids serves) read) (c.next_at.ensures.none told (hist g c told h xids serves) read) in
    subst (λ (z : List (List ℕ)). IfOk c.next_at.result (λ found. (found ≡ true → HasNext h xids z m c.args.g c.next_at.new.row) × (found ≡ false → HasNone h xids z m c.args.g)))
    (as_before g c told h xids serves)
    (before (HasNext h xids b m c.args.g c.next_at.new.row) (HasNext h xids old m c.args.g c.next_at.new.row) (HasNone h xids b m c.args.g) (HasNone h xids old m c.args.g)
    (next_same h xids old b m (env g c told h xids serves) c.args.g c.next_at.new.row) (none_same h xids old b m (env g c told h xids serves) c.args.g) c.next_at.result found)
  where
    before : (N N2 E E2 : Type 0) → (N → N2) → (E → E2) → (r : Result Rattle.std.proofs.Common.Bool CrFault) → IfOk r (λ found. (found ≡ true → N) × (found ≡ false → E)) → IfOk r (λ found. (found ≡ true → N2) × (found ≡ false → E2))
    before N N2 E E2 one two (Ok found) is = (λ yes. one (is.0 yes), λ no. two (is.1 no))
    before N N2 E E2 one two (Err fault) is = tt

pub returns-clause-old : goal.returns-clause-old
returns-clause-old g c = λ told h xids serves copies.
    let m = c.args.cursor.now in
    let old = g.S.Store.blocks c.next_told.new.store in
    let b = g.S.Store.blocks c.clean_step.new.store in
    let served = mid g c told h xids serves in
    let way = on g c told h xids serves in
    let read = read_with h xids b m served.reader c.args.g way.there (g.S.Store.shape_of c.clean_step.new.store) served.shape _ (at g c told h xids serves) c.args.copies.now.kept (here g c told h xids serves copies) in
    let behind = is_behind h xids b m c.args.g (g.S.Store.shape_of c.clean_step.new.store) served.shape _ (at g c told h xids serves) way.key c.next_at.result (c.next_at.ensures.old told (hist g c told h xids serves) read) in
    let there : home_in h.shape m.table c.args.g < table_blocks h.shape = in_table m.table c.args.g h.shape way.there (subst (λ (k : Shape). (1 ≤ m.table) × (m.table ≤ k.tables)) serves.shape c.requires.table) in
    subst (λ (z : List (List ℕ)). IfErr c.next_at.result (λ fault. HasKey h.shape.blocks m.lo m.hi c.args.g × IsBehind h xids z m c.args.g fault))
    (as_before g c told h xids serves)
    (Rattle.std.proofs.lemmas.Result.IfErr-weaker c.next_at.result (λ fault. HasKey h.shape.blocks m.lo m.hi c.args.g × IsBehind h xids b m c.args.g fault) (λ fault. HasKey h.shape.blocks m.lo m.hi c.args.g × IsBehind h xids old m c.args.g fault)
    (λ fault is. (is.0, behind_same h xids old b (loaded g c told h xids serves).holds.blocks m c.args.g there (env g c told h xids serves) (same_or_clean ((clean g c told h xids serves).only.each (home_in h.shape m.table c.args.g))) fault is.1)) behind)

pub returns-clause-cleans : goal.returns-clause-cleans
returns-clause-cleans g c = λ told h xids serves.
    let m = c.args.cursor.now in
    let going = not (is_failed c.next_at.result) in
    loaded_cleans g.S.Store told (laws_of g) h xids m (IsHere h.shape m c.args.g) (IsHere h.shape m c.args.g) 1 c.args.store.now c.next_told.new.store c.next_at.new.store going serves c.in-Ok-None.ensures.logs
    (cleans_loaded g.S.Store told (laws_of g) h xids m c.next_told.new.store c.clean_step.new.store c.next_at.new.store going (loaded g c told h xids serves) (same_shape g c told h xids serves) c.clean_step.ensures.logs.1.same_slots (clean g c told h xids serves) c.next_at.ensures.logs)

pub returns-clause-logs : goal.returns-clause-logs
returns-clause-logs g c =
    let s = g.S.Store in
    let step = c.clean_step.ensures.logs in
    let well : Logs s c.next_told.new.store c.clean_step.new.store step.0 true = subst (λ going. Logs s c.next_told.new.store c.clean_step.new.store step.0 (not going)) (sym c.is_err.ensures.value ∙ c.if-is_err.false) step.1 in
    let cleaned = more_logs s c.args.store.now c.next_told.new.store c.clean_step.new.store [] step.0 true c.in-Ok-None.ensures.logs well in
    (step.0 ++ [], more_logs s c.args.store.now c.clean_step.new.store c.next_at.new.store step.0 [] (not (is_failed c.next_at.result)) cleaned c.next_at.ensures.logs, (let n = length-append step.0 [] in let few = step.2 in omega (arith, n, few)))

pub returns-clause-copies : goal.returns-clause-copies
returns-clause-copies g c = λ told h xids serves copies fine.
    let s = g.S.Store in
    let m = c.args.cursor.now in
    let b = s.blocks c.clean_step.new.store in
    let served = mid g c told h xids serves in
    let way = on g c told h xids serves in
    let logs = c.next_at.ensures.logs in
    let same : s.blocks c.next_at.new.store ≡ b = logs.blocks told (ap not fine) in
    subst (λ (z : List (List ℕ)). CopiesStand h xids z c.next_at.new.copies.kept) (sym same)
    (reads_keep h xids b m served.reader c.args.g way.there (s.shape_of c.clean_step.new.store) served.shape _ (at g c told h xids serves) c.args.copies.now.kept c.next_at.new.copies.kept (b_in g c told h xids serves) (here g c told h xids serves copies) (c.next_at.ensures.keeps told))

-- what the block told of the rows behind this one
pub returns-in-Ok-Some-clause-ahead : goal.returns-in-Ok-Some-clause-ahead
returns-in-Ok-Some-clause-ahead g c = λ is.
    let s = g.S.Store in
    let m = c.args.cursor.now in
    let old = s.blocks c.args.store.now in
    let new = c.next_told.new.store in
    let logs = c.in-Ok-Some.ensures.logs in
    let shape = c.shape-blocks.ensures.shape ∙ sym logs.same_shape in
    let block = (c.from.result - 1) * c.shape-blocks.result.blocks + c.args.g in
    let at = block_at m.table c.from.result c.shape-blocks.result.blocks c.args.g (s.shape_of new) c.from.ensures (ap (λ (k : Shape). k.blocks) shape) in
    let given : c.next_told.result ≡ Ok (Some true) = (let yes = is in cc) in
    rows_go_on s m c.args.copies.now.kept new c.args.g c.next_told.new.row.key block at c.next_told.new.page
    (λ told young.
    let rest : (look : Xid → Look) → cleaned_home look (home_of (block_of old block)) ≡ home_of (block_of old block) =
    subst (λ (o : Option Bool). IfSome o (λ found. (look : Xid → Look) → cleaned_home look (home_of (block_of old block)) ≡ home_of (block_of old block))) c.in-Ok-Some.field-0-is (c.in-Ok-Some.ensures.clean told) in
    subst (λ (z : List (List ℕ)). cleaned_home (look_of (s.shape_of new) (s.blocks new)) (home_of (block_of z block)) ≡ home_of (block_of z block)) (sym (logs.blocks told refl)) (rest (look_of (s.shape_of new) (s.blocks new))))
    (c.next_told.ensures.page given c.args.copies.now.kept)

-- what the kept home has of the rows behind this one
pub returns-clause-ahead : goal.returns-clause-ahead
returns-clause-ahead g c = on_true c.next_at.result _ (λ given.
    let s = g.S.Store in
    let m = c.args.cursor.now in
    let mid = c.clean_step.new.store in
    let new = c.next_at.new.store in
    let logs : Logs s mid new [] true = subst (λ (r : Result Bool CrFault). Logs s mid new [] (not (is_failed r))) given c.next_at.ensures.logs in
    let shape = c.shape-blocks.ensures.shape ∙ sym c.in-Ok-None.ensures.logs.same_shape ∙ sym c.clean_step.ensures.logs.1.same_shape ∙ sym logs.same_shape in
    let block = (c.from.result - 1) * c.shape-blocks.result.blocks + c.args.g in
    let at = block_at m.table c.from.result c.shape-blocks.result.blocks c.args.g (s.shape_of new) c.from.ensures (ap (λ (k : Shape). k.blocks) shape) in
    rows_go_on s m c.next_at.new.copies.kept new c.args.g c.next_at.new.row.key block at c.next_at.new.page
    (λ told young.
    let less : s.lsn mid < WORN = (let same : s.lsn new ≡ s.lsn mid + 0 = logs.number refl in omega (arith, same, young)) in
    let still = on_fine c.clean_step.result (sym c.is_err.ensures.value ∙ c.if-is_err.false) (c.clean_step.ensures.still told less) in
    subst (λ (z : List (List ℕ)). cleaned_home (look_of (s.shape_of new) z) (home_of (block_of z block)) ≡ home_of (block_of z block)) (sym (logs.blocks told refl))
    (subst (λ (k : Shape). cleaned_home (look_of k (s.blocks mid)) (home_of (block_of (s.blocks mid) block)) ≡ home_of (block_of (s.blocks mid) block)) (sym logs.same_shape) still))
    (c.next_at.ensures.page given))
  where
    on_true : (r : Result Bool CrFault) (P : Type 0) → (r ≡ Ok true → P) → IfOk r (λ found. found ≡ true → P)
    on_true (Ok found) P then = λ yes. then (ap (λ (b : Bool). Ok b) yes)
    on_true (Err fault) P then = tt

    on_fine : {P : Type 0} (r : Result (Unit {0}) Failed) → is_err r ≡ false → OnOk r P → P
    on_fine (Ok one) fine is = is
    on_fine (Err fault) fine is = (let clash : true ≡ false = fine in absurd cc)
