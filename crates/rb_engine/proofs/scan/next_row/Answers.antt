use Rattle.std.proofs.Common.{◌≡◌, ◌⊎◌, ⊎_elim, ◌<◌, ◌≤◌, ◌%◌, ◌+◌, ◌++◌, inl, inr, Option, Some, None, ℕ, List, [], true, false, not, is_some, Bool, Result, Ok, sym, refl, ap, ◌∙◌, subst, arith}
use Rattle.std.proofs.lemmas.Bool.{cases_eq, cases_lt}
use Rattle.rb_base.specs.Logs.{Laws, more_logs, no_logs}
use Rattle.rb_base.specs.declared.ids.Xid.{Xid}
use Rattle.rb_base.specs.declared.shape.Shape.{Shape}
use Rattle.rb_cr.specs.Faults.{is_fault}
use Rattle.rb_cr.specs.declared.faults.CrFault.{CrFault}
use Rattle.rb_engine.specs.Cleaning.{Cleans, IsBefore, IsClean, IsHere, MustIn, ReadIn, Serves}
use Rattle.rb_engine.specs.Scanning.{Begins, HasKey, HasNext, HasNone}
use Rattle.rb_engine.proofs.AheadLemmas.{loaded_ahead}
use Rattle.rb_engine.proofs.CleanLemmas.{behind_same, cleaned_as, env_mid, in_table, next_same, none_cleaned, none_same, read_by_end, read_in_table, read_no_more, read_up_to, same_or_clean, serves_mid, turn_fails, turned, young_on}
use Rattle.rb_model.specs.State.{State}
use Rattle.law_sessions.specs.Scan.{IsAskedKey}
use Rattle.law_sessions.specs.Views.{home_in}
use Rattle.rb_sessions.specs.declared.cursor.Cursor.{Cursor}
use Rattle.rb_engine.proofs.scan.next_row.Given.{Over}
use Rattle.rb_engine.proofs.scan.next_row.Goals as goal
use Rattle.rb_engine.proofs.scan.next_row.Goals.{in-Some-false, in-None}

laws_of : (g : Over) → Laws g.S.Store
laws_of g = record {
  stable_left = λ store b n i keeps stable here. g.met.S.Store.stable_left store b n i keeps stable here;
  stable_numbered = λ store b n keeps stable. g.met.S.Store.stable_numbered store b n keeps stable;
  stable_patched = λ store b n keeps stable. g.met.S.Store.stable_patched store b n keeps stable;
  now_counts = λ store t i keeps le here. g.met.S.Store.now_counts store t i keeps le here;
  only_now = λ store i keeps here. g.met.S.Store.only_now store i keeps here;
  holds_back_same = λ store. g.met.S.Store.holds_back_same store;
  holds_back_joined = λ a b c first second. g.met.S.Store.holds_back_joined a b c first second;
}

-- from where on homes are searched: from the first one, or the one behind it where that has no more rows
from_where : (g : Over) (c : goal.After-end_home-end g) → ((c.match-next_ahead.from ≡ c.first_home-first.result) × (c.next_ahead.result ≡ None)) ⊎ ((c.match-next_ahead.from ≡ c.first_home-first.result + 1) × (c.next_ahead.result ≡ Some false))
from_where g c = elim c.match-next_ahead.branch [
  | in-Some-false w ↦ inr (w.from-is, w.in-Some-false.is ∙ ap Some w.in-Some-false.field-0-test)
  | in-None w ↦ inl (w.from-is, w.in-None.is)
]

-- no row was given then
not_given : (g : Over) (c : goal.After-end_home-end g) → c.next_ahead.result ≡ Some true → ⊥
not_given g c given = ⊎_elim (λ same. no_row c.next_ahead.result same.1 given) (λ later. no_more c.next_ahead.result later.1 given) (from_where g c)
  where
    no_row : (o : Option Bool) → o ≡ None → o ≡ Some true → ⊥
    no_row o is given = (let clash : None ≡ Some true = sym is ∙ given in absurd cc)

    no_more : (o : Option Bool) → o ≡ Some false → o ≡ Some true → ⊥
    no_more o is given = (let clash : Some false ≡ Some true = sym is ∙ given in absurd cc)

-- one that is false isn't true
ok_false : (b : Bool) → b ≡ false → (let r : Result Bool CrFault = Ok b in r) ≡ Ok true → ⊥
ok_false b is given = (let same : b ≡ true = cc in let clash : false ≡ true = sym is ∙ same in absurd cc)

-- no home on the way comes before the first
not_before : (lo hi : ℕ) (last : Option ℕ) (first blocks code f : ℕ) → code ≡ blocks → f < first → HasKey blocks lo hi f → ((l : ℕ) → last ≡ Some l → l % blocks ≤ f)
    → ((e k : ℕ) → e < first → IsAskedKey code lo hi last e k → ⊥) → ((l : ℕ) → last ≡ Some l → first ≡ l % code) → ⊥
not_before lo hi None first blocks code f same less (k, home, low, high) behind skips at =
    skips f k less (record { home = ap (λ (n : ℕ). k % n) same ∙ home; low = low; high = high; after = refl })
not_before lo hi (Some l) first blocks code f same less key behind skips at =
    let is = at l refl in let le = behind l refl in let bs = ap (λ (n : ℕ). l % n) same in omega (arith, is, le, bs, less)

-- what is ahead is of the first home, and no home before it has a row behind the last one
module _ (h : State) (xids : List Xid) (blocks : List (List ℕ)) (m : Cursor) (code : Shape) (same : code ≡ h.shape) (first : ℕ) (within : first < code.blocks)
    (skips : (f k : ℕ) → f < first → IsAskedKey code.blocks m.lo m.hi m.last f k → ⊥) (at : (l : ℕ) → m.last ≡ Some l → first ≡ l % code.blocks) where
  there : first < h.shape.blocks
  there = subst (λ (z : Shape). first < z.blocks) same within

  begins : Begins h.shape.blocks first first m.last
  begins = (omega arith, λ l is. at l is ∙ ap (λ (z : Shape). l % z.blocks) same)

  none_before : (f : ℕ) → f < first → HasNone h xids blocks m f
  none_before f before k asked = absurd (skips f k before (subst (λ (z : Shape). IsAskedKey z.blocks m.lo m.hi m.last f k) (sym same) asked))

  -- each home up to the first one that is on the way is clean where the first is
  clean_before : (now : List (List ℕ)) → IsClean h.shape blocks now (home_in h.shape m.table first) → (b : ℕ) → IsBefore h.shape m (first + 1) b → IsClean h.shape blocks now b
  clean_before now clean b (f, less, here) = elim (cases_lt f first) [
    | inl before ↦ absurd (not_before m.lo m.hi m.last first h.shape.blocks code.blocks f (ap (λ (z : Shape). z.blocks) same) before here.0.key here.0.behind skips at)
    | inr from ↦
        let is : first ≡ f = omega (arith, from, less) in
        subst (IsClean h.shape blocks now) (ap (λ (n : ℕ). home_in h.shape m.table n) is ∙ sym here.1) clean
  ]

  none_on_way : (b : ℕ) → IsBefore h.shape m first b → ⊥
  none_on_way b (f, less, here) = not_before m.lo m.hi m.last first h.shape.blocks code.blocks f (ap (λ (z : Shape). z.blocks) same) less here.0.key here.0.behind skips at

pub loop-g-init : goal.loop-g-init
loop-g-init g c =
    let m = c.args.cursor.now in
    let s = g.S.Store in
    let old = c.args.store.now in
    let e = c.first_home-first.ensures in
    let first = c.first_home-first.result in
    let from = c.match-next_ahead.from in
    let code = c.shape-blocks.result in
    let a = c.next_ahead.ensures in
    let quiet = a.nothing (not_given g c) in
    record {
      there = let bs = ap (λ (z : Shape). z.blocks) c.shape-blocks.ensures.shape in let within = e.within in ⊎_elim (λ same. let is = same.0 in omega (arith, bs, within, is)) (λ later. let is = later.0 in omega (arith, bs, within, is)) (from_where g c);
      groups = [];
      logs = no_logs s old c.requires.going;
      young = inr refl;
      row = quiet.1;
      behind = ⊎_elim (λ same. let is = same.0 in omega (arith, is)) (λ later. let is = later.0 in omega (arith, is)) (from_where g c);
      nothing = quiet.0;
      none = λ told h xids serves copies f before.
          let same = c.shape-blocks.ensures.shape ∙ serves.shape in
          let blocks = s.blocks old in elim (cases_lt f first) [
            | inl less ↦ none_before h xids blocks m code same first e.within e.skips e.last f less
            | inr past ↦ ⊎_elim
                (λ same. let is = same.0 in absurd (let no : ⊥ = omega (arith, past, before, is) in no))
                (λ later.
                let up = later.0 in
                let is : first ≡ f = omega (arith, past, before, up) in
                subst (HasNone h xids blocks m) is
                (a.none told m h xids c.requires.ahead serves copies (begins h xids blocks m code same first e.within e.skips e.last) (there h xids blocks m code same first e.within e.skips e.last) later.1))
                (from_where g c)
          ];
      cleaned = λ told h xids serves copies.
          let same = c.shape-blocks.ensures.shape ∙ serves.shape in
          let blocks = s.blocks old in
          none_cleaned s told (laws_of g) h xids m (IsBefore h.shape m from) (IsBefore h.shape m from) from old old serves (no_logs s old c.requires.going)
          (λ b is spare. ⊎_elim
          (λ same_one. absurd (none_on_way h xids blocks m code same first e.within e.skips e.last b (subst (λ (n : ℕ). IsBefore h.shape m n b) same_one.0 is)))
          (λ later. clean_before h xids blocks m code same first e.within e.skips e.last blocks (a.clean told m h xids c.requires.ahead serves (there h xids blocks m code same first e.within e.skips e.last) (ap (λ (z : Option Bool). is_some z) later.1) spare) b (subst (λ (n : ℕ). IsBefore h.shape m n b) later.0 is))
          (from_where g c));
      copies = λ told h xids serves copies. copies;
    }

pub next_ahead-requires : goal.next_ahead-requires
next_ahead-requires g c = record { loaded = loaded_ahead g.S.Store c.args.cursor.now c.args.copies.now.kept c.args.store.now c.args.ahead.now c.requires.ahead }

-- a row that was ahead
pub returns-in-Some-true-clause-found : goal.returns-in-Some-true-clause-found
returns-in-Some-true-clause-found g c = λ told h xids serves copies.
    let m = c.args.cursor.now in
    let blocks = g.S.Store.blocks c.args.store.now in
    let e = c.first_home-first.ensures in
    let first = c.first_home-first.result in
    let code = c.shape-blocks.result in
    let same = c.shape-blocks.ensures.shape ∙ serves.shape in
    let is = c.in-Some-true.is ∙ ap Some c.in-Some-true.field-0-test in
    let in_table = there h xids blocks m code same first e.within e.skips e.last in (
      first,
      in_table,
      none_before h xids blocks m code same first e.within e.skips e.last,
      c.next_ahead.ensures.given told m h xids c.requires.ahead serves copies (begins h xids blocks m code same first e.within e.skips e.last) in_table is,
    )

pub returns-in-Some-true-clause-cleans : goal.returns-in-Some-true-clause-cleans
returns-in-Some-true-clause-cleans g c = λ told h xids serves copies.
    let s = g.S.Store in
    let m = c.args.cursor.now in
    let old = c.args.store.now in
    let blocks = s.blocks old in
    let e = c.first_home-first.ensures in
    let first = c.first_home-first.result in
    let code = c.shape-blocks.result in
    let same = c.shape-blocks.ensures.shape ∙ serves.shape in
    let is = c.in-Some-true.is ∙ ap Some c.in-Some-true.field-0-test in
    let next = c.next_ahead.ensures.given told m h xids c.requires.ahead serves copies (begins h xids blocks m code same first e.within e.skips e.last) (there h xids blocks m code same first e.within e.skips e.last) is in
    none_cleaned s told (laws_of g) h xids m (ReadIn h xids blocks m) (ReadIn h xids blocks m) h.shape.blocks old old serves (no_logs s old c.requires.going)
    (λ b read young. clean_before h xids blocks m code same first e.within e.skips e.last blocks (c.next_ahead.ensures.clean told m h xids c.requires.ahead serves (there h xids blocks m code same first e.within e.skips e.last) (ap (λ (z : Option Bool). is_some z) is) young) b
    (read_no_more s told (laws_of g) h xids m first old c.next_ahead.new.row next b read))

pub returns-in-Some-true-clause-logs : goal.returns-in-Some-true-clause-logs
returns-in-Some-true-clause-logs g c = ([], no_logs g.S.Store c.args.store.now c.requires.going)

below : (n end blocks : ℕ) → n < end → end ≤ blocks → n < blocks
below n end blocks lt le = omega (arith, lt, le)

pub next_in-requires-clause-going : goal.next_in-requires-clause-going
next_in-requires-clause-going g c = c.loop-g.invariant.logs.failed

pub next_in-requires-clause-table : goal.next_in-requires-clause-table
next_in-requires-clause-table g c = subst (λ (z : Shape). (1 ≤ c.args.cursor.now.table) × (c.args.cursor.now.table ≤ z.tables)) (sym c.loop-g.invariant.logs.same_shape) c.requires.table

pub next_in-requires-clause-there : goal.next_in-requires-clause-there
next_in-requires-clause-there g c =
    subst (λ (z : Shape). c.loop-g.g < z.blocks) (c.shape-blocks.ensures.shape ∙ sym c.loop-g.invariant.logs.same_shape) (below c.loop-g.g c.end_home-end.result c.shape-blocks.result.blocks c.loop-g-test.true c.end_home-end.ensures.within)

pub next_in-requires-clause-begins : goal.next_in-requires-clause-begins
next_in-requires-clause-begins g c =
    let e = c.first_home-first.ensures in
    subst (λ (z : Shape). Begins z.blocks c.first_home-first.result c.loop-g.g c.args.cursor.now.last) (c.shape-blocks.ensures.shape ∙ sym c.loop-g.invariant.logs.same_shape)
    (c.loop-g.invariant.behind, e.last)

-- the same fault behind the homes that were cleaned
pub returns-in-Err-clause-found : goal.returns-in-Err-clause-found
returns-in-Err-clause-found g c = λ told h xids serves copies.
    let s = g.S.Store in
    let m = c.args.cursor.now in
    let old = c.args.store.now in
    let mid = c.loop-g.store in
    let inv = c.loop-g.invariant in
    let before = inv.cleaned told h xids serves copies in
    let served = serves_mid s told (laws_of g) h xids m c.loop-g.g old mid mid inv.logs.same_shape inv.logs.same_slots serves before in
    let both = c.in-Err.ensures.old told h xids served (inv.copies told h xids serves copies) in
    let there : c.loop-g.g < h.shape.blocks = subst (λ (z : Shape). c.loop-g.g < z.blocks) (c.shape-blocks.ensures.shape ∙ serves.shape) (below c.loop-g.g c.end_home-end.result c.shape-blocks.result.blocks c.loop-g-test.true c.end_home-end.ensures.within) in (
      c.loop-g.g,
      there,
      inv.none told h xids serves copies,
      both.0,
      λ l at.
          let first_is = c.first_home-first.ensures.last l at in
          let le = inv.behind in
          let bs : l % c.shape-blocks.result.blocks ≡ l % h.shape.blocks = ap (λ (z : Shape). l % z.blocks) (c.shape-blocks.ensures.shape ∙ serves.shape) in
          omega (arith, first_is, le, bs),
      behind_same h xids (s.blocks old) (s.blocks mid) serves.holds.blocks m c.loop-g.g (in_table m.table c.loop-g.g h.shape there (subst (λ (k : Shape). (1 ≤ m.table) × (m.table ≤ k.tables)) serves.shape c.requires.table))
          (env_mid s told (laws_of g) h xids m c.loop-g.g old mid mid inv.logs.same_shape inv.logs.same_slots serves before) (same_or_clean (before.only.each (Rattle.law_sessions.specs.Views.home_in h.shape m.table c.loop-g.g))) c.in-Err.fault both.1,
    )

pub returns-in-Err-clause-cleans : goal.returns-in-Err-clause-cleans
returns-in-Err-clause-cleans g c = λ told h xids serves copies.
    let s = g.S.Store in
    let m = c.args.cursor.now in
    let old = c.args.store.now in
    let mid = c.loop-g.store in
    let new = c.next_in.new.store in
    let inv = c.loop-g.invariant in
    let here = c.in-Err.ensures.cleans told h xids in
    let there : c.loop-g.g < h.shape.blocks = subst (λ (z : Shape). c.loop-g.g < z.blocks) (c.shape-blocks.ensures.shape ∙ serves.shape) (below c.loop-g.g c.end_home-end.result c.shape-blocks.result.blocks c.loop-g-test.true c.end_home-end.ensures.within) in
    by (not (is_fault c.in-Err.fault)) c.loop-g.g told h xids serves inv.logs.same_shape inv.logs.same_slots (inv.cleaned told h xids serves copies) (inv.none told h xids serves copies) there here
  where
    by : (going : Bool) (n : ℕ) (told : g.S.Store.tells) (h : State) (xids : List Xid) → (serves : Serves g.S.Store h xids c.args.cursor.now c.args.store.now)
        → g.S.Store.shape_of c.loop-g.store ≡ g.S.Store.shape_of c.args.store.now → g.S.Store.slots c.loop-g.store ≡ g.S.Store.slots c.args.store.now
        → Rattle.rb_engine.specs.Cleaning.HasCleaned g.S.Store h xids (IsBefore h.shape c.args.cursor.now n) (IsBefore h.shape c.args.cursor.now n) n c.args.store.now c.loop-g.store
        → ((f : ℕ) → f < n → HasNone h xids (g.S.Store.blocks c.args.store.now) c.args.cursor.now f) → n < h.shape.blocks
        → (Serves g.S.Store h xids c.args.cursor.now c.loop-g.store → Cleans g.S.Store h xids (IsHere h.shape c.args.cursor.now n) (IsHere h.shape c.args.cursor.now n) 1 c.loop-g.store c.next_in.new.store going)
        → Cleans g.S.Store h xids (ReadIn h xids (g.S.Store.blocks c.args.store.now) c.args.cursor.now) (λ b. ⊥) h.shape.blocks c.args.store.now c.next_in.new.store going
    by true n told h xids serves shape slots before none there here =
        cleaned_as g.S.Store told (laws_of g) h xids c.args.cursor.now (IsBefore h.shape c.args.cursor.now (n + 1)) (ReadIn h xids (g.S.Store.blocks c.args.store.now) c.args.cursor.now) (IsBefore h.shape c.args.cursor.now (n + 1)) (λ b. ⊥) (n + 1) h.shape.blocks c.args.store.now c.next_in.new.store
        (read_up_to g.S.Store told (laws_of g) h xids c.args.cursor.now n c.args.store.now none) (λ b no. absurd no) (omega (arith, there))
        (turned g.S.Store told (laws_of g) h xids c.args.cursor.now n c.args.store.now c.loop-g.store c.next_in.new.store shape slots serves before here)
    by false n told h xids serves shape slots before none there here =
        turn_fails g.S.Store told (laws_of g) h xids c.args.cursor.now n c.args.store.now c.loop-g.store c.next_in.new.store shape slots serves before here

pub returns-in-Err-clause-same : goal.returns-in-Err-clause-same
returns-in-Err-clause-same g c = c.in-Err.ensures.same ∙ c.loop-g.invariant.row

pub returns-in-Err-clause-logs : goal.returns-in-Err-clause-logs
returns-in-Err-clause-logs g c =
    let inv = c.loop-g.invariant in
    let step = c.in-Err.ensures.logs in
    (inv.groups ++ step.0, more_logs g.S.Store c.args.store.now c.loop-g.store c.next_in.new.store inv.groups step.0 (not (is_fault c.in-Err.fault)) inv.logs step.1)

pub returns-in-Err-clause-young : goal.returns-in-Err-clause-young
returns-in-Err-clause-young g c = λ fine. young_on _ (g.S.Store.lsn c.args.store.now) (g.S.Store.lsn c.loop-g.store) (g.S.Store.lsn c.next_in.new.store) c.loop-g.invariant.young (c.in-Err.ensures.young fine)

-- a row of this home
pub returns-in-Ok-true-clause-found : goal.returns-in-Ok-true-clause-found
returns-in-Ok-true-clause-found g c = λ told h xids serves copies.
    let s = g.S.Store in
    let m = c.args.cursor.now in
    let old = c.args.store.now in
    let mid = c.loop-g.store in
    let inv = c.loop-g.invariant in
    let before = inv.cleaned told h xids serves copies in
    let served = serves_mid s told (laws_of g) h xids m c.loop-g.g old mid mid inv.logs.same_shape inv.logs.same_slots serves before in
    let env = env_mid s told (laws_of g) h xids m c.loop-g.g old mid mid inv.logs.same_shape inv.logs.same_slots serves before in
    let next = (c.in-Ok-true.ensures.told told h xids served (inv.copies told h xids serves copies)).0 c.in-Ok-true.field-0-test in (
      c.loop-g.g,
      subst (λ (z : Shape). c.loop-g.g < z.blocks) (c.shape-blocks.ensures.shape ∙ serves.shape) (below c.loop-g.g c.end_home-end.result c.shape-blocks.result.blocks c.loop-g-test.true c.end_home-end.ensures.within),
      inv.none told h xids serves copies,
      next_same h xids (s.blocks old) (s.blocks mid) m env c.loop-g.g c.next_in.new.row next,
    )

pub returns-in-Ok-true-clause-cleans : goal.returns-in-Ok-true-clause-cleans
returns-in-Ok-true-clause-cleans g c = λ told h xids serves copies.
    let s = g.S.Store in
    let m = c.args.cursor.now in
    let old = c.args.store.now in
    let mid = c.loop-g.store in
    let new = c.next_in.new.store in
    let n = c.loop-g.g in
    let inv = c.loop-g.invariant in
    let before = inv.cleaned told h xids serves copies in
    let served = serves_mid s told (laws_of g) h xids m n old mid mid inv.logs.same_shape inv.logs.same_slots serves before in
    let env = env_mid s told (laws_of g) h xids m n old mid mid inv.logs.same_shape inv.logs.same_slots serves before in
    let next : HasNext h xids (s.blocks old) m n c.next_in.new.row = next_same h xids (s.blocks old) (s.blocks mid) m env n c.next_in.new.row ((c.in-Ok-true.ensures.told told h xids served (inv.copies told h xids serves copies)).0 c.in-Ok-true.field-0-test) in
    let there : n < h.shape.blocks = subst (λ (z : Shape). n < z.blocks) (c.shape-blocks.ensures.shape ∙ serves.shape) (below c.loop-g.g c.end_home-end.result c.shape-blocks.result.blocks c.loop-g-test.true c.end_home-end.ensures.within) in
    cleaned_as s told (laws_of g) h xids m (IsBefore h.shape m (n + 1)) (ReadIn h xids (s.blocks old) m) (IsBefore h.shape m (n + 1)) (ReadIn h xids (s.blocks old) m) (n + 1) h.shape.blocks old new
    (read_up_to s told (laws_of g) h xids m n old (inv.none told h xids serves copies)) (read_no_more s told (laws_of g) h xids m n old c.next_in.new.row next) (omega (arith, there))
    (turned s told (laws_of g) h xids m n old mid new inv.logs.same_shape inv.logs.same_slots serves before (c.in-Ok-true.ensures.cleans told h xids))

pub returns-in-Ok-true-clause-logs : goal.returns-in-Ok-true-clause-logs
returns-in-Ok-true-clause-logs g c =
    let inv = c.loop-g.invariant in
    let step = c.in-Ok-true.ensures.logs in
    (inv.groups ++ step.0, more_logs g.S.Store c.args.store.now c.loop-g.store c.next_in.new.store inv.groups step.0 true inv.logs step.1)

pub returns-in-Ok-true-clause-young : goal.returns-in-Ok-true-clause-young
returns-in-Ok-true-clause-young g c = λ fine. young_on _ (g.S.Store.lsn c.args.store.now) (g.S.Store.lsn c.loop-g.store) (g.S.Store.lsn c.next_in.new.store) c.loop-g.invariant.young (c.in-Ok-true.ensures.young refl)

pub loop-g-preserved : goal.loop-g-preserved
loop-g-preserved g c =
    let m = c.args.cursor.now in
    let s = g.S.Store in
    let old = c.args.store.now in
    let mid = c.loop-g.store in
    let new = c.next_in.new.store in
    let inv = c.loop-g.invariant in
    let step = c.in-Ok-false.ensures.logs in
    record {
      there = let bs = ap (λ (z : Shape). z.blocks) c.shape-blocks.ensures.shape in let lt = c.loop-g-test.true in let end = c.end_home-end.ensures.within in omega (arith, bs, lt, end);
      groups = inv.groups ++ step.0;
      logs = more_logs s old mid new inv.groups step.0 true inv.logs step.1;
      young = young_on _ (s.lsn old) (s.lsn mid) (s.lsn new) inv.young (c.in-Ok-false.ensures.young refl);
      row = c.in-Ok-false.ensures.kept c.in-Ok-false.field-0-test ∙ inv.row;
      behind = let le = inv.behind in omega (arith, le);
      nothing = c.in-Ok-false.ensures.nothing (ok_false c.in-Ok-false.field-0 c.in-Ok-false.field-0-test);
      none = λ told h xids serves copies f up. elim (cases_eq f c.loop-g.g) [
        | inl this ↦
            let before = inv.cleaned told h xids serves copies in
            let served = serves_mid s told (laws_of g) h xids m c.loop-g.g old mid mid inv.logs.same_shape inv.logs.same_slots serves before in
            let env = env_mid s told (laws_of g) h xids m c.loop-g.g old mid mid inv.logs.same_shape inv.logs.same_slots serves before in
            let nothing = (c.in-Ok-false.ensures.told told h xids served (inv.copies told h xids serves copies)).1 c.in-Ok-false.field-0-test in
            subst (λ (n : ℕ). HasNone h xids (s.blocks old) m n) (sym this) (none_same h xids (s.blocks old) (s.blocks mid) m env c.loop-g.g nothing)
        | inr other ↦ inv.none told h xids serves copies f (omega (arith, up, other))
      ];
      cleaned = λ told h xids serves copies. turned s told (laws_of g) h xids m c.loop-g.g old mid new inv.logs.same_shape inv.logs.same_slots serves (inv.cleaned told h xids serves copies) (c.in-Ok-false.ensures.cleans told h xids);
      copies = λ told h xids serves copies.
          let before = inv.cleaned told h xids serves copies in
          let served = serves_mid s told (laws_of g) h xids m c.loop-g.g old mid mid inv.logs.same_shape inv.logs.same_slots serves before in
          c.in-Ok-false.ensures.copies told h xids served (inv.copies told h xids serves copies) refl;
    }

pub returns-clause-found : goal.returns-clause-found
returns-clause-found g c = λ told h xids serves copies f there. elim (cases_lt f c.loop-g.g) [
  | inl less ↦ c.loop-g.invariant.none told h xids serves copies f less
  | inr from ↦ λ k asked.
      let bs = ap (λ (z : Shape). z.blocks) (c.shape-blocks.ensures.shape ∙ serves.shape) in
      absurd (c.end_home-end.ensures.none f k (let past = c.loop-g-test.false in omega (arith, from, past)) (omega (arith, there, bs)) (ap (λ (n : ℕ). k % n) bs ∙ asked.home) asked.low asked.high)
]

pub returns-clause-cleans : goal.returns-clause-cleans
returns-clause-cleans g c = λ told h xids serves copies.
    let s = g.S.Store in
    let m = c.args.cursor.now in
    let old = c.args.store.now in
    let new = c.loop-g.store in
    let n = c.loop-g.g in
    let inv = c.loop-g.invariant in
    let bs : c.shape-blocks.result.blocks ≡ h.shape.blocks = ap (λ (z : Shape). z.blocks) (c.shape-blocks.ensures.shape ∙ serves.shape) in
    let there : n ≤ h.shape.blocks = subst (λ (z : Shape). n ≤ z.blocks) serves.shape inv.there in
    cleaned_as s told (laws_of g) h xids m (IsBefore h.shape m n) (ReadIn h xids (s.blocks old) m) (IsBefore h.shape m n) (ReadIn h xids (s.blocks old) m) n h.shape.blocks old new
    (read_by_end s told (laws_of g) h xids m n old (inv.none told h xids serves copies))
    (read_in_table s told (laws_of g) h xids m n old (λ f from there key. c.end_home-end.ensures.none f key.0 (let past = c.loop-g-test.false in omega (arith, from, past)) (omega (arith, there, bs)) (ap (λ (z : ℕ). key.0 % z) bs ∙ key.1) key.2 key.3))
    there
    (inv.cleaned told h xids serves copies)

pub returns-clause-kept : goal.returns-clause-kept
returns-clause-kept g c = λ ended. c.loop-g.invariant.row

pub returns-clause-logs : goal.returns-clause-logs
returns-clause-logs g c = (c.loop-g.invariant.groups, c.loop-g.invariant.logs)

pub returns-clause-young : goal.returns-clause-young
returns-clause-young g c = λ fine. c.loop-g.invariant.young

pub returns-in-Err-clause-copies : goal.returns-in-Err-clause-copies
returns-in-Err-clause-copies g c = λ told h xids serves copies fine.
    let inv = c.loop-g.invariant in
    let served = serves_mid g.S.Store told (laws_of g) h xids c.args.cursor.now c.loop-g.g c.args.store.now c.loop-g.store c.loop-g.store inv.logs.same_shape inv.logs.same_slots serves (inv.cleaned told h xids serves copies) in
    c.in-Err.ensures.copies told h xids served (inv.copies told h xids serves copies) fine

pub returns-in-Ok-true-clause-copies : goal.returns-in-Ok-true-clause-copies
returns-in-Ok-true-clause-copies g c = λ told h xids serves copies fine.
    let inv = c.loop-g.invariant in
    let served = serves_mid g.S.Store told (laws_of g) h xids c.args.cursor.now c.loop-g.g c.args.store.now c.loop-g.store c.loop-g.store inv.logs.same_shape inv.logs.same_slots serves (inv.cleaned told h xids serves copies) in
    c.in-Ok-true.ensures.copies told h xids served (inv.copies told h xids serves copies) refl

pub returns-clause-copies : goal.returns-clause-copies
returns-clause-copies g c = λ told h xids serves copies fine. c.loop-g.invariant.copies told h xids serves copies
