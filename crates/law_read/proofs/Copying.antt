-- A home kept at a number: where it comes from, what it shows, how it is taken further back, and that it stays.
use Rattle.std.proofs.Common.{◌≡◌, inl, inr, ⊎_elim, ◌<◌, ◌≤◌, ◌+◌, ◌++◌, nat_lt, ℕ, false}
use Rattle.std.proofs.Common.{List, [], ◌∷◌, length, Option, Result, Ok, Err, OnOk, refl, sym, ◌∙◌, ap, subst, arith, append_assoc}
use Rattle.std.proofs.lemmas.Bool.{cases_lt}
use Rattle.std.proofs.lemmas.Bool.Decides.{nat_tests}
use Rattle.rb_base.specs.declared.ids.Xid.{Xid}
use Rattle.law_read.specs.Copies.{Copied}
use Rattle.law_read.specs.Heights.{AtMost, BeyondIn}
use Rattle.law_read.specs.Keeping.{Kept}
use Rattle.law_read.specs.Reading.{History, Honest, Worn, count_above, flat, rows_at, rows_in, up_to}
use Rattle.law_read.specs.Turns.{Peeled, Starts, WornIn}
use Rattle.law_home.specs.Walk.{Ages, Alike, Change, Chain, Commit, Env, Home, In, Match, OldCommits, Rows, Told, Walk}
use Rattle.law_home.specs.Walk.{entry_at, last, rows_of}
use Rattle.law_read.proofs.Newest.{cut, cut_count, cut_flat, cut_tail, says_most}
use Rattle.law_read.proofs.Peeling.{finishes}
use Rattle.law_read.proofs.Showing.{match_rows}
use Rattle.law_home.proofs.Aging.{walk_alike}

pub on_ok : {A B : Type 0} {P Q : Type 0} (r : Result A B) → (P → Q) → OnOk r P → OnOk r Q
on_ok (Ok a) f p = f p
on_ok (Err b) f p = p

-- nothing is cut where the newest isn't above n
pub kept_tail : (n : ℕ) (t : Commit) (older : List Commit) → t.number ≤ n → up_to n (t ∷ older) ≡ t ∷ older
kept_tail n t older le = let test : nat_lt n t.number ≡ false = grind (arith, nat_tests) in rw test refl

none_above : (n : ℕ) (t : Commit) (older : List Commit) → t.number ≤ n → count_above n (t ∷ older) ≡ 0
none_above n t older le = let test : nat_lt n t.number ≡ false = grind (arith, nat_tests) in rw test refl

none_flat : (n : ℕ) (t : Commit) (older : List Commit) → t.number ≤ n → flat n (t ∷ older) ≡ []
none_flat n t older le = let test : nat_lt n t.number ≡ false = grind (arith, nat_tests) in rw test refl

-- cutting at m and then at a lower n
module _ (n m : ℕ) (le : n ≤ m) where
  pub cuts_rows : (rows : Rows) (list : List Commit) → rows_at n rows (up_to m list) ≡ rows_at n rows list
  cuts_rows rows [] = refl
  cuts_rows rows (t ∷ older) = elim (cases_lt m t.number) [
    | inl lt ↦ ap (rows_at n rows) (cut_tail m t older lt) ∙ (cuts_rows rows older ∙ sym (cut n rows t older (omega (arith, le, lt))))
    | inr ge ↦ ap (rows_at n rows) (kept_tail m t older ge)
  ]

  pub cuts_tail : (list : List Commit) → up_to n (up_to m list) ≡ up_to n list
  cuts_tail [] = refl
  cuts_tail (t ∷ older) = elim (cases_lt m t.number) [
    | inl lt ↦ ap (up_to n) (cut_tail m t older lt) ∙ (cuts_tail older ∙ sym (cut_tail n t older (omega (arith, le, lt))))
    | inr ge ↦ ap (up_to n) (kept_tail m t older ge)
  ]

  pub cuts_count : (list : List Commit) → count_above n (up_to m list) + count_above m list ≡ count_above n list
  cuts_count [] = refl
  cuts_count (t ∷ older) = elim (cases_lt m t.number) [
    | inl lt ↦
        let a : count_above n (up_to m (t ∷ older)) ≡ count_above n (up_to m older) = ap (count_above n) (cut_tail m t older lt) in
        let b : count_above m (t ∷ older) ≡ length t.changes + count_above m older = cut_count m t older lt in
        let c : count_above n (t ∷ older) ≡ length t.changes + count_above n older = cut_count n t older (omega (arith, le, lt)) in
        let d : count_above n (up_to m older) + count_above m older ≡ count_above n older = cuts_count older in
        omega (arith, a, b, c, d)
    | inr ge ↦
        let a : count_above n (up_to m (t ∷ older)) ≡ count_above n (t ∷ older) = ap (count_above n) (kept_tail m t older ge) in
        let b : count_above m (t ∷ older) ≡ 0 = none_above m t older ge in
        omega (arith, a, b)
  ]

  pub cuts_flat : (list : List Commit) → flat m list ++ flat n (up_to m list) ≡ flat n list
  cuts_flat [] = refl
  cuts_flat (t ∷ older) = elim (cases_lt m t.number) [
    | inl lt ↦ ap (λ (z : List Change). z ++ flat n (up_to m (t ∷ older))) (cut_flat m t older lt)
        ∙ (ap (λ (z : List Commit). (t.changes ++ flat m older) ++ flat n z) (cut_tail m t older lt)
        ∙ (append_assoc t.changes (flat m older) (flat n (up_to m older))
        ∙ (ap (λ (z : List Change). t.changes ++ z) (cuts_flat older) ∙ sym (cut_flat n t older (omega (arith, le, lt))))))
    | inr ge ↦ ap (λ (z : List Change). z ++ flat n (up_to m (t ∷ older))) (none_flat m t older ge) ∙ ap (flat n) (kept_tail m t older ge)
  ]

in_right : (x : Change) (chs more : List Change) → In x more → In x (chs ++ more)
in_right x [] more named = named
in_right x (ch ∷ chs) more named = inr (in_right x chs more named)

-- the rows at n are those after the commits up to n
pub rows_cut : (n : ℕ) (rows : Rows) (list : List Commit) → rows_of rows (up_to n list) ≡ rows_at n rows list
rows_cut n rows [] = refl
rows_cut n rows (t ∷ older) = elim (cases_lt n t.number) [
  | inl lt ↦ ap (rows_of rows) (cut_tail n t older lt) ∙ (rows_cut n rows older ∙ sym (cut n rows t older lt))
  | inr ge ↦ let test : nat_lt n t.number ≡ false = grind (arith, nat_tests) in rw test refl
]

pub last_cut : (n base : ℕ) (list : List Commit) → base ≤ n → last base (up_to n list) ≤ n
last_cut n base [] low = low
last_cut n base (t ∷ older) low = elim (cases_lt n t.number) [
  | inl lt ↦ subst (λ (z : List Commit). last base z ≤ n) (sym (cut_tail n t older lt)) (last_cut n base older low)
  | inr ge ↦ subst (λ (z : List Commit). last base z ≤ n) (sym (kept_tail n t older ge)) ge
]

old_cut : (w : ℕ → ℕ) (n : ℕ) (list : List Commit) → OldCommits w list → OldCommits w (up_to n list)
old_cut w n [] old = old
old_cut w n (t ∷ older) old = elim (cases_lt n t.number) [
  | inl lt ↦ subst (OldCommits w) (sym (cut_tail n t older lt)) (old_cut w n older old.1)
  | inr ge ↦ subst (OldCommits w) (sym (kept_tail n t older ge)) old
]

walk_match : (env : Env) (base : ℕ) (rows : Rows) (list : List Commit) (b : Home) → Walk env base rows list b → Match b (rows_of rows list)
walk_match env base rows [] b walk = walk.is
walk_match env base rows (t ∷ older) b walk = walk.0.is

module _ (env : Env) (base : ℕ) (rows : Rows) (n : ℕ) where
  -- where no entry is above n, the commits above n have no changes here
  pub settled_walk : (list : List Commit) (b : Home) → Walk env base rows list b → ((j : ℕ) → AtMost env n n (entry_at b j)) → Walk env base rows (up_to n list) b
  settled_walk [] b walk most = walk
  settled_walk (t ∷ older) b walk most = elim (cases_lt n t.number) [
    | inl lt ↦ subst (λ (z : List Commit). Walk env base rows z b) (sym (cut_tail n t older lt)) (above t.changes refl lt (settled_walk older b))
    | inr ge ↦ subst (λ (z : List Commit). Walk env base rows z b) (sym (kept_tail n t older ge)) walk
  ]
    where
      above : (chs : List Change) → t.changes ≡ chs → n < t.number → (Walk env base rows older b → ((j : ℕ) → AtMost env n n (entry_at b j)) → Walk env base rows (up_to n older) b) → Walk env base rows (up_to n older) b
      above [] is lt deeper =
          let chain : Chain env t.xid t.number walk.2.0 [] b (Walk env base rows older) = subst (λ (z : List Change). Chain env t.xid t.number walk.2.0 z b (Walk env base rows older)) is walk.2.2 in
          deeper chain most
      above (ch ∷ more) is lt deeper =
          let told : Told env b walk.2.0 t.number (last base older) (ch ∷ more) = subst (λ (z : List Change). Told env b walk.2.0 t.number (last base older) z) is walk.2.1 in
          let low : t.number ≤ n = says_most env (entry_at b walk.2.0) t.number n n (omega arith) told.0 (most walk.2.0) in
          absurd (omega arith)

pub end_copied : (env : Env) (base : ℕ) (rows : Rows) (mine : Option Xid) (upto n below steps : ℕ) (list : List Commit) (f : Kept → Kept) (start b : Home) → base ≤ n → n ≤ last base list
    → Peeled env base rows mine upto n below steps f list start b → ((j : ℕ) → AtMost env n n (entry_at b j)) → Copied env base rows list n b
end_copied env base rows mine upto n below steps list f start b low high p most =
    record { low = low; high = high; walk = subst (λ (z : List Commit). Walk env base rows z b) p.tail (settled_walk env base rows n p.left b p.walk most) }

module _ (env : Env) (base : ℕ) (rows : Rows) (list : List Commit) where
  pub copy_shows : (n : ℕ) (b : Home) → Copied env base rows list n b → (k : ℕ) → rows_in b.cells k ≡ rows_at n rows list k
  copy_shows n b copied k = match_rows b (rows_at n rows list) (subst (λ (z : Rows). Match b z) (rows_cut n rows list) (walk_match env base rows (up_to n list) b copied.walk)) k

  pub copy_begins : (n m limit : ℕ) (b : Home) → Honest env → base ≤ n → last base list < limit → Copied env base rows list m b → Starts env base rows n limit (up_to m list) b
  copy_begins n m limit b honest low lower copied =
      record { honest = honest; low = low; walk = copied.walk; lower = let a = last_cut m base list copied.low in let b = copied.high in omega (arith, a, b, lower) }

  pub copy_read : (mine : Option Xid) (upto n m below steps : ℕ) (f : Kept → Kept) (start b : Home) → Honest env → base ≤ n → n ≤ m → Copied env base rows list m start
      → Peeled env base rows mine upto n below steps f (up_to m list) start b → ((j : ℕ) → AtMost env n n (entry_at b j))
      → Match b (rows_at n rows list) × (steps + count_above m list ≡ count_above n list) × Copied env base rows list n b
  copy_read mine upto n m below steps f start b honest low le copied p most =
      let e = finishes env base rows mine upto n below (up_to m list) honest low below steps f start b p most in
      let c : count_above n (up_to m list) + count_above m list ≡ count_above n list = cuts_count n m le list in
      let w : Walk env base rows (up_to n p.left) b = settled_walk env base rows n p.left b p.walk most in
      let h = copied.high in (
        subst (λ (z : Rows). Match b z) (cuts_rows n m le rows list) e.0,
        omega (arith, e.1, c),
        record { low = low; high = omega (arith, le, h); walk = subst (λ (z : List Commit). Walk env base rows z b) (p.tail ∙ cuts_tail n m le list) w },
      )

  pub copy_ages : (w : ℕ → ℕ) (env2 : Env) (n : ℕ) (b : Home) → Ages w env env2 → OldCommits w list → Copied env base rows list n b → Copied env2 base rows list n b
  copy_ages w env2 n b ages old copied =
      record { low = copied.low; high = copied.high; walk = walk_alike w env env2 ages base rows (up_to n list) b b (old_cut w n list old) same copied.walk }
    where
      same : Alike env env2 b b
      same = record {
        block = refl;
        entries = refl;
        cells = refl;
        rows = λ j k. refl;
        xid = λ i. refl;
        newest = λ i. refl;
        chain = λ i. refl;
        says = λ i. ages.says (entry_at b i);
        below = λ i. ages.below (entry_at b i);
      }

  pub copy_outlives : (t : Commit) (n : ℕ) (b : Home) → last base list < t.number → Copied env base rows list n b → Copied env base rows (t ∷ list) n b
  copy_outlives t n b later copied =
      let h = copied.high in
      let lt : n < t.number = omega (arith, h, later) in
      record { low = copied.low; high = omega (arith, lt); walk = subst (λ (z : List Commit). Walk env base rows z b) (sym (cut_tail n t list lt)) copied.walk }

pub copy_worn : (env : Env) (h : History) (n m seg : ℕ) (start block : Home) → n ≤ m → ((j : ℕ) → BeyondIn env n seg (entry_at start j) → ⊥)
    → WornIn env n seg (flat n (up_to m h.list)) start → Worn env h n block seg
copy_worn env h n m seg start block le none why =
    ⊎_elim (λ at. absurd (none at.0 at.1)) (λ cause. inr (cause.0, inr (subst (λ (z : List Change). In cause.0 z) (cuts_flat n m le h.list) (in_right cause.0 (flat m h.list) (flat n (up_to m h.list)) cause.1)), cause.2)) why
