-- The newest commit above a number that changed something in a home, as its entries tell it.
use Rattle.std.proofs.Common.{◌≡◌, ⊎_elim, ◌⊎◌, inl, inr, ◌<◌, ◌≤◌, ◌+◌, ◌++◌, nat_lt, ℕ, suc, true, false, if◌then◌else◌}
use Rattle.std.proofs.Common.{List, [], ◌∷◌, length, Option, Some, None, refl, sym, ◌∙◌, ap, subst, arith}
use Rattle.std.proofs.lemmas.Bool.{cases_eq}
use Rattle.std.proofs.lemmas.Bool.Decides.{nat_tests}
use Rattle.std.specs.List.{list_any}
use Rattle.rb_base.specs.declared.ids.Xid.{Xid}
use Rattle.law_read.specs.Heights.{AtMost, LookAtMost, StatusAtMost, Numbered, LookNumbered, StatusNumbered}
use Rattle.law_read.specs.Late.{changes_key, earlier, late_above}
use Rattle.law_read.specs.Reading.{rows_at, count_above, flat, up_to}
use Rattle.rb_txntable.specs.declared.looks.Look.{Look}
use Rattle.rb_txntable.specs.declared.looks.Look.TheVariants.{Active, At, Before}
use Rattle.law_home.specs.Kinds.{Status, Free, Open, Exact, Bound, Entry}
use Rattle.law_home.specs.Walk.{Change, Commit, Home, Env, Rows, Walk, Chain, Below, LookBelow, StatusBelow}
use Rattle.law_home.specs.Walk.{LookSays, StatusSays, Says, Told, entry_at, last}

look_falls : (lost : ℕ) (look : Look) (c m : ℕ) → LookNumbered look c → LookBelow lost look m → c ≤ m
look_falls lost Active c m is below = absurd is
look_falls lost (At k) c m is below = omega arith
look_falls lost (Before b) c m is below = absurd is

status_falls : (env : Env) (xid : Xid) (status : Status) (c m : ℕ) → StatusNumbered env xid status c → StatusBelow env xid status m → c ≤ m
status_falls env xid Free c m is below = absurd is
status_falls env xid Open c m is below = look_falls (env.lost xid.seg) (env.look xid) c m is below
status_falls env xid (Exact k) c m is below = omega arith
status_falls env xid (Bound b) c m is below = absurd is

numbered_below : (env : Env) (e : Entry) (c m : ℕ) → Numbered env e c → Below env e m → c ≤ m
numbered_below env e c m is below = status_falls env e.xid e.status c m is below

look_most : (lost : ℕ) (look : Look) (k n c : ℕ) → LookSays lost look k → LookAtMost n c look → (k ≤ c) ⊎ (k ≤ n)
look_most lost Active k n c says most = absurd says
look_most lost (At j) k n c says most = inl (omega arith)
look_most lost (Before b) k n c says most = inr (omega (arith, says.0))

status_most : (env : Env) (xid : Xid) (status : Status) (k n c : ℕ) → StatusSays env xid status k → StatusAtMost env n c xid status → (k ≤ c) ⊎ (k ≤ n)
status_most env xid Free k n c says most = absurd says
status_most env xid Open k n c says most = look_most (env.lost xid.seg) (env.look xid) k n c says most
status_most env xid (Exact j) k n c says most = inl (omega arith)
status_most env xid (Bound b) k n c says most = inr (omega (arith, says.0))

pub says_most : (env : Env) (e : Entry) (k n c : ℕ) → n ≤ c → Says env e k → AtMost env n c e → k ≤ c
says_most env e k n c le says most = ⊎_elim (λ a. a) (λ a. omega arith) (status_most env e.xid e.status k n c says most)

pub cut : (n : ℕ) (rows : Rows) (t : Commit) (older : List Commit) → n < t.number → rows_at n rows (t ∷ older) ≡ rows_at n rows older
cut n rows t older lt = let test : nat_lt n t.number ≡ true = grind (arith, nat_tests) in rw test refl

pub cut_count : (n : ℕ) (t : Commit) (older : List Commit) → n < t.number → count_above n (t ∷ older) ≡ length t.changes + count_above n older
cut_count n t older lt = let test : nat_lt n t.number ≡ true = grind (arith, nat_tests) in rw test refl

pub cut_flat : (n : ℕ) (t : Commit) (older : List Commit) → n < t.number → flat n (t ∷ older) ≡ t.changes ++ flat n older
cut_flat n t older lt = let test : nat_lt n t.number ≡ true = grind (arith, nat_tests) in rw test refl

pub cut_tail : (n : ℕ) (t : Commit) (older : List Commit) → n < t.number → up_to n (t ∷ older) ≡ up_to n older
cut_tail n t older lt = let test : nat_lt n t.number ≡ true = grind (arith, nat_tests) in rw test refl

pub here_none : (n key : ℕ) (t : Commit) (older : List Commit) → t.number ≤ n → late_above n key (t ∷ older) ≡ None
here_none n key t older le = let test : nat_lt n t.number ≡ false = grind (arith, nat_tests) in rw test refl

cut_late : (n key : ℕ) (t : Commit) (older : List Commit) → n < t.number
    → late_above n key (t ∷ older) ≡ earlier (late_above n key older) (if list_any (changes_key key) t.changes then Some t.number else None)
cut_late n key t older lt = let test : nat_lt n t.number ≡ true = grind (arith, nat_tests) in rw test refl

pub earlier_none : (o : Option ℕ) → earlier o None ≡ o
earlier_none None = refl
earlier_none (Some c) = refl

-- a commit without changes here changes no key
pub late_past : (n key : ℕ) (t : Commit) (older : List Commit) → n < t.number → t.changes ≡ [] → late_above n key (t ∷ older) ≡ late_above n key older
late_past n key t older lt nothing =
    cut_late n key t older lt
    ∙ ap (λ (z : List Change). earlier (late_above n key older) (if list_any (changes_key key) z then Some t.number else None)) nothing
    ∙ earlier_none (late_above n key older)

module _ (env : Env) (base : ℕ) (rows : Rows) (n i c : ℕ) (b : Home) where
  -- What the newest commit with changes here is to a history: it has this number, and entry i leads its chain.
  pub record Newest (list : List Commit) : Type 0 where
    pub xid : Xid
    pub ch : Change
    pub more : List Change
    pub older : List Commit
    pub chain : Chain env xid c i (ch ∷ more) b (Walk env base rows older)
    pub lower : last base older < c
    pub changes : flat n list ≡ (ch ∷ more) ++ flat n older
    pub same : rows_at n rows list ≡ rows_at n rows older
    pub tail : up_to n list ≡ up_to n older
    pub count : count_above n list ≡ suc (length more) + count_above n older
    pub late : (key : ℕ) → late_above n key list ≡ earlier (late_above n key older) (if list_any (changes_key key) (ch ∷ more) then Some c else None)
    pub most : c ≤ last base list

  pub newest : (list : List Commit) → base ≤ n → Walk env base rows list b → n < c → ((j : ℕ) → AtMost env n c (entry_at b j)) → Numbered env (entry_at b i) c → Newest list
  newest [] low walk lt most is = let le : c ≤ base = numbered_below env (entry_at b i) c base is (walk.below i) in absurd (omega arith)
  newest (t ∷ older) low walk lt most is = above t.changes refl (newest older low)
    where
      at_most_t : c ≤ t.number
      at_most_t = numbered_below env (entry_at b i) c t.number is (walk.0.below i)

      n_t : n < t.number
      n_t = omega (arith, at_most_t, lt)

      above : (chs : List Change) → t.changes ≡ chs → (Walk env base rows older b → n < c → ((j : ℕ) → AtMost env n c (entry_at b j)) → Numbered env (entry_at b i) c → Newest older) → Newest (t ∷ older)
      above [] nothing deeper =
          let chain : Chain env t.xid t.number walk.2.0 [] b (Walk env base rows older) = subst (λ (z : List Change). Chain env t.xid t.number walk.2.0 z b (Walk env base rows older)) nothing walk.2.2 in
          let d : Newest older = deeper chain lt most is in
          let z : length t.changes ≡ 0 = ap length nothing in
          record {
            xid = d.xid;
            ch = d.ch;
            more = d.more;
            older = d.older;
            chain = d.chain;
            lower = d.lower;
            changes = cut_flat n t older n_t ∙ ap (λ (z : List Change). z ++ flat n older) nothing ∙ d.changes;
            same = cut n rows t older n_t ∙ d.same;
            tail = cut_tail n t older n_t ∙ d.tail;
            count = omega (arith, cut_count n t older n_t, z, d.count);
            late = λ key. late_past n key t older n_t nothing ∙ d.late key;
            most = at_most_t;
          }
      above (ch ∷ more) some deeper = elim (cases_eq i walk.2.0) [
        | inl same ↦
            let number : t.number ≡ c = omega (arith, at_most_t, t_most) in
            let long : length t.changes ≡ suc (length more) = ap length some in
            record {
              xid = t.xid;
              ch = ch;
              more = more;
              older = older;
              chain = subst (λ (z : ℕ). Chain env t.xid c z (ch ∷ more) b (Walk env base rows older)) (sym same) (subst (λ (z : ℕ). Chain env t.xid z walk.2.0 (ch ∷ more) b (Walk env base rows older)) number chain);
              lower = omega (arith, walk.1, number);
              changes = cut_flat n t older n_t ∙ ap (λ (z : List Change). z ++ flat n older) some;
              same = cut n rows t older n_t;
              tail = cut_tail n t older n_t;
              count = omega (arith, cut_count n t older n_t, long);
              late = λ key. cut_late n key t older n_t
                  ∙ ap (λ (z : List Change). earlier (late_above n key older) (if list_any (changes_key key) z then Some t.number else None)) some
                  ∙ ap (λ (z : ℕ). earlier (late_above n key older) (if list_any (changes_key key) (ch ∷ more) then Some z else None)) number;
              most = at_most_t;
            }
        | inr ne ↦
            let low2 : c ≤ last base older = numbered_below env (entry_at b i) c (last base older) is (told.1 i ne) in
            absurd (omega (arith, walk.1, t_most))
      ]
        where
          told : Told env b walk.2.0 t.number (last base older) (ch ∷ more)
          told = subst (λ (z : List Change). Told env b walk.2.0 t.number (last base older) z) some walk.2.1

          chain : Chain env t.xid t.number walk.2.0 (ch ∷ more) b (Walk env base rows older)
          chain = subst (λ (z : List Change). Chain env t.xid t.number walk.2.0 z b (Walk env base rows older)) some walk.2.2

          t_most : t.number ≤ c
          t_most = says_most env (entry_at b walk.2.0) t.number n c (omega arith) told.0 (most walk.2.0)
