-- Cleaning, and what ages.
use Rattle.std.proofs.Common.{◌≡◌, ◌≤◌, ℕ, zero, suc, List, [], ◌∷◌, length, get_or, map, Some, refl, sym, ◌∙◌, ap, subst, arith}
use Rattle.rb_model.specs.Change.{Place}
use Rattle.law_home.specs.Kinds.{Status, Free, Open, Exact, Bound, Entry, Cell, Empty, Row, Stub, Undo}
use Rattle.law_home.specs.Walk.{Home, Env, IsActive, LiveAlike, Ages, Says, Below, LookSays, LookBelow, StatusSays, StatusBelow, row_of, cell_at, entry_at, lock_of, free_entry, taken}
use Rattle.rb_txntable.specs.declared.looks.Look.{Look}
use Rattle.rb_txntable.specs.declared.looks.Look.TheVariants.{Active, At, Before}
use Rattle.rb_txntable.specs.Looks.{LookAges}
use Rattle.law_home.specs.Steps.{cleaned, cleaned_entry, cleaned_status, cleaned_cell, cleaned_lock, kept_by, told_by}
use Rattle.rb_base.specs.declared.ids.Xid.{Xid}

pub at_map : {A : Type 0} (f : A → A) (d : A) → f d ≡ d → (xs : List A) (i : ℕ) → get_or (map f xs) i d ≡ f (get_or xs i d)
at_map f d same [] i = sym same
at_map f d same (x ∷ xs) zero = refl
at_map f d same (x ∷ xs) (suc i) = at_map f d same xs i

pub length_map : {A : Type 0} (f : A → A) (xs : List A) → length (map f xs) ≡ length xs
length_map f [] = refl
length_map f (x ∷ xs) = let h : length (map f xs) ≡ length xs = length_map f xs in omega arith

says_told : (env : Env) (xid : Xid) (c : ℕ) (look : Look) → LookSays (env.lost xid.seg) look c → StatusSays env xid (told_by look) c
says_told env xid c Active says = absurd says
says_told env xid c (At k) says = says
says_told env xid c (Before b) says = says

says_cleaned : (env : Env) (xid : Xid) (c : ℕ) (status : Status) → StatusSays env xid status c → StatusSays env xid (cleaned_status env xid status) c
says_cleaned env xid c Free says = says
says_cleaned env xid c Open says = says_told env xid c (env.look xid) says
says_cleaned env xid c (Exact k) says = says
says_cleaned env xid c (Bound b) says = says

below_told : (env : Env) (xid : Xid) (n : ℕ) (look : Look) → LookBelow (env.lost xid.seg) look n → StatusBelow env xid (told_by look) n
below_told env xid n Active below = absurd below
below_told env xid n (At k) below = below
below_told env xid n (Before b) below = below

below_cleaned : (env : Env) (xid : Xid) (n : ℕ) (status : Status) → StatusBelow env xid status n → StatusBelow env xid (cleaned_status env xid status) n
below_cleaned env xid n Free below = below
below_cleaned env xid n Open below = below_told env xid n (env.look xid) below
below_cleaned env xid n (Exact k) below = below
below_cleaned env xid n (Bound b) below = below

active_told : (look : Look) → told_by look ≡ Open → look ≡ Active
active_told Active is = refl
active_told (At k) is = cc
active_told (Before b) is = cc

pub active_cleaned : (env : Env) (xid : Xid) (status : Status) → cleaned_status env xid status ≡ Open → (status ≡ Open) × (env.look xid ≡ Active)
active_cleaned env xid Free is = absurd (cc)
active_cleaned env xid Open is = (refl, active_told (env.look xid) is)
active_cleaned env xid (Exact k) is = absurd (cc)
active_cleaned env xid (Bound b) is = absurd (cc)

stays_active : (env : Env) (e : Entry) → IsActive env e → cleaned_entry env e ≡ e
stays_active env e active = status_is (cleaned_status env e.xid e.status) (rw (active.0, active.1) refl)
  where
    status_is : (status : Status) → status ≡ e.status → (let r : Entry = record { status = status; xid = e.xid; newest = e.newest; chain = e.chain } in r) ≡ e
    status_is status is = ap (λ (z : Status). let r : Entry = record { status = z; xid = e.xid; newest = e.newest; chain = e.chain } in r) is

row_cleaned : (env : Env) (b : Home) (x : Cell) (k : ℕ) → row_of (cleaned_cell env b x) k ≡ row_of x k
row_cleaned env b Empty k = refl
row_cleaned env b (Row key v lock) k = refl
row_cleaned env b (Stub key lock) k = refl

lock_stays : (env : Env) (b : Home) (lock i : ℕ) → lock ≡ suc i → IsActive env (entry_at b i) → cleaned_lock env b lock ≡ lock
lock_stays env b zero i is active = cc
lock_stays env b (suc j) i is active =
    let same : j ≡ i = omega arith in
    let open_still : (cleaned_entry env (entry_at b j)).status ≡ Open =
    subst (λ (z : ℕ). (cleaned_entry env (entry_at b z)).status ≡ Open) (sym same) (ap (λ (z : Entry). z.status) (stays_active env (entry_at b i) active) ∙ active.0) in
    ap (λ (z : Status). kept_by z (suc j)) open_still

cell_stays : (env : Env) (b : Home) (x : Cell) (i : ℕ) → lock_of x ≡ suc i → IsActive env (entry_at b i) → cleaned_cell env b x ≡ x
cell_stays env b Empty i is active = refl
cell_stays env b (Row key v lock) i is active = ap (Row key v) (lock_stays env b lock i is active)
cell_stays env b (Stub key lock) i is active = ap (Stub key) (lock_stays env b lock i is active)

kept_lock : (status : Status) (l i : ℕ) → kept_by status l ≡ suc i → (l ≡ suc i) × (status ≡ Open)
kept_lock Free l i is = absurd (cc)
kept_lock Open l i is = (is, refl)
kept_lock (Exact c) l i is = absurd (cc)
kept_lock (Bound b) l i is = absurd (cc)

was_lock : (env : Env) (b : Home) (l i : ℕ) → cleaned_lock env b l ≡ suc i → l ≡ suc i
was_lock env b zero i is = is
was_lock env b (suc k) i is = (kept_lock (cleaned_entry env (entry_at b k)).status (suc k) i is).0

pub lock_cleaned : (env : Env) (b : Home) (x : Cell) (i : ℕ) → lock_of (cleaned_cell env b x) ≡ suc i → lock_of x ≡ suc i
lock_cleaned env b Empty i is = is
lock_cleaned env b (Row key v lock) i is = was_lock env b lock i is
lock_cleaned env b (Stub key lock) i is = was_lock env b lock i is

lock_is_open : (env : Env) (b : Home) (l i : ℕ) → cleaned_lock env b l ≡ suc i → (cleaned_entry env (entry_at b i)).status ≡ Open
lock_is_open env b zero i is = absurd (cc)
lock_is_open env b (suc k) i is =
    let h : (suc k ≡ suc i) × ((cleaned_entry env (entry_at b k)).status ≡ Open) = kept_lock (cleaned_entry env (entry_at b k)).status (suc k) i is in
    let same : k ≡ i = omega (arith, h.0) in
    subst (λ (z : ℕ). (cleaned_entry env (entry_at b z)).status ≡ Open) same h.1

pub cell_lock_open : (env : Env) (b : Home) (x : Cell) (i : ℕ) → lock_of (cleaned_cell env b x) ≡ suc i → (cleaned_entry env (entry_at b i)).status ≡ Open
cell_lock_open env b Empty i is = absurd (cc)
cell_lock_open env b (Row key v lock) i is = lock_is_open env b lock i is
cell_lock_open env b (Stub key lock) i is = lock_is_open env b lock i is

pub clean_alike : (env : Env) (b : Home) → LiveAlike env env b (cleaned env b)
clean_alike env b = record {
  alike = record {
    block = refl;
    entries = length_map (cleaned_entry env) b.entries;
    cells = length_map (cleaned_cell env b) b.cells;
    rows = λ j k. ap (λ (z : Cell). row_of z k) (x_at j) ∙ row_cleaned env b (cell_at b j) k;
    xid = λ i. ap (λ (z : Entry). z.xid) (e_at i);
    newest = λ i. ap (λ (z : Entry). z.newest) (e_at i);
    chain = λ i. ap (λ (z : Entry). z.chain) (e_at i);
    says = λ i c says. subst (λ (z : Entry). Says env z c) (sym (e_at i)) (says_cleaned env (entry_at b i).xid c (entry_at b i).status says);
    below = λ i n below. subst (λ (z : Entry). Below env z n) (sym (e_at i)) (below_cleaned env (entry_at b i).xid n (entry_at b i).status below);
  };
  entry = λ i active. e_at i ∙ stays_active env (entry_at b i) active;
  active = λ i active. active_cleaned env (entry_at b i).xid (entry_at b i).status (ap (λ (z : Entry). z.status) (sym (e_at i)) ∙ active.0);
  cell = λ i j active lock. x_at j ∙ cell_stays env b (cell_at b j) i lock active;
  lock = λ i j active lock. lock_cleaned env b (cell_at b j) i (ap lock_of (sym (x_at j)) ∙ lock);
}
  where
    e_at : (i : ℕ) → entry_at (cleaned env b) i ≡ cleaned_entry env (entry_at b i)
    e_at i = at_map (cleaned_entry env) free_entry refl b.entries i

    x_at : (j : ℕ) → cell_at (cleaned env b) j ≡ cleaned_cell env b (cell_at b j)
    x_at j = at_map (cleaned_cell env b) Empty refl b.cells j

pub taken_cleaned : (env : Env) (b : Home) (x : Cell) (k : ℕ) → taken (cleaned_cell env b x) ≡ Some k → taken x ≡ Some k
taken_cleaned env b Empty k is = is
taken_cleaned env b (Row key v lock) k is = is
taken_cleaned env b (Stub key zero) k is = is
taken_cleaned env b (Stub key (suc i)) k is = stub (cleaned_lock env b (suc i)) is
  where
    stub : (lock : ℕ) → taken (Stub key lock) ≡ Some k → Some key ≡ Some k
    stub zero is = cc
    stub (suc lock) is = is

-- looks that age, and a lost that rises
look_says : (lost lost2 c : ℕ) (look look2 : Look) → lost ≤ lost2 → LookAges lost lost2 look look2 → LookSays lost look c → LookSays lost2 look2 c
look_says lost lost2 c Active look2 le ages says = absurd says
look_says lost lost2 c (At k) Active le ages says = absurd ages
look_says lost lost2 c (At k) (At j) le ages says = sym ages ∙ says
look_says lost lost2 c (At k) (Before b) le ages says = (omega (arith, ages.0), ages.1)
look_says lost lost2 c (Before b) Active le ages says = absurd ages
look_says lost lost2 c (Before b) (At j) le ages says = absurd ages
look_says lost lost2 c (Before b) (Before d) le ages says = (omega (arith, ages.0, says.0), ages.1 says.1)

look_below : (lost lost2 n : ℕ) (look look2 : Look) → lost ≤ lost2 → LookAges lost lost2 look look2 → LookBelow lost look n → LookBelow lost2 look2 n
look_below lost lost2 n Active look2 le ages below = absurd below
look_below lost lost2 n (At k) Active le ages below = absurd ages
look_below lost lost2 n (At k) (At j) le ages below = omega arith
look_below lost lost2 n (At k) (Before b) le ages below = ages.1
look_below lost lost2 n (Before b) Active le ages below = absurd ages
look_below lost lost2 n (Before b) (At j) le ages below = absurd ages
look_below lost lost2 n (Before b) (Before d) le ages below = ages.1 below

module _ (env env2 : Env) (rises : (g : ℕ) → env.lost g ≤ env2.lost g)
    (looks : (x : Xid) → LookAges (env.lost x.seg) (env2.lost x.seg) (env.look x) (env2.look x)) where
  status_says : (xid : Xid) (c : ℕ) (status : Status) → StatusSays env xid status c → StatusSays env2 xid status c
  status_says xid c Free says = says
  status_says xid c Open says = look_says (env.lost xid.seg) (env2.lost xid.seg) c (env.look xid) (env2.look xid) (rises xid.seg) (looks xid) says
  status_says xid c (Exact k) says = says
  status_says xid c (Bound b) says = let h = rises xid.seg in (says.0, omega (arith, says.1, h))

  status_below : (xid : Xid) (n : ℕ) (status : Status) → StatusBelow env xid status n → StatusBelow env2 xid status n
  status_below xid n Free below = below
  status_below xid n Open below = look_below (env.lost xid.seg) (env2.lost xid.seg) n (env.look xid) (env2.look xid) (rises xid.seg) (looks xid) below
  status_below xid n (Exact k) below = below
  status_below xid n (Bound b) below = let h = rises xid.seg in omega (arith, below, h)

  pub ages_by_looks : (w : ℕ → ℕ) → ((p : Place) (r : Undo) → p.index ≤ w p.seg → env2.store p ≡ Some r → env.store p ≡ Some r)
      → ((p : Place) → p.index ≤ w p.seg → env.limit p ≤ env2.limit p) → Ages w env env2
  ages_by_looks w store limit = record {
    store = store;
    says = λ e c. status_says e.xid c e.status;
    below = λ e n. status_below e.xid n e.status;
    limit = limit;
  }
