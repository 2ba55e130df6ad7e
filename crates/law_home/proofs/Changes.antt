-- A write by the rules keeps what stands.
use Rattle.std.proofs.Common.{◌≡◌, ◌≢◌, ◌⊎◌, inl, inr, ⊎_elim, ◌<◌, ℕ, suc, true, false, List, [], ◌∷◌, length, set, Some, None, refl, sym, ◌∙◌, ap, subst, arith}
use Rattle.std.proofs.lemmas.Bool.{cases_eq}
use Rattle.std.proofs.lemmas.Bool.Decides.{nat_tests}
use Rattle.rb_txntable.specs.declared.looks.Look.TheVariants.{Active}
use Rattle.rb_model.specs.Change.{Kind, Put, Gone, Held, Place}
use Rattle.law_home.specs.Kinds.{sort_of, Status, Free, Open, Exact, Bound, Entry, Cell, Empty, Row, Stub, Undo}
use Rattle.law_home.specs.Walk.{Change, Commit, Home, Env, Rows, Walk, Head, Write, Saved, changed, own, row_of, cell_at, entry_at, lock_of, taken}
use Rattle.law_home.specs.Steps.{Stands}
use Rattle.law_home.specs.Writes.{Fits, IsOwn, is_open, new_cell, new_entry, locked_as, written, change_of}
use Rattle.law_home.proofs.Standing.{stands_write}
use Rattle.law_home.proofs.Lives.{found, first}

open_kind : (status : Status) → is_open status ≡ false → status ≡ Open → ⊥
open_kind Free not is = cc
open_kind Open not is = cc
open_kind (Exact c) not is = cc
open_kind (Bound b) not is = cc

-- a cell has no row of another key than its own
no_other : (x : Cell) (key k : ℕ) → (taken x ≡ Some key) ⊎ (taken x ≡ None) → k ≢ key → row_of x k ≡ None
no_other Empty key k is ne = refl
no_other (Row j v lock) key k (inl is) ne = let same : j ≡ key = cc in grind (arith, nat_tests)
no_other (Row j v lock) key k (inr is) ne = cc
no_other (Stub j lock) key k is ne = refl

lock_locked : (x : Cell) (key lock : ℕ) → lock_of (locked_as x key lock) ≡ lock
lock_locked Empty key lock = refl
lock_locked (Row k v l) key lock = refl
lock_locked (Stub k l) key lock = refl

taken_locked : (x : Cell) (key i : ℕ) → taken (locked_as x key (suc i)) ≡ Some key
taken_locked Empty key i = refl
taken_locked (Row k v l) key i = refl
taken_locked (Stub k l) key i = refl

row_locked : (x : Cell) (key lock k : ℕ) → (taken x ≡ Some key) ⊎ (taken x ≡ None) → row_of (locked_as x key lock) k ≡ row_of x k
row_locked Empty key lock k is = refl
row_locked (Row j v l) key lock k (inl is) = let same : j ≡ key = cc in rw same refl
row_locked (Row j v l) key lock k (inr is) = cc
row_locked (Stub j l) key lock k is = refl

new_lock : (kind : Kind) (key lock : ℕ) (x : Cell) → lock_of (new_cell kind key lock x) ≡ lock
new_lock (Put v) key lock x = refl
new_lock Gone key lock x = refl
new_lock Held key lock x = lock_locked x key lock

new_taken : (kind : Kind) (key i : ℕ) (x : Cell) → taken (new_cell kind key (suc i) x) ≡ Some key
new_taken (Put v) key i x = refl
new_taken Gone key i x = refl
new_taken Held key i x = taken_locked x key i

new_shows : (kind : Kind) (key lock : ℕ) (x : Cell) (k : ℕ) → (taken x ≡ Some key) ⊎ (taken x ≡ None)
    → row_of (new_cell kind key lock x) k ≡ changed kind key (row_of x) k
new_shows (Put v) key lock x k is = elim (cases_eq k key) [
  | inl same ↦ grind (arith, nat_tests)
  | inr ne ↦ let n : row_of x k ≡ None = no_other x key k is ne in grind (arith, nat_tests)
]
new_shows Gone key lock x k is = elim (cases_eq k key) [
  | inl same ↦ grind (arith, nat_tests)
  | inr ne ↦ let n : row_of x k ≡ None = no_other x key k is ne in grind (arith, nat_tests)
]
new_shows Held key lock x k is = row_locked x key lock k is

module _ (w : ℕ → ℕ) (base : ℕ) (rows : Rows) (list : List Commit) (env : Env) (lives : List (List Change)) (b : Home)
    (stands : Stands env w base rows list lives b) (s : ℕ) (s_in : s < length lives) (active : env.look (env.xid s) ≡ Active) (r : Undo) (kind : Kind)
    (place : Place) (there : env.store place ≡ Some r) (xid : r.xid ≡ env.xid s) (here : r.home ≡ b.block) (sort : r.sort ≡ sort_of kind) (seg : place.seg ≡ (env.xid s).seg)
    (entry_was : r.entry_before ≡ entry_at b r.entry) (cell_was : r.cell_before ≡ cell_at b r.cell)
    (fits : Fits b (env.xid s) r.key r.entry r.cell) where
  abbrev Mine : Entry → Type 0
  Mine e = IsOwn (env.xid s) e

  own_was : Mine r.entry_before ⊎ ((is_open r.entry_before.status ≡ false) × ((j : ℕ) → Mine (entry_at b j) → ⊥))
  own_was = subst (λ (z : Entry). Mine z ⊎ ((is_open z.status ≡ false) × ((j : ℕ) → Mine (entry_at b j) → ⊥))) (sym entry_was) fits.own

  lock_was : (lock_of r.cell_before ≡ 0) ⊎ (lock_of r.cell_before ≡ suc r.entry)
  lock_was = subst (λ (z : Cell). (lock_of z ≡ 0) ⊎ (lock_of z ≡ suc r.entry)) (sym cell_was) fits.lock

  -- an own entry leads to the session's changes, and there is only one
  own_leads : (j : ℕ) → Mine (entry_at b j) → ((entry_at b j).chain ≡ length (own lives s)) × ((k : ℕ) → Mine (entry_at b k) → k ≡ j)
  own_leads j mine =
      let f : (u : ℕ) × (ch : Change) × (more : List Change) × (own lives u ≡ ch ∷ more)
      × ((entry_at b j).xid ≡ env.xid u) = found env (Walk env base rows list) stands.m lives b j (mine.0, ap env.look mine.1 ∙ active) stands.tree in
      let us : f.0 ≡ s = stands.distinct s f.0 (ap env.look (sym f.4 ∙ mine.1) ∙ active) (sym f.4 ∙ mine.1) in
      let h : (r : Undo) × Head env f.0 f.1 (suc (length f.2)) b r = first env (Walk env base rows list) stands.m lives b f.0 f.1 f.2 f.3 stands.tree in
      let at : j ≡ h.0.entry = h.1.only j (mine.0, ap env.look mine.1 ∙ active) f.4 in
      let long : length (own lives s) ≡ suc (length f.2) = ap (λ (z : ℕ). length (own lives z)) (sym us) ∙ ap length f.3 in
      let chain : (entry_at b j).chain ≡ suc (length f.2) = ap (λ (z : ℕ). (entry_at b z).chain) at ∙ h.1.leads.chain in
      (chain ∙ sym long, λ k other. h.1.only k (other.0, ap env.look other.1 ∙ active) (other.1 ∙ ap env.xid (sym us)) ∙ sym at)

  -- so a session with an own entry has live changes here
  not_empty : (j : ℕ) → Mine (entry_at b j) → length (own lives s) ≡ 0 → ⊥
  not_empty j mine none =
      let f : (u : ℕ) × (ch : Change) × (more : List Change) × (own lives u ≡ ch ∷ more)
      × ((entry_at b j).xid ≡ env.xid u) = found env (Walk env base rows list) stands.m lives b j (mine.0, ap env.look mine.1 ∙ active) stands.tree in
      let us : f.0 ≡ s = stands.distinct s f.0 (ap env.look (sym f.4 ∙ mine.1) ∙ active) (sym f.4 ∙ mine.1) in
      let long : length (own lives s) ≡ suc (length f.2) = ap (λ (z : ℕ). length (own lives z)) (sym us) ∙ ap length f.3 in
      omega (arith, long, none)

  none_own : ((j : ℕ) → Mine (entry_at b j) → ⊥) → (chs : List Change) → own lives s ≡ chs → length (own lives s) ≡ 0
  none_own none [] is = ap length is
  none_own none (ch ∷ more) is =
      let h : (r : Undo) × Head env s ch (suc (length more)) b r = first env (Walk env base rows list) stands.m lives b s ch more is stands.tree in
      absurd (none h.0.entry (h.1.status, h.1.leads.xid))

  chain_is : (new_entry r.entry_before r.xid place).chain ≡ suc (length (own lives s))
  chain_is = ⊎_elim
      (λ mine.
      let kind : is_open r.entry_before.status ≡ true = ap is_open mine.0 in
      let o : ((entry_at b r.entry).chain ≡ length (own lives s))
      × ((k : ℕ) → Mine (entry_at b k) → k ≡ r.entry) = own_leads r.entry (subst (λ (z : Entry). Mine z) entry_was mine) in
      let c : r.entry_before.chain ≡ length (own lives s) = ap (λ (z : Entry). z.chain) entry_was ∙ o.0 in
      rw kind (omega (arith, c)))
      (λ other.
      let n : length (own lives s) ≡ 0 = none_own other.1 (own lives s) refl in
      let k : is_open r.entry_before.status ≡ false = other.0 in
      rw k (omega (arith, n)))
      own_was

  saved : Saved env s r b
  saved = record {
    here = here;
    within = fits.within;
    cell = fits.cell;
    entry_was = sym entry_was;
    cell_was = sym cell_was;
    locks = λ j lock. ⊎_elim (λ mine. let m : Mine (entry_at b r.entry) = subst (λ (z : Entry). Mine z) entry_was mine in (m.0, ap env.look m.1 ∙ active)) (λ other. absurd (open_kind r.entry_before.status other.0 (ap (λ (z : Entry). z.status) entry_was ∙ stands.locks r.entry j lock))) own_was;
    only =
        λ j act same. ⊎_elim (λ mine. (own_leads r.entry (subst (λ (z : Entry). Mine z) entry_was mine)).1 j (act.0, same)) (λ other. absurd (other.1 j (act.0, same))) own_was;
  }

  fresh_before : (taken r.cell_before ≡ Some r.key) ⊎ (taken r.cell_before ≡ None)
  fresh_before = ⊎_elim (λ has. inl (ap taken cell_was ∙ has)) (λ none. inr (ap taken cell_was ∙ none.0)) fits.fresh

  wrote : Write env s (change_of kind r place) (length (own lives s)) r (new_entry r.entry_before r.xid place) (new_cell kind r.key (suc r.entry) r.cell_before)
  wrote = record {
    there = there;
    active = active;
    xid = xid;
    of = xid;
    number = refl;
    key = refl;
    home = refl;
    sort = sort;
    status = refl;
    leads = record { xid = xid; newest = refl; chain = chain_is; seg = seg };
    lock = new_lock kind r.key (suc r.entry) r.cell_before;
    has_key = new_taken kind r.key r.entry r.cell_before;
    shows = λ k. new_shows kind r.key (suc r.entry) r.cell_before k fresh_before;
    cell_before = ⊎_elim (λ has. inr has) (λ none. inl none) fresh_before;
    lock_before = ⊎_elim (λ none. inl none) (λ own_lock. inr (own_lock, ap (λ (z : Entry). z.status) entry_was ∙ stands.locks r.entry r.cell (ap lock_of (sym cell_was) ∙ own_lock))) lock_was;
    entry_before = λ is. ⊎_elim (λ mine. mine.1 ∙ sym xid) (λ other. absurd (open_kind r.entry_before.status other.0 is)) own_was;
    oldest =
        λ none is. ⊎_elim (λ mine. not_empty r.entry (subst (λ (z : Entry). Mine z) entry_was mine) none) (λ other. open_kind r.entry_before.status other.0 is) own_was;
  }

  pub write_stands : Stands env w base rows list (set lives s (change_of kind r place ∷ own lives s)) (written kind r place b)
  write_stands =
      stands_write base rows list w env lives b s (change_of kind r place) r (new_entry r.entry_before r.xid place) (new_cell kind r.key (suc r.entry) r.cell_before) s_in wrote saved
      (λ j ne has. ⊎_elim (λ here. ne (stands.unique j r.cell r.key has here)) (λ none. none.1 j has) fits.fresh) stands
