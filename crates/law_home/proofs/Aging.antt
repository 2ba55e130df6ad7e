-- A walk over commits holds of what is alike, and at later moments.
use Rattle.std.proofs.Common.{◌≡◌, inl, inr, ◌<◌, ℕ, List, [], ◌∷◌, length, get_or, set, Some, refl, sym, ◌∙◌, subst, arith}
use Rattle.std.proofs.lemmas.Bool.{cases_eq}
use Rattle.std.proofs.lemmas.List.{get_or-set_same, get_or-set_other, length-set}
use Rattle.law_home.specs.Kinds.{Entry, Cell, Empty, Undo}
use Rattle.law_home.specs.Walk.{Change, Commit, Home, Env, Rows, Match, Chain, Walk, Says, Below, Told, last, Boundary, Names, Ages, Alike, OldChanges, OldCommits, back, row_of, rows_of, cell_at, free_entry}
use Rattle.rb_base.specs.declared.ids.Xid.{Xid}

-- what holds at each place of two lists holds after the same is set in both
pub set_both : {A : Type 0} (P : A → A → Type 0) (xs ys : List A) (i : ℕ) (x d : A) → i < length xs → i < length ys → P x x
    → ((j : ℕ) → P (get_or xs j d) (get_or ys j d)) → (j : ℕ) → P (get_or (set xs i x) j d) (get_or (set ys i x) j d)
set_both P xs ys i x d hx hy here all j = elim (cases_eq j i) [
  | inl is ↦ subst (λ (z : ℕ). P (get_or (set xs i x) z d) (get_or (set ys i x) z d)) (sym is) (rw (get_or-set_same xs i x d hx, get_or-set_same ys i x d hy) here)
  | inr ne ↦ rw (get_or-set_other xs i j x d ne, get_or-set_other ys i j x d ne) (all j)
]

module _ (w : ℕ → ℕ) (env env2 : Env) (ages : Ages w env env2) where
  pub back_alike : (r : Undo) (b b2 : Home) → r.entry < length b.entries → r.cell < length b.cells → Alike env env2 b b2 → Alike env env2 (back r b) (back r b2)
  back_alike r b b2 e_in c_in alike = record {
    block = alike.block;
    entries = simp length-set alike.entries;
    cells = simp length-set alike.cells;
    rows =
        λ j k. set_both (λ (x : Cell) (y : Cell). row_of y k ≡ row_of x k) b.cells b2.cells r.cell r.cell_before Empty c_in c_in2 refl (λ j. alike.rows j k) j;
    xid = set_both (λ (x : Entry) (y : Entry). y.xid ≡ x.xid) b.entries b2.entries r.entry r.entry_before free_entry e_in e_in2 refl alike.xid;
    newest = set_both (λ (x : Entry) (y : Entry). y.newest ≡ x.newest) b.entries b2.entries r.entry r.entry_before free_entry e_in e_in2 refl alike.newest;
    chain = set_both (λ (x : Entry) (y : Entry). y.chain ≡ x.chain) b.entries b2.entries r.entry r.entry_before free_entry e_in e_in2 refl alike.chain;
    says = set_both (λ (x : Entry) (y : Entry). (c : ℕ) → Says env x c
        → Says env2 y c) b.entries b2.entries r.entry r.entry_before free_entry e_in e_in2 (ages.says r.entry_before) alike.says;
    below = set_both (λ (x : Entry) (y : Entry). (n : ℕ) → Below env x n
        → Below env2 y n) b.entries b2.entries r.entry r.entry_before free_entry e_in e_in2 (ages.below r.entry_before) alike.below;
  }
    where
      e_in2 : r.entry < length b2.entries
      e_in2 = omega (arith, alike.entries)

      c_in2 : r.cell < length b2.cells
      c_in2 = omega (arith, alike.cells)

  match_alike : (b b2 : Home) (rows : Rows) → Alike env env2 b b2 → Match b rows → Match b2 rows
  match_alike b b2 rows alike is = record {
    sound = λ j k v shown. is.sound j k v (sym (alike.rows j k) ∙ shown);
    complete = λ k v has. let found : (j : ℕ) × (row_of (cell_at b j) k ≡ Some v) = is.complete k v has in (found.0, alike.rows found.0 k ∙ found.1);
  }

  boundary_alike : (b b2 : Home) (n : ℕ) (rows : Rows) → Alike env env2 b b2 → Boundary env b n rows → Boundary env2 b2 n rows
  boundary_alike b b2 n rows alike at = record { is = match_alike b b2 rows alike at.is; below = λ i. alike.below i n (at.below i) }

  told_alike : (b b2 : Home) (i c lower : ℕ) (chs : List Change) → Alike env env2 b b2 → Told env b i c lower chs → Told env2 b2 i c lower chs
  told_alike b b2 i c lower [] alike told = tt
  told_alike b b2 i c lower (ch ∷ more) alike told = (alike.says i c told.0, λ j ne. alike.below j lower (told.1 j ne))

  chain_alike : (rest rest2 : Home → Type 0) → ((b b2 : Home) → Alike env env2 b b2 → rest b → rest2 b2)
      → (t : Xid) (c i : ℕ) (chs : List Change) (b b2 : Home) → OldChanges w chs → Alike env env2 b b2 → Chain env t c i chs b rest
      → Chain env2 t c i chs b2 rest2
  chain_alike rest rest2 after t c i [] b b2 old alike chain = after b b2 alike chain
  chain_alike rest rest2 after t c i (ch ∷ more) b b2 old alike chain = (
    record { xid = alike.xid i ∙ chain.0.xid; newest = alike.newest i ∙ chain.0.newest; chain = alike.chain i ∙ chain.0.chain; seg = chain.0.seg },
    omega (arith, chain.1, ages.limit ch.place old.0),
    λ r there. let step : Names r t i ch (length more) b × Chain env t c i more (back r b) rest = chain.2 r (ages.store ch.place r old.0 there) in (
      record {
        xid = step.0.xid;
        of = step.0.of;
        entry = step.0.entry;
        within = omega (arith, step.0.within, alike.entries);
        cell = omega (arith, step.0.cell, alike.cells);
        number = step.0.number;
        key = step.0.key;
        home = step.0.home;
        here = step.0.here ∙ sym alike.block;
        sort = step.0.sort;
        shows = λ k. alike.rows r.cell k ∙ step.0.shows k;
        oldest = step.0.oldest;
        later = step.0.later;
      },
      chain_alike rest rest2 after t c i more (back r b) (back r b2) old.1 (back_alike r b b2 step.0.within step.0.cell alike) step.1,
    ),
  )

  pub walk_alike : (base : ℕ) (rows : Rows) (list : List Commit) (b b2 : Home) → OldCommits w list → Alike env env2 b b2 → Walk env base rows list b
      → Walk env2 base rows list b2
  walk_alike base rows [] b b2 old alike walk = boundary_alike b b2 base rows alike walk
  walk_alike base rows (t ∷ older) b b2 old alike walk = (
    boundary_alike b b2 t.number (rows_of rows (t ∷ older)) alike walk.0,
    walk.1,
    (walk.2.0, told_alike b b2 walk.2.0 t.number (last base older) t.changes alike walk.2.1, chain_alike (Walk env base rows older) (Walk env2 base rows older) (λ b b2 alike walk. walk_alike base rows older b b2 old.1 alike walk) t.xid t.number walk.2.0 t.changes b b2 old.0 alike walk.2.2),
  )
