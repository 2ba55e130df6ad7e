-- An extent used again, a slot taken again, and where a history begins.
use Rattle.std.proofs.Common.{◌≡◌, ◌≢◌, ℕ, zero, suc, List, [], ◌∷◌, None, sym, ap, subst}
use Rattle.rb_txntable.specs.declared.looks.Look.TheVariants.{Active}
use Rattle.rb_model.specs.Change.{Place}
use Rattle.law_home.specs.Kinds.{Entry, Cell, Empty}
use Rattle.law_home.specs.Walk.{lock_of, Match, Change, Commit, Home, Env, Rows, Walk, Tree, Below, AllEmpty, own, row_of, rows_of, taken, cell_at, entry_at, last, free_entry}
use Rattle.law_home.specs.Steps.{Stands}
use Rattle.law_home.proofs.Committing.{top}
use Rattle.rb_base.specs.declared.ids.Xid.{Xid}

-- before any change
pub stands_fresh : (env : Env) (lives : List (List Change)) (b : Home) → AllEmpty lives → ((x : Xid) → env.look x ≢ Active)
    → ((p : Place) → env.store p ≡ None) → ((i : ℕ) → entry_at b i ≡ free_entry) → ((j : ℕ) → cell_at b j ≡ Empty)
    → Stands env (λ g. 0) 0 (λ k. None) [] lives b
stands_fresh env lives b none quiet no_record free empty = record {
  m = 0;
  tree = (
    none,
    λ j active. quiet (entry_at b j).xid active.1,
    record {
      is = record {
        sound = λ j k v shown. let x : row_of (cell_at b j) k ≡ None = ap (λ (z : Cell). row_of z k) (empty j) in absurd (cc (x, shown));
        complete = λ k v has. absurd (cc (has));
      };
      below = λ i. subst (λ (z : Entry). Below env z 0) (sym (free i)) tt;
    },
  );
  distinct = λ s u active same. absurd (quiet (env.xid u) active);
  unique = λ i j k ti tj. let x : taken (cell_at b i) ≡ None = ap taken (empty i) in absurd (cc (x, ti));
  locks = λ i j lock. let x : lock_of (cell_at b j) ≡ 0 = ap lock_of (empty j) in absurd (cc (x, lock));
  old = tt;
  made = λ p r is. let x : env.store p ≡ None = no_record p in absurd (cc (x, is));
}

-- with no live change the history may be forgotten: its rows are the new base
pub stands_anew : (env : Env) (w : ℕ → ℕ) (base : ℕ) (rows : Rows) (list : List Commit) (lives : List (List Change)) (b : Home) → AllEmpty lives
    → Stands env w base rows list lives b → Stands env w (last base list) (rows_of rows list) [] lives b
stands_anew env w base rows list lives b none stands = anew stands.m stands.tree
  where
    anew : (m : ℕ) → Tree env m lives b (Walk env base rows list) → Stands env w (last base list) (rows_of rows list) [] lives b
    anew zero tree = record {
      m = 0;
      tree = (none, tree.1, top env base rows list b tree.2);
      distinct = stands.distinct;
      unique = stands.unique;
      locks = stands.locks;
      old = tt;
      made = stands.made;
    }
    anew (suc m) tree = record {
      m = 0;
      tree = (
        none,
        λ j active. let f : (s : ℕ) × (ch : Change) × (more : List Change) × (own lives s ≡ ch ∷ more)
            × ((entry_at b j).xid ≡ env.xid s) =
            tree.1 j active in let a : own lives f.0 ≡ [] =
            none f.0 in let c : own lives f.0 ≡ f.1 ∷ f.2 = f.3 in cc,
        top env base rows list b (tree.2 none),
      );
      distinct = stands.distinct;
      unique = stands.unique;
      locks = stands.locks;
      old = tt;
      made = stands.made;
    }

-- with no live change the cells have the rows after all commits
pub shows_rows : (env : Env) (w : ℕ → ℕ) (base : ℕ) (rows : Rows) (list : List Commit) (lives : List (List Change)) (b : Home)
    → AllEmpty lives → Stands env w base rows list lives b → Match b (rows_of rows list)
shows_rows env w base rows list lives b none stands = shown stands.m stands.tree
  where
    shown : (m : ℕ) → Tree env m lives b (Walk env base rows list) → Match b (rows_of rows list)
    shown zero tree = (top env base rows list b tree.2).is
    shown (suc m) tree = (top env base rows list b (tree.2 none)).is
