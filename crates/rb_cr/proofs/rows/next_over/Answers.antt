use Rattle.std.proofs.Common.{◌≡◌, ⊎_elim, ◌≤◌, ◌<◌, ◌∙◌, ℕ, List, length, get_or, is_some, Option, Some, None, IfSome, refl, sym, ap, subst, arith}
use Rattle.rb_cell.specs.declared.cell.Cell.{Cell}
use Rattle.rb_cr.specs.Records.{row_items}
use Rattle.rb_cr.specs.Rows.{IsFound, IsWanted, Reaches, kept_key}
use Rattle.rb_cr.specs.Scratches.{shown_over}
use Rattle.rb_heap.specs.Homes.{empty_cell}
use Rattle.law_read.specs.Keeping.{Kept}
use Rattle.law_home.specs.Walk.{Rows}
use Rattle.rb_cr.proofs.Overlays.{key_there}
use Rattle.rb_cr.proofs.rows.next_over.Goals as goal

-- a key that is asked for and has a row was reached, in a cell or among what is kept
reaches : (xs : List Cell) (over : Kept) (after : Option ℕ) (lo hi : ℕ) (first all : Option ℕ)
    → ((i : ℕ) → i < length xs → IsFound after lo hi (shown_over xs over) (get_or xs i empty_cell).key → Reaches first (get_or xs i empty_cell).key)
    → ((k : ℕ) → Reaches first k → Reaches all k)
    → ((i : ℕ) → i < length over → IsFound after lo hi (shown_over xs over) (kept_key over i) → Reaches all (kept_key over i))
    → (k : ℕ) (v : List ℕ) → IsWanted after lo hi k → shown_over xs over k ≡ Some v → Reaches all k
reaches xs over after lo hi first all cells stays kept k v wanted is = ⊎_elim
    (λ at. subst (λ (z : ℕ). Reaches all z) at.2 (stays (get_or xs at.0 empty_cell).key (cells at.0 at.1 (subst (λ (z : ℕ). IsFound after lo hi (shown_over xs over) z) (sym at.2) found))))
    (λ at. subst (λ (z : ℕ). Reaches all z) at.2 (kept at.0 at.1 (subst (λ (z : ℕ). IsFound after lo hi (shown_over xs over) z) (sym at.2) found)))
    (key_there over xs k v is)
  where
    found : IsFound after lo hi (shown_over xs over) k
    found = (wanted, ap is_some is)

pub returns-in_default-clause-none : goal.returns-in_default-clause-none
returns-in_default-clause-none c = λ _ k wanted. by_row k wanted (rows k) refl
  where
    rows : Rows
    rows = shown_over c.args.cells.now c.args.kept.now

    by_row : (k : ℕ) → IsWanted c.args.wanted.after c.args.wanted.lo c.args.wanted.hi k → (o : Option (List ℕ)) → rows k ≡ o → o ≡ None
    by_row k wanted None is = refl
    by_row k wanted (Some v) is =
        let r : Reaches c.least_kept.result k = reaches c.args.cells.now c.args.kept.now c.args.wanted.after c.args.wanted.lo c.args.wanted.hi c.least_cell.result c.least_kept.result c.least_cell.ensures.reached c.least_kept.ensures.stays c.least_kept.ensures.reached k v wanted is in
        absurd (c.in_default.not-Some r.0 r.1)

pub returns-clause-given : goal.returns-clause-given
returns-clause-given c = λ _.
    let rows = shown_over c.args.cells.now c.args.kept.now in
    let found : IfSome c.least_kept.result (λ k. IsFound c.args.wanted.after c.args.wanted.lo c.args.wanted.hi rows k) = c.least_kept.ensures.found c.least_cell.ensures.found in
    let here : IsFound c.args.wanted.after c.args.wanted.lo c.args.wanted.hi rows c.in-Some.key = subst (λ (o : Option ℕ). IfSome o (λ k. IsFound c.args.wanted.after c.args.wanted.lo c.args.wanted.hi rows k)) c.in-Some.is found in
    record {
      wanted = here.0;
      shows = sym (ap row_items (sym c.in-Some-value.is) ∙ c.value.ensures);
      least = λ k v wanted is.
          let r : Reaches c.least_kept.result k = reaches c.args.cells.now c.args.kept.now c.args.wanted.after c.args.wanted.lo c.args.wanted.hi c.least_cell.result c.least_kept.result c.least_cell.ensures.reached c.least_kept.ensures.stays c.least_kept.ensures.reached k v wanted is in
          lesser r.0 k c.in-Some.key (sym r.1 ∙ c.in-Some.is) r.2;
    }
  where
    lesser : (m k key : ℕ) → Some m ≡ Some key → m ≤ k → key ≤ k
    lesser m k key is le = let same : m ≡ key = cc in omega (arith, same, le)
