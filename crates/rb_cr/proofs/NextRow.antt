-- The row that a cell found shows is the next one, and where none was found there is none.
use Rattle.std.proofs.Common.{◌≡◌, ◌∙◌, ◌≤◌, ℕ, List, Option, Some, None, length, get_or, refl, sym, ap, subst, arith}
use Rattle.rb_cell.specs.declared.cell.Cell.{Cell}
use Rattle.rb_cr.specs.Rows.{IsNext, IsWanted, NoneLesser, ShowsWanted, cell_rows}
use Rattle.rb_cr.specs.declared.plain.KeyCell.{KeyCell}
use Rattle.rb_cr.proofs.Overlays.{CellWith, cell_with}
use Rattle.rb_cr.proofs.Shown.{first_shows}
use Rattle.rb_heap.specs.Homes.{empty_cell}
use Rattle.rb_model.specs.declared.row.Row.{Row}

-- a cell was found whose key is up to that of a row that is wanted
found_up_to : (cells : List Cell) (after : Option ℕ) (lo hi : ℕ) (found : Option KeyCell) → NoneLesser after lo hi cells (length cells) found
    → (k : ℕ) (v : List ℕ) → IsWanted after lo hi k → cell_rows cells k ≡ Some v → (one : KeyCell) × (found ≡ Some one) × (one.key ≤ k)
found_up_to cells after lo hi found lesser k v wanted is =
    let with : CellWith cells k = cell_with cells k v is in
    let one = lesser with.0 with.1 with.2 (subst (λ (z : ℕ). IsWanted after lo hi z) (sym with.3) wanted) in
    (one.0, one.1, omega (arith, one.2, with.3))

pub none_there : (cells : List Cell) (after : Option ℕ) (lo hi : ℕ) (found : Option KeyCell) → NoneLesser after lo hi cells (length cells) found
    → ((one : KeyCell) → found ≡ Some one → ⊥) → (k : ℕ) → IsWanted after lo hi k → cell_rows cells k ≡ None
none_there cells after lo hi found lesser none k wanted = by_row (cell_rows cells k) refl
  where
    by_row : (o : Option (List ℕ)) → cell_rows cells k ≡ o → o ≡ None
    by_row None is = refl
    by_row (Some v) is = let one = found_up_to cells after lo hi found lesser k v wanted is in absurd (none one.0 one.1)

pub next_there : (cells : List Cell) (after : Option ℕ) (lo hi : ℕ) (one : KeyCell) (row : Row) → ShowsWanted after lo hi cells one
    → NoneLesser after lo hi cells (length cells) (Some one) → row.key ≡ one.key → row.value.items ≡ (get_or cells one.cell empty_cell).value.items
    → IsNext after lo hi (cell_rows cells) row
next_there cells after lo hi one row here lesser key value = record {
  wanted = subst (λ (z : ℕ). IsWanted after lo hi z) (sym key) here.wanted;
  shows = ap (cell_rows cells) (key ∙ sym here.key)
      ∙ (first_shows cells one.cell here.there here.state (λ j less state same. here.first j less state (same ∙ here.key)) ∙ ap Some (sym value));
  least = λ k v wanted is. up_to k (found_up_to cells after lo hi (Some one) lesser k v wanted is);
}
  where
    up_to : (k : ℕ) → (m : KeyCell) × (Some one ≡ Some m) × (m.key ≤ k) → row.key ≤ k
    up_to k least =
        let same : one ≡ least.0 = let is = least.1 in cc in
        let keys : one.key ≡ (least.0).key = ap (λ (m : KeyCell). m.key) same in
        omega (arith, keys, key, least.2)
