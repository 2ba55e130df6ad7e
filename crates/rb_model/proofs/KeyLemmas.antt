-- That a read of a key is the first row of a cursor over it.
use Rattle.std.proofs.Common.{arith, ◌≡◌, ◌∙◌, refl, sym, ap, ℕ, ◌&&◌, ◌==◌, true, false, List, [], ◌∷◌, filter, ⊎_elim}
use Rattle.std.proofs.lemmas.Bool.{cases_Bool}
use Rattle.std.proofs.lemmas.Bool.Decides.{nat_tests}
use Rattle.std.specs.Prelude.{nat_le, slice_get}
use Rattle.rb_model.specs.Calls.{Given, given, got}
use Rattle.rb_model.specs.KeyLaws.{or_absent}
use Rattle.rb_model.specs.Rows.{TableRow, is_asked, is_row_of, value_of}
use Rattle.rb_model.proofs.Order.{row_same}

-- a range of one key asks for its row alone
both_ways : (u t l k : ℕ) → (u == t && (nat_le k l && nat_le l k)) ≡ (u == t && l == k)
both_ways u t l k = grind (arith, nat_tests)

pub asked_one : (table key : ℕ) (row : TableRow) → is_asked table key key row ≡ is_row_of table key row
asked_one table key row = both_ways row.table table row.key key

pub first_asked : (table key : ℕ) (rows : List TableRow) → got key (value_of table key rows) ≡ or_absent (given (slice_get (filter (is_asked table key key) rows) 0))
first_asked table key [] = refl
first_asked table key (row ∷ rows) = ⊎_elim
    (λ (is : is_row_of table key row ≡ true). let a = asked_one table key row ∙ is in let k = (row_same table key row is).1 in rw (is, a) (ap (λ (n : ℕ). Given n row.value) (sym k)))
    (λ (is : is_row_of table key row ≡ false). let a = asked_one table key row ∙ is in rw (is, a) (first_asked table key rows))
    (cases_Bool (is_row_of table key row))
