-- The next row of a query is the least key of the first home that has one.
use Rattle.std.proofs.Common.{◌≡◌, ◌⊎◌, inl, inr, ◌<◌, ◌≤◌, ◌%◌, ◌==◌, ◌&&◌, ◌||◌, nat_lt, nat_le, ℕ, suc, true, false, List, [], ◌∷◌, Option, Some, None, refl, sym, ◌∙◌, ap, subst, arith}
use Rattle.std.proofs.lemmas.Bool.{cases_eq, cases_lt, cases_Bool, and_parts, and_from, cond-true, cond-false, eq-eqb, eqb-true, le-leb, leb-true}
use Rattle.std.proofs.lemmas.Bool.Decides.{nat_tests}
use Rattle.std.proofs.Math.Nat.{mod-lt}
use Rattle.std.specs.Prelude.{slice_get}
use Rattle.rb_model.specs.Rows.{TableRow, InOrder, key_before, row_before, is_row_of, is_asked, value_of}
use Rattle.rb_model.specs.Next.{asked, is_after, is_wanted, given_count}
use Rattle.rb_model.proofs.Order.{row_same, row_before_in_table}
use Rattle.rb_model.proofs.RowLemmas.{key_row, first_in_rows, none_in_rows}
use Rattle.rb_model.proofs.Given.{next_is_wanted, given_one_more}
use Rattle.law_sessions.specs.Scan.{IsAskedKey, NoneIn, IsNextIn}
use Rattle.law_home.specs.Walk.{Rows}

-- the row and the value of a key
row_value : (table key : ℕ) (rows : List TableRow) (v : List ℕ) → value_of table key rows ≡ Some v → key_row table key rows ≡ Some (record { table = table; key = key; value = v })
row_value table key [] v is = absurd cc
row_value table key (r ∷ rows) v is = elim (cases_Bool (is_row_of table key r)) [
  | inl here ↦
      let s = row_same table key r here in
      let value : Some r.value ≡ Some v = sym (cond-true (is_row_of table key r) (Some r.value) (value_of table key rows) here) ∙ is in
      let same : r.value ≡ v = cc in
      let row : r ≡ record { table = table; key = key; value = v } = rw (← s.0, ← s.1, ← same) refl in
      cond-true (is_row_of table key r) (Some r) (key_row table key rows) here ∙ ap (λ (x : TableRow). Some x) row
  | inr later ↦ cond-false (is_row_of table key r) (Some r) (key_row table key rows) later ∙ row_value table key rows v (sym (cond-false (is_row_of table key r) (Some r.value) (value_of table key rows) later) ∙ is)
]

value_row : (table key : ℕ) (rows : List TableRow) (r : TableRow) → key_row table key rows ≡ Some r → value_of table key rows ≡ Some r.value
value_row table key [] r is = absurd cc
value_row table key (x ∷ rows) r is = elim (cases_Bool (is_row_of table key x)) [
  | inl here ↦
      let row : Some x ≡ Some r = sym (cond-true (is_row_of table key x) (Some x) (key_row table key rows) here) ∙ is in
      let same : x ≡ r = cc in
      cond-true (is_row_of table key x) (Some x.value) (value_of table key rows) here ∙ ap (λ (y : TableRow). Some y.value) same
  | inr later ↦ cond-false (is_row_of table key x) (Some x.value) (value_of table key rows) later ∙ value_row table key rows r (sym (cond-false (is_row_of table key x) (Some x) (key_row table key rows) later) ∙ is)
]

-- the scan order, by homes and keys
pub before_home : (blocks k q : ℕ) → k % blocks < q % blocks → key_before blocks k q ≡ true
before_home blocks k q lt = lex_home (k % blocks) k (q % blocks) q lt
  where
    lex_home : (a b c d : ℕ) → a < c → (nat_lt a c || (a == c && nat_lt b d)) ≡ true
    lex_home a b c d lt = grind (arith, nat_tests)

before_key : (blocks k q : ℕ) → k % blocks ≡ q % blocks → k < q → key_before blocks k q ≡ true
before_key blocks k q same lt = lex_key (k % blocks) k (q % blocks) q same lt
  where
    lex_key : (a b c d : ℕ) → a ≡ c → b < d → (nat_lt a c || (a == c && nat_lt b d)) ≡ true
    lex_key a b c d same lt = grind (arith, nat_tests)

module _ (blocks table lo hi : ℕ) (some : 0 < blocks) (last : Option ℕ) (all : List TableRow) (order : InOrder blocks all) (rows : ℕ → Rows) (are : (g k : ℕ) → k % blocks ≡ g → rows g k ≡ value_of table k all) where
  abbrev Is : ℕ → ℕ → Type 0
  Is g k = IsAskedKey blocks lo hi last g k

  -- a row that is wanted is asked of its home
  wanted_asked : (r : TableRow) → is_wanted blocks table lo hi last r ≡ true → (r.table ≡ table) × Is (r.key % blocks) r.key
  wanted_asked r wanted =
      let parts = and_parts (is_asked table lo hi r) (is_after blocks last r.key) wanted in
      let inner = and_parts (r.table == table) (nat_le lo r.key && nat_le r.key hi) parts.0 in
      let range = and_parts (nat_le lo r.key) (nat_le r.key hi) inner.1 in
      (eqb-true r.table table inner.0, record { home = refl; low = leb-true lo r.key range.0; high = leb-true r.key hi range.1; after = parts.1 })

  asked_wanted : (g k : ℕ) (v : List ℕ) → Is g k → is_wanted blocks table lo hi last (record { table = table; key = k; value = v }) ≡ true
  asked_wanted g k v is =
      and_from (is_asked table lo hi (record { table = table; key = k; value = v })) (is_after blocks last k)
      (and_from (table == table) (nat_le lo k && nat_le k hi) (eq-eqb table table refl) (and_from (nat_le lo k) (nat_le k hi) (le-leb lo k is.low) (le-leb k hi is.high))) is.after

  -- a wanted row has a value in its home's rows
  wanted_row : (r : TableRow) → key_row r.table r.key all ≡ Some r → r.table ≡ table → rows (r.key % blocks) r.key ≡ Some r.value
  wanted_row r there of = are (r.key % blocks) r.key refl ∙ (ap (λ t. value_of t r.key all) (sym of) ∙ value_row r.table r.key all r there)

  -- The homes before g have none, and g has this one.
  pub next_found : (g key : ℕ) (v : List ℕ) → ((f : ℕ) → f < g → NoneIn blocks lo hi last (rows f) f) → IsNextIn blocks lo hi last (rows g) g key v
      → slice_get (asked table lo hi all) (given_count blocks last (asked table lo hi all)) ≡ Some (record { table = table; key = key; value = v })
  next_found g key v none next =
      let b : TableRow = record { table = table; key = key; value = v } in
      next_is_wanted blocks table lo hi last all order
      ∙ first_in_rows blocks (is_wanted blocks table lo hi last) b all order (row_value table key all v (sym (are g key next.asked.home) ∙ next.row)) (asked_wanted g key v next.asked) (λ r there wanted. first r there wanted)
    where
      first : (r : TableRow) → key_row r.table r.key all ≡ Some r → is_wanted blocks table lo hi last r ≡ true → (r ≡ record { table = table; key = key; value = v }) ⊎ (row_before blocks (record { table = table; key = key; value = v }) r ≡ true)
      first r there wanted =
          let b : TableRow = record { table = table; key = key; value = v } in
          let w : (r.table ≡ table) × Is (r.key % blocks) r.key = wanted_asked r wanted in
          let row : rows (r.key % blocks) r.key ≡ Some r.value = wanted_row r there w.0 in
          let order_is = row_before_in_table blocks b r (sym w.0) in
          let home = next.asked.home in
          elim (cases_lt (r.key % blocks) g) [
            | inl early ↦ let no : rows (r.key % blocks) r.key ≡ None = none (r.key % blocks) early r.key w.1 in absurd cc
            | inr late ↦ elim (cases_eq (r.key % blocks) g) [
              | inr other ↦ inr (order_is ∙ before_home blocks key r.key (omega (arith, late, other, home)))
              | inl same ↦ elim (cases_eq r.key key) [
                | inl is ↦
                    let value : Some r.value ≡ Some v = sym row ∙ (ap (λ z. rows z r.key) same ∙ (ap (rows g) is ∙ next.row)) in
                    let values : r.value ≡ v = cc in
                    inl (rw (← w.0, ← is, ← values) refl)
                | inr ne ↦ elim (cases_lt r.key key) [
                  | inl below ↦ let no : rows g r.key ≡ None = next.least r.key (subst (λ z. Is z r.key) same w.1) below in let has : rows g r.key ≡ Some r.value = ap (λ z. rows z r.key) (sym same) ∙ row in absurd cc
                  | inr above ↦ inr (order_is ∙ before_key blocks key r.key (home ∙ sym same) (omega (arith, above, ne)))
                ]
              ]
            ]
          ]

  -- No home has one.
  pub next_none : ((g : ℕ) → g < blocks → NoneIn blocks lo hi last (rows g) g) → slice_get (asked table lo hi all) (given_count blocks last (asked table lo hi all)) ≡ None
  next_none none =
      next_is_wanted blocks table lo hi last all order
      ∙ none_in_rows blocks (is_wanted blocks table lo hi last) all order (λ r there. not_wanted r there)
    where
      not_wanted : (r : TableRow) → key_row r.table r.key all ≡ Some r → is_wanted blocks table lo hi last r ≡ false
      not_wanted r there = elim (cases_Bool (is_wanted blocks table lo hi last r)) [
        | inl wanted ↦
            let w : (r.table ≡ table) × Is (r.key % blocks) r.key = wanted_asked r wanted in
            let row : rows (r.key % blocks) r.key ≡ Some r.value = wanted_row r there w.0 in
            let no : rows (r.key % blocks) r.key ≡ None = none (r.key % blocks) (mod-lt r.key some) r.key w.1 in
            absurd cc
        | inr free ↦ free
      ]

  -- And where that row is given, one more is.
  pub given_next : (g key : ℕ) (v : List ℕ) → ((f : ℕ) → f < g → NoneIn blocks lo hi last (rows f) f) → IsNextIn blocks lo hi last (rows g) g key v
      → given_count blocks (Some key) (asked table lo hi all) ≡ suc (given_count blocks last (asked table lo hi all))
  given_next g key v none next =
      given_one_more blocks table lo hi last (record { table = table; key = key; value = v }) all order (sym (next_is_wanted blocks table lo hi last all order) ∙ next_found g key v none next)
