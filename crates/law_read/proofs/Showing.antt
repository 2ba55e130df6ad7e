-- The cells of a home show the rows that match it; and a home that stands can be read.
use Rattle.std.proofs.Common.{◌≡◌, ◌<◌, ◌≤◌, ◌+◌, ◌-◌, ◌^◌, ℕ, zero, suc, List, [], ◌∷◌, get_or, Option, Some, None}
use Rattle.std.proofs.Common.{refl, sym, ◌∙◌, ap}
use Rattle.rb_base.specs.declared.ids.Xid.{Xid}
use Rattle.law_read.specs.Keeping.{first_count, kept_room}
use Rattle.law_read.specs.Reading.{History, Honest, Reader, Reading, flat, or_else, rows_in}
use Rattle.law_home.specs.Kinds.{Cell, Empty}
use Rattle.law_home.specs.Steps.{Stands}
use Rattle.law_home.specs.Walk.{Env, Home, Rows, Match, last, own, row_of, cell_at}

-- the rows that cells show
shown : (xs : List Cell) (k : ℕ) (v : List ℕ) → rows_in xs k ≡ Some v → (j : ℕ) × (row_of (get_or xs j Empty) k ≡ Some v)
shown [] k v is = absurd (cc (is))
shown (x ∷ more) k v is = first (row_of x k) refl (shown more k v)
  where
    first : (o : Option (List ℕ)) → row_of x k ≡ o → (rows_in more k ≡ Some v → (j : ℕ) × (row_of (get_or more j Empty) k ≡ Some v)) → (j : ℕ) × (row_of (get_or (x ∷ more) j Empty) k ≡ Some v)
    first None here deeper = let d : (j : ℕ) × (row_of (get_or more j Empty) k ≡ Some v) = deeper (ap (λ (z : Option (List ℕ)). or_else z (rows_in more k)) (sym here) ∙ is) in (suc d.0, d.1)
    first (Some w) here deeper = (0, here ∙ (ap (λ (z : Option (List ℕ)). or_else z (rows_in more k)) (sym here) ∙ is))

none_shown : (xs : List Cell) (k : ℕ) → rows_in xs k ≡ None → (j : ℕ) → row_of (get_or xs j Empty) k ≡ None
none_shown [] k is j = refl
none_shown (x ∷ more) k is j = by_row (row_of x k) refl j (none_shown more k)
  where
    by_row : (o : Option (List ℕ)) → row_of x k ≡ o → (j : ℕ) → (rows_in more k ≡ None → (j : ℕ) → row_of (get_or more j Empty) k ≡ None) → row_of (get_or (x ∷ more) j Empty) k ≡ None
    by_row None here zero deeper = here
    by_row None here (suc j) deeper = deeper (ap (λ (z : Option (List ℕ)). or_else z (rows_in more k)) (sym here) ∙ is) j
    by_row (Some w) here j deeper = let wrong : Some w ≡ None = ap (λ (z : Option (List ℕ)). or_else z (rows_in more k)) (sym here) ∙ is in absurd (cc (wrong))

pub match_rows : (b : Home) (rows : Rows) → Match b rows → (k : ℕ) → rows_in b.cells k ≡ rows k
match_rows b rows is k = by_shown (rows_in b.cells k) refl
  where
    none : (o : Option (List ℕ)) → rows k ≡ o → rows_in b.cells k ≡ None → None ≡ o
    none None here nothing = refl
    none (Some v) here nothing =
        let c : (j : ℕ) × (row_of (cell_at b j) k ≡ Some v) = is.complete k v here in
        let n : row_of (cell_at b c.0) k ≡ None = none_shown b.cells k nothing c.0 in
        absurd (cc (n, c.1))

    by_shown : (o : Option (List ℕ)) → rows_in b.cells k ≡ o → rows_in b.cells k ≡ rows k
    by_shown None here = here ∙ none (rows k) refl here
    by_shown (Some v) here = let s : (j : ℕ) × (row_of (cell_at b j) k ≡ Some v) = shown b.cells k v here in here ∙ sym (is.sound s.0 k v s.1)

-- a home that stands can be read
pub reading_of : (env : Env) (w : ℕ → ℕ) (h : History) (mine : Option Xid) (upto n : ℕ) (b : Home) → Stands env w h.base h.rows h.list h.lives b → Honest env → h.base ≤ n → last h.base h.list < 2 ^ 64 - 1 → Reader env h.reader mine
    → first_count mine upto (own h.lives h.reader) + first_count mine upto (flat n h.list) ≤ kept_room → Reading env h mine upto n b
reading_of env w h mine upto n b stands honest low lower alone few =
    record { m = stands.m; runs = record { distinct = stands.distinct; tree = stands.tree }; honest = honest; low = low; lower = lower; alone = alone; few = few }
