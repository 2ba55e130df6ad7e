-- Rows in scan order: what is put among them and taken from them, and which of them is the first that passes a test.
use Rattle.std.proofs.Common.{◌≡◌, ℕ, Bool, true, false, not, ◌&&◌, ◌||◌, cond, ◌==◌, List, [], ◌∷◌, filter, find, Option, None, Some, refl, ap, sym, ◌∙◌, subst, ⊎_elim, ◌⊎◌}
use Rattle.std.proofs.lemmas.Bool.{cond_both, cases_Bool, cond-true, cond-false, false≢true}
use Rattle.std.specs.List.{AllByRecursion}
use Rattle.rb_base.proofs.Each.{all_filter, all_so}
use Rattle.rb_model.specs.Change.{Change, Kind}
use Rattle.rb_model.specs.Change as model
use Rattle.rb_model.specs.Rows.{TableRow, row_before, is_row_of, has_row, with_row, without_row, changed_by, over, InOrder}
use Rattle.rb_model.proofs.Order.{row_trans, row_total, row_same, row_asym, row_apart, same_itself, same_other, same_apart}

-- rows in order

-- a row comes before all of these
abbrev pub AllBefore : ℕ → TableRow → List TableRow → Type 0
AllBefore blocks r rows = AllByRecursion (λ x. row_before blocks r x ≡ true) rows

-- what holds of all rows, and of one that is put
pub all-with_row : (P : TableRow → Type 0) (blocks : ℕ) (row : TableRow) (rows : List TableRow) → P row → AllByRecursion P rows → AllByRecursion P (with_row blocks row rows)
all-with_row P blocks row [] is all = (is, tt)
all-with_row P blocks row (r ∷ rows) is all =
    cond_both (is_row_of row.table row.key r) (row ∷ rows) (cond (row_before blocks row r) (row ∷ r ∷ rows) (r ∷ with_row blocks row rows)) (AllByRecursion P)
    (λ same. (is, all.1))
    (λ other. cond_both (row_before blocks row r) (row ∷ r ∷ rows) (r ∷ with_row blocks row rows) (AllByRecursion P)
    (λ before. (is, all))
    (λ behind. (all.0, all-with_row P blocks row rows is all.1)))

-- what comes before a row comes before all that the row comes before
pub all_before_trans : (blocks : ℕ) (x y : TableRow) (rows : List TableRow) → row_before blocks x y ≡ true → AllBefore blocks y rows → AllBefore blocks x rows
all_before_trans blocks x y [] h all = tt
all_before_trans blocks x y (z ∷ rows) h all = (row_trans blocks x y z h all.0, all_before_trans blocks x y rows h all.1)

-- a row in another's place
pub all_before_same : (blocks : ℕ) (x y : TableRow) (rows : List TableRow) → y.table ≡ x.table → y.key ≡ x.key → AllBefore blocks y rows → AllBefore blocks x rows
all_before_same blocks x y [] e f all = tt
all_before_same blocks x y (z ∷ rows) e f all = (rw (← e, ← f) all.0, all_before_same blocks x y rows e f all.1)

pub ordered-with_row : (blocks : ℕ) (row : TableRow) (rows : List TableRow) → InOrder blocks rows → InOrder blocks (with_row blocks row rows)
ordered-with_row blocks row [] o = (tt, tt)
ordered-with_row blocks row (r ∷ rows) o =
    cond_both (is_row_of row.table row.key r) (row ∷ rows) (cond (row_before blocks row r) (row ∷ r ∷ rows) (r ∷ with_row blocks row rows))
    (InOrder blocks)
    (λ same. let s = row_same row.table row.key r same in (all_before_same blocks row r rows s.0 s.1 o.0, o.1))
    (λ other. cond_both (row_before blocks row r) (row ∷ r ∷ rows) (r ∷ with_row blocks row rows) (InOrder blocks)
    (λ before. ((before, all_before_trans blocks row r rows before o.0), (o.0, o.1)))
    (λ behind. (all-with_row (λ x. row_before blocks r x ≡ true) blocks row rows (row_total blocks row r behind other) o.0, ordered-with_row blocks row rows o.1)))

pub ordered-filter : (blocks : ℕ) (p : TableRow → Bool) (rows : List TableRow) → InOrder blocks rows → InOrder blocks (filter p rows)
ordered-filter blocks p [] o = tt
ordered-filter blocks p (x ∷ rows) o =
    let rest = ordered-filter blocks p rows o.1 in
    cond_both (p x) (x ∷ filter p rows) (filter p rows) (InOrder blocks)
    (λ yes. (all_filter (λ y. row_before blocks x y ≡ true) p rows o.0, rest))
    (λ no. rest)

pub ordered-changed : (blocks table key : ℕ) (kind : Kind) (rows : List TableRow) → InOrder blocks rows → InOrder blocks (changed_by blocks table key kind rows)
ordered-changed blocks table key (model.Put value) rows o = ordered-with_row blocks (record { table = table; key = key; value = value }) rows o
ordered-changed blocks table key model.Gone rows o = ordered-filter blocks (λ row. not (is_row_of table key row)) rows o
ordered-changed blocks table key model.Held rows o = o

pub ordered-over : (blocks : ℕ) (rows : List TableRow) (changes : List Change) → InOrder blocks rows → InOrder blocks (over blocks rows changes)
ordered-over blocks rows [] o = o
ordered-over blocks rows (c ∷ changes) o = ordered-over blocks (changed_by blocks c.table c.key c.kind rows) changes (ordered-changed blocks c.table c.key c.kind rows o)

-- the row of a key

abbrev pub key_row : ℕ → ℕ → List TableRow → Option TableRow
key_row table key rows = find (is_row_of table key) rows

pub same_row : (table key : ℕ) (row r : TableRow) → is_row_of row.table row.key r ≡ true → is_row_of table key r ≡ is_row_of table key row
same_row table key row r h = let s = row_same row.table row.key r h in rw (s.0, s.1) refl

pub replaced : {A : Type 0} (m q : Bool) (new old rest : Option A) → q ≡ m → cond m new rest ≡ cond m new (cond q old rest)
replaced true q new old rest e = refl
replaced false q new old rest e = rw e refl

pub swapped : {A : Type 0} (m q : Bool) (new old rest : Option A) → (q ≡ true → m ≡ false) → cond q old (cond m new rest) ≡ cond m new (cond q old rest)
swapped true true new old rest h = absurd (false≢true (sym (h refl)))
swapped true false new old rest h = refl
swapped false true new old rest h = refl
swapped false false new old rest h = refl

-- the row of a key, where a row is put in its place
pub row-with_row : (blocks table key : ℕ) (row : TableRow) (rows : List TableRow) → key_row table key (with_row blocks row rows) ≡ cond (is_row_of table key row) (Some row) (key_row table key rows)
row-with_row blocks table key row [] = refl
row-with_row blocks table key row (r ∷ rows) =
    cond_both (is_row_of row.table row.key r) (row ∷ rows) (cond (row_before blocks row r) (row ∷ r ∷ rows) (r ∷ with_row blocks row rows))
    (λ xs. key_row table key xs ≡ cond (is_row_of table key row) (Some row) (cond (is_row_of table key r) (Some r) (key_row table key rows)))
    (λ same. replaced (is_row_of table key row) (is_row_of table key r) (Some row) (Some r) (key_row table key rows) (same_row table key row r same))
    (λ other. cond_both (row_before blocks row r) (row ∷ r ∷ rows) (r ∷ with_row blocks row rows)
    (λ xs. key_row table key xs ≡ cond (is_row_of table key row) (Some row) (cond (is_row_of table key r) (Some r) (key_row table key rows)))
    (λ before. refl)
    (λ behind. ap (λ o. cond (is_row_of table key r) (Some r) o) (row-with_row blocks table key row rows)
    ∙ swapped (is_row_of table key row) (is_row_of table key r) (Some row) (Some r) (key_row table key rows) (same_other row.table row.key r.table r.key table key other)))

pub emptied : {A : Type 0} (m g : Bool) (old rest : Option A) → m ≡ g → cond g None rest ≡ cond g None (cond m old rest)
emptied m true old rest e = refl
emptied m false old rest e = rw e refl

pub left_out : {A : Type 0} (m g : Bool) (old rest : Option A) → (g ≡ true → m ≡ false) → cond m old (cond g None rest) ≡ cond g None (cond m old rest)
left_out true true old rest h = absurd (false≢true (sym (h refl)))
left_out true false old rest h = refl
left_out false true old rest h = refl
left_out false false old rest h = refl

pub of_key : (table key t k : ℕ) (r : TableRow) → is_row_of t k r ≡ true → is_row_of table key r ≡ (t == table && k == key)
of_key table key t k r h = let s = row_same t k r h in rw (s.0, s.1) refl

-- the row of a key, where a row is taken away
pub row-without_row : (table key t k : ℕ) (rows : List TableRow) → key_row table key (without_row t k rows) ≡ cond (t == table && k == key) None (key_row table key rows)
row-without_row table key t k [] = cond_both (t == table && k == key) None None (λ o. None ≡ o) (λ yes. refl) (λ no. refl)
row-without_row table key t k (r ∷ rows) =
    let rest = row-without_row table key t k rows in
    let this : Bool = is_row_of t k r in
    ⊎_elim
    (λ yes. ap (key_row table key) (cond-false (not this) (r ∷ without_row t k rows) (without_row t k rows) (ap not yes))
    ∙ rest ∙ emptied (is_row_of table key r) (t == table && k == key) (Some r) (key_row table key rows) (of_key table key t k r yes))
    (λ no. ap (key_row table key) (cond-true (not this) (r ∷ without_row t k rows) (without_row t k rows) (ap not no))
    ∙ ap (λ o. cond (is_row_of table key r) (Some r) o) rest
    ∙ left_out (is_row_of table key r) (t == table && k == key) (Some r) (key_row table key rows) (λ same. same_apart t k r.table r.key table key no same))
    (cases_Bool this)

pub none_is_some : (b : TableRow) → None ≡ Some b → ⊥
none_is_some b e = cc

pub some_same : (x y : TableRow) → Some x ≡ Some y → x ≡ y
some_same x y e = cc

-- whether there is a row

pub has_row-some : (table key : ℕ) (r : TableRow) (rows : List TableRow) → key_row table key rows ≡ Some r → has_row table key rows ≡ true
has_row-some table key r [] found = absurd (none_is_some r found)
has_row-some table key r (x ∷ rows) found =
    ⊎_elim
    (λ yes. ap (λ b. b || has_row table key rows) yes)
    (λ no. ap (λ b. b || has_row table key rows) no ∙ has_row-some table key r rows (sym (cond-false (is_row_of table key x) (Some x) (key_row table key rows) no) ∙ found))
    (cases_Bool (is_row_of table key x))

pub has_row-none : (table key : ℕ) (rows : List TableRow) → key_row table key rows ≡ None → has_row table key rows ≡ false
has_row-none table key [] none = refl
has_row-none table key (x ∷ rows) none =
    ⊎_elim
    (λ yes. absurd (none_is_some x (sym none ∙ cond-true (is_row_of table key x) (Some x) (key_row table key rows) yes)))
    (λ no. ap (λ b. b || has_row table key rows) no ∙ has_row-none table key rows (sym (cond-false (is_row_of table key x) (Some x) (key_row table key rows) no) ∙ none))
    (cases_Bool (is_row_of table key x))

-- the first row that passes a test

-- what is found behind a row comes after it
pub found_behind : (blocks : ℕ) (P : TableRow → Bool) (r : TableRow) (rows : List TableRow) (b : TableRow) → AllBefore blocks r rows → find P rows ≡ Some b → row_before blocks r b ≡ true
found_behind blocks P r [] b all e = absurd (none_is_some b e)
found_behind blocks P r (x ∷ rows) b all e =
    ⊎_elim
    (λ yes. let s : x ≡ b = some_same x b (sym (cond-true (P x) (Some x) (find P rows) yes) ∙ e) in subst (λ y. row_before blocks r y ≡ true) s all.0)
    (λ no. found_behind blocks P r rows b all.1 (sym (cond-false (P x) (Some x) (find P rows) no) ∙ e))
    (cases_Bool (P x))

abbrev pub IsThere : List TableRow → TableRow → Type 0
IsThere rows r = key_row r.table r.key rows ≡ Some r

pub each_later : (blocks : ℕ) (x : TableRow) (rows some : List TableRow) → AllBefore blocks x some → AllByRecursion (IsThere rows) some → AllByRecursion (IsThere (x ∷ rows)) some
each_later blocks x rows [] before all = tt
each_later blocks x rows (r ∷ some) before all =
    (cond-false (is_row_of r.table r.key x) (Some x) (key_row r.table r.key rows) (row_apart blocks x r before.0) ∙ all.0, each_later blocks x rows some before.1 all.1)

-- each of the rows is the row of its key
pub each_there : (blocks : ℕ) (rows : List TableRow) → InOrder blocks rows → AllByRecursion (IsThere rows) rows
each_there blocks [] o = tt
each_there blocks (x ∷ rows) o =
    (cond-true (is_row_of x.table x.key x) (Some x) (key_row x.table x.key rows) (same_itself x.table x.key), each_later blocks x rows rows o.0 (each_there blocks rows o.1))

pub find_agree : (P Q : TableRow → Bool) (rows : List TableRow) → AllByRecursion (λ r. P r ≡ Q r) rows → find P rows ≡ find Q rows
find_agree P Q [] all = refl
find_agree P Q (x ∷ rows) all = ap (λ b. cond b (Some x) (find P rows)) all.0 ∙ ap (λ o. cond (Q x) (Some x) o) (find_agree P Q rows all.1)

pub find_none : (P : TableRow → Bool) (rows : List TableRow) → AllByRecursion (λ r. P r ≡ false) rows → find P rows ≡ None
find_none P [] all = refl
find_none P (x ∷ rows) all = cond-false (P x) (Some x) (find P rows) all.0 ∙ find_none P rows all.1

pub find_this : (blocks : ℕ) (P : TableRow → Bool) (b : TableRow) (rows : List TableRow) → InOrder blocks rows → IsThere rows b → P b ≡ true
    → AllByRecursion (λ r. P r ≡ true → (r ≡ b) ⊎ (row_before blocks b r ≡ true)) rows → find P rows ≡ Some b
find_this blocks P b [] o is passes first = absurd (none_is_some b is)
find_this blocks P b (x ∷ rows) o is passes first =
    ⊎_elim
    (λ here. let s : x ≡ b = some_same x b (sym (cond-true (is_row_of b.table b.key x) (Some x) (key_row b.table b.key rows) here) ∙ is) in
    cond-true (P x) (Some x) (find P rows) (ap P s ∙ passes) ∙ ap (λ (y : TableRow). Some y) s)
    (λ later. let rest : IsThere rows b = sym (cond-false (is_row_of b.table b.key x) (Some x) (key_row b.table b.key rows) later) ∙ is in
    ⊎_elim
    (λ yes. ⊎_elim
    (λ s. cond-true (P x) (Some x) (find P rows) yes ∙ ap (λ (y : TableRow). Some y) s)
    (λ before. absurd (false≢true (sym (row_asym blocks b x before) ∙ found_behind blocks (is_row_of b.table b.key) x rows b o.0 rest)))
    (first.0 yes))
    (λ no. cond-false (P x) (Some x) (find P rows) no ∙ find_this blocks P b rows o.1 rest passes first.1)
    (cases_Bool (P x)))
    (cases_Bool (is_row_of b.table b.key x))

-- of rows in order, where each that is the row of its key ..

-- .. fails a test
pub none_in_rows : (blocks : ℕ) (P : TableRow → Bool) (rows : List TableRow) → InOrder blocks rows → ((r : TableRow) → key_row r.table r.key rows ≡ Some r → P r ≡ false) → find P rows ≡ None
none_in_rows blocks P rows o so = find_none P rows (all_so (IsThere rows) (λ r. P r ≡ false) rows so (each_there blocks rows o))

-- .. fails a test or doesn't come before one that passes it
pub first_in_rows : (blocks : ℕ) (P : TableRow → Bool) (b : TableRow) (rows : List TableRow) → InOrder blocks rows → key_row b.table b.key rows ≡ Some b → P b ≡ true
    → ((r : TableRow) → key_row r.table r.key rows ≡ Some r → P r ≡ true → (r ≡ b) ⊎ (row_before blocks b r ≡ true)) → find P rows ≡ Some b
first_in_rows blocks P b rows o is passes so =
    find_this blocks P b rows o is passes (all_so (IsThere rows) (λ r. P r ≡ true → (r ≡ b) ⊎ (row_before blocks b r ≡ true)) rows so (each_there blocks rows o))
