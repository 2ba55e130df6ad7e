-- The first commit above a number that changed a key, in the history of the key's home, is the machine's.
use Rattle.std.proofs.Common.{◌≡◌, ◌≢◌, inl, inr, ◌<◌, ◌≤◌, ◌+◌, ◌-◌, ◌==◌, ◌&&◌, ◌||◌, nat_lt, ℕ, suc, Bool, true, false, not, if◌then◌else◌, List, [], ◌∷◌, length, map, drop, Option, Some, None, refl, sym, ◌∙◌, ap, arith}
use Rattle.std.proofs.Math.Bool.{or-false}
use Rattle.std.proofs.Math.Seq.{drop-nil}
use Rattle.std.proofs.lemmas.Bool.{cases_Bool, cases_eq, cases_lt, and_parts, cond-true, eq-eqb, eqb-true, lt-ltb}
use Rattle.std.specs.List.{AllByRecursion, list_any}
use Rattle.rb_base.specs.Blocks.{home_block}
use Rattle.rb_base.specs.declared.ids.Xid.{Xid}
use Rattle.rb_base.specs.declared.shape.Shape.{Shape}
use Rattle.rb_model.specs.Change as model
use Rattle.rb_model.specs.Late.{changes_row, first_change, is_held, late}
use Rattle.rb_model.specs.State.{State}
use Rattle.law_read.specs.Late.{changes_key, earlier, late_above}
use Rattle.law_read.proofs.Newest.{earlier_none, here_none}
use Rattle.law_blocks.specs.Standing.{homes_of, segments_of}
use Rattle.law_blocks.specs.States.{BlocksStand, InTables, commits_from, newest_first, past_of, walk_change}
use Rattle.law_write.proofs.Presence.{some_blocks}
use Rattle.law_write.proofs.Sites.{one_home}
use Rattle.law_write.proofs.StoodBlocks.{stood_of}
use Rattle.law_home.specs.Homes.{here, narrow}
use Rattle.law_home.specs.Walk.{Change, Commit}
use Rattle.law_home.proofs.Homes.{live_elsewhere, live_here}

-- the order in which changes are looked at
or_moved : (a b c : Bool) → (a || (b || c)) ≡ ((b || a) || c)
or_moved true true c = refl
or_moved true false c = refl
or_moved false true c = refl
or_moved false false c = refl

earlier_one : (x : Option ℕ) (m : ℕ) (here_too : Bool) (later : Option ℕ) → earlier (earlier x (if here_too then Some m else None)) later ≡ earlier x (if here_too then Some m else later)
earlier_one (Some c) m here_too later = refl
earlier_one None m true later = refl
earlier_one None m false later = refl

module _ (shape : Shape) (table key : ℕ) (some : 1 ≤ shape.blocks) (first : 1 ≤ table) where
  abbrev which : ℕ
  which = home_block shape table key

  -- a change of the key's home with that key is of the table
  row_here : (c : model.Change) → 1 ≤ c.table → home_block shape c.table c.key ≡ which → changes_row table key c ≡ (c.key == key && not (is_held c.kind))
  row_here c low is = ap (λ (b : Bool). (b && c.key == key) && not (is_held c.kind)) (eq-eqb c.table table (one_home shape c.table c.key table key some low first is).0)

  -- and one of another home isn't one of the table with that key
  row_elsewhere : (c : model.Change) → home_block shape c.table c.key ≢ which → changes_row table key c ≡ false
  row_elsewhere c ne = elim (cases_Bool (c.table == table && c.key == key)) [
    | inl so ↦
        let parts = and_parts (c.table == table) (c.key == key) so in
        absurd (ne (ap (λ (z : ℕ). home_block shape z c.key) (eqb-true c.table table parts.0) ∙ ap (home_block shape table) (eqb-true c.key key parts.1)))
    | inr not_so ↦ ap (λ (b : Bool). b && not (is_held c.kind)) not_so
  ]

  one_here : (x : Xid) (n : ℕ) (c : model.Change) (before : List Change) → 1 ≤ c.table → list_any (changes_key key) (here which (walk_change shape x n c ∷ before)) ≡ (changes_row table key c || list_any (changes_key key) (here which before))
  one_here x n c before low =
      let w : Change = walk_change shape x n c in
      elim (cases_eq w.home which) [
        | inl is ↦ ap (list_any (changes_key key)) (live_here which before w is) ∙ ap (λ (b : Bool). b || list_any (changes_key key) (here which before)) (sym (row_here c low is))
        | inr ne ↦ ap (list_any (changes_key key)) (live_elsewhere which before w ne) ∙ ap (λ (b : Bool). b || list_any (changes_key key) (here which before)) (sym (row_elsewhere c ne))
      ]

  -- a transaction's changes, in both orders
  any_here : (x : Xid) (n : ℕ) (cs : List model.Change) (before : List Change) → InTables shape cs
      → list_any (changes_key key) (here which (newest_first shape x n cs before)) ≡ (list_any (changes_row table key) cs || list_any (changes_key key) (here which before))
  any_here x n [] before tables = refl
  any_here x n (c ∷ cs) before tables =
      any_here x (n + 1) cs (walk_change shape x n c ∷ before) tables.1
      ∙ (ap (λ (b : Bool). list_any (changes_row table key) cs || b) (one_here x n c before tables.0.0)
      ∙ or_moved (list_any (changes_row table key) cs) (changes_row table key c) (list_any (changes_key key) (here which before)))

  any_of : (x : Xid) (cs : List model.Change) → InTables shape cs → list_any (changes_key key) (here which (newest_first shape x 1 cs [])) ≡ list_any (changes_row table key) cs
  any_of x cs tables = any_here x 1 cs [] tables ∙ or-false (list_any (changes_row table key) cs)

  -- commits numbered from m on, which is above n
  late_from : (n m : ℕ) (list : List (List model.Change)) (xids : List Xid) (before : List Commit) → n < m → length xids ≡ length list → AllByRecursion (InTables shape) list
      → late_above n key (map (narrow which) (commits_from shape m list xids before)) ≡ earlier (late_above n key (map (narrow which) before)) (first_change table key m list)
  late_from n m [] xids before above count tables = sym (earlier_none (late_above n key (map (narrow which) before)))
  late_from n m (cs ∷ list) [] before above count tables = absurd (omega (arith, count))
  late_from n m (cs ∷ list) (y ∷ xids) before above count tables =
      let t : Commit = record { xid = y; number = m; changes = newest_first shape y 1 cs [] } in
      let earlier_ones : Option ℕ = late_above n key (map (narrow which) before) in
      let next : m + 1 ≡ suc m = omega arith in
      late_from n (m + 1) list xids (t ∷ before) (omega (arith, above)) (omega (arith, count)) tables.1
      ∙ (ap (λ (o : Option ℕ). earlier o (first_change table key (m + 1) list))
      (cond-true (nat_lt n m) (earlier earlier_ones (if list_any (changes_key key) (here which t.changes) then Some m else None)) None (lt-ltb n m above)
      ∙ ap (λ (b : Bool). earlier earlier_ones (if b then Some m else None)) (any_of y cs tables.0))
      ∙ (ap (λ (k : ℕ). earlier (earlier earlier_ones (if list_any (changes_row table key) cs then Some m else None)) (first_change table key k list)) next
      ∙ earlier_one earlier_ones m (list_any (changes_row table key) cs) (first_change table key (suc m) list)))

  -- those up to n are passed
  late_at : (n m : ℕ) (list : List (List model.Change)) (xids : List Xid) (before : List Commit) → m ≤ suc n → length xids ≡ length list → AllByRecursion (InTables shape) list
      → late_above n key (map (narrow which) before) ≡ None
      → late_above n key (map (narrow which) (commits_from shape m list xids before)) ≡ first_change table key (suc n) (drop (suc n - m) list)
  late_at n m [] xids before low count tables none = none ∙ ap (first_change table key (suc n)) (sym (drop-nil (suc n - m)))
  late_at n m (cs ∷ list) [] before low count tables none = absurd (omega (arith, count))
  late_at n m (cs ∷ list) (y ∷ xids) before low count tables none =
      let t : Commit = record { xid = y; number = m; changes = newest_first shape y 1 cs [] } in
      elim (cases_lt n m) [
        | inl above ↦
            let at : m ≡ suc n = omega (arith, above, low) in
            let whole : drop (suc n - m) (cs ∷ list) ≡ cs ∷ list = ap (λ (d : ℕ). drop d (cs ∷ list)) (none_left n m above) in
            late_from n m (cs ∷ list) (y ∷ xids) before above count tables
            ∙ (ap (λ (o : Option ℕ). earlier o (first_change table key m (cs ∷ list))) none
            ∙ (ap (λ (k : ℕ). first_change table key k (cs ∷ list)) at ∙ ap (first_change table key (suc n)) (sym whole)))
        | inr up_to ↦
            let less : drop (suc n - m) (cs ∷ list) ≡ drop (suc n - (m + 1)) list = ap (λ (d : ℕ). drop d (cs ∷ list)) (one_less n m up_to) in
            late_at n (m + 1) list xids (t ∷ before) (omega (arith, up_to)) (omega (arith, count)) tables.1
            (here_none n key (narrow which t) (map (narrow which) before) up_to)
            ∙ ap (first_change table key (suc n)) (sym less)
      ]
    where
      none_left : (n m : ℕ) → n < m → suc n - m ≡ 0
      none_left n m lt = omega (arith, lt)

      one_less : (n m : ℕ) → m ≤ n → suc n - m ≡ suc (suc n - (m + 1))
      one_less n m le = omega (arith, le)

pub late_is : (h : State) (xids : List Xid) (blocks : List (List ℕ)) (table key n : ℕ) → BlocksStand h xids blocks → 1 ≤ table → h.commits.base ≤ n
    → late_above n key (map (narrow (home_block h.shape table key)) (past_of h xids).list) ≡ late h.commits n table key
late_is h xids blocks table key n stand first low =
    let some : 1 ≤ h.shape.blocks = some_blocks h xids (segments_of h.shape blocks) (homes_of h.shape blocks) (stood_of h xids blocks stand) in
    let passed : suc n - (h.commits.base + 1) ≡ n - h.commits.base = omega arith in
    late_at h.shape table key some first n (h.commits.base + 1) h.commits.list xids [] (omega (arith, low)) stand.tell.counted stand.tell.commit_tables refl
    ∙ ap (λ (d : ℕ). first_change table key (suc n) (drop d h.commits.list)) passed
