-- A cursor's frozen changes over the rows at its number, as the walk of a home has them.
use Rattle.std.proofs.Common.{◌≡◌, ◌≢◌, inl, inr, ◌<◌, ◌≤◌, ◌+◌, ◌-◌, ◌&&◌, nat_lt, nat_le, ℕ, zero, suc, Bool, true, false, List, [], ◌∷◌, ◌++◌, length, map, take, get_or, Option, Some, None, refl, sym, ◌∙◌, ap, arith}
use Rattle.std.proofs.lemmas.Bool.{cases_eq, cases_lt, cases_Bool, and_from, cond-true, cond-false, le-leb}
use Rattle.std.proofs.lemmas.Bool.Decides.{nat_tests}
use Rattle.std.specs.List.{flat_map, AllByRecursion}
use Rattle.rb_base.specs.Blocks.{home_block}
use Rattle.rb_base.specs.declared.ids.Xid.{Xid}
use Rattle.rb_base.specs.declared.shape.Shape.{Shape}
use Rattle.rb_model.specs.Change as model
use Rattle.rb_model.specs.Rows.{TableRow, value_of, changed_by, over}
use Rattle.rb_model.proofs.Values.{over-append}
use Rattle.law_read.specs.Chains.{same_xid}
use Rattle.law_read.specs.Keeping.{behind_mine, first_count, is_mine}
use Rattle.law_read.specs.Reading.{flat, rows_at}
use Rattle.law_read.proofs.Peeling.{behind_append, first_append}
use Rattle.law_read.proofs.Unwinding.{is_same, same_itself}
use Rattle.law_blocks.specs.States.{InTables, commits_from, newest_first, no_xid, walk_change}
use Rattle.law_write.proofs.Homes.{behind_over, one_front}
use Rattle.law_home.specs.Homes.{here, narrow}
use Rattle.law_home.specs.Walk.{Change, Commit, Rows, behind, changed, rows_of}
use Rattle.law_home.proofs.Homes.{changed_agrees, live_elsewhere, live_here}

and_left : (a b : Bool) → a ≡ false → (a && b) ≡ false
and_left a b e = ap (λ z. z && b) e

and_right : (a b : Bool) → b ≡ false → (a && b) ≡ false
and_right true b e = e
and_right false b e = refl

pub other_xid : (a b : Xid) → a ≢ b → same_xid a b ≡ false
other_xid a b ne = elim (cases_Bool (same_xid a b)) [ inl is ↦ absurd (ne (is_same a b is)) | inr not_is ↦ not_is ]

-- none of a transaction's changes is among those that the reader sees
abbrev pub Unseen : Option Xid → ℕ → Xid → Type 0
Unseen mine upto x = (q : ℕ) → 1 ≤ q → (is_mine mine x && nat_le q upto) ≡ false

pub unseen_other : (mine : Option Xid) (upto : ℕ) (x : Xid) → mine ≢ Some x → Unseen mine upto x
unseen_other None upto x ne = λ q low. refl
unseen_other (Some y) upto x ne = λ q low. and_left (same_xid y x) (nat_le q upto) (other_xid y x (λ same. ne (ap (λ (z : Xid). Some z) same)))

pub unseen_zero : (mine : Option Xid) (upto : ℕ) (x : Xid) → upto ≡ 0 → Unseen mine upto x
unseen_zero mine upto x none = λ q low. and_right (is_mine mine x) (nat_le q upto) (few q upto low none)
  where
    few : (q n : ℕ) → 1 ≤ q → n ≡ 0 → nat_le q n ≡ false
    few q n low none = grind (arith, nat_tests)

take_none : {X : Type 0} (d : ℕ) (xs : List X) → xs ≡ [] → take d xs ≡ []
take_none zero xs is = refl
take_none (suc d) xs is = ap (take (suc d)) is

take_zero : {X : Type 0} (d : ℕ) (xs : List X) → d ≡ 0 → take d xs ≡ []
take_zero d xs is = ap (λ e. take e xs) is

module _ (shape : Shape) (table k : ℕ) (some : 1 ≤ shape.blocks) (first : 1 ≤ table) (mine : Option Xid) (upto : ℕ) where
  abbrev which : ℕ
  which = home_block shape table k

  -- a change that isn't seen
  skip : (w : Change) (more : List Change) (base : Rows) → (is_mine mine w.xid && nat_le w.number upto) ≡ false → behind_mine mine upto (here which (w ∷ more)) base k ≡ behind_mine mine upto (here which more) base k
  skip w more base unseen = elim (cases_eq w.home which) [
    | inl is ↦ ap (λ (l : List Change). behind_mine mine upto l base k) (live_here which more w is) ∙ ap (λ (r : Rows). r k) (cond-false (is_mine mine w.xid && nat_le w.number upto) (changed w.kind w.key (behind_mine mine upto (here which more) base)) (behind_mine mine upto (here which more) base) unseen)
    | inr ne ↦ ap (λ (l : List Change). behind_mine mine upto l base k) (live_elsewhere which more w ne)
  ]

  pub skip_all : (x : Xid) (n : ℕ) (cs : List model.Change) (before : List Change) (base : Rows) → 1 ≤ n → Unseen mine upto x → behind_mine mine upto (here which (newest_first shape x n cs before)) base k ≡ behind_mine mine upto (here which before) base k
  skip_all x n [] before base low unseen = refl
  skip_all x n (c ∷ cs) before base low unseen = skip_all x (n + 1) cs (walk_change shape x n c ∷ before) base (omega arith) unseen ∙ skip (walk_change shape x n c) before base (unseen n low)

  -- a change that is seen
  seen : (w : Change) (more : List Change) (base : Rows) → (is_mine mine w.xid && nat_le w.number upto) ≡ true → behind_mine mine upto (here which (w ∷ more)) base k ≡ behind (here which (w ∷ [])) (λ q. behind_mine mine upto (here which more) base k) k
  seen w more base is_seen = elim (cases_eq w.home which) [
    | inl is ↦
        ap (λ (l : List Change). behind_mine mine upto l base k) (live_here which more w is)
        ∙ (ap (λ (r : Rows). r k) (cond-true (is_mine mine w.xid && nat_le w.number upto) (changed w.kind w.key (behind_mine mine upto (here which more) base)) (behind_mine mine upto (here which more) base) is_seen)
        ∙ (changed_agrees w.kind w.key (behind_mine mine upto (here which more) base) (λ q. behind_mine mine upto (here which more) base k) k refl
        ∙ sym (ap (λ (l : List Change). behind l (λ q. behind_mine mine upto (here which more) base k) k) (live_here which [] w is))))
    | inr ne ↦ ap (λ (l : List Change). behind_mine mine upto l base k) (live_elsewhere which more w ne) ∙ sym (ap (λ (l : List Change). behind l (λ q. behind_mine mine upto (here which more) base k) k) (live_elsewhere which [] w ne))
  ]

  -- the reader's own transaction: its first changes alone are seen
  pub mine_over : (x : Xid) (n : ℕ) (cs : List model.Change) (before : List Change) (base : Rows) (all : List TableRow) → mine ≡ Some x → InTables shape cs
      → behind_mine mine upto (here which before) base k ≡ value_of table k all
      → behind_mine mine upto (here which (newest_first shape x n cs before)) base k ≡ value_of table k (over shape.blocks all (take (upto + 1 - n) cs))
  mine_over x n [] before base all is tables same = same ∙ ap (λ (l : List model.Change). value_of table k (over shape.blocks all l)) (sym (take_none (upto + 1 - n) [] refl))
  mine_over x n (c ∷ cs) before base all is tables same =
      let w : Change = walk_change shape x n c in
      elim (cases_lt upto n) [
        | inl over_it ↦
            let unseen : (is_mine mine x && nat_le n upto) ≡ false = and_right (is_mine mine x) (nat_le n upto) (few n upto over_it) in
            let deep = mine_over x (n + 1) cs (w ∷ before) base all is tables.1 (skip w before base unseen ∙ same) in
            let now : take (upto + 1 - n) (c ∷ cs) ≡ [] = take_zero (upto + 1 - n) (c ∷ cs) (omega (arith, over_it)) in
            let later : take (upto + 1 - (n + 1)) cs ≡ [] = take_zero (upto + 1 - (n + 1)) cs (omega (arith, over_it)) in
            deep ∙ ap (λ (l : List model.Change). value_of table k (over shape.blocks all l)) (later ∙ sym now)
        | inr within ↦
            let mine_is : is_mine mine x ≡ true = ap (λ (o : Option Xid). is_mine o x) is ∙ same_itself x in
            let is_seen : (is_mine mine x && nat_le n upto) ≡ true = and_from (is_mine mine x) (nat_le n upto) mine_is (le-leb n upto within) in
            let step : behind_mine mine upto (here which (w ∷ before)) base k ≡ value_of table k (changed_by shape.blocks c.table c.key c.kind all) =
            seen w before base is_seen ∙ one_front shape table k some first c w [] (λ q. behind_mine mine upto (here which before) base k) all tables.0.0 refl refl refl same in
            let deep = mine_over x (n + 1) cs (w ∷ before) base (changed_by shape.blocks c.table c.key c.kind all) is tables.1 step in
            let one : take (upto + 1 - n) (c ∷ cs) ≡ c ∷ take (upto + 1 - (n + 1)) cs = ap (λ d. take d (c ∷ cs)) (suc_is n within) in
            deep ∙ ap (λ (l : List model.Change). value_of table k (over shape.blocks all l)) (sym one)
      ]
    where
      few : (a b : ℕ) → b < a → nat_le a b ≡ false
      few a b lt = grind (arith, nat_tests)

      suc_is : (n : ℕ) → n ≤ upto → upto + 1 - n ≡ suc (upto + 1 - (n + 1))
      suc_is n le = omega (arith, le)

  -- the commits above n, of none of which anything is seen
  pub flat_unseen : (n m : ℕ) (list : List (List model.Change)) (xids : List Xid) (before : List Commit) (base : Rows) (x : Option (List ℕ)) → ((i : ℕ) → i < length xids → Unseen mine upto (get_or xids i no_xid))
      → (m ≤ n → base k ≡ x) → behind_mine mine upto (flat n (map (narrow which) before)) base k ≡ x
      → behind_mine mine upto (flat n (map (narrow which) (commits_from shape m list xids before))) base k ≡ x
  flat_unseen n m [] xids before base x unseen low same = same
  flat_unseen n m (cs ∷ list) [] before base x unseen low same = same
  flat_unseen n m (cs ∷ list) (y ∷ xids) before base x unseen low same =
      let t : Commit = record { xid = y; number = m; changes = newest_first shape y 1 cs [] } in
      flat_unseen n (m + 1) list xids (t ∷ before) base x (λ i lt. unseen (suc i) (omega (arith, lt))) (λ le. low (omega (arith, le))) (elim (cases_lt n m) [
        | inl above ↦
            let test : nat_lt n m ≡ true = below n m above in
            ap (λ (l : List Change). behind_mine mine upto l base k) (cond-true (nat_lt n m) (here which t.changes ++ flat n (map (narrow which) before)) [] test)
            ∙ (ap (λ (r : Rows). r k) (behind_append mine upto (here which t.changes) (flat n (map (narrow which) before)) base)
            ∙ (skip_all y 1 cs [] (behind_mine mine upto (flat n (map (narrow which) before)) base) (omega arith) (unseen 0 (omega arith)) ∙ same))
        | inr up_to ↦
            let test : nat_lt n m ≡ false = not_below n m up_to in
            ap (λ (l : List Change). behind_mine mine upto l base k) (cond-false (nat_lt n m) (here which t.changes ++ flat n (map (narrow which) before)) [] test) ∙ low up_to
      ])
    where
      below : (a b : ℕ) → a < b → nat_lt a b ≡ true
      below a b lt = grind (arith, nat_tests)

      not_below : (a b : ℕ) → b ≤ a → nat_lt a b ≡ false
      not_below a b le = grind (arith, nat_tests)

  -- the commits above n, of one of which the first changes are seen
  pub flat_seen : (n m i : ℕ) (list : List (List model.Change)) (xids : List Xid) (before : List Commit) (base : Rows) (all : List TableRow) → length xids ≡ length list → i < length list → n < m + i
      → mine ≡ Some (get_or xids i no_xid) → ((j : ℕ) → j < length xids → j ≢ i → Unseen mine upto (get_or xids j no_xid)) → AllByRecursion (InTables shape) list
      → base k ≡ value_of table k all → behind_mine mine upto (flat n (map (narrow which) before)) base k ≡ value_of table k all
      → behind_mine mine upto (flat n (map (narrow which) (commits_from shape m list xids before))) base k ≡ value_of table k (over shape.blocks all (take upto (get_or list i [])))
  flat_seen n m i [] xids before base all count lt above is unseen tables start same = absurd (omega (arith, lt))
  flat_seen n m i (cs ∷ list) [] before base all count lt above is unseen tables start same = absurd (omega (arith, count))
  flat_seen n m zero (cs ∷ list) (y ∷ xids) before base all count lt above is unseen tables start same =
      let t : Commit = record { xid = y; number = m; changes = newest_first shape y 1 cs [] } in
      let high : n < m = omega (arith, above) in
      let test : nat_lt n m ≡ true = below n m high in
      let rest : Rows = behind_mine mine upto (flat n (map (narrow which) before)) base in
      let now : behind_mine mine upto (flat n (map (narrow which) (t ∷ before))) base k ≡ value_of table k (over shape.blocks all (take upto cs)) =
      ap (λ (l : List Change). behind_mine mine upto l base k) (cond-true (nat_lt n m) (here which t.changes ++ flat n (map (narrow which) before)) [] test)
      ∙ (ap (λ (r : Rows). r k) (behind_append mine upto (here which t.changes) (flat n (map (narrow which) before)) base)
      ∙ (mine_over y 1 cs [] rest all is tables.0 same ∙ ap (λ d. value_of table k (over shape.blocks all (take d cs))) (omega arith))) in
      flat_unseen n (m + 1) list xids (t ∷ before) base (value_of table k (over shape.blocks all (take upto cs))) (λ j lt. unseen (suc j) (omega (arith, lt)) (λ never. omega (arith, never))) (λ le. absurd (omega (arith, le, high))) now
    where
      below : (a b : ℕ) → a < b → nat_lt a b ≡ true
      below a b lt = grind (arith, nat_tests)
  flat_seen n m (suc i) (cs ∷ list) (y ∷ xids) before base all count lt above is unseen tables start same =
      let t : Commit = record { xid = y; number = m; changes = newest_first shape y 1 cs [] } in
      let other : Unseen mine upto y = unseen 0 (omega arith) (λ never. omega (arith, never)) in
      let now : behind_mine mine upto (flat n (map (narrow which) (t ∷ before))) base k ≡ value_of table k all = elim (cases_lt n m) [
        | inl high ↦
            ap (λ (l : List Change). behind_mine mine upto l base k) (cond-true (nat_lt n m) (here which t.changes ++ flat n (map (narrow which) before)) [] (below n m high))
            ∙ (ap (λ (r : Rows). r k) (behind_append mine upto (here which t.changes) (flat n (map (narrow which) before)) base)
            ∙ (skip_all y 1 cs [] (behind_mine mine upto (flat n (map (narrow which) before)) base) (omega arith) other ∙ same))
        | inr up_to ↦ ap (λ (l : List Change). behind_mine mine upto l base k) (cond-false (nat_lt n m) (here which t.changes ++ flat n (map (narrow which) before)) [] (not_below n m up_to)) ∙ start
      ] in
      flat_seen n (m + 1) i list xids (t ∷ before) base all (omega (arith, count)) (omega (arith, lt)) (omega (arith, above)) is (λ j lt ne. unseen (suc j) (omega (arith, lt)) (λ same. ne (omega (arith, same)))) tables.1 start now
    where
      below : (a b : ℕ) → a < b → nat_lt a b ≡ true
      below a b lt = grind (arith, nat_tests)

      not_below : (a b : ℕ) → b ≤ a → nat_lt a b ≡ false
      not_below a b le = grind (arith, nat_tests)

  module _ (base : Rows) where
    rows_above : (n m : ℕ) (list : List (List model.Change)) (xids : List Xid) (before : List Commit) → n < m → rows_at n base (map (narrow which) (commits_from shape m list xids before)) ≡ rows_at n base (map (narrow which) before)
    rows_above n m [] xids before lt = refl
    rows_above n m (cs ∷ list) [] before lt = refl
    rows_above n m (cs ∷ list) (y ∷ xids) before lt =
        let t : Commit = record { xid = y; number = m; changes = newest_first shape y 1 cs [] } in
        rows_above n (m + 1) list xids (t ∷ before) (omega (arith, lt)) ∙ cond-true (nat_lt n m) (rows_at n base (map (narrow which) before)) (rows_of base (map (narrow which) (t ∷ before))) (below n m lt)
      where
        below : (a b : ℕ) → a < b → nat_lt a b ≡ true
        below a b lt = grind (arith, nat_tests)

    -- the rows at a number, in both orders
    pub rows_at_from : (n m : ℕ) (list : List (List model.Change)) (xids : List Xid) (before : List Commit) (all : List TableRow) → m ≤ n + 1 → length xids ≡ length list → AllByRecursion (InTables shape) list
        → rows_at n base (map (narrow which) before) ≡ rows_of base (map (narrow which) before) → rows_of base (map (narrow which) before) k ≡ value_of table k all
        → rows_at n base (map (narrow which) (commits_from shape m list xids before)) k ≡ value_of table k (over shape.blocks all (flat_map (λ changes. changes) (take (n + 1 - m) list)))
    rows_at_from n m [] xids before all le count tables low same =
        ap (λ (r : Rows). r k) low ∙ (same ∙ ap (λ l. value_of table k (over shape.blocks all (flat_map (λ changes. changes) l))) (sym (take_none (n + 1 - m) [] refl)))
    rows_at_from n m (cs ∷ list) [] before all le count tables low same = absurd (omega (arith, count))
    rows_at_from n m (cs ∷ list) (y ∷ xids) before all le count tables low same =
        let t : Commit = record { xid = y; number = m; changes = newest_first shape y 1 cs [] } in
        elim (cases_lt n m) [
          | inl above ↦
              ap (λ (r : Rows). r k) (rows_above n m (cs ∷ list) (y ∷ xids) before above ∙ low)
              ∙ (same ∙ ap (λ l. value_of table k (over shape.blocks all (flat_map (λ changes. changes) l))) (sym (take_zero (n + 1 - m) (cs ∷ list) (omega (arith, above)))))
          | inr up_to ↦
              let head_low : rows_at n base (map (narrow which) (t ∷ before)) ≡ rows_of base (map (narrow which) (t ∷ before)) = cond-false (nat_lt n m) (rows_at n base (map (narrow which) before)) (rows_of base (map (narrow which) (t ∷ before))) (not_below n m up_to) in
              let step : rows_of base (map (narrow which) (t ∷ before)) k ≡ value_of table k (over shape.blocks all cs) = behind_over shape table k some first y 1 cs [] (rows_of base (map (narrow which) before)) all tables.0 same in
              let deep = rows_at_from n (m + 1) list xids (t ∷ before) (over shape.blocks all cs) (omega (arith, up_to)) (omega (arith, count)) tables.1 head_low step in
              let one : take (n + 1 - m) (cs ∷ list) ≡ cs ∷ take (n + 1 - (m + 1)) list = ap (λ d. take d (cs ∷ list)) (suc_is n m up_to) in
              deep
              ∙ (ap (value_of table k) (sym (over-append shape.blocks all cs (flat_map (λ changes. changes) (take (n + 1 - (m + 1)) list))))
              ∙ ap (λ l. value_of table k (over shape.blocks all (flat_map (λ changes. changes) l))) (sym one))
        ]
      where
        not_below : (a b : ℕ) → b ≤ a → nat_lt a b ≡ false
        not_below a b le = grind (arith, nat_tests)

        suc_is : (n m : ℕ) → m ≤ n → n + 1 - m ≡ suc (n + 1 - (m + 1))
        suc_is n m le = omega (arith, le)

-- How many changes the reader sees: no more than he may.
module _ (shape : Shape) (at : ℕ) (mine : Option Xid) (upto : ℕ) where
  -- one change more, in the home or not
  count_one : (w : Change) (more : List Change) → first_count mine upto (here at (w ∷ more)) ≤ suc (first_count mine upto (here at more))
  count_one w more = elim (cases_eq w.home at) [
    | inl is ↦
        let h = ap (λ (l : List Change). first_count mine upto l) (live_here at more w is) in
        elim (cases_Bool (is_mine mine w.xid && nat_le w.number upto)) [
          | inl seen ↦ let a = cond-true (is_mine mine w.xid && nat_le w.number upto) (suc (first_count mine upto (here at more))) (first_count mine upto (here at more)) seen in omega (arith, h, a)
          | inr unseen ↦ let a = cond-false (is_mine mine w.xid && nat_le w.number upto) (suc (first_count mine upto (here at more))) (first_count mine upto (here at more)) unseen in omega (arith, h, a)
        ]
    | inr ne ↦ let h = ap (λ (l : List Change). first_count mine upto l) (live_elsewhere at more w ne) in omega (arith, h)
  ]

  count_unseen : (w : Change) (more : List Change) → (is_mine mine w.xid && nat_le w.number upto) ≡ false → first_count mine upto (here at (w ∷ more)) ≡ first_count mine upto (here at more)
  count_unseen w more unseen = elim (cases_eq w.home at) [
    | inl is ↦
        ap (λ (l : List Change). first_count mine upto l) (live_here at more w is) ∙ cond-false (is_mine mine w.xid && nat_le w.number upto) (suc (first_count mine upto (here at more))) (first_count mine upto (here at more)) unseen
    | inr ne ↦ ap (λ (l : List Change). first_count mine upto l) (live_elsewhere at more w ne)
  ]

  -- of one transaction's changes, numbered from n on
  pub count_few : (x : Xid) (n : ℕ) (cs : List model.Change) (before : List Change) → first_count mine upto (here at (newest_first shape x n cs before)) ≤ (upto + 1 - n) + first_count mine upto (here at before)
  count_few x n [] before = omega arith
  count_few x n (c ∷ cs) before =
      let w : Change = walk_change shape x n c in
      let deep = count_few x (n + 1) cs (w ∷ before) in
      elim (cases_lt upto n) [
        | inl over_it ↦ let same = count_unseen w before (and_right (is_mine mine x) (nat_le n upto) (few n upto over_it)) in omega (arith, deep, same, over_it)
        | inr within ↦ let one = count_one w before in omega (arith, deep, one, within)
      ]
    where
      few : (a b : ℕ) → b < a → nat_le a b ≡ false
      few a b lt = grind (arith, nat_tests)

  pub count_none : (x : Xid) (n : ℕ) (cs : List model.Change) (before : List Change) → 1 ≤ n → Unseen mine upto x → first_count mine upto (here at (newest_first shape x n cs before)) ≡ first_count mine upto (here at before)
  count_none x n [] before low unseen = refl
  count_none x n (c ∷ cs) before low unseen = count_none x (n + 1) cs (walk_change shape x n c ∷ before) (omega arith) unseen ∙ count_unseen (walk_change shape x n c) before (unseen n low)

  -- of the commits above n, one of which at most is the reader's
  pub flat_none : (n m : ℕ) (list : List (List model.Change)) (xids : List Xid) (before : List Commit) → ((i : ℕ) → i < length xids → Unseen mine upto (get_or xids i no_xid))
      → first_count mine upto (flat n (map (narrow at) (commits_from shape m list xids before))) ≤ first_count mine upto (flat n (map (narrow at) before))
  flat_none n m [] xids before unseen = omega arith
  flat_none n m (cs ∷ list) [] before unseen = omega arith
  flat_none n m (cs ∷ list) (y ∷ xids) before unseen =
      let t : Commit = record { xid = y; number = m; changes = newest_first shape y 1 cs [] } in
      let deep = flat_none n (m + 1) list xids (t ∷ before) (λ i lt. unseen (suc i) (omega (arith, lt))) in
      elim (cases_Bool (nat_lt n m)) [
        | inl above ↦
            let a = ap (λ (l : List Change). first_count mine upto l) (cond-true (nat_lt n m) (here at t.changes ++ flat n (map (narrow at) before)) [] above) in
            let b = first_append mine upto (here at t.changes) (flat n (map (narrow at) before)) in
            let c = count_none y 1 cs [] (omega arith) (unseen 0 (omega arith)) in
            omega (arith, deep, a, b, c)
        | inr not_above ↦ let a = ap (λ (l : List Change). first_count mine upto l) (cond-false (nat_lt n m) (here at t.changes ++ flat n (map (narrow at) before)) [] not_above) in omega (arith, deep, a)
      ]

  pub flat_few : (n m i : ℕ) (list : List (List model.Change)) (xids : List Xid) (before : List Commit) → i < length xids → ((j : ℕ) → j < length xids → j ≢ i → Unseen mine upto (get_or xids j no_xid))
      → first_count mine upto (flat n (map (narrow at) (commits_from shape m list xids before))) ≤ upto + first_count mine upto (flat n (map (narrow at) before))
  flat_few n m i [] xids before lt unseen = omega arith
  flat_few n m i (cs ∷ list) [] before lt unseen = absurd (omega (arith, lt))
  flat_few n m zero (cs ∷ list) (y ∷ xids) before lt unseen =
      let t : Commit = record { xid = y; number = m; changes = newest_first shape y 1 cs [] } in
      let deep = flat_none n (m + 1) list xids (t ∷ before) (λ j lt. unseen (suc j) (omega (arith, lt)) (λ never. omega (arith, never))) in
      elim (cases_Bool (nat_lt n m)) [
        | inl above ↦
            let a = ap (λ (l : List Change). first_count mine upto l) (cond-true (nat_lt n m) (here at t.changes ++ flat n (map (narrow at) before)) [] above) in
            let b = first_append mine upto (here at t.changes) (flat n (map (narrow at) before)) in
            let c = count_few y 1 cs [] in
            omega (arith, deep, a, b, c)
        | inr not_above ↦ let a = ap (λ (l : List Change). first_count mine upto l) (cond-false (nat_lt n m) (here at t.changes ++ flat n (map (narrow at) before)) [] not_above) in omega (arith, deep, a)
      ]
  flat_few n m (suc i) (cs ∷ list) (y ∷ xids) before lt unseen =
      let t : Commit = record { xid = y; number = m; changes = newest_first shape y 1 cs [] } in
      let deep = flat_few n (m + 1) i list xids (t ∷ before) (omega (arith, lt)) (λ j lt ne. unseen (suc j) (omega (arith, lt)) (λ same. ne (omega (arith, same)))) in
      elim (cases_Bool (nat_lt n m)) [
        | inl above ↦
            let a = ap (λ (l : List Change). first_count mine upto l) (cond-true (nat_lt n m) (here at t.changes ++ flat n (map (narrow at) before)) [] above) in
            let b = first_append mine upto (here at t.changes) (flat n (map (narrow at) before)) in
            let c = count_none y 1 cs [] (omega arith) (unseen 0 (omega arith) (λ never. omega (arith, never))) in
            omega (arith, deep, a, b, c)
        | inr not_above ↦ let a = ap (λ (l : List Change). first_count mine upto l) (cond-false (nat_lt n m) (here at t.changes ++ flat n (map (narrow at) before)) [] not_above) in omega (arith, deep, a)
      ]
