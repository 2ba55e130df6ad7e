-- The machine's changes and rows, and what of them concerns one home.
use Rattle.std.proofs.Common.{◌≡◌, ◌⊎◌, inl, inr, ⊎_elim, ◌≤◌, ◌+◌, ◌*◌, ◌/◌, ◌%◌, ◌==◌, ◌&&◌, ◌||◌, ℕ, Bool, true, false, List, [], ◌∷◌, length, map, None, refl, sym, ◌∙◌, ap, subst, arith}
use Rattle.std.proofs.Math.ListN as lists
use Rattle.std.proofs.lemmas.Bool.{cases_eq, cases_Bool, and_parts, and_from, cond-true, cond-false, eq-eqb, eqb-true, false≢true, ne_eqb}
use Rattle.std.proofs.lemmas.Bool.Decides.{nat_tests}
use Rattle.std.specs.List.{list_any, flat_map, AllByRecursion}
use Rattle.rb_base.specs.declared.sizes.TheConstants.{SLOTS}
use Rattle.rb_base.specs.Blocks.{home_block}
use Rattle.rb_base.specs.declared.ids.Xid.{Xid}
use Rattle.rb_base.specs.declared.shape.Shape.{Shape}
use Rattle.rb_model.specs.Change as model
use Rattle.rb_model.specs.Change.{Kind, Put, Gone, Held}
use Rattle.rb_model.specs.State.{State}
use Rattle.rb_model.specs.Rows.{TableRow, value_of, changed_by, over}
use Rattle.rb_model.proofs.Values.{value_changed, value_by, over-append}
use Rattle.law_blocks.specs.States.{InTables, walk_change, newest_first, lives_of, commits_from}
use Rattle.law_blocks.specs.Values.{rows_here}
use Rattle.law_blocks.proofs.Machine.{lives_counted}
use Rattle.law_write.proofs.Finding.{or_right}
use Rattle.law_write.proofs.Sites.{one_home, home_table, home_mod}
use Rattle.law_home.specs.Homes.{here, narrow}
use Rattle.law_home.specs.Steps.{Names}
use Rattle.law_home.specs.Walk.{Change, Commit, Rows, Env, own, behind, rows_of, changed}
use Rattle.law_home.proofs.Committing.{changed_other}
use Rattle.law_home.proofs.Homes.{live_here, live_elsewhere}

-- live changes of one home

pub own_beyond : (h : State) (env : Env) (t : ℕ) → SLOTS * h.shape.segments ≤ t → own (lives_of h env) t ≡ []
own_beyond h env t le = lists.get_or-eq_default (lives_of h env) [] (let n = lives_counted h env in omega (arith, n, le))

-- the model's change names that key of that home
abbrev pub names_in : Shape → ℕ → ℕ → model.Change → Bool
names_in shape which k c = (home_block shape c.table c.key == which) && (c.key == k)

module _ (shape : Shape) (which k : ℕ) where
  pub names_front : (x : Xid) (n : ℕ) (cs : List model.Change) (before : List Change) → Names (here which (newest_first shape x n cs before)) k → (list_any (names_in shape which k) cs ≡ true) ⊎ Names (here which before) k
  names_front x n [] before named = inr named
  names_front x n (c ∷ cs) before named =
      let w : Change = walk_change shape x n c in
      ⊎_elim
      (λ later. inl (or_right (names_in shape which k c) (list_any (names_in shape which k) cs) later))
      (λ front. elim (cases_eq w.home which) [
        | inl is ↦
            let both : Names (w ∷ here which before) k = subst (λ (l : List Change). Names l k) (live_here which before w is) front in
            ⊎_elim (λ key. inl (ap (λ b. b || list_any (names_in shape which k) cs) (and_from (home_block shape c.table c.key == which) (c.key == k) (eq-eqb (home_block shape c.table c.key) which is) (eq-eqb c.key k key)))) (λ rest. inr rest) both
        | inr ne ↦ inr (subst (λ (l : List Change). Names l k) (live_elsewhere which before w ne) front)
      ])
      (names_front x (n + 1) cs (w ∷ before) named)

  in_before : (c : Change) (before : List Change) → Names (here which before) k → Names (here which (c ∷ before)) k
  in_before c before named = elim (cases_eq c.home which) [
    | inl is ↦ subst (λ (l : List Change). Names l k) (sym (live_here which before c is)) (inr named)
    | inr ne ↦ subst (λ (l : List Change). Names l k) (sym (live_elsewhere which before c ne)) named
  ]

  pub names_still : (x : Xid) (n : ℕ) (cs : List model.Change) (before : List Change) → Names (here which before) k → Names (here which (newest_first shape x n cs before)) k
  names_still x n [] before named = named
  names_still x n (c ∷ cs) before named = names_still x (n + 1) cs (walk_change shape x n c ∷ before) (in_before (walk_change shape x n c) before named)

  pub names_back : (x : Xid) (n : ℕ) (cs : List model.Change) (before : List Change) → list_any (names_in shape which k) cs ≡ true → Names (here which (newest_first shape x n cs before)) k
  names_back x n [] before is = absurd (false≢true is)
  names_back x n (c ∷ cs) before is =
      let w : Change = walk_change shape x n c in
      elim (cases_Bool (names_in shape which k c)) [
        | inl so ↦
            let parts = and_parts (home_block shape c.table c.key == which) (c.key == k) so in
            let at : w.home ≡ which = eqb-true (home_block shape c.table c.key) which parts.0 in
            names_still x (n + 1) cs (w ∷ before) (subst (λ (l : List Change). Names l k) (sym (live_here which before w at)) (inl (eqb-true c.key k parts.1)))
        | inr not_so ↦ names_back x (n + 1) cs (w ∷ before) (sym (ap (λ b. b || list_any (names_in shape which k) cs) not_so) ∙ is)
      ]

-- the rows of one home

module _ (shape : Shape) (table k : ℕ) (some : 1 ≤ shape.blocks) (first : 1 ≤ table) where
  abbrev which : ℕ
  which = home_block shape table k

  kind_by : (kind : Kind) (rows : Rows) (key : ℕ) → key ≡ k → changed kind key rows k ≡ value_by kind (rows k)
  kind_by (Put v) rows key is = let test : (k == key) ≡ true = grind (arith, nat_tests) in rw test refl
  kind_by Gone rows key is = let test : (k == key) ≡ true = grind (arith, nat_tests) in rw test refl
  kind_by Held rows key is = refl

  -- one change in front
  pub one_front : (c : model.Change) (w : Change) (more : List Change) (base : Rows) (rows : List TableRow) → 1 ≤ c.table → w.home ≡ home_block shape c.table c.key → w.key ≡ c.key → w.kind ≡ c.kind
      → behind (here which more) base k ≡ value_of table k rows → behind (here which (w ∷ more)) base k ≡ value_of table k (changed_by shape.blocks c.table c.key c.kind rows)
  one_front c w more base rows low home key kind same =
      let now = value_changed shape.blocks table k c.table c.key c.kind rows in
      elim (cases_eq w.home which) [
        | inl is ↦
            let at : (c.table ≡ table) × (c.key % shape.blocks ≡ k % shape.blocks) = one_home shape c.table c.key table k some low first (sym home ∙ is) in
            let step : behind (here which (w ∷ more)) base k ≡ changed w.kind w.key (behind (here which more) base) k = ap (λ (l : List Change). behind l base k) (live_here which more w is) in
            elim (cases_eq w.key k) [
              | inl this ↦
                  let test : ((table == c.table) && (k == c.key)) ≡ true = and_from (table == c.table) (k == c.key) (eq-eqb table c.table (sym at.0)) (eq-eqb k c.key (sym this ∙ key)) in
                  step ∙ (kind_by w.kind (behind (here which more) base) w.key this ∙ (ap (value_by w.kind) same ∙ (ap (λ (z : Kind). value_by z (value_of table k rows)) kind ∙ sym (now ∙ cond-true ((table == c.table) && (k == c.key)) _ _ test))))
              | inr ne ↦
                  let test : ((table == c.table) && (k == c.key)) ≡ false = no_key (table == c.table) (ne_eqb k c.key (λ kc. ne (key ∙ sym kc))) in
                  step ∙ (changed_other w.kind w.key (behind (here which more) base) k (λ kw. ne (sym kw)) ∙ (same ∙ sym (now ∙ cond-false ((table == c.table) && (k == c.key)) _ _ test)))
            ]
        | inr ne ↦
            let test : ((table == c.table) && (k == c.key)) ≡ false = elim (cases_Bool ((table == c.table) && (k == c.key))) [
              | inl so ↦
                  let parts = and_parts (table == c.table) (k == c.key) so in
                  absurd (ne (home ∙ (ap (λ (z : ℕ). home_block shape z c.key) (sym (eqb-true table c.table parts.0)) ∙ ap (λ (z : ℕ). home_block shape table z) (sym (eqb-true k c.key parts.1)))))
              | inr not_so ↦ not_so
            ] in
            ap (λ (l : List Change). behind l base k) (live_elsewhere which more w ne) ∙ (same ∙ sym (now ∙ cond-false ((table == c.table) && (k == c.key)) _ _ test))
      ]
    where
      no_key : (a : Bool) {b : Bool} → b ≡ false → (a && b) ≡ false
      no_key true e = e
      no_key false e = refl

  -- a session's changes over the rows, in both orders
  pub behind_over : (x : Xid) (n : ℕ) (cs : List model.Change) (before : List Change) (base : Rows) (rows : List TableRow) → InTables shape cs
      → behind (here which before) base k ≡ value_of table k rows → behind (here which (newest_first shape x n cs before)) base k ≡ value_of table k (over shape.blocks rows cs)
  behind_over x n [] before base rows tables same = same
  behind_over x n (c ∷ cs) before base rows tables same =
      behind_over x (n + 1) cs (walk_change shape x n c ∷ before) base (changed_by shape.blocks c.table c.key c.kind rows) tables.1
      (one_front c (walk_change shape x n c) before base rows tables.0.0 refl refl refl same)

  -- the commits' rows, in both orders
  pub rows_over : (n : ℕ) (list : List (List model.Change)) (xids : List Xid) (before : List Commit) (base : Rows) (rows : List TableRow) → AllByRecursion (InTables shape) list → length xids ≡ length list
      → rows_of base (map (narrow which) before) k ≡ value_of table k rows
      → rows_of base (map (narrow which) (commits_from shape n list xids before)) k ≡ value_of table k (over shape.blocks rows (flat_map (λ changes. changes) list))
  rows_over n [] xids before base rows tables count same = same
  rows_over n (cs ∷ list) [] before base rows tables count same = absurd (omega (arith, count))
  rows_over n (cs ∷ list) (x ∷ xids) before base rows tables count same =
      let t : Commit = record { xid = x; number = n; changes = newest_first shape x 1 cs [] } in
      let deep = rows_over (n + 1) list xids (t ∷ before) base (over shape.blocks rows cs) tables.1 (omega (arith, count))
      (behind_over x 1 cs [] (rows_of base (map (narrow which) before)) rows tables.0 same) in
      deep ∙ ap (value_of table k) (sym (over-append shape.blocks rows cs (flat_map (λ changes. changes) list)))

  pub rows_here_is : (rows : List TableRow) → rows_here shape which rows k ≡ value_of table k rows
  rows_here_is rows =
      let test : (k % shape.blocks == which % shape.blocks) ≡ true = eq-eqb (k % shape.blocks) (which % shape.blocks) (sym (home_mod shape table k some)) in
      cond-true (k % shape.blocks == which % shape.blocks) (value_of (which / shape.blocks + 1) k rows) None test ∙ ap (λ (z : ℕ). value_of z k rows) (home_table shape table k some first)
