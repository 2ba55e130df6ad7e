-- When all cells of a home are taken by other keys.
use Rattle.std.proofs.Common.{◌≡◌, ◌≢◌, ◌⊎◌, inl, inr, ⊎_elim, ◌<◌, ◌≤◌, ◌+◌, ◌-◌, ◌*◌, ◌%◌, ◌==◌, ◌||◌, nat_le, ℕ, zero, suc, Bool, true, false, not, List, [], ◌∷◌, length, map, get_or, Option, Some, None, is_some, refl, sym, ◌∙◌, ap, subst, arith}
use Rattle.std.proofs.Math.ListN as lists
use Rattle.std.proofs.lemmas.Bool.{cases_eq, cases_lt, cases_Bool, or_cases, and_parts, and_from, false≢true, le-leb, leb-true, ne_eqb}
use Rattle.std.proofs.lemmas.Bool.Decides.{nat_tests}
use Rattle.std.proofs.lemmas.List.Folds.{list_any-append}
use Rattle.std.proofs.lemmas.List.FromFn.{length-range_with_len}
use Rattle.std.specs.List.{list_any, flat_map, range_with_len}
use Rattle.rb_cell.specs.declared.cell.TheConstants.{CELLS}
use Rattle.rb_base.specs.Blocks.{home_block}
use Rattle.rb_base.specs.declared.ids.Xid.{Xid}
use Rattle.rb_model.specs.Full.{has_key, held, used_keys, full_block}
use Rattle.rb_model.specs.State.{State, Session, no_session}
use Rattle.rb_model.specs.Rows.{value_of, has_row}
use Rattle.rb_model.specs.Tests.{is_change, holds}
use Rattle.rb_model.proofs.UsedKeys.{rows_last, uses, used_has, used_home, distinct_used, distinct_within}
use Rattle.rb_model.proofs.Values.{has_value}
use Rattle.rb_segment.specs.Header.{Segment}
use Rattle.law_blocks.specs.Says.{says}
use Rattle.law_blocks.specs.States.{lives_of, Owns}
use Rattle.law_write.specs.Stood.{Stood, StoodHome, IsClean}
use Rattle.law_write.proofs.Finding.{has_range, range_has, distinct_range, distinct_cons, or_right, Sent, sent, no_more, find_passes}
use Rattle.law_write.proofs.Presence as presence
use Rattle.law_write.proofs.Presence.{some_blocks, HolderOf}
use Rattle.law_write.proofs.Sites.{home_mod, row_block}
use Rattle.law_write.proofs.Trees.{KeyMatch}
use Rattle.law_home.specs.Homes.{here}
use Rattle.law_home.specs.Kinds.{Cell, Empty, Row, Stub}
use Rattle.law_home.specs.Steps.{HeldCell, Names}
use Rattle.law_home.specs.Walk.{Env, Home, IsActive, own, row_of, cell_at, entry_at, lock_of, taken}
use Rattle.law_home.proofs.Committing.{shown_taken}
use Rattle.law_home.proofs.Holding.{held_cell}

-- each cell keeps a key for itself, which isn't that one
abbrev pub AllTaken : Home → ℕ → Type 0
AllTaken b key = (j : ℕ) → j < CELLS → (q : ℕ) × (taken (cell_at b j) ≡ Some q) × (q ≢ key)

or_left : (a b : Bool) → a ≡ true → (a || b) ≡ true
or_left a b e = ap (λ z. z || b) e

-- what all sessions hold

held_more : (t q : ℕ) (s : Session) (ss : List Session) → list_any (is_change t q) (flat_map (λ (x : Session). x.own) (s ∷ ss)) ≡ (list_any (is_change t q) s.own || list_any (is_change t q) (flat_map (λ (x : Session). x.own) ss))
held_more t q s ss = list_any-append (is_change t q) s.own (flat_map (λ (x : Session). x.own) ss)

any_at : (t q : ℕ) (ss : List Session) (i : ℕ) → list_any (is_change t q) (get_or ss i no_session).own ≡ true → list_any (is_change t q) (flat_map (λ (x : Session). x.own) ss) ≡ true
any_at t q [] i is = absurd (false≢true is)
any_at t q (s ∷ ss) zero is = held_more t q s ss ∙ or_left (list_any (is_change t q) s.own) _ is
any_at t q (s ∷ ss) (suc i) is = held_more t q s ss ∙ or_right (list_any (is_change t q) s.own) _ (any_at t q ss i is)

at_any : (t q : ℕ) (ss : List Session) → list_any (is_change t q) (flat_map (λ (x : Session). x.own) ss) ≡ true → (i : ℕ) × (list_any (is_change t q) (get_or ss i no_session).own ≡ true)
at_any t q [] is = absurd (false≢true is)
at_any t q (s ∷ ss) is = ⊎_elim
    (λ here. (0, here))
    (λ later. let f : (i : ℕ) × (list_any (is_change t q) (get_or ss i no_session).own ≡ true) = at_any t q ss later in (suc f.0, f.1))
    (or_cases (list_any (is_change t q) s.own) (list_any (is_change t q) (flat_map (λ (x : Session). x.own) ss)) (sym (held_more t q s ss) ∙ is))

held_holds : (h : State) (t q : ℕ) → list_any (is_change t q) (held h) ≡ true → (s : ℕ) × (1 ≤ s) × (holds h s t q ≡ true)
held_holds h t q is = let f : (i : ℕ) × (list_any (is_change t q) (get_or h.sessions i no_session).own ≡ true) = at_any t q h.sessions is in (f.0 + 1, omega arith, subst (λ z. list_any (is_change t q) (get_or h.sessions z no_session).own ≡ true) (omega arith) f.1)

holds_held : (h : State) (s t q : ℕ) → holds h s t q ≡ true → list_any (is_change t q) (held h) ≡ true
holds_held h s t q is = any_at t q h.sessions (s - 1) is

-- a cell that is taken and not locked is a row
free_row : (x : Cell) (q : ℕ) → taken x ≡ Some q → lock_of x ≡ 0 → (v : List ℕ) × (row_of x q ≡ Some v)
free_row Empty q has free = absurd cc
free_row (Row key v lock) q has free = let same : key ≡ q = cc in let test : (q == key) ≡ true = grind (arith, nat_tests) in (v, rw test refl)
free_row (Stub key zero) q has free = absurd cc
free_row (Stub key (suc lock)) q has free = absurd (omega (arith, free))

lock_cases : (n : ℕ) → (n ≡ 0) ⊎ ((i : ℕ) × (n ≡ suc i))
lock_cases zero = inl refl
lock_cases (suc n) = inr (n, refl)

module _ (h : State) (xids : List Xid) (segments : ℕ → Segment) (homes : ℕ → Home) (stood : Stood h xids segments homes) (table : ℕ) (first : 1 ≤ table) (last : table ≤ h.shape.tables) where
  abbrev env : Env
  env = says h.shape segments

  -- a key in use has a cell in its home
  used_cell : (q : ℕ) → uses h table q ≡ true → (j : ℕ) × (taken (cell_at (homes (home_block h.shape table q)) j) ≡ Some q)
  used_cell q in_use = ⊎_elim
      (λ some. let f : (t : ℕ) × Owns h some.0 t × Names (own (map (here (home_block h.shape table q)) (lives_of h env)) t) q = presence.held_slot h xids segments homes stood table q first last some.0 some.1 some.2 in
      let home : StoodHome h xids segments (home_block h.shape table q) (homes (home_block h.shape table q)) = presence.home h xids segments homes stood table q first last in
      let c : HeldCell env (homes (home_block h.shape table q)) f.0 q = held_cell env _ home.m _ (homes (home_block h.shape table q)) home.tree f.0 q f.2 in
      (c.cell, c.has_key))
      (λ nobody.
      let not_held : list_any (is_change table q) (held h) ≡ false = elim (cases_Bool (list_any (is_change table q) (held h))) [ inl is ↦ let f : (s : ℕ) × (1 ≤ s) × (holds h s table q ≡ true) = held_holds h table q is in absurd (false≢true (sym (nobody f.0 f.1) ∙ f.2)) | inr none ↦ none ] in
      let row : has_row table q (rows_last h) ≡ true = ⊎_elim (λ row. row) (λ is. absurd (false≢true (sym not_held ∙ is))) (or_cases (has_row table q (rows_last h)) (list_any (is_change table q) (held h)) in_use) in
      shown (value_of table q (rows_last h)) refl row (presence.present_base h xids segments homes stood table q first last nobody))
      (presence.some_holder h xids segments homes stood table q first last)
    where
      shown : (x : Option (List ℕ)) → value_of table q (rows_last h) ≡ x → has_row table q (rows_last h) ≡ true → KeyMatch (homes (home_block h.shape table q)) q (value_of table q (rows_last h)) → (j : ℕ) × (taken (cell_at (homes (home_block h.shape table q)) j) ≡ Some q)
      shown None is row match = absurd (false≢true (sym (has_value table q (rows_last h) ∙ ap is_some is) ∙ row))
      shown (Some v) is row match = let p : (j : ℕ) × (row_of (cell_at (homes (home_block h.shape table q)) j) q ≡ Some v) = match.complete v is in (p.0, shown_taken (cell_at (homes (home_block h.shape table q)) p.0) q v p.1)

  module _ (q : ℕ) where
    abbrev b : Home
    b = homes (home_block h.shape table q)

    home : StoodHome h xids segments (home_block h.shape table q) b
    home = presence.home h xids segments homes stood table q first last

    -- a cell that is taken, in a home that is cleaned, is of a key in use
    cell_used : (j : ℕ) → IsClean env b → taken (cell_at b j) ≡ Some q → uses h table q ≡ true
    cell_used j clean has = ⊎_elim
        (λ some. or_right (has_row table q (rows_last h)) (list_any (is_change table q) (held h)) (holds_held h some.0 table q some.2))
        (λ nobody. ⊎_elim
        (λ free. let r : (v : List ℕ) × (row_of (cell_at b j) q ≡ Some v) = free_row (cell_at b j) q has free in
        let match : KeyMatch b q (value_of table q (rows_last h)) = presence.present_base h xids segments homes stood table q first last nobody in
        or_left (has_row table q (rows_last h)) (list_any (is_change table q) (held h)) (has_value table q (rows_last h) ∙ ap is_some (match.sound j r.0 r.1)))
        (λ locked. let open_at = home.locks locked.0 j locked.1 in
        let active : IsActive env (entry_at b locked.0) = (open_at, clean locked.0 open_at) in
        let o : HolderOf h xids segments homes stood table q first last locked.0 = presence.holder_of_lock h xids segments homes stood table q first last locked.0 j active has locked.1 in
        absurd (false≢true (sym (nobody o.owner.session (stood.owners o.slot o.owner o.owned_by).0) ∙ find_passes (λ s. holds h s table q) (range_with_len 1 (length h.sessions)) o.owner.session o.is)))
        (lock_cases (lock_of (cell_at b j))))
        (presence.some_holder h xids segments homes stood table q first last)

  -- The keys in use of a home and the taken cells of it, cleaned, are the same.
  module _ (key : ℕ) (clean : IsClean env (homes (home_block h.shape table key))) where
    abbrev which : ℕ
    which = home_block h.shape table key

    abbrev there : Home
    there = homes which

    whole : StoodHome h xids segments which there
    whole = presence.home h xids segments homes stood table key first last

    same_block : (q : ℕ) → q % h.shape.blocks ≡ key % h.shape.blocks → home_block h.shape table q ≡ which
    same_block q near = ap (λ (z : ℕ). (table - 1) * h.shape.blocks + z) near

    taken_near : (q j : ℕ) → taken (cell_at there j) ≡ Some q → q % h.shape.blocks ≡ key % h.shape.blocks
    taken_near q j has = stood.keys which j q (row_block h.shape table key (some_blocks h xids segments homes stood) first last) has ∙ home_mod h.shape table key (some_blocks h xids segments homes stood)

    key_cell : (q : ℕ) → has_key q (used_keys h table key) ≡ true → (j : ℕ) × (taken (cell_at there j) ≡ Some q)
    key_cell q has =
        let near : q % h.shape.blocks ≡ key % h.shape.blocks = used_home h table key q has in
        let c : (j : ℕ) × (taken (cell_at (homes (home_block h.shape table q)) j) ≡ Some q) = used_cell q (sym (used_has h table key q near) ∙ has) in
        (c.0, subst (λ (w : ℕ). taken (cell_at (homes w) c.0) ≡ Some q) (same_block q near) c.1)

    cell_key : (q j : ℕ) → taken (cell_at there j) ≡ Some q → has_key q (used_keys h table key) ≡ true
    cell_key q j has =
        let near : q % h.shape.blocks ≡ key % h.shape.blocks = taken_near q j has in
        let at : which ≡ home_block h.shape table q = sym (same_block q near) in
        used_has h table key q near ∙ cell_used q j (subst (λ (w : ℕ). IsClean env (homes w)) at clean) (subst (λ (w : ℕ). taken (cell_at (homes w) j) ≡ Some q) at has)

    abbrev Keeps : ℕ → ℕ → Type 0
    Keeps j q = taken (cell_at there j) ≡ Some q

    cell_within : (q j : ℕ) → Keeps j q → j < CELLS
    cell_within q j has = ⊎_elim (λ lt. lt)
        (λ le. let out : cell_at there j ≡ Empty = lists.get_or-eq_default there.cells Empty (let z = (stood.sizes which).1 in omega (arith, z, le)) in let none : None ≡ Some q = sym (ap taken out) ∙ has in absurd cc)
        (cases_lt j CELLS)

    one_key : (j q r : ℕ) → Keeps j q → Keeps j r → q ≡ r
    one_key j q r a c = let same : Some q ≡ Some r = sym a ∙ c in cc

    -- Where sixteen cells are taken, none by the key, the block is full.
    pub full_block_when : AllTaken there key → full_block h table key ≡ true
    full_block_when all =
        let keys : List ℕ = used_keys h table key in
        let le = no_more Keeps (λ i j q a c. whole.unique i j q a c) keys (range_with_len 0 CELLS) (distinct_range 0 CELLS)
        (λ j has. let c : (q : ℕ) × (taken (cell_at there j) ≡ Some q) × (q ≢ key) = all j (let r = range_has 0 CELLS j has in r.1) in (c.0, cell_key c.0 j c.1, c.1)) in
        let l = length-range_with_len 0 CELLS in
        let unused : has_key key keys ≡ false = elim (cases_Bool (has_key key keys)) [
          | inl used ↦
              let c : (j : ℕ) × (taken (cell_at there j) ≡ Some key) = key_cell key used in
              let d : (q : ℕ) × (taken (cell_at there c.0) ≡ Some q) × (q ≢ key) = all c.0 (cell_within key c.0 c.1) in
              absurd (d.2 (one_key c.0 d.0 key d.1 c.1))
          | inr free ↦ free
        ] in
        and_from (not (has_key key keys)) (nat_le CELLS (length keys)) (ap not unused) (le-leb CELLS (length keys) (omega (arith, le, l)))

    -- And where the block is full, sixteen cells are taken, none by the key.
    pub full_block_then : full_block h table key ≡ true → AllTaken there key
    full_block_then full j few =
        let keys : List ℕ = used_keys h table key in
        let parts = and_parts (not (has_key key keys)) (nat_le CELLS (length keys)) full in
        let many : CELLS ≤ length keys = leb-true CELLS (length keys) parts.1 in
        let st : Sent (λ q i. Keeps i q) keys (range_with_len 0 CELLS) = sent (λ q i. Keeps i q) (λ q r i a c. one_key i q r a c) (range_with_len 0 CELLS) keys (distinct_used h table key)
        (λ q has. let c : (i : ℕ) × (taken (cell_at there i) ≡ Some q) = key_cell q has in (c.0, has_range 0 CELLS c.0 (omega arith) (let w = cell_within q c.0 c.1 in omega (arith, w)), c.1)) in
        elim (cases_Bool (has_key j st.images)) [
          | inl here ↦
              let f : (q : ℕ) × (has_key q keys ≡ true) × (taken (cell_at there j) ≡ Some q) = st.from j here in
              (f.0, f.2, λ same. false≢true (sym (ap not (ap (λ z. has_key z keys) (sym same) ∙ f.1)) ∙ parts.0))
          | inr missing ↦
              let distinct = distinct_cons j st.images (λ q has same. false≢true (sym missing ∙ (ap (λ z. has_key z st.images) (sym same) ∙ has))) st.distinct in
              let le = distinct_within (j ∷ st.images) (range_with_len 0 CELLS) distinct (λ q has. elim (cases_eq q j) [ inl same ↦ has_range 0 CELLS q (omega arith) (omega (arith, same, few)) | inr ne ↦ st.inside q (later q ne st.images has) ]) in
              let m = st.many in
              let l = length-range_with_len 0 CELLS in
              absurd (omega (arith, le, m, l, many))
        ]
      where
        later : (q : ℕ) → q ≢ j → (xs : List ℕ) → has_key q (j ∷ xs) ≡ true → has_key q xs ≡ true
        later q ne xs has = sym (ap (λ b. b || has_key q xs) (ne_eqb j q (λ same. ne (sym same)))) ∙ has

    -- as a key is in use where it has a cell
    pub unused_then : has_key key (used_keys h table key) ≡ false → (j : ℕ) → taken (cell_at there j) ≢ Some key
    unused_then free j has = false≢true (sym free ∙ cell_key key j has)
