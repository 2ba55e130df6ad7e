-- What a home says of one key: its row, and who holds it.
use Rattle.std.proofs.Common.{◌≡◌, ◌≢◌, ◌⊎◌, inl, inr, ⊎_elim, ◌<◌, ◌≤◌, ◌+◌, ◌-◌, ◌*◌, ◌/◌, ◌%◌, ◌==◌, ◌&&◌, ◌||◌, ℕ, suc, Bool, true, false, List, [], ◌∷◌, length, map, take, get_or, Option, Some, None, is_some, refl, sym, ◌∙◌, ap, subst, arith}
use Rattle.std.proofs.Math.ListN as lists
use Rattle.std.proofs.Math.Nat.{div-add-mod, mod-lt}
use Rattle.std.proofs.lemmas.Bool.{cases_eq, cases_lt, cases_Bool, and_from, eq-eqb, false≢true, ne_eqb}
use Rattle.std.proofs.lemmas.List.{get_or-replicate, take_all}
use Rattle.std.specs.List.{list_any, flat_map, range_with_len}
use Rattle.rb_base.specs.declared.sizes.TheConstants.{SLOTS}
use Rattle.rb_base.specs.Blocks.{home_block}
use Rattle.rb_base.specs.declared.ids.Xid.{Xid}
use Rattle.rb_base.specs.declared.shape.Shape.{Shape}
use Rattle.rb_model.specs.Book.{Owner, Book, BookSlot, book_at, free_slot, fresh_book}
use Rattle.rb_model.specs.Change as model
use Rattle.rb_model.specs.State.{State, session_own, owner_at}
use Rattle.rb_model.specs.Calls.{rows_now}
use Rattle.rb_model.specs.Rows.{value_of, has_row, over, rows_at, last_scn}
use Rattle.rb_model.specs.State as machine
use Rattle.rb_model.specs.Tests.{is_change, holds, holder}
use Rattle.rb_model.proofs.Values.{has_value}
use Rattle.rb_segment.specs.Header.{Segment}
use Rattle.law_blocks.specs.Says.{says}
use Rattle.law_blocks.specs.States.{InTables, newest_first, owned, lives_of, past_of, Owns}
use Rattle.law_blocks.specs.Values.{rows_here}
use Rattle.law_blocks.proofs.Homes.{own_here}
use Rattle.law_blocks.proofs.Seen.{distinct}
use Rattle.law_blocks.proofs.States.{lives_at}
use Rattle.law_write.specs.Stood.{StoodHome, Stood}
use Rattle.law_write.proofs.Finding.{find_only, find_passes, find_within}
use Rattle.law_write.proofs.Homes.{names_in, own_beyond, names_front, names_back, behind_over, rows_over, rows_here_is}
use Rattle.law_write.proofs.Sites.{one_home, row_block}
use Rattle.law_write.proofs.Trees.{KeyMatch, Alone, tree_key}
use Rattle.law_home.specs.Homes.{here, narrow}
use Rattle.law_home.specs.Steps.{HeldCell, Names}
use Rattle.law_home.specs.Walk.{Change, Env, Home, Walk, IsActive, own, behind, rows_of, row_of, cell_at, entry_at, lock_of, taken}
use Rattle.law_home.proofs.Holding.{held_cell, one_slot_names}
use Rattle.law_home.proofs.Holding as holding

-- the rows after all commits
pub rows_last_is : (h : State) → rows_at h.shape.blocks h.commits (last_scn h.commits) ≡ over h.shape.blocks h.commits.rows (flat_map (λ changes. changes) h.commits.list)
rows_last_is h =
    let whole : take (h.commits.base + length h.commits.list - h.commits.base) h.commits.list ≡ h.commits.list = take_all (h.commits.base + length h.commits.list - h.commits.base) h.commits.list (omega arith) in
    ap (λ list. over h.shape.blocks h.commits.rows (flat_map (λ changes. changes) list)) whole

pub some_any : {X : Type 0} (p : X → Bool) (xs : List X) → list_any p xs ≡ true → (x : X) × (more : List X) × (xs ≡ x ∷ more)
some_any p [] is = absurd (false≢true is)
some_any p (x ∷ xs) is = (x, xs, refl)

any_both : (p q : model.Change → Bool) (shape : Shape) (cs : List model.Change) → InTables shape cs → ((c : model.Change) → 1 ≤ c.table → p c ≡ q c) → list_any p cs ≡ list_any q cs
any_both p q shape [] tables same = refl
any_both p q shape (c ∷ cs) tables same = ap (λ b. b || list_any p cs) (same c tables.0.0) ∙ ap (λ b. q c || b) (any_both p q shape cs tables.1 same)

module _ (h : State) (xids : List Xid) (segments : ℕ → Segment) (homes : ℕ → Home) (stood : Stood h xids segments homes) where
  abbrev env : Env
  env = says h.shape segments

  abbrev lives : List (List Change)
  lives = lives_of h env

  pub some_blocks : 1 ≤ h.shape.blocks
  some_blocks = stood.in_range.few_blocks.0

  pub owner_within : (t : ℕ) (o : Owner) → owner_at h t ≡ Some o → t < SLOTS * h.shape.segments
  owner_within t o is = ⊎_elim (λ lt. lt) (λ le. absurd (beyond le)) (cases_lt t (SLOTS * h.shape.segments))
    where
      beyond : SLOTS * h.shape.segments ≤ t → ⊥
      beyond le =
          let a = div-add-mod t SLOTS in
          let m = mod-lt t (sixteen) in
          let out : length h.books ≤ t / SLOTS = let c = stood.books_counted in omega (arith, a, m, le, c) in
          let none : book_at h.books (t / SLOTS) ≡ fresh_book = lists.get_or-eq_default h.books fresh_book out in
          let no_owner : owner_at h t ≡ None = ap (λ (b : Book). (get_or b.slots (t % SLOTS) free_slot).owner) none ∙ ap (λ (s : BookSlot). s.owner) (get_or-replicate SLOTS (t % SLOTS) free_slot free_slot m) in
          let never : None ≡ Some o = sym no_owner ∙ is in
          cc
        where
          sixteen : 0 < SLOTS
          sixteen = omega arith

  module _ (table k : ℕ) (first : 1 ≤ table) (last : table ≤ h.shape.tables) where
    abbrev which : ℕ
    which = home_block h.shape table k

    abbrev b : Home
    b = homes which

    abbrev local : List (List Change)
    local = map (here which) lives

    pub home : StoodHome h xids segments which b
    home = stood.each which (row_block h.shape table k some_blocks first last)

    pub same_test : (c : model.Change) → 1 ≤ c.table → names_in h.shape which k c ≡ is_change table k c
    same_test c low = elim (cases_eq c.key k) [
      | inl is ↦ elim (cases_eq c.table table) [
        | inl t ↦
            let at : home_block h.shape c.table c.key ≡ which = ap (λ z. home_block h.shape z c.key) t ∙ ap (λ z. home_block h.shape table z) is in
            and_from (home_block h.shape c.table c.key == which) (c.key == k) (eq-eqb (home_block h.shape c.table c.key) which at) (eq-eqb c.key k is)
            ∙ sym (and_from (c.table == table) (c.key == k) (eq-eqb c.table table t) (eq-eqb c.key k is))
        | inr t ↦
            let ne : home_block h.shape c.table c.key ≢ which = λ at. t (one_home h.shape c.table c.key table k some_blocks low first at).0 in
            ap (λ x. x && (c.key == k)) (ne_eqb (home_block h.shape c.table c.key) which ne ∙ sym (ne_eqb c.table table t))
      ]
      | inr ne ↦ no_both (home_block h.shape c.table c.key == which) (c.table == table) (c.key == k) (ne_eqb c.key k ne)
    ]
      where
        no_both : (x y z : Bool) → z ≡ false → (x && z) ≡ (y && z)
        no_both true true z e = refl
        no_both true false z e = e
        no_both false true z e = sym e
        no_both false false z e = refl

    held_any : (s : ℕ) → list_any (names_in h.shape which k) (session_own h s) ≡ holds h s table k
    held_any s = any_both (names_in h.shape which k) (is_change table k) h.shape (session_own h s) (stood.tables s) same_test

    -- a slot's changes here are those of its owner
    pub local_of : (t : ℕ) (o : Owner) → owner_at h t ≡ Some o → own local t ≡ here which (newest_first h.shape (env.xid t) 1 (session_own h o.session) [])
    local_of t o is = own_here which lives t ∙ ap (here which) (lives_at h env t (owner_within t o is) ∙ ap (owned h (env.xid t)) is)

    pub local_none : (t : ℕ) → owner_at h t ≡ None → own local t ≡ []
    local_none t is = own_here which lives t ∙ ⊎_elim
        (λ lt. ap (here which) (lives_at h env t lt ∙ ap (owned h (env.xid t)) is))
        (λ le. ap (here which) (own_beyond h env t le))
        (cases_lt t (SLOTS * h.shape.segments))

    -- the owner of a slot whose changes name the key holds it
    pub named_slot : (t : ℕ) → Names (own local t) k → (o : Owner) × (owner_at h t ≡ Some o) × (holds h o.session table k ≡ true)
    named_slot t named = by_owner (owner_at h t) refl
      where
        by_owner : (o : Option Owner) → owner_at h t ≡ o → (o : Owner) × (owner_at h t ≡ Some o) × (holds h o.session table k ≡ true)
        by_owner None is = absurd (subst (λ (l : List Change). Names l k) (local_none t is) named)
        by_owner (Some o) is =
            let here_named : Names (here which (newest_first h.shape (env.xid t) 1 (session_own h o.session) [])) k = subst (λ (l : List Change). Names l k) (local_of t o is) named in
            (o, is, ⊎_elim (λ any. sym (held_any o.session) ∙ any) (λ never. absurd never) (names_front h.shape which k (env.xid t) 1 (session_own h o.session) [] here_named))

    -- a session that holds the key owns a slot, whose changes name it
    pub held_slot : (s : ℕ) → 1 ≤ s → holds h s table k ≡ true → (t : ℕ) × Owns h s t × Names (own local t) k
    held_slot s low held =
        let f : (c : model.Change) × (more : List model.Change) × (session_own h s ≡ c ∷ more) = some_any (is_change table k) (session_own h s) held in
        let slot : (t : ℕ) × (t < SLOTS * h.shape.segments) × Owns h s t = stood.has_slot s f.0 f.1 low f.2 in
        let owns : Owns h s slot.0 = slot.2 in
        let any : list_any (names_in h.shape which k) (session_own h owns.owner.session) ≡ true = ap (λ z. list_any (names_in h.shape which k) (session_own h z)) owns.session ∙ (held_any s ∙ held) in
        (slot.0, owns, subst (λ (l : List Change). Names l k) (sym (local_of slot.0 owns.owner owns.at)) (names_back h.shape which k (env.xid slot.0) 1 (session_own h owns.owner.session) [] any))

    -- the rows after the commits
    pub base_rows : rows_of (rows_here h.shape which h.commits.rows) (map (narrow which) (past_of h xids).list) k ≡ value_of table k (rows_at h.shape.blocks h.commits (last_scn h.commits))
    base_rows =
        rows_over h.shape table k some_blocks first (h.commits.base + 1) h.commits.list xids [] (rows_here h.shape which h.commits.rows) h.commits.rows stood.commit_tables stood.counted (rows_here_is h.shape table k some_blocks first h.commits.rows)
        ∙ ap (value_of table k) (sym (rows_last_is h))

    -- what the cells show of the key, where no slot but one names it
    shown_alone : (t : ℕ) → Alone local t k → KeyMatch b k (behind (own local t) (rows_of (rows_here h.shape which h.commits.rows) (map (narrow which) (past_of h xids).list)) k)
    shown_alone t alone = tree_key env h.commits.base (rows_here h.shape which h.commits.rows) (map (narrow which) (past_of h xids).list) t k home.m local b home.unique alone home.tree

    -- The cells show of a key that no other session holds what the session sees.
    pub present : (s : ℕ) → 1 ≤ s → ((u : ℕ) → 1 ≤ u → u ≢ s → holds h u table k ≡ false) → KeyMatch b k (value_of table k (rows_now h s))
    present s low others = elim (cases_own (session_own h s) refl) [
      | inl none ↦
          let t : ℕ = SLOTS * h.shape.segments in
          let alone : Alone local t k = λ u ne named. let f : (o : Owner) × (owner_at h u ≡ Some o) × (holds h o.session table k ≡ true) = named_slot u named in
          elim (cases_eq f.0.session s) [
            | inl is ↦ let held : holds h s table k ≡ true = ap (λ z. holds h z table k) (sym is) ∙ f.2 in false≢true (sym (ap (list_any (is_change table k)) none) ∙ held)
            | inr other ↦ false≢true (sym (others f.0.session (stood.owners u f.0 f.1).0 other) ∙ f.2)
          ] in
          let empty : own local t ≡ [] = own_here which lives t ∙ ap (here which) (own_beyond h env t (omega arith)) in
          let sees : behind (own local t) (rows_of (rows_here h.shape which h.commits.rows) (map (narrow which) (past_of h xids).list)) k ≡ value_of table k (rows_now h s) =
          ap (λ (l : List Change). behind l (rows_of (rows_here h.shape which h.commits.rows) (map (narrow which) (past_of h xids).list)) k) empty
          ∙ base_rows ∙ ap (λ cs. value_of table k (over h.shape.blocks (rows_at h.shape.blocks h.commits (last_scn h.commits)) cs)) (sym none) in
          subst (λ x. KeyMatch b k x) sees (shown_alone t alone)
      | inr some ↦
          let slot : (t : ℕ) × (t < SLOTS * h.shape.segments) × Owns h s t = stood.has_slot s some.0 some.1 low some.2 in
          let owns : Owns h s slot.0 = slot.2 in
          let alone : Alone local slot.0 k = λ u ne named. let f : (o : Owner) × (owner_at h u ≡ Some o) × (holds h o.session table k ≡ true) = named_slot u named in
          elim (cases_eq f.0.session s) [
            | inl is ↦ ne (stood.one_slot s u slot.0 (record { owner = f.0; at = f.1; session = is }) owns)
            | inr other ↦ false≢true (sym (others f.0.session (stood.owners u f.0 f.1).0 other) ∙ f.2)
          ] in
          let own_is : own local slot.0 ≡ here which (newest_first h.shape (env.xid slot.0) 1 (session_own h s) []) = local_of slot.0 owns.owner owns.at ∙ ap (λ z. here which (newest_first h.shape (env.xid slot.0) 1 (session_own h z) [])) owns.session in
          let sees : behind (own local slot.0) (rows_of (rows_here h.shape which h.commits.rows) (map (narrow which) (past_of h xids).list)) k ≡ value_of table k (rows_now h s) =
          ap (λ (l : List Change). behind l (rows_of (rows_here h.shape which h.commits.rows) (map (narrow which) (past_of h xids).list)) k) own_is
          ∙ behind_over h.shape table k some_blocks first (env.xid slot.0) 1 (session_own h s) [] (rows_of (rows_here h.shape which h.commits.rows) (map (narrow which) (past_of h xids).list)) (rows_at h.shape.blocks h.commits (last_scn h.commits)) (stood.tables s) base_rows in
          subst (λ x. KeyMatch b k x) sees (shown_alone slot.0 alone)
    ]
      where
        cases_own : (l : List model.Change) → session_own h s ≡ l → (session_own h s ≡ []) ⊎ ((c : model.Change) × (more : List model.Change) × (session_own h s ≡ c ∷ more))
        cases_own [] is = inl is
        cases_own (c ∷ more) is = inr (c, more, is)

    -- and so the row is there where the session sees one
    pub present_sees : (s : ℕ) → 1 ≤ s → ((u : ℕ) → 1 ≤ u → u ≢ s → holds h u table k ≡ false) → (j : ℕ) (v : List ℕ) → row_of (cell_at b j) k ≡ Some v → has_row table k (rows_now h s) ≡ true
    present_sees s low others j v shown = has_value table k (rows_now h s) ∙ ap is_some ((present s low others).sound j v shown)

    pub sees_present : (s : ℕ) → 1 ≤ s → ((u : ℕ) → 1 ≤ u → u ≢ s → holds h u table k ≡ false) → has_row table k (rows_now h s) ≡ true → (j : ℕ) × (v : List ℕ) × (row_of (cell_at b j) k ≡ Some v)
    sees_present s low others has = by_value (value_of table k (rows_now h s)) refl
      where
        by_value : (x : Option (List ℕ)) → value_of table k (rows_now h s) ≡ x → (j : ℕ) × (v : List ℕ) × (row_of (cell_at b j) k ≡ Some v)
        by_value None is = absurd (false≢true (sym (ap is_some is) ∙ (sym (has_value table k (rows_now h s)) ∙ has)))
        by_value (Some v) is = let p : (j : ℕ) × (row_of (cell_at b j) k ≡ Some v) = (present s low others).complete v is in (p.0, v, p.1)

    -- At most one session holds a key.
    pub one_holds : (s u : ℕ) → 1 ≤ s → 1 ≤ u → holds h s table k ≡ true → holds h u table k ≡ true → s ≡ u
    one_holds s u s_low u_low first_holds second_holds =
        let a : (t : ℕ) × Owns h s t × Names (own local t) k = held_slot s s_low first_holds in
        let c : (t : ℕ) × Owns h u t × Names (own local t) k = held_slot u u_low second_holds in
        let slots : a.0 ≡ c.0 = one_slot_names env (Walk env h.commits.base (rows_here h.shape which h.commits.rows) (map (narrow which) (past_of h xids).list)) home.m local b (distinct h.shape segments) home.unique home.tree a.0 c.0 k a.2 c.2 in
        let oa : Owns h s a.0 = a.1 in
        let oc : Owns h u c.0 = c.1 in
        let owners : Some oa.owner ≡ Some oc.owner = sym oa.at ∙ (ap (owner_at h) slots ∙ oc.at) in
        let same : oa.owner ≡ oc.owner = cc in
        sym oa.session ∙ (ap (λ (o : Owner). o.session) same ∙ oc.session)

    -- the slot that an active entry's lock names, and the session that owns it
    pub record HolderOf (i : ℕ) : Type 0 where
      pub slot : ℕ
      pub owner : Owner
      pub owned_by : owner_at h slot ≡ Some owner
      pub xid : (entry_at b i).xid ≡ env.xid slot
      pub is : holder h table k ≡ Some owner.session

    -- A key whose cell an active entry locks is held by the session that owns that entry's slot.
    pub holder_of_lock : (i j : ℕ) → IsActive env (entry_at b i) → taken (cell_at b j) ≡ Some k → lock_of (cell_at b j) ≡ suc i → HolderOf i
    holder_of_lock i j active has lock =
        let f : (t : ℕ) × ((entry_at b i).xid ≡ env.xid t) × Names (own local t) k = holding.holder env h.commits.base (rows_here h.shape which h.commits.rows) (map (narrow which) (past_of h xids).list) home.m local b (distinct h.shape segments) home.tree i j k active has lock in
        let g : (o : Owner) × (owner_at h f.0 ≡ Some o) × (holds h o.session table k ≡ true) = named_slot f.0 f.2 in
        let within = stood.owners f.0 g.0 g.1 in
        record {
          slot = f.0;
          owner = g.0;
          owned_by = g.1;
          xid = f.1;
          is = find_only (λ s. holds h s table k) 1 (length h.sessions) g.0.session within.0 (let w = within.1 in omega (arith, w)) g.2 (λ u low held. one_holds u g.0.session low within.0 held g.2);
        }

    -- And a key that a session holds has a cell, which the entry of that session's slot locks.
    pub lock_of_holder : (s : ℕ) → holder h table k ≡ Some s → (t : ℕ) × Owns h s t × HeldCell env b t k
    lock_of_holder s is =
        let held : holds h s table k ≡ true = find_passes (λ s. holds h s table k) (range_with_len 1 (length h.sessions)) s is in
        let f : (t : ℕ) × Owns h s t × Names (own local t) k = held_slot s (find_within (λ s. holds h s table k) 1 (length h.sessions) s is).0 held in
        (f.0, f.1, held_cell env (Walk env h.commits.base (rows_here h.shape which h.commits.rows) (map (narrow which) (past_of h xids).list)) home.m local b home.tree f.0 k f.2)

    -- a session that holds the key is the holder
    pub holder_is : (s : ℕ) → 1 ≤ s → holds h s table k ≡ true → (t : ℕ) × Owns h s t × (holder h table k ≡ Some s)
    holder_is s up held =
        let f : (t : ℕ) × Owns h s t × Names (own local t) k = held_slot s up held in
        let o : Owns h s f.0 = f.1 in
        let within = stood.owners f.0 o.owner o.at in
        let low : 1 ≤ s = let w = within.0 in let e = o.session in omega (arith, w, e) in
        let high : s < 1 + length h.sessions = let w = within.1 in let e = o.session in omega (arith, w, e) in
        (f.0, o, find_only (λ s. holds h s table k) 1 (length h.sessions) s low high held (λ u u_low u_held. one_holds u s u_low up u_held held))

    -- where nobody else holds the key, as the test before this one found
    pub not_others : (s : ℕ) → (holder h table k ≡ None) ⊎ (holder h table k ≡ Some s) → (u : ℕ) → 1 ≤ u → u ≢ s → holds h u table k ≡ false
    not_others s nobody u up ne = elim (cases_Bool (holds h u table k)) [
      | inl held ↦
          let f : (t : ℕ) × Owns h u t × (holder h table k ≡ Some u) = holder_is u up held in
          ⊎_elim (λ none. let never : None ≡ Some u = sym none ∙ f.2 in absurd cc) (λ this. let same : Some s ≡ Some u = sym this ∙ f.2 in let e : s ≡ u = cc in absurd (ne (sym e))) nobody
      | inr free ↦ free
    ]

    -- The cells show of a key that nobody holds what the commits say.
    pub present_base : ((u : ℕ) → 1 ≤ u → holds h u table k ≡ false) → KeyMatch b k (value_of table k (rows_at h.shape.blocks h.commits (last_scn h.commits)))
    present_base nobody =
        let t : ℕ = SLOTS * h.shape.segments in
        let alone : Alone local t k = λ u ne named. let f : (o : Owner) × (owner_at h u ≡ Some o) × (holds h o.session table k ≡ true) = named_slot u named in false≢true (sym (nobody f.0.session (stood.owners u f.0 f.1).0) ∙ f.2) in
        let empty : own local t ≡ [] = own_here which lives t ∙ ap (here which) (own_beyond h env t (omega arith)) in
        let sees : behind (own local t) (rows_of (rows_here h.shape which h.commits.rows) (map (narrow which) (past_of h xids).list)) k ≡ value_of table k (rows_at h.shape.blocks h.commits (last_scn h.commits)) =
        ap (λ (l : List Change). behind l (rows_of (rows_here h.shape which h.commits.rows) (map (narrow which) (past_of h xids).list)) k) empty ∙ base_rows in
        subst (λ x. KeyMatch b k x) sees (shown_alone t alone)

    -- somebody holds the key, or nobody
    pub some_holder : ((s : ℕ) × (1 ≤ s) × (holds h s table k ≡ true)) ⊎ ((u : ℕ) → 1 ≤ u → holds h u table k ≡ false)
    some_holder = by_find (holder h table k) refl
      where
        by_find : (o : Option ℕ) → holder h table k ≡ o → ((s : ℕ) × (1 ≤ s) × (holds h s table k ≡ true)) ⊎ ((u : ℕ) → 1 ≤ u → holds h u table k ≡ false)
        by_find (Some s) is = inl (s, (find_within (λ s. holds h s table k) 1 (length h.sessions) s is).0, find_passes (λ s. holds h s table k) (range_with_len 1 (length h.sessions)) s is)
        by_find None is = inr (λ u up. elim (cases_Bool (holds h u table k)) [
          | inl held ↦ let f : (t : ℕ) × Owns h u t × (holder h table k ≡ Some u) = holder_is u up held in let never : None ≡ Some u = sym is ∙ f.2 in absurd cc
          | inr free ↦ free
        ])
