-- What a reader sees of a home, by the walk's words, is what the cursor sees, and it is few changes.
use Rattle.std.proofs.Common.{◌≡◌, ◌<◌, ◌≤◌, ◌+◌, ◌-◌, ◌*◌, ◌==◌, nat_lt, ℕ, true, false, List, [], ◌∷◌, length, map, take, get_or, Option, Some, None, refl, sym, ◌∙◌, ap, subst, arith}
use Rattle.std.proofs.lemmas.Bool.{eq-eqb}
use Rattle.std.proofs.lemmas.Bool.Decides.{nat_tests}
use Rattle.std.specs.List.{flat_map}
use Rattle.rb_base.specs.Blocks.{home_block}
use Rattle.rb_base.specs.declared.ids.Xid.{Xid}
use Rattle.rb_base.specs.declared.sizes.TheConstants.{ACTIVE, SLOTS}
use Rattle.rb_model.specs.Book.{Owner}
use Rattle.rb_model.specs.Change as model
use Rattle.rb_model.specs.Rows.{TableRow, over, value_of}
use Rattle.rb_model.specs.Rows as rows
use Rattle.rb_model.specs.State as machine
use Rattle.rb_model.specs.State.{State, owner_at, session_own}
use Rattle.law_read.specs.Keeping.{behind_mine, first_count}
use Rattle.law_read.specs.Reading.{Reader, flat, rows_at}
use Rattle.rb_segment.specs.Header.{Segment}
use Rattle.rb_sessions.specs.Kept.{KeptCursor}
use Rattle.rb_sessions.specs.declared.cursor.Cursor.{Cursor}
use Rattle.law_blocks.specs.Standing.{env_of, homes_of, segments_of}
use Rattle.law_blocks.specs.States.{BlocksStand, lives_of, no_xid, past_of}
use Rattle.law_blocks.specs.Values.{rows_here, slot_of}
use Rattle.law_blocks.proofs.Ids.{active_of}
use Rattle.rb_txntable.specs.Looks.{slot_look}
use Rattle.rb_txntable.specs.declared.looks.Look.TheVariants.{Active}
use Rattle.rb_txntable.specs.declared.slots.TableSlot.{TableSlot}
use Rattle.law_write.specs.Stood.{Stood}
use Rattle.law_write.proofs.Homes.{rows_here_is}
use Rattle.law_write.proofs.Presence.{local_none, local_of, owner_within, some_blocks}
use Rattle.law_write.proofs.StoodBlocks.{stood_of}
use Rattle.law_sessions.specs.Views.{Frozen, IsCursor, done, live, none}
use Rattle.law_sessions.proofs.Freezing.{Unseen, count_few, count_none, flat_few, flat_none, flat_seen, flat_unseen, mine_over, rows_at_from, skip_all, unseen_other, unseen_zero}
use Rattle.law_home.specs.Homes.{here, narrow}
use Rattle.law_home.specs.Walk.{Change, Commit, Env, Rows, own}

-- a slot that is Active says so of the transaction that took it last
pub active_look : (s : TableSlot) → s.state ≡ 1 → slot_look s s.wrap ≡ Active
active_look s is =
    let a : nat_lt s.wrap s.wrap ≡ false = same_lt s.wrap in
    let c : (s.wrap == s.wrap) ≡ true = eq-eqb s.wrap s.wrap refl in
    let d : (s.state == 1) ≡ true = eq-eqb s.state 1 is in
    rw (a, c, d) refl
  where
    same_lt : (n : ℕ) → nat_lt n n ≡ false
    same_lt n = grind (arith, nat_tests)

own_empty : {X : Type 0} (xs : List X) → length xs ≡ 0 → xs ≡ []
own_empty [] is = refl
own_empty (x ∷ xs) is = absurd (omega (arith, is))

module _ (h : State) (xids : List Xid) (blocks : List (List ℕ)) (stand : BlocksStand h xids blocks) where
  abbrev env : Env
  env = env_of h.shape blocks

  abbrev segments : ℕ → Segment
  segments = segments_of h.shape blocks

  stood : Stood h xids (segments_of h.shape blocks) (homes_of h.shape blocks)
  stood = stood_of h xids blocks stand

  within : (t : ℕ) (o : Owner) → owner_at h t ≡ Some o → t < SLOTS * h.shape.segments
  within = owner_within h xids (segments_of h.shape blocks) (homes_of h.shape blocks) stood

  pub owned_active : (t : ℕ) (o : Owner) → owner_at h t ≡ Some o → (slot_of segments t).state ≡ ACTIVE
  owned_active t o is = active_of h segments stand.tell.books t (within t o is) o is

  -- the transaction of a slot that is owned isn't that of a commit
  pub apart : (i t : ℕ) (o : Owner) → i < length xids → owner_at h t ≡ Some o → get_or xids i no_xid ≡ env.xid t → ⊥
  apart i t o lt is same = stand.tell.ids_over i t lt (within t o is) (owned_active t o is) same

  module _ (table k : ℕ) (first : 1 ≤ table) (last : table ≤ h.shape.tables) where
    abbrev which : ℕ
    which = home_block h.shape table k

    abbrev local : List (List Change)
    local = map (here which) (lives_of h env)

    abbrev list : List Commit
    list = map (narrow which) (past_of h xids).list

    abbrev base : Rows
    base = rows_here h.shape which h.commits.rows

    some : 1 ≤ h.shape.blocks
    some = some_blocks h xids (segments_of h.shape blocks) (homes_of h.shape blocks) stood

    -- the rows at a number, of this home
    rows_at_is : (n : ℕ) → h.commits.base ≤ n → rows_at n base list k ≡ value_of table k (rows.rows_at h.shape.blocks h.commits n)
    rows_at_is n low =
        rows_at_from h.shape table k some first None 0 base n (h.commits.base + 1) h.commits.list xids [] h.commits.rows (omega (arith, low)) stand.tell.counted stand.tell.commit_tables refl (rows_here_is h.shape table k some first h.commits.rows)
        ∙ ap (λ d. value_of table k (over h.shape.blocks h.commits.rows (flat_map (λ changes. changes) (take d h.commits.list)))) (omega (arith, low))

    -- of another slot than the reader's own nothing is seen
    other_slot : (mine : Option Xid) (upto r : ℕ) (over_rows : Rows) → ((o : Owner) → owner_at h r ≡ Some o → Unseen mine upto (env.xid r)) → behind_mine mine upto (own local r) over_rows k ≡ over_rows k
    other_slot mine upto r over_rows unseen = by_owner (owner_at h r) refl
      where
        by_owner : (o : Option Owner) → owner_at h r ≡ o → behind_mine mine upto (own local r) over_rows k ≡ over_rows k
        by_owner None is = ap (λ (l : List Change). behind_mine mine upto l over_rows k) (local_none h xids segments (homes_of h.shape blocks) stood table k first last r is)
        by_owner (Some o) is =
            ap (λ (l : List Change). behind_mine mine upto l over_rows k) (local_of h xids segments (homes_of h.shape blocks) stood table k first last r o is)
            ∙ skip_all h.shape table k some first mine upto (env.xid r) 1 (session_own h o.session) [] over_rows (omega arith) (unseen o is)

  module _ (s : ℕ) (kept : KeptCursor) (c : machine.Cursor) (is_cursor : IsCursor h xids env s kept c) (r : ℕ) (reader : Reader env r kept.cursor.own) (k : ℕ) where
    abbrev m : Cursor
    m = kept.cursor

    abbrev at : ℕ
    at = home_block h.shape c.table k

    abbrev here_list : List Commit
    here_list = map (narrow at) (past_of h xids).list

    abbrev here_own : List Change
    here_own = own (map (here at) (lives_of h env)) r

    abbrev here_base : Rows
    here_base = rows_at c.number (rows_here h.shape at h.commits.rows) here_list

    abbrev rows_then : List TableRow
    rows_then = rows.rows_at h.shape.blocks h.commits c.number

    base_is : here_base k ≡ value_of c.table k rows_then
    base_is = rows_at_is c.table k is_cursor.in_tables.0 is_cursor.in_tables.1 c.number is_cursor.above

    some_here : 1 ≤ h.shape.blocks
    some_here = some_blocks h xids (segments_of h.shape blocks) (homes_of h.shape blocks) stood

    by_own : (l l2 : List model.Change) → l ≡ l2 → value_of c.table k (over h.shape.blocks rows_then l) ≡ value_of c.table k (over h.shape.blocks rows_then l2)
    by_own l l2 same = ap (λ (z : List model.Change). value_of c.table k (over h.shape.blocks rows_then z)) same

    -- the ids of two transactions
    id_both : (x y : Xid) → m.own ≡ Some x → m.own ≡ Some y → x ≡ y
    id_both x y is same = let both : Some x ≡ Some y = sym is ∙ same in cc

    -- the commits aren't of the transaction that has slot t
    commits_other : (t : ℕ) (o : Owner) → owner_at h t ≡ Some o → m.own ≡ Some (env.xid t) → (i : ℕ) → i < length xids → Unseen m.own m.upto (get_or xids i no_xid)
    commits_other t o is mine i lt = unseen_other m.own m.upto (get_or xids i no_xid) (λ same. apart i t o lt is (id_both (get_or xids i no_xid) (env.xid t) same mine))

    -- nor has the transaction of commit i a slot, or another commit
    slot_other : (i : ℕ) → i < length xids → m.own ≡ Some (get_or xids i no_xid) → (o : Owner) → owner_at h r ≡ Some o → Unseen m.own m.upto (env.xid r)
    slot_other i lt mine o is = unseen_other m.own m.upto (env.xid r) (λ same. apart i r o lt is (id_both (get_or xids i no_xid) (env.xid r) mine same))

    others_other : (i : ℕ) → i < length xids → m.own ≡ Some (get_or xids i no_xid) → (j : ℕ) → j < length xids → (j ≡ i → ⊥) → Unseen m.own m.upto (get_or xids j no_xid)
    others_other i lt mine j j_lt ne =
        unseen_other m.own m.upto (get_or xids j no_xid) (λ same. ne (stand.tell.ids_differ j i j_lt lt (id_both (get_or xids j no_xid) (get_or xids i no_xid) same mine)))

    -- What a rebuild of the key's home keeps for the reader, over the rows at the cursor's number, is what the cursor sees.
    pub frozen_rows : behind_mine m.own m.upto here_own (behind_mine m.own m.upto (flat c.number here_list) here_base) k ≡ value_of c.table k (over h.shape.blocks rows_then c.own)
    frozen_rows = by_case is_cursor.frozen
      where
        by_case : Frozen h xids env s m c → behind_mine m.own m.upto here_own (behind_mine m.own m.upto (flat c.number here_list) here_base) k ≡ value_of c.table k (over h.shape.blocks rows_then c.own)
        by_case (none zero_is) =
            other_slot c.table k is_cursor.in_tables.0 is_cursor.in_tables.1 m.own m.upto r (behind_mine m.own m.upto (flat c.number here_list) here_base) (λ o is. unseen_zero m.own m.upto (env.xid r) zero_is)
            ∙ (flat_unseen h.shape c.table k some_here is_cursor.in_tables.0 m.own m.upto c.number (h.commits.base + 1) h.commits.list xids [] here_base (value_of c.table k rows_then) (λ i lt. unseen_zero m.own m.upto (get_or xids i no_xid) zero_is) (λ le. base_is) base_is
            ∙ by_own [] c.own (sym (own_empty c.own (sym is_cursor.upto ∙ zero_is))))
        by_case (live t present owns mine own_is) =
            let slot : t ≡ r = reader t (active_look (slot_of segments t) (owned_active t owns.owner owns.at)) (sym mine) in
            let inner : behind_mine m.own m.upto (flat c.number here_list) here_base k ≡ value_of c.table k rows_then =
            flat_unseen h.shape c.table k some_here is_cursor.in_tables.0 m.own m.upto c.number (h.commits.base + 1) h.commits.list xids [] here_base (value_of c.table k rows_then)
            (commits_other t owns.owner owns.at mine) (λ le. base_is) base_is in
            let owner : owner_at h r ≡ Some owns.owner = subst (λ z. owner_at h z ≡ Some owns.owner) slot owns.at in
            let mine_r : m.own ≡ Some (env.xid r) = subst (λ z. m.own ≡ Some (env.xid z)) slot mine in
            ap (λ (l : List Change). behind_mine m.own m.upto l (behind_mine m.own m.upto (flat c.number here_list) here_base) k) (local_of h xids segments (homes_of h.shape blocks) stood c.table k is_cursor.in_tables.0 is_cursor.in_tables.1 r owns.owner owner)
            ∙ (mine_over h.shape c.table k some_here is_cursor.in_tables.0 m.own m.upto (env.xid r) 1 (session_own h owns.owner.session) [] (behind_mine m.own m.upto (flat c.number here_list) here_base) rows_then mine_r (stand.tell.tables owns.owner.session) inner
            ∙ by_own (take (m.upto + 1 - 1) (session_own h owns.owner.session)) c.own (ap (λ d. take d (session_own h owns.owner.session)) (omega arith) ∙ (ap (λ z. take m.upto (session_own h z)) owns.session ∙ sym own_is)))
        by_case (done i few high mine own_is) =
            let lt : i < length xids = let n = stand.tell.counted in omega (arith, n, few) in
            other_slot c.table k is_cursor.in_tables.0 is_cursor.in_tables.1 m.own m.upto r (behind_mine m.own m.upto (flat c.number here_list) here_base) (slot_other i lt mine)
            ∙ (flat_seen h.shape c.table k some_here is_cursor.in_tables.0 m.own m.upto c.number (h.commits.base + 1) i h.commits.list xids [] here_base rows_then stand.tell.counted few (omega (arith, high)) mine
            (others_other i lt mine) stand.tell.commit_tables base_is base_is
            ∙ by_own (take m.upto (get_or h.commits.list i [])) c.own (sym own_is))

    own_unseen : ((o : Owner) → owner_at h r ≡ Some o → Unseen m.own m.upto (env.xid r)) → first_count m.own m.upto here_own ≡ 0
    own_unseen unseen = by_owner (owner_at h r) refl
      where
        by_owner : (o : Option Owner) → owner_at h r ≡ o → first_count m.own m.upto here_own ≡ 0
        by_owner None is = ap (λ (l : List Change). first_count m.own m.upto l) (local_none h xids segments (homes_of h.shape blocks) stood c.table k is_cursor.in_tables.0 is_cursor.in_tables.1 r is)
        by_owner (Some o) is =
            ap (λ (l : List Change). first_count m.own m.upto l) (local_of h xids segments (homes_of h.shape blocks) stood c.table k is_cursor.in_tables.0 is_cursor.in_tables.1 r o is)
            ∙ count_none h.shape at m.own m.upto (env.xid r) 1 (session_own h o.session) [] (omega arith) (unseen o is)

    -- A rebuild keeps no more rows for the cursor than it sees changes.
    pub first_few : first_count m.own m.upto here_own + first_count m.own m.upto (flat c.number here_list) ≤ m.upto
    first_few = by_case is_cursor.frozen
      where
        by_case : Frozen h xids env s m c → first_count m.own m.upto here_own + first_count m.own m.upto (flat c.number here_list) ≤ m.upto
        by_case (none zero_is) =
            let a = own_unseen (λ o is. unseen_zero m.own m.upto (env.xid r) zero_is) in
            let b = flat_none h.shape at m.own m.upto c.number (h.commits.base + 1) h.commits.list xids [] (λ i lt. unseen_zero m.own m.upto (get_or xids i no_xid) zero_is) in
            omega (arith, a, b)
        by_case (live t present owns mine own_is) =
            let slot : t ≡ r = reader t (active_look (slot_of segments t) (owned_active t owns.owner owns.at)) (sym mine) in
            let owner : owner_at h r ≡ Some owns.owner = subst (λ z. owner_at h z ≡ Some owns.owner) slot owns.at in
            let l = ap (λ (l : List Change). first_count m.own m.upto l) (local_of h xids segments (homes_of h.shape blocks) stood c.table k is_cursor.in_tables.0 is_cursor.in_tables.1 r owns.owner owner) in
            let a = count_few h.shape at m.own m.upto (env.xid r) 1 (session_own h owns.owner.session) [] in
            let b = flat_none h.shape at m.own m.upto c.number (h.commits.base + 1) h.commits.list xids [] (commits_other t owns.owner owns.at mine) in
            omega (arith, l, a, b)
        by_case (done i few high mine own_is) =
            let lt : i < length xids = let n = stand.tell.counted in omega (arith, n, few) in
            let a = own_unseen (slot_other i lt mine) in
            let b = flat_few h.shape at m.own m.upto c.number (h.commits.base + 1) i h.commits.list xids [] lt (others_other i lt mine) in
            omega (arith, a, b)
