-- When all entries of a home are of other sessions.
use Rattle.std.proofs.Common.{◌≡◌, ◌≢◌, inl, inr, ⊎_elim, ◌<◌, ◌≤◌, ◌+◌, ◌-◌, ◌*◌, ◌%◌, ◌==◌, ◌||◌, nat_eq, ℕ, Bool, true, not, List, [], ◌∷◌, length, map, filter, Option, Some, None, refl, sym, ◌∙◌, ap, subst, arith}
use Rattle.std.proofs.lemmas.Bool.{cases_eq, cases_Bool, and_parts, and_from, eq-eqb, eqb-true, false≢true, le-leb, leb-true, ne_eqb}
use Rattle.std.proofs.lemmas.List.FromFn.{length-range_with_len}
use Rattle.std.specs.List.{list_any, range_with_len, AllByRecursion, IsDistinct}
use Rattle.rb_base.specs.declared.sizes.TheConstants.{SLOTS}
use Rattle.rb_itl.specs.declared.slots.TheConstants.{ENTRIES}
use Rattle.rb_base.specs.Blocks.{home_block}
use Rattle.rb_base.specs.declared.ids.Xid.{Xid}
use Rattle.rb_model.specs.Book.{Owner}
use Rattle.rb_model.specs.Change as model
use Rattle.rb_model.specs.Full.{has_key}
use Rattle.rb_model.specs.State.{State, session_own, owner_at}
use Rattle.rb_model.specs.Tests.{is_in_home, works_in, full_slots}
use Rattle.rb_model.proofs.UsedKeys.{distinct_within}
use Rattle.rb_segment.specs.Header.{Segment}
use Rattle.law_blocks.specs.Says.{says}
use Rattle.law_blocks.specs.States.{newest_first, lives_of, past_of, Owns}
use Rattle.law_blocks.specs.Values.{rows_here}
use Rattle.law_blocks.proofs.Seen.{distinct}
use Rattle.law_write.specs.Stood.{StoodHome, Stood}
use Rattle.law_write.proofs.Finding.{has_range, range_has, has_filter, filter_has, distinct_range, distinct_filter, distinct_cons, or_right, Sent, sent, no_more}
use Rattle.law_write.proofs.Homes.{names_in, names_front, names_back}
use Rattle.law_write.proofs.Presence as presence
use Rattle.law_write.proofs.Presence.{some_blocks, local_of, local_none}
use Rattle.law_write.proofs.Sites.{one_home}
use Rattle.law_home.specs.Homes.{here, narrow}
use Rattle.law_home.specs.Steps.{EntryOf, Names}
use Rattle.law_home.specs.Walk.{Change, Env, Home, Walk, IsActive, own, entry_at}
use Rattle.law_home.proofs.Holding.{entry_of_slot, entries_apart, some_named}
use Rattle.law_home.proofs.Lives.{found}

-- one that passes a test
record Passing (P p : model.Change → Type 0) (xs : List model.Change) : Type 0 where
  item : model.Change
  has : P item
  passes : p item
  again : (q : model.Change → Bool) → q item ≡ true → list_any q xs ≡ true

passing : (P : model.Change → Type 0) (p : model.Change → Bool) (xs : List model.Change) → AllByRecursion P xs → list_any p xs ≡ true → Passing P (λ c. p c ≡ true) xs
passing P p [] all is = absurd (false≢true is)
passing P p (x ∷ xs) all is = elim (cases_Bool (p x)) [
  | inl here ↦ record { item = x; has = all.0; passes = here; again = λ q qx. ap (λ b. b || list_any q xs) qx }
  | inr not_here ↦
      let rest : Passing P (λ c. p c ≡ true) xs = passing P p xs all.1 (sym (ap (λ b. b || list_any p xs) not_here) ∙ is) in
      record { item = rest.item; has = rest.has; passes = rest.passes; again = λ q qx. or_right (q x) (list_any q xs) (rest.again q qx) }
]

module _ (h : State) (xids : List Xid) (segments : ℕ → Segment) (homes : ℕ → Home) (stood : Stood h xids segments homes) (s table k : ℕ) (first : 1 ≤ table) (last : table ≤ h.shape.tables) where
  abbrev pub env : Env
  env = says h.shape segments

  abbrev pub which : ℕ
  which = home_block h.shape table k

  abbrev pub b : Home
  b = homes which

  abbrev pub local : List (List Change)
  local = map (here which) (lives_of h env)

  abbrev pub Below : Home → Type 0
  Below = Walk env h.commits.base (rows_here h.shape which h.commits.rows) (map (narrow which) (past_of h xids).list)

  pub home : StoodHome h xids segments which b
  home = presence.home h xids segments homes stood table k first last

  -- a session with changes in the home owns a slot, and that slot has live changes here
  pub works_slot : (u : ℕ) → 1 ≤ u → list_any (is_in_home h.shape table k) (session_own h u) ≡ true → (t : ℕ) × Owns h u t × ((ch : Change) × (more : List Change) × (own local t ≡ ch ∷ more))
  works_slot u low any =
      let f : (c : model.Change) × (more : List model.Change) × (session_own h u ≡ c ∷ more) = presence.some_any (is_in_home h.shape table k) (session_own h u) any in
      let slot : (t : ℕ) × (t < SLOTS * h.shape.segments) × Owns h u t = stood.has_slot u f.0 f.1 low f.2 in
      let owns : Owns h u slot.0 = slot.2 in
      let p : Passing (λ c. (1 ≤ c.table) × (c.table ≤ h.shape.tables)) (λ c. is_in_home h.shape table k c ≡ true) (session_own h u) = passing (λ c. (1 ≤ c.table) × (c.table ≤ h.shape.tables)) (is_in_home h.shape table k) (session_own h u) (stood.tables u) any in
      let parts = and_parts (p.item.table == table) ((p.item.key % h.shape.blocks) == (k % h.shape.blocks)) p.passes in
      let at : home_block h.shape p.item.table p.item.key ≡ which =
      ap (λ z. home_block h.shape z p.item.key) (eqb-true p.item.table table parts.0) ∙ ap (λ z. (table - 1) * h.shape.blocks + z) (eqb-true (p.item.key % h.shape.blocks) (k % h.shape.blocks) parts.1) in
      let named : list_any (names_in h.shape which p.item.key) (session_own h owns.owner.session) ≡ true =
      ap (λ z. list_any (names_in h.shape which p.item.key) (session_own h z)) owns.session
      ∙ p.again (names_in h.shape which p.item.key) (and_from (home_block h.shape p.item.table p.item.key == which) (p.item.key == p.item.key) (eq-eqb (home_block h.shape p.item.table p.item.key) which at) (eq-eqb p.item.key p.item.key refl)) in
      (slot.0, owns, some_named (own local slot.0) p.item.key (subst (λ (l : List Change). Names l p.item.key) (sym (local_of h xids segments homes stood table k first last slot.0 owns.owner owns.at)) (names_back h.shape which p.item.key (env.xid slot.0) 1 (session_own h owns.owner.session) [] named)))

  -- the owner of a slot with live changes here has changes in the home
  pub slot_works : (t : ℕ) (ch : Change) (more : List Change) → own local t ≡ ch ∷ more → (o : Owner) × (owner_at h t ≡ Some o) × (list_any (is_in_home h.shape table k) (session_own h o.session) ≡ true)
  slot_works t ch more is = by_owner (owner_at h t) refl
    where
      by_owner : (o : Option Owner) → owner_at h t ≡ o → (o : Owner) × (owner_at h t ≡ Some o) × (list_any (is_in_home h.shape table k) (session_own h o.session) ≡ true)
      by_owner None none = let empty : own local t ≡ [] = local_none h xids segments homes stood table k first last t none in absurd (cc (empty, is))
      by_owner (Some o) some =
          let named : Names (here which (newest_first h.shape (env.xid t) 1 (session_own h o.session) [])) ch.key =
          subst (λ (l : List Change). Names l ch.key) (sym is ∙ local_of h xids segments homes stood table k first last t o some) (inl refl) in
          let any : list_any (names_in h.shape which ch.key) (session_own h o.session) ≡ true = ⊎_elim (λ any. any) (λ never. absurd never) (names_front h.shape which ch.key (env.xid t) 1 (session_own h o.session) [] named) in
          let p : Passing (λ c. (1 ≤ c.table) × (c.table ≤ h.shape.tables)) (λ c. names_in h.shape which ch.key c ≡ true) (session_own h o.session) = passing (λ c. (1 ≤ c.table) × (c.table ≤ h.shape.tables)) (names_in h.shape which ch.key) (session_own h o.session) (stood.tables o.session) any in
          let parts = and_parts (home_block h.shape p.item.table p.item.key == which) (p.item.key == ch.key) p.passes in
          let at = one_home h.shape p.item.table p.item.key table k (some_blocks h xids segments homes stood) p.has.0 first (eqb-true (home_block h.shape p.item.table p.item.key) which parts.0) in
          (o, some, p.again (is_in_home h.shape table k) (and_from (p.item.table == table) ((p.item.key % h.shape.blocks) == (k % h.shape.blocks)) (eq-eqb p.item.table table at.0) (eq-eqb (p.item.key % h.shape.blocks) (k % h.shape.blocks) at.1)))

  -- the entry is of another session's transaction
  pub record IsOfOther (i : ℕ) : Type 0 where
    pub active : IsActive env (entry_at b i)
    pub other : (t : ℕ) → Owns h s t → (entry_at b i).xid ≢ env.xid t

  -- entry i is that of session u
  abbrev Has : ℕ → ℕ → Type 0
  Has u i = (t : ℕ) × Owns h u t × IsActive env (entry_at b i) × ((entry_at b i).xid ≡ env.xid t)

  one_owner : (u v t : ℕ) → Owns h u t → Owns h v t → u ≡ v
  one_owner u v t a c =
      let owners : Some a.owner ≡ Some c.owner = sym a.at ∙ c.at in
      let same : a.owner ≡ c.owner = cc in
      sym a.session ∙ (ap (λ (o : Owner). o.session) same ∙ c.session)

  -- two sessions don't have one entry, and no session has two
  one_session : (u v i : ℕ) → Has u i → Has v i → u ≡ v
  one_session u v i a c =
      let slots : a.0 ≡ c.0 = distinct h.shape segments c.0 a.0 (ap env.look (sym a.3) ∙ a.2.1) (sym a.3 ∙ c.3) in
      one_owner u v c.0 (subst (λ t. Owns h u t) slots a.1) c.1

  one_entry : (i j u : ℕ) → Has u i → Has u j → i ≡ j
  one_entry i j u a c =
      let slots : a.0 ≡ c.0 = stood.one_slot u a.0 c.0 a.1 c.1 in
      entries_apart env Below home.m local b home.tree i j a.2 c.2 (a.3 ∙ (ap env.xid slots ∙ sym c.3))

  abbrev workers : List ℕ
  workers = filter (works_in h s table k) (range_with_len 1 (length h.sessions))

  distinct_workers : IsDistinct nat_eq workers
  distinct_workers = distinct_filter (works_in h s table k) (range_with_len 1 (length h.sessions)) (distinct_range 1 (length h.sessions))

  worker_has : (u : ℕ) → has_key u workers ≡ true → (i : ℕ) × (has_key i (range_with_len 0 8) ≡ true) × Has u i
  worker_has u is =
      let p = filter_has (works_in h s table k) (range_with_len 1 (length h.sessions)) u is in
      let parts = and_parts (not (u == s)) (list_any (is_in_home h.shape table k) (session_own h u)) p.1 in
      let slot : (t : ℕ) × Owns h u t × ((ch : Change) × (more : List Change) × (own local t ≡ ch ∷ more)) = works_slot u (range_has 1 (length h.sessions) u p.0).0 parts.1 in
      let e : EntryOf env b slot.0 = entry_of_slot env Below home.m local b home.tree slot.0 slot.2.0 slot.2.1 slot.2.2 in
      let in_range : e.entry < 0 + 8 = let w = e.within in let z = (stood.sizes which).0 in omega (arith, w, z) in
      (e.entry, has_range 0 8 e.entry (omega arith) in_range, (slot.0, slot.1, e.active, e.xid))

  entry_has : (i : ℕ) → IsOfOther i → (u : ℕ) × (has_key u workers ≡ true) × Has u i
  entry_has i of =
      let f : (t : ℕ) × (ch : Change) × (more : List Change) × (own local t ≡ ch ∷ more) × ((entry_at b i).xid ≡ env.xid t) = found env Below home.m local b i of.active home.tree in
      let g : (o : Owner) × (owner_at h f.0 ≡ Some o) × (list_any (is_in_home h.shape table k) (session_own h o.session) ≡ true) = slot_works f.0 f.1 f.2 f.3 in
      let owns : Owns h g.0.session f.0 = record { owner = g.0; at = g.1; session = refl } in
      let other : g.0.session ≢ s = λ same. of.other f.0 (subst (λ z. Owns h z f.0) same owns) f.4 in
      let works : works_in h s table k g.0.session ≡ true = and_from (not (g.0.session == s)) (list_any (is_in_home h.shape table k) (session_own h g.0.session)) (ap not (ne_eqb g.0.session s other)) g.2 in
      let within = stood.owners f.0 g.0 g.1 in
      (g.0.session, has_filter (works_in h s table k) (range_with_len 1 (length h.sessions)) g.0.session (has_range 1 (length h.sessions) g.0.session within.0 (let w = within.1 in omega (arith, w))) works, (f.0, owns, of.active, f.4))

  -- Where eight other sessions have changes in the home, each entry is of another session.
  pub full_slots_then : full_slots h s table k ≡ true → (i : ℕ) → i < 8 → IsOfOther i
  full_slots_then full i few =
      let many : ENTRIES ≤ length workers = leb-true ENTRIES (length workers) full in
      let st : Sent Has workers (range_with_len 0 8) = sent Has one_session (range_with_len 0 8) workers distinct_workers worker_has in
      elim (cases_Bool (has_key i st.images)) [
        | inl there ↦
            let f : (u : ℕ) × (has_key u workers ≡ true) × Has u i = st.from i there in
            let p = filter_has (works_in h s table k) (range_with_len 1 (length h.sessions)) f.0 f.1 in
            let parts = and_parts (not (f.0 == s)) (list_any (is_in_home h.shape table k) (session_own h f.0)) p.1 in
            let ne : f.0 ≢ s = λ same. false≢true (sym (ap not (eq-eqb f.0 s same)) ∙ parts.0) in
            let has : Has f.0 i = f.2 in
            record { active = has.2; other = λ t owns same. ne (one_session f.0 s i has (t, owns, has.2, same)) }
        | inr missing ↦
            let distinct = distinct_cons i st.images (λ q has same. false≢true (sym missing ∙ (ap (λ z. has_key z st.images) (sym same) ∙ has))) st.distinct in
            let le = distinct_within (i ∷ st.images) (range_with_len 0 8) distinct (λ q has. elim (cases_eq q i) [ inl same ↦ has_range 0 8 q (omega arith) (omega (arith, same, few)) | inr ne ↦ st.inside q (later q ne st.images has) ]) in
            let m = st.many in
            let l = length-range_with_len 0 8 in
            absurd (omega (arith, le, m, l, many))
      ]
    where
      later : (q : ℕ) → q ≢ i → (xs : List ℕ) → has_key q (i ∷ xs) ≡ true → has_key q xs ≡ true
      later q ne xs has = sym (ap (λ b. b || has_key q xs) (ne_eqb i q (λ same. ne (sym same)))) ∙ has

  -- And where each entry is of another session, eight others have changes in the home.
  pub full_slots_when : ((i : ℕ) → i < 8 → IsOfOther i) → full_slots h s table k ≡ true
  full_slots_when all =
      let le = no_more (λ i u. Has u i) one_entry workers (range_with_len 0 8) (distinct_range 0 8) (λ i has. entry_has i (all i (let r = range_has 0 8 i has in r.1))) in
      let l = length-range_with_len 0 8 in
      le-leb ENTRIES (length workers) (omega (arith, le, l))
