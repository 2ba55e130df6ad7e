-- A commit moves a session's live changes before the commits.
use Rattle.std.proofs.Common.{◌≡◌, ◌≢◌, ◌⊎◌, inl, inr, ⊎_elim, ◌<◌, ◌≤◌, ℕ, zero, suc, List, [], ◌∷◌, length, set, Some, refl, sym, ◌∙◌, ap, subst, arith}
use Rattle.std.proofs.lemmas.Bool.{cases_eq}
use Rattle.std.proofs.lemmas.Bool.Decides.{nat_tests}
use Rattle.std.proofs.lemmas.List.{get_or-set_same, get_or-set_other, length-set, set_comm}
use Rattle.rb_model.specs.Change.{Kind, Put, Gone, Held}
use Rattle.law_home.specs.Kinds.{Status, Free, Open, Exact, Bound, Entry, Cell, Empty, Row, Stub, Undo}
use Rattle.law_home.specs.Walk.{In, NamesCell, Change, Commit, Home, Env, Rows, Head, Tree, Next, IsActive, AllEmpty, Leads, Alike, Commits, Match, Unique, Walk, Chain, Boundary, Below, LookBelow, StatusBelow, Says, Told, Names, OldCommits, own, back, row_of, rows_of, behind, changed, cell_at, entry_at, taken, last, free_entry}
use Rattle.rb_txntable.specs.declared.looks.Look.{Look}
use Rattle.rb_txntable.specs.declared.looks.Look.TheVariants.{Active, At, Before}
use Rattle.law_home.proofs.Aging.{walk_alike}
use Rattle.law_home.proofs.Lives.{leads_on}
use Rattle.law_home.proofs.Writing.{moved}
use Rattle.rb_base.specs.declared.ids.Xid.{Xid}

-- two cells that have a key for themselves, at one place
pub unique_back : (env : Env) (s : ℕ) (ch : Change) (n : ℕ) (b : Home) (r : Undo) → Head env s ch n b r → Unique b → Unique (back r b)
unique_back env s ch n b r head unique = λ i j k ti tj. unique i j k (was i k ti) (was j k tj)
  where
    was : (i k : ℕ) → taken (cell_at (back r b) i) ≡ Some k → taken (cell_at b i) ≡ Some k
    was i k t = elim (cases_eq i r.cell) [
      | inl at ↦
          let here : cell_at (back r b) i ≡ r.cell_before = rw at (get_or-set_same b.cells r.cell r.cell_before Empty head.cell) in
          let before : taken r.cell_before ≡ Some k = rw (sym here) t in
          ⊎_elim (λ none. cc) (λ same. rw at (head.has_key ∙ (sym same ∙ before))) head.cell_before
      | inr ne ↦ ap taken (sym (get_or-set_other b.cells r.cell i r.cell_before Empty ne)) ∙ t
    ]

pub shown_taken : (x : Cell) (k : ℕ) (v : List ℕ) → row_of x k ≡ Some v → taken x ≡ Some k
shown_taken Empty k v shown = cc
shown_taken (Row key w lock) k v shown = grind (arith, nat_tests)
shown_taken (Stub key lock) k v shown = cc

-- what a change does to the rows of the one key, and to the others
pub changed_other : (kind : Kind) (key : ℕ) (rows : Rows) (k : ℕ) → k ≢ key → changed kind key rows k ≡ rows k
changed_other (Put v) key rows k ne = grind (arith, nat_tests)
changed_other Gone key rows k ne = grind (arith, nat_tests)
changed_other Held key rows k ne = refl

-- at a key a change is one answer, or none
changed_cases : (kind : Kind) (key k : ℕ)
    → ((rows rows2 : Rows) → changed kind key rows k ≡ changed kind key rows2 k) ⊎ ((rows : Rows) → changed kind key rows k ≡ rows k)
changed_cases (Put v) key k = elim (cases_eq k key) [ inl is ↦ inl (λ rows rows2. grind (arith, nat_tests)) | inr ne ↦ inr (λ rows. grind (arith, nat_tests)) ]
changed_cases Gone key k = elim (cases_eq k key) [ inl is ↦ inl (λ rows rows2. grind (arith, nat_tests)) | inr ne ↦ inr (λ rows. grind (arith, nat_tests)) ]
changed_cases Held key k = inr (λ rows. refl)

-- the rows of its own key come from the cell before or from the change
changed_own : (kind : Kind) (key : ℕ) (rows rows2 : Rows) (k : ℕ) (v : List ℕ) → (rows k ≡ Some v → rows2 k ≡ Some v)
    → changed kind key rows k ≡ Some v → changed kind key rows2 k ≡ Some v
changed_own (Put w) key rows rows2 k v from has = grind (arith, nat_tests)
changed_own Gone key rows rows2 k v from has = grind (arith, nat_tests)
changed_own Held key rows rows2 k v from has = from has

module _ (env : Env) (s : ℕ) (ch : Change) (n : ℕ) (b : Home) (r : Undo) (head : Head env s ch n b r) (unique : Unique b) (rows : Rows)
    (before : Match (back r b) rows) where
  at_cell : cell_at (back r b) r.cell ≡ r.cell_before
  at_cell = get_or-set_same b.cells r.cell r.cell_before Empty head.cell

  pub match_step : Match b (changed ch.kind ch.key rows)
  match_step = record {
    sound = λ j k v shown. elim (cases_eq j r.cell) [
      | inl at ↦
          let here : changed ch.kind ch.key (row_of r.cell_before) k ≡ Some v = sym (head.shows k) ∙ (rw (sym at) shown) in
          changed_own ch.kind ch.key (row_of r.cell_before) rows k v (λ was. before.sound r.cell k v (ap (λ (x : Cell). row_of x k) at_cell ∙ was)) here
      | inr ne ↦
          let there : row_of (cell_at (back r b) j) k ≡ Some v =
          ap (λ (x : Cell). row_of x k) (get_or-set_other b.cells r.cell j r.cell_before Empty ne) ∙ shown in
          let other : k ≢ ch.key = λ is. ne (unique j r.cell k (shown_taken (cell_at b j) k v shown) (head.has_key ∙ ap Some (sym is))) in
          changed_other ch.kind ch.key rows k other ∙ before.sound j k v there
    ];
    complete = λ k v has. found k v has;
  }
    where
      found : (k : ℕ) (v : List ℕ) → changed ch.kind ch.key rows k ≡ Some v → (j : ℕ) × (row_of (cell_at b j) k ≡ Some v)
      found k v has = elim (changed_cases ch.kind ch.key k) [
        | inl alone ↦ (r.cell, head.shows k ∙ (alone (row_of r.cell_before) rows ∙ has))
        | inr stays ↦
            let was : rows k ≡ Some v = sym (stays rows) ∙ has in
            let p : (j : ℕ) × (row_of (cell_at (back r b) j) k ≡ Some v) = before.complete k v was in
            elim (cases_eq p.0 r.cell) [
              | inl at ↦
                  let shown : row_of (cell_at (back r b) r.cell) k ≡ Some v = subst (λ (z : ℕ). row_of (cell_at (back r b) z) k ≡ Some v) at p.1 in
                  (r.cell, head.shows k ∙ (stays (row_of r.cell_before) ∙ (sym (ap (λ (x : Cell). row_of x k) at_cell) ∙ shown)))
              | inr nj ↦ (p.0, ap (λ (x : Cell). row_of x k) (sym (get_or-set_other b.cells r.cell p.0 r.cell_before Empty nj)) ∙ p.1)
            ]
      ]

pub top : (env : Env) (base : ℕ) (rows : Rows) (list : List Commit) (b : Home) → Walk env base rows list b → Boundary env b (last base list) (rows_of rows list)
top env base rows [] b walk = walk
top env base rows (t ∷ older) b walk = walk.0

look_rises : (lost : ℕ) (look : Look) (n c : ℕ) → n ≤ c → LookBelow lost look n → LookBelow lost look c
look_rises lost Active n c le below = below
look_rises lost (At k) n c le below = omega arith
look_rises lost (Before k) n c le below = below

status_rises : (env : Env) (xid : Xid) (status : Status) (n c : ℕ) → n ≤ c → StatusBelow env xid status n → StatusBelow env xid status c
status_rises env xid Free n c le below = tt
status_rises env xid Open n c le below = look_rises (env.lost xid.seg) (env.look xid) n c le below
status_rises env xid (Exact k) n c le below = omega arith
status_rises env xid (Bound k) n c le below = below

below_rises : (env : Env) (e : Entry) (n c : ℕ) → n ≤ c → Below env e n → Below env e c
below_rises env e n c le below = status_rises env e.xid e.status n c le below

module _ (w : ℕ → ℕ) (env env2 : Env) (s c : ℕ) (now : Commits w env env2 s c) (base : ℕ) (rows : Rows) (older : List Commit)
    (later : last base older < c) (old : OldCommits w older) where
  same_home : (b : Home) → Alike env env2 b b
  same_home b = record {
    block = refl;
    entries = refl;
    cells = refl;
    rows = λ j k. refl;
    xid = λ i. refl;
    newest = λ i. refl;
    chain = λ i. refl;
    says = λ i. now.ages.says (entry_at b i);
    below = λ i. now.ages.below (entry_at b i);
  }

  abbrev Here : ℕ → List Change → Home → Type 0
  Here i chs b = Match b (behind chs (rows_of rows older)) × ((j : ℕ) → Below env2 (entry_at b j) c) × Told env2 b i c (last base older) chs
      × Chain env2 (env.xid s) c i chs b (Walk env2 base rows older) × ((j : ℕ) → j ≢ i → Below env2 (entry_at b j) (last base older))

  here_none : (i : ℕ) (b : Home) → Walk env base rows older b → Here i [] b
  here_none i b walk =
      let walk2 : Walk env2 base rows older b = walk_alike w env env2 now.ages base rows older b b old (same_home b) walk in
      let top2 : Boundary env2 b (last base older) (rows_of rows older) = top env2 base rows older b walk2 in
      (top2.is, (λ j. below_rises env2 (entry_at b j) (last base older) c (omega (arith, later)) (top2.below j)), tt, walk2, λ j ne. top2.below j)

  below_open : (e : Entry) → e.status ≡ Open → e.xid ≡ env.xid s → Below env2 e c
  below_open e status xid = rw (status, xid, now.at) (omega arith)

  says_open : (e : Entry) → e.status ≡ Open → e.xid ≡ env.xid s → Says env2 e c
  says_open e status xid = rw (status, xid, now.at) refl

  here : (chs : List Change) (m i : ℕ) (lives : List (List Change)) (b : Home) → Unique b → s < length lives → own lives s ≡ chs
      → ((u : ℕ) → u ≢ s → own lives u ≡ []) → ((j : ℕ) → IsActive env (entry_at b j) → (entry_at b j).xid ≡ env.xid s → j ≡ i)
      → Tree env m lives b (Walk env base rows older) → Here i chs b
  here [] m i lives b unique s_in is others only tree = here_none i b (leaf m tree)
    where
      none : AllEmpty lives
      none u = elim (cases_eq u s) [ inl us ↦ ap (own lives) us ∙ is | inr ne ↦ others u ne ]

      leaf : (m : ℕ) → Tree env m lives b (Walk env base rows older) → Walk env base rows older b
      leaf zero tree = tree.2
      leaf (suc m) tree = tree.2 none
  here (ch ∷ more) zero i lives b unique s_in is others only tree = let none : own lives s ≡ [] = tree.0 s in cc
  here (ch ∷ more) (suc m) i lives b unique s_in is others only tree =
      let next : Next env m lives b (Walk env base rows older) s ch more = tree.0 s ch more is in
      let head : Head env s ch (suc (length more)) b next.0 = next.1 in
      let r_active : IsActive env (entry_at b next.0.entry) = (head.status, ap env.look head.leads.xid ∙ head.active) in
      let at : next.0.entry ≡ i = only next.0.entry r_active head.leads.xid in
      let own_more : own (set lives s more) s ≡ more = get_or-set_same lives s more [] s_in in
      let only_more : (j : ℕ) → IsActive env (entry_at (back next.0 b) j) → (entry_at (back next.0 b) j).xid ≡ env.xid s → j ≡ i =
      (λ j active same. elim (cases_eq j next.0.entry) [
        | inl je ↦ je ∙ at
        | inr nj ↦ only j (rw (sym (get_or-set_other b.entries next.0.entry j next.0.entry_before free_entry nj)) active) (rw (sym (get_or-set_other b.entries next.0.entry j next.0.entry_before free_entry nj)) same)
      ]) in
      let before_is : entry_at (back next.0 b) i ≡ next.0.entry_before = subst (λ (z : ℕ). entry_at (back next.0 b) z ≡ next.0.entry_before) at (get_or-set_same b.entries next.0.entry next.0.entry_before free_entry head.within) in
      let deeper : Here i more (back next.0 b) =
      here more m i (set lives s more) (back next.0 b) (unique_back env s ch (suc (length more)) b next.0 head unique) (simp length-set s_in) own_more (λ u ne. get_or-set_other lives s u more [] ne ∙ others u ne) only_more next.2 in
      let others_below : (j : ℕ) → j ≢ i
      → Below env2 (entry_at b j) (last base older) =
      λ j ne. rw (sym (get_or-set_other b.entries next.0.entry j next.0.entry_before free_entry (λ je. ne (je ∙ at)))) (deeper.4 j ne) in (
        match_step env s ch (suc (length more)) b next.0 head unique (behind more (rows_of rows older)) deeper.0,
        λ j. elim (cases_eq j next.0.entry) [
          | inl je ↦ subst (λ (z : ℕ). Below env2 (entry_at b z) c) (sym je) (below_open (entry_at b next.0.entry) head.status head.leads.xid)
          | inr nj ↦ rw (sym (get_or-set_other b.entries next.0.entry j next.0.entry_before free_entry nj)) (deeper.1 j)
        ],
        (subst (λ (z : ℕ). Says env2 (entry_at b z) c) at (says_open (entry_at b next.0.entry) head.status head.leads.xid), others_below),
        (
          subst (λ (z : ℕ). Leads (entry_at b z) (env.xid s) ch.place (suc (length more))) at head.leads,
          now.limit ch.place next.0 head.there head.xid,
          λ r there.
              let same : next.0 ≡ r =
              let a : env.store ch.place ≡ Some next.0 = head.there in let b2 : env2.store ch.place ≡ env.store ch.place = now.store ch.place in cc in
              subst (λ (z : Undo). Names z (env.xid s) i ch (length more) b × Chain env2 (env.xid s) c i more (back z b) (Walk env2 base rows older)) same (
                record {
                  xid = head.xid;
                  of = head.of;
                  entry = at;
                  within = head.within;
                  cell = head.cell;
                  number = head.number;
                  key = head.key;
                  home = head.home;
                  here = head.here;
                  sort = head.sort;
                  shows = head.shows;
                  oldest = λ none. head.oldest (ap suc none);
                  later = λ some. ap (λ (z : Entry). z.status) (sym before_is) ∙ (leads_on env (Walk env base rows older) s i more m (set lives s more) (back next.0 b) own_more only_more next.2 some).0;
                },
                deeper.3,
              ),
        ),
        others_below,
      )

  abbrev After : List Change → Home → Type 0
  After chs b = Walk env2 base rows (record { xid = env.xid s; number = c; changes = chs } ∷ older) b

  after_here : (chs : List Change) (i : ℕ) (b : Home) → Here i chs b → After chs b
  after_here chs i b is = (record { is = is.0; below = is.1 }, later, (i, is.2, is.3))

  -- the entry of a session's newest change
  entry_of : (m : ℕ) (lives : List (List Change)) (b : Home) (chs : List Change) → own lives s ≡ chs → ((u : ℕ) → u ≢ s → own lives u ≡ [])
      → Tree env m lives b (Walk env base rows older) → (i : ℕ) × ((j : ℕ) → IsActive env (entry_at b j) → (entry_at b j).xid ≡ env.xid s → j ≡ i)
  entry_of zero lives b chs is others tree = (0, λ j active same. absurd (tree.1 j active))
  entry_of (suc m) lives b [] is others tree = (
    0,
    λ j active same.
        let found : (u : ℕ) × (ch : Change) × (more : List Change) × (own lives u ≡ ch ∷ more) × ((entry_at b j).xid ≡ env.xid u) = tree.1 j active in
        elim (cases_eq found.0 s) [
          | inl us ↦ let none : own lives found.0 ≡ [] = ap (own lives) us ∙ is in let some : own lives found.0 ≡ found.1 ∷ found.2 = found.3 in cc
          | inr ne ↦ let none : own lives found.0 ≡ [] = others found.0 ne in let some : own lives found.0 ≡ found.1 ∷ found.2 = found.3 in cc
        ],
  )
  entry_of (suc m) lives b (ch ∷ more) is others tree =
      let next : Next env m lives b (Walk env base rows older) s ch more = tree.0 s ch more is in
      (next.0.entry, next.1.only)

  alone : (m : ℕ) (lives : List (List Change)) (b : Home) → Unique b → s < length lives → ((u : ℕ) → u ≢ s → own lives u ≡ [])
      → Tree env m lives b (Walk env base rows older) → After (own lives s) b
  alone m lives b unique s_in others tree =
      let i : (i : ℕ) × ((j : ℕ) → IsActive env (entry_at b j) → (entry_at b j).xid ≡ env.xid s → j ≡ i) = entry_of m lives b (own lives s) refl others tree in
      after_here (own lives s) i.0 b (here (own lives s) m i.0 lives b unique s_in refl others i.1 tree)

  other_head : (u : ℕ) (ch : Change) (n : ℕ) (b : Home) (r : Undo) → u ≢ s → Head env u ch n b r → Head env2 u ch n b r
  other_head u ch n b r ne head = record {
    there = now.store ch.place ∙ head.there;
    active = ap env2.look same ∙ now.goes_on u ne head.active;
    xid = head.xid ∙ sym same;
    of = head.of ∙ sym same;
    within = head.within;
    cell = head.cell;
    number = head.number;
    key = head.key;
    home = head.home;
    here = head.here;
    sort = head.sort;
    status = head.status;
    leads = record {
      xid = head.leads.xid ∙ sym same;
      newest = head.leads.newest;
      chain = head.leads.chain;
      seg = head.leads.seg ∙ ap (λ (z : Xid). z.seg) (sym same);
    };
    only = λ j active mine. head.only j (active.0, now.active (entry_at b j).xid active.1) (mine ∙ same);
    lock = head.lock;
    has_key = head.has_key;
    shows = head.shows;
    cell_before = head.cell_before;
    lock_before = head.lock_before;
    entry_before = head.entry_before;
    oldest = head.oldest;
  }
    where
      same : env2.xid u ≡ env.xid u
      same = now.xid u ne

  nobody_else : (lives : List (List Change)) → AllEmpty (set lives s []) → (u : ℕ) → u ≢ s → own lives u ≡ []
  nobody_else lives none u ne = sym (get_or-set_other lives s u [] [] ne) ∙ none u

  pub tree_commit : (m : ℕ) (lives : List (List Change)) (b : Home) (chs : List Change) → own lives s ≡ chs → Unique b → s < length lives
      → Tree env m lives b (Walk env base rows older) → Tree env2 m (set lives s []) b (After chs)
  tree_commit zero lives b chs is unique s_in tree = (
    λ u. elim (cases_eq u s) [
      | inl us ↦ ap (own (set lives s [])) us ∙ get_or-set_same lives s [] [] s_in
      | inr ne ↦ get_or-set_other lives s u [] [] ne ∙ tree.0 u
    ],
    λ j active. tree.1 j (active.0, now.active (entry_at b j).xid active.1),
    subst (λ (z : List Change). After z b) is (alone zero lives b unique s_in (λ u ne. tree.0 u) tree),
  )
  tree_commit (suc m) lives b chs is unique s_in tree = (
    λ u ch more has. elim (cases_eq u s) [
      | inl us ↦
          let none : own (set lives s []) u ≡ [] = ap (own (set lives s [])) us ∙ get_or-set_same lives s [] [] s_in in
          let some : own (set lives s []) u ≡ ch ∷ more = has in
          cc
      | inr ne ↦
          let next : Next env m lives b (Walk env base rows older) u ch more = tree.0 u ch more (sym (get_or-set_other lives s u [] [] ne) ∙ has) in (
            next.0,
            other_head u ch (suc (length more)) b next.0 ne next.1,
            moved env2 m (set (set lives u more) s []) (set (set lives s []) u more) (back next.0 b) (back next.0 b) (After chs) (set_comm lives u s more [] ne) refl
                (tree_commit m (set lives u more) (back next.0 b) chs (get_or-set_other lives u s more [] (λ same. ne (sym same)) ∙ is) (unique_back env u ch (suc (length more)) b next.0 next.1 unique) (simp length-set s_in) next.2),
          )
    ],
    λ j active.
        let was : IsActive env (entry_at b j) = (active.0, now.active (entry_at b j).xid active.1) in
        let found : (u : ℕ) × (ch : Change) × (more : List Change) × (own lives u ≡ ch ∷ more) × ((entry_at b j).xid ≡ env.xid u) = tree.1 j was in
        elim (cases_eq found.0 s) [
          | inl us ↦
              let done : env2.look (entry_at b j).xid ≡ At c = ap env2.look (found.4 ∙ ap env.xid us) ∙ now.at in
              let runs : env2.look (entry_at b j).xid ≡ Active = active.1 in
              cc
          | inr ne ↦ (found.0, found.1, found.2, get_or-set_other lives s found.0 [] [] ne ∙ found.3, found.4 ∙ sym (now.xid found.0 ne))
        ],
    λ none. subst (λ (z : List Change). After z b) is (alone (suc m) lives b unique s_in (nobody_else lives none) tree),
    λ i j active lock.
        let was : IsActive env (entry_at b i) = (active.0, now.active (entry_at b i).xid active.1) in
        let f : (u : ℕ) × ((entry_at b i).xid ≡ env.xid u) × NamesCell env lives u j = tree.3 i j was lock in
        elim (cases_eq f.0 s) [
          | inl us ↦
              let done : env2.look (entry_at b i).xid ≡ At c = ap env2.look (f.1 ∙ ap env.xid us) ∙ now.at in
              let runs : env2.look (entry_at b i).xid ≡ Active = active.1 in
              absurd (cc)
          | inr ne ↦ (f.0, f.1 ∙ sym (now.xid f.0 ne), (f.2.0, f.2.1, subst (λ (z : List Change). In f.2.0 z) (sym (get_or-set_other lives s f.0 [] [] ne)) f.2.2, now.store f.2.0.place ∙ f.2.3, f.2.4, f.2.5 ∙ sym (now.xid f.0 ne)))
        ],
  )
