-- A write puts one more change before the walk, whichever session is taken back first.
use Rattle.std.proofs.Common.{refl, arith, ◌≡◌, ◌≢◌, inl, inr, ⊎_elim, ◌<◌, ℕ, zero, suc, List, [], ◌∷◌, length, set, sym, ◌∙◌, ap, subst}
use Rattle.std.proofs.lemmas.Bool.{cases_eq}
use Rattle.std.proofs.lemmas.List.{get_or-set_same, get_or-set_other, length-set, set-set, set_comm, set-get_or}
use Rattle.law_home.specs.Kinds.{Open, Entry, Cell, Empty, Undo}
use Rattle.law_home.specs.Walk.{In, Owned, NamesCell, Change, Home, Env, Head, Tree, Next, IsActive, AllEmpty, Write, Saved, Distinct, own, back, put, cell_at, entry_at, lock_of, free_entry}

abbrev home : ℕ → List Entry → List Cell → Home
home n es cs = record { block = n; entries = es; cells = cs }

home_is : (n : ℕ) (es fs : List Entry) (cs ds : List Cell) → es ≡ fs → cs ≡ ds → home n es cs ≡ home n fs ds
home_is n es fs cs ds e c = cc

-- what was put is taken back
pub back_put : (r : Undo) (e : Entry) (x : Cell) (b : Home) → entry_at b r.entry ≡ r.entry_before → cell_at b r.cell ≡ r.cell_before
    → back r (put r.entry e r.cell x b) ≡ b
back_put r e x b e_was c_was =
    let es : set (set b.entries r.entry e) r.entry r.entry_before ≡ b.entries = set-set b.entries r.entry e r.entry_before
    ∙ (rw (← e_was) (set-get_or b.entries r.entry free_entry)) in
    let cs : set (set b.cells r.cell x) r.cell r.cell_before ≡ b.cells = set-set b.cells r.cell x r.cell_before
    ∙ (rw (← c_was) (set-get_or b.cells r.cell Empty)) in
    home_is b.block (set (set b.entries r.entry e) r.entry r.entry_before) b.entries (set (set b.cells r.cell x) r.cell r.cell_before) b.cells es cs

pub back_put_comm : (u r : Undo) (e : Entry) (x : Cell) (b : Home) → u.entry ≢ r.entry → u.cell ≢ r.cell
    → put r.entry e r.cell x (back u b) ≡ back u (put r.entry e r.cell x b)
back_put_comm u r e x b ne nc =
    let es : set (set b.entries u.entry u.entry_before) r.entry e ≡ set (set b.entries r.entry e) u.entry u.entry_before =
    set_comm b.entries u.entry r.entry u.entry_before e ne in
    let cs : set (set b.cells u.cell u.cell_before) r.cell x ≡ set (set b.cells r.cell x) u.cell u.cell_before =
    set_comm b.cells u.cell r.cell u.cell_before x nc in
    cc

pub moved : (env : Env) (m : ℕ) (l l2 : List (List Change)) (b b2 : Home) (rest : Home → Type 0) → l ≡ l2 → b ≡ b2 → Tree env m l b rest → Tree env m l2 b2 rest
moved env m l l2 b b2 rest lists homes tree =
    subst (λ (z : List (List Change)). Tree env m z b2 rest) lists (subst (λ (z : Home). Tree env m l z rest) homes tree)

module _ (env : Env) (rest : Home → Type 0) (s : ℕ) (ch : Change) (mine : List Change) (r : Undo) (e : Entry) (x : Cell)
    (write : Write env s ch (length mine) r e x) (distinct : Distinct env) where
  -- the writer's own step back
  mine_first : (m : ℕ) (lives : List (List Change)) (b : Home) → s < length lives → own lives s ≡ mine → Saved env s r b → Tree env m lives b rest
      → Next env m (set lives s (ch ∷ mine)) (put r.entry e r.cell x b) rest s ch mine
  mine_first m lives b s_in is saved tree = (
    r,
    record {
      there = write.there;
      active = write.active;
      xid = write.xid;
      of = write.of;
      within = simp length-set saved.within;
      cell = simp length-set saved.cell;
      number = write.number;
      key = write.key;
      home = write.home;
      here = saved.here;
      sort = write.sort;
      status = rw e_at write.status;
      leads = rw e_at write.leads;
      only = λ j active same. elim (cases_eq j r.entry) [
        | inl at ↦ at
        | inr ne ↦ saved.only j (rw (sym (get_or-set_other b.entries r.entry j e free_entry ne)) active) (rw (sym (get_or-set_other b.entries r.entry j e free_entry ne)) same)
      ];
      lock = rw x_at write.lock;
      has_key = rw x_at write.has_key;
      shows = λ k. rw x_at (write.shows k);
      cell_before = write.cell_before;
      lock_before = write.lock_before;
      entry_before = write.entry_before;
      oldest = λ one. write.oldest (omega (arith, one));
    },
    rw (back_put r e x b saved.entry_was saved.cell_was, set-set lives s (ch ∷ mine) mine, sym is, set-get_or lives s []) tree,
  )
    where
      e_at : entry_at (put r.entry e r.cell x b) r.entry ≡ e
      e_at = get_or-set_same b.entries r.entry e free_entry saved.within

      x_at : cell_at (put r.entry e r.cell x b) r.cell ≡ x
      x_at = get_or-set_same b.cells r.cell x Empty saved.cell

  -- another's step back has another entry and another cell
  apart_entry : (u : ℕ) (chu : Change) (n : ℕ) (ru : Undo) (b : Home) → u ≢ s → Saved env s r b → Head env u chu n b ru → ru.entry ≢ r.entry
  apart_entry u chu n ru b ne saved head same =
      let at : entry_at b ru.entry ≡ r.entry_before = rw same saved.entry_was in
      let open_before : r.entry_before.status ≡ Open = rw (sym at) head.status in
      let xids : env.xid u ≡ env.xid s = sym head.leads.xid ∙ (ap (λ (z : Entry). z.xid) at ∙ (write.entry_before open_before ∙ write.xid)) in
      ne (distinct s u head.active xids)

  apart_cell : (u : ℕ) (chu : Change) (n : ℕ) (ru : Undo) (b : Home) → u ≢ s → Saved env s r b → Head env u chu n b ru → ru.cell ≢ r.cell
  apart_cell u chu n ru b ne saved head same =
      let at : cell_at b ru.cell ≡ r.cell_before = rw same saved.cell_was in
      let lock : lock_of r.cell_before ≡ suc ru.entry = rw (sym at) head.lock in
      ⊎_elim (λ none. cc) (λ mine. let own_lock : lock_of r.cell_before ≡ suc r.entry = mine.0 in apart_entry u chu n ru b ne saved head (cc)) write.lock_before

  other_head : (u : ℕ) (chu : Change) (n : ℕ) (ru : Undo) (b : Home) → u ≢ s → Saved env s r b → Head env u chu n b ru
      → Head env u chu n (put r.entry e r.cell x b) ru
  other_head u chu n ru b ne saved head = record {
    there = head.there;
    active = head.active;
    xid = head.xid;
    of = head.of;
    within = simp length-set head.within;
    cell = simp length-set head.cell;
    number = head.number;
    key = head.key;
    home = head.home;
    here = head.here;
    sort = head.sort;
    status = rw e_at head.status;
    leads = rw e_at head.leads;
    only = λ j active same. elim (cases_eq j r.entry) [
      | inl at ↦
          let here : entry_at (put r.entry e r.cell x b) j ≡ e = rw at (get_or-set_same b.entries r.entry e free_entry saved.within) in
          let xids : env.xid u ≡ env.xid s = sym same ∙ (ap (λ (z : Entry). z.xid) here ∙ write.leads.xid) in
          absurd (ne (distinct s u head.active xids))
      | inr nj ↦ head.only j (rw (sym (get_or-set_other b.entries r.entry j e free_entry nj)) active) (rw (sym (get_or-set_other b.entries r.entry j e free_entry nj)) same)
    ];
    lock = rw x_at head.lock;
    has_key = rw x_at head.has_key;
    shows = λ k. rw x_at (head.shows k);
    cell_before = head.cell_before;
    lock_before = head.lock_before;
    entry_before = head.entry_before;
    oldest = head.oldest;
  }
    where
      e_at : entry_at (put r.entry e r.cell x b) ru.entry ≡ entry_at b ru.entry
      e_at = get_or-set_other b.entries r.entry ru.entry e free_entry (apart_entry u chu n ru b ne saved head)

      x_at : cell_at (put r.entry e r.cell x b) ru.cell ≡ cell_at b ru.cell
      x_at = get_or-set_other b.cells r.cell ru.cell x Empty (apart_cell u chu n ru b ne saved head)

  locks_stay : (u : ℕ) (chu : Change) (n : ℕ) (ru : Undo) (b : Home) → u ≢ s → Saved env s r b → Head env u chu n b ru → (j : ℕ)
      → lock_of (cell_at (back ru b) j) ≡ suc r.entry → IsActive env (entry_at (back ru b) r.entry)
  locks_stay u chu n ru b ne saved head j lock =
      rw (get_or-set_other b.entries ru.entry r.entry ru.entry_before free_entry (λ same. apart_entry u chu n ru b ne saved head (sym same))) (elim (cases_eq j ru.cell) [
        | inl at ↦
            let here : cell_at (back ru b) j ≡ ru.cell_before = rw at (get_or-set_same b.cells ru.cell ru.cell_before Empty head.cell) in
            let lock2 : lock_of ru.cell_before ≡ suc r.entry = ap lock_of (sym here) ∙ lock in
            absurd (⊎_elim (λ none. cc) (λ own_lock. let l : lock_of ru.cell_before ≡ suc ru.entry = own_lock.0 in apart_entry u chu n ru b ne saved head (cc)) head.lock_before)
        | inr nj ↦ saved.locks j (ap lock_of (sym (get_or-set_other b.cells ru.cell j ru.cell_before Empty nj)) ∙ lock)
      ])

  -- and leaves what the writer saw
  saved_stays : (u : ℕ) (chu : Change) (n : ℕ) (ru : Undo) (b : Home) → u ≢ s → Saved env s r b → Head env u chu n b ru → Saved env s r (back ru b)
  saved_stays u chu n ru b ne saved head = record {
    here = saved.here;
    within = simp length-set saved.within;
    cell = simp length-set saved.cell;
    entry_was = get_or-set_other b.entries ru.entry r.entry ru.entry_before free_entry (λ same. apart_entry u chu n ru b ne saved head (sym same))
        ∙ saved.entry_was;
    cell_was = get_or-set_other b.cells ru.cell r.cell ru.cell_before Empty (λ same. apart_cell u chu n ru b ne saved head (sym same)) ∙ saved.cell_was;
    locks = locks_stay u chu n ru b ne saved head;
    only = λ j active same. elim (cases_eq j ru.entry) [
      | inl at ↦
          let here : entry_at (back ru b) j ≡ ru.entry_before = rw at (get_or-set_same b.entries ru.entry ru.entry_before free_entry head.within) in
          let open_before : ru.entry_before.status ≡ Open = rw (sym here) active.0 in
          let xids : env.xid u ≡ env.xid s = sym head.xid ∙ (sym (head.entry_before open_before) ∙ (ap (λ (z : Entry). z.xid) (sym here) ∙ same)) in
          absurd (ne (distinct s u head.active xids))
      | inr nj ↦ saved.only j (rw (sym (get_or-set_other b.entries ru.entry j ru.entry_before free_entry nj)) active) (rw (sym (get_or-set_other b.entries ru.entry j ru.entry_before free_entry nj)) same)
    ];
  }

  still_named : (lives : List (List Change)) (u : ℕ) (c : Change) → s < length lives → own lives s ≡ mine → In c (own lives u)
      → In c (own (set lives s (ch ∷ mine)) u)
  still_named lives u c s_in is named = elim (cases_eq u s) [
    | inl us ↦ subst (λ (z : List Change). In c z) (sym (ap (own (set lives s (ch ∷ mine))) us ∙ get_or-set_same lives s (ch ∷ mine) [] s_in)) (inr (subst (λ (z : List Change). In c z) (ap (own lives) us ∙ is) named))
    | inr ne ↦ subst (λ (z : List Change). In c z) (sym (get_or-set_other lives s u (ch ∷ mine) [] ne)) named
  ]

  owned : (lives : List (List Change)) (b : Home) → s < length lives → own lives s ≡ mine → Saved env s r b → Owned env lives b
      → Owned env (set lives s (ch ∷ mine)) (put r.entry e r.cell x b)
  owned lives b s_in is saved old = λ i j active lock. elim (cases_eq j r.cell) [
    | inl at ↦
        let x_at : cell_at (put r.entry e r.cell x b) j ≡ x = rw at (get_or-set_same b.cells r.cell x Empty saved.cell) in
        let lock_x : lock_of x ≡ suc i = ap lock_of (sym x_at) ∙ lock in
        let own_lock : lock_of x ≡ suc r.entry = write.lock in
        let same : i ≡ r.entry = omega arith in
        let here : entry_at (put r.entry e r.cell x b) i ≡ e = rw same (get_or-set_same b.entries r.entry e free_entry saved.within) in (
          s,
          ap (λ (z : Entry). z.xid) here
              ∙ write.leads.xid,
          (ch, r, subst (λ (z : List Change). In ch z) (sym (get_or-set_same lives s (ch ∷ mine) [] s_in)) (inl refl), write.there, sym at, write.xid),
        )
    | inr nj ↦
        let lock_b : lock_of (cell_at b j) ≡ suc i = ap lock_of (sym (get_or-set_other b.cells r.cell j x Empty nj)) ∙ lock in
        elim (cases_eq i r.entry) [
          | inl same ↦
              let lock_e : lock_of (cell_at b j) ≡ suc r.entry = lock_b ∙ ap suc same in
              let was : IsActive env (entry_at b r.entry) = saved.locks j lock_e in
              let f : (u : ℕ) × ((entry_at b r.entry).xid ≡ env.xid u) × NamesCell env lives u j = old r.entry j was lock_e in
              let here : entry_at (put r.entry e r.cell x b) i ≡ e = rw same (get_or-set_same b.entries r.entry e free_entry saved.within) in
              let open_before : r.entry_before.status ≡ Open = ap (λ (z : Entry). z.status) (sym saved.entry_was) ∙ was.0 in
              let mine_xid : (entry_at b r.entry).xid ≡ env.xid s = ap (λ (z : Entry). z.xid) saved.entry_was ∙ (write.entry_before open_before ∙ write.xid) in (
                f.0,
                ap (λ (z : Entry). z.xid) here
                    ∙ (write.leads.xid ∙ (sym mine_xid ∙ f.1)),
                (f.2.0, f.2.1, still_named lives f.0 f.2.0 s_in is f.2.2, f.2.3, f.2.4, f.2.5),
              )
          | inr ne ↦
              let there : entry_at (put r.entry e r.cell x b) i ≡ entry_at b i = get_or-set_other b.entries r.entry i e free_entry ne in
              let f : (u : ℕ) × ((entry_at b i).xid ≡ env.xid u) × NamesCell env lives u j = old i j (rw (sym there) active) lock_b in
              (f.0, ap (λ (z : Entry). z.xid) there ∙ f.1, (f.2.0, f.2.1, still_named lives f.0 f.2.0 s_in is f.2.2, f.2.3, f.2.4, f.2.5))
        ]
  ]

  abbrev AfterWrite : ℕ → List (List Change) → Home → Type 0
  AfterWrite m lives b = Tree env m (set lives s (ch ∷ mine)) (put r.entry e r.cell x b) rest

  first_of : (m : ℕ) (lives : List (List Change)) (b : Home) (u : ℕ) (chu : Change) (more : List Change) → Next env m lives b rest s ch mine → u ≡ s
      → ch ∷ mine ≡ chu ∷ more → Next env m lives b rest u chu more
  first_of m lives b u chu more next is same =
      let c : ch ≡ chu = cc in
      let l : mine ≡ more = cc in
      rw (is, sym c, sym l) next

  not_empty : (lives : List (List Change)) → s < length lives → AllEmpty (set lives s (ch ∷ mine)) → ⊥
  not_empty lives s_in none =
      let here : own (set lives s (ch ∷ mine)) s ≡ ch ∷ mine = get_or-set_same lives s (ch ∷ mine) [] s_in in
      let nothing : own (set lives s (ch ∷ mine)) s ≡ [] = none s in
      cc

  actives : (lives : List (List Change)) (b : Home) → s < length lives → own lives s ≡ mine → Saved env s r b
      → ((j : ℕ) → IsActive env (entry_at b j) → (u : ℕ) × (chu : Change) × (more : List Change) × (own lives u ≡ chu ∷ more)
      × ((entry_at b j).xid ≡ env.xid u))
      → (j : ℕ) → IsActive env (entry_at (put r.entry e r.cell x b) j) → (u : ℕ) × (chu : Change) × (more : List Change)
      × (own (set lives s (ch ∷ mine)) u ≡ chu ∷ more) × ((entry_at (put r.entry e r.cell x b) j).xid ≡ env.xid u)
  actives lives b s_in is saved old j active = elim (cases_eq j r.entry) [
    | inl at ↦
        let here : entry_at (put r.entry e r.cell x b) j ≡ e = rw at (get_or-set_same b.entries r.entry e free_entry saved.within) in
        (s, ch, mine, get_or-set_same lives s (ch ∷ mine) [] s_in, rw here write.leads.xid)
    | inr nj ↦
        let there : entry_at (put r.entry e r.cell x b) j ≡ entry_at b j = get_or-set_other b.entries r.entry j e free_entry nj in
        let found : (u : ℕ) × (chu : Change) × (more : List Change) × (own lives u ≡ chu ∷ more)
        × ((entry_at b j).xid ≡ env.xid u) = old j (rw (sym there) active) in
        elim (cases_eq found.0 s) [
          | inl mine_again ↦ absurd (nj (saved.only j (rw (sym there) active) (found.4 ∙ ap env.xid mine_again)))
          | inr ns ↦ (found.0, found.1, found.2, get_or-set_other lives s found.0 (ch ∷ mine) [] ns ∙ found.3, ap (λ (z : Entry). z.xid) there ∙ found.4)
        ]
  ]

  pub tree_write : (m : ℕ) (lives : List (List Change)) (b : Home) → s < length lives → own lives s ≡ mine → Saved env s r b → Tree env m lives b rest
      → AfterWrite (suc m) lives b
  tree_write zero lives b s_in is saved tree = (
    λ u chu more has. elim (cases_eq u s) [
      | inl us ↦ first_of zero (set lives s (ch ∷ mine)) (put r.entry e r.cell x b) u chu more (mine_first zero lives b s_in is saved tree) us (sym (get_or-set_same lives s (ch ∷ mine) [] s_in) ∙ (ap (own (set lives s (ch ∷ mine))) (sym us) ∙ has))
      | inr ne ↦ let none : own lives u ≡ [] = tree.0 u in let some : own lives u ≡ chu ∷ more = sym (get_or-set_other lives s u (ch ∷ mine) [] ne) ∙ has in cc
    ],
    actives lives b s_in is saved (λ j active. absurd (tree.1 j active)),
    λ none. absurd (not_empty lives s_in none),
    owned lives b s_in is saved (λ i j active lock. absurd (tree.1 i active)),
  )
  tree_write (suc m) lives b s_in is saved tree = (
    λ u chu more has. elim (cases_eq u s) [
      | inl us ↦ first_of (suc m) (set lives s (ch ∷ mine)) (put r.entry e r.cell x b) u chu more (mine_first (suc m) lives b s_in is saved tree) us (sym (get_or-set_same lives s (ch ∷ mine) [] s_in) ∙ (ap (own (set lives s (ch ∷ mine))) (sym us) ∙ has))
      | inr ne ↦
          let next : Next env m lives b rest u chu more = tree.0 u chu more (sym (get_or-set_other lives s u (ch ∷ mine) [] ne) ∙ has) in
          let others : Tree env (suc m) (set (set lives u more) s (ch ∷ mine)) (put r.entry e r.cell x (back next.0 b)) rest =
          tree_write m (set lives u more) (back next.0 b) (simp length-set s_in) (get_or-set_other lives u s more [] (λ same. ne (sym same))
          ∙ is) (saved_stays u chu (suc (length more)) next.0 b ne saved next.1) next.2 in
          (next.0, other_head u chu (suc (length more)) next.0 b ne saved next.1, moved env (suc m) (set (set lives u more) s (ch ∷ mine)) (set (set lives s (ch ∷ mine)) u more) (put r.entry e r.cell x (back next.0 b)) (back next.0 (put r.entry e r.cell x b)) rest (set_comm lives u s more (ch ∷ mine) ne) (back_put_comm next.0 r e x b (apart_entry u chu (suc (length more)) next.0 b ne saved next.1) (apart_cell u chu (suc (length more)) next.0 b ne saved next.1)) others)
    ],
    actives lives b s_in is saved tree.1,
    λ none. absurd (not_empty lives s_in none),
    owned lives b s_in is saved tree.3,
  )
