-- Each live change's cell is locked by its session, so no two sessions hold a key.
use Rattle.std.proofs.Common.{None, refl, ◌≡◌, inl, inr, ⊎_elim, ◌<◌, ℕ, zero, suc, List, [], ◌∷◌, length, set, Some, sym, ◌∙◌, ap, subst, arith}
use Rattle.std.proofs.lemmas.Bool.{cases_eq}
use Rattle.std.proofs.lemmas.List.{get_or-set_same, get_or-set_other, length-set}
use Rattle.law_home.specs.Kinds.{Undo, Empty}
use Rattle.law_home.specs.Walk.{In, NamesCell, Commit, Rows, Walk, Distinct, Change, Home, Env, Head, Tree, Next, IsActive, Unique, own, back, cell_at, entry_at, lock_of, taken, free_entry}
use Rattle.law_home.proofs.Lives.{own_within, found}
use Rattle.law_home.specs.Steps.{Names, EntryOf, HeldCell}

module _ (env : Env) (rest : Home → Type 0) (s i : ℕ) where
  abbrev pub Locks : Home → ℕ → Type 0
  Locks b key = (j : ℕ) × (taken (cell_at b j) ≡ Some key) × (lock_of (cell_at b j) ≡ suc i)

  pub locked : (chs : List Change) (m : ℕ) (lives : List (List Change)) (b : Home) → own lives s ≡ chs → s < length lives
      → ((j : ℕ) → IsActive env (entry_at b j) → (entry_at b j).xid ≡ env.xid s → j ≡ i) → Tree env m lives b rest → (key : ℕ) → Names chs key
      → Locks b key
  locked [] m lives b is s_in only tree key names = absurd names
  locked (ch ∷ more) zero lives b is s_in only tree key names = let none : own lives s ≡ [] = tree.0 s in absurd (cc)
  locked (ch ∷ more) (suc m) lives b is s_in only tree key names =
      let next : Next env m lives b rest s ch more = tree.0 s ch more is in
      let head : Head env s ch (suc (length more)) b next.0 = next.1 in
      let at : next.0.entry ≡ i = only next.0.entry (head.status, ap env.look head.leads.xid ∙ head.active) head.leads.xid in
      let here : Locks b ch.key = (next.0.cell, head.has_key, head.lock ∙ ap suc at) in
      ⊎_elim (λ is_key. subst (λ (z : ℕ). Locks b z) is_key here)
      (λ later.
      let deep : Locks (back next.0 b) key = locked more m (set lives s more) (back next.0 b) (get_or-set_same lives s more [] s_in) (simp length-set s_in)
      (λ j active same. elim (cases_eq j next.0.entry) [
        | inl je ↦ je ∙ at
        | inr ne ↦ only j (rw (sym (get_or-set_other b.entries next.0.entry j next.0.entry_before free_entry ne)) active) (rw (sym (get_or-set_other b.entries next.0.entry j next.0.entry_before free_entry ne)) same)
      ]) next.2 key later in
      elim (cases_eq deep.0 next.0.cell) [
        | inl jc ↦
            let before : cell_at (back next.0 b) deep.0 ≡ next.0.cell_before =
            subst (λ (z : ℕ). cell_at (back next.0 b) z ≡ next.0.cell_before) (sym jc) (get_or-set_same b.cells next.0.cell next.0.cell_before Empty head.cell) in
            let had : taken next.0.cell_before ≡ Some key = ap taken (sym before) ∙ deep.1 in
            ⊎_elim (λ none. absurd (cc)) (λ same. let keys : ch.key ≡ key = cc in subst (λ (z : ℕ). Locks b z) keys here) head.cell_before
        | inr ne ↦
            let there : cell_at (back next.0 b) deep.0 ≡ cell_at b deep.0 = get_or-set_other b.cells next.0.cell deep.0 next.0.cell_before Empty ne in
            (deep.0, ap taken (sym there) ∙ deep.1, ap lock_of (sym there) ∙ deep.2)
      ])
      names

module _ (env : Env) (rest : Home → Type 0) (s i : ℕ) where
  abbrev Shown : Home → Change → Undo → Type 0
  Shown b c r = (taken (cell_at b r.cell) ≡ Some c.key) × (lock_of (cell_at b r.cell) ≡ suc i)

  -- the cell of each live change has its key and its lock
  pub locked_cell : (chs : List Change) (m : ℕ) (lives : List (List Change)) (b : Home) → own lives s ≡ chs → s < length lives
      → ((j : ℕ) → IsActive env (entry_at b j) → (entry_at b j).xid ≡ env.xid s → j ≡ i) → Tree env m lives b rest → (c : Change) (r : Undo)
      → In c chs → env.store c.place ≡ Some r → Shown b c r
  locked_cell [] m lives b is s_in only tree c r named there = absurd named
  locked_cell (ch ∷ more) zero lives b is s_in only tree c r named there = let none : own lives s ≡ [] = tree.0 s in absurd (cc (none, is))
  locked_cell (ch ∷ more) (suc m) lives b is s_in only tree c r named there =
      let next : Next env m lives b rest s ch more = tree.0 s ch more is in
      let head : Head env s ch (suc (length more)) b next.0 = next.1 in
      let at : next.0.entry ≡ i = only next.0.entry (head.status, ap env.look head.leads.xid ∙ head.active) head.leads.xid in
      let here : Shown b ch next.0 = (head.has_key, head.lock ∙ ap suc at) in
      ⊎_elim
      (λ first.
      let a : env.store ch.place ≡ Some r = ap (λ (z : Change). env.store z.place) first ∙ there in
      let t : env.store ch.place ≡ Some next.0 = head.there in
      let same : next.0 ≡ r = cc in
      subst (λ (z : Change). Shown b z r) first (subst (λ (z : Undo). Shown b ch z) same here))
      (λ later.
      let deep : Shown (back next.0 b) c r = locked_cell more m (set lives s more) (back next.0 b) (get_or-set_same lives s more [] s_in) (simp length-set s_in)
      (λ j active same. elim (cases_eq j next.0.entry) [
        | inl je ↦ je ∙ at
        | inr ne ↦ only j (rw (sym (get_or-set_other b.entries next.0.entry j next.0.entry_before free_entry ne)) active) (rw (sym (get_or-set_other b.entries next.0.entry j next.0.entry_before free_entry ne)) same)
      ]) next.2 c r later there in
      elim (cases_eq r.cell next.0.cell) [
        | inl jc ↦
            let before : cell_at (back next.0 b) r.cell ≡ next.0.cell_before =
            subst (λ (z : ℕ). cell_at (back next.0 b) z ≡ next.0.cell_before) (sym jc) (get_or-set_same b.cells next.0.cell next.0.cell_before Empty head.cell) in
            let had : taken next.0.cell_before ≡ Some c.key = ap taken (sym before) ∙ deep.0 in
            let keys : Some ch.key ≡ Some c.key =
            ⊎_elim (λ none. let n : taken next.0.cell_before ≡ None = none in cc) (λ same. sym same ∙ had) head.cell_before in
            (subst (λ (z : ℕ). taken (cell_at b z) ≡ Some c.key) (sym jc) (head.has_key ∙ keys), subst (λ (z : ℕ). lock_of (cell_at b z) ≡ suc i) (sym jc) here.1)
        | inr ne ↦
            let same : cell_at (back next.0 b) r.cell ≡ cell_at b r.cell = get_or-set_other b.cells next.0.cell r.cell next.0.cell_before Empty ne in
            (ap taken (sym same) ∙ deep.0, ap lock_of (sym same) ∙ deep.1)
      ])
      named

-- a key whose cell an active entry locks is held by that entry's session
pub holder : (env : Env) (base : ℕ) (rows : Rows) (list : List Commit) (m : ℕ) (lives : List (List Change)) (b : Home) → Distinct env
    → Tree env m lives b (Walk env base rows list) → (i j key : ℕ) → IsActive env (entry_at b i) → taken (cell_at b j) ≡ Some key
    → lock_of (cell_at b j) ≡ suc i → (s : ℕ) × ((entry_at b i).xid ≡ env.xid s) × Names (own lives s) key
holder env base rows list m0 lives b distinct tree0 i j key active has lock = by_m m0 tree0
  where
    named : (chs : List Change) (c : Change) → In c chs → c.key ≡ key → Names chs key
    named [] c is same = absurd is
    named (ch ∷ more) c (inl first) same = inl (ap (λ (z : Change). z.key) first ∙ same)
    named (ch ∷ more) c (inr later) same = inr (named more c later same)

    by_m : (m : ℕ) → Tree env m lives b (Walk env base rows list) → (s : ℕ) × ((entry_at b i).xid ≡ env.xid s) × Names (own lives s) key
    by_m zero tree = absurd (tree.1 i active)
    by_m (suc m) tree =
        let f : (s : ℕ) × ((entry_at b i).xid ≡ env.xid s) × NamesCell env lives s j = tree.3 i j active lock in
        let g : (u : ℕ) × (ch : Change) × (more : List Change) × (own lives u ≡ ch ∷ more) × ((entry_at b i).xid ≡ env.xid u) = tree.1 i active in
        let us : g.0 ≡ f.0 = distinct f.0 g.0 (ap env.look (sym g.4) ∙ active.1) (sym g.4 ∙ f.1) in
        let h : Next env m lives b (Walk env base rows list) g.0 g.1 g.2 = tree.0 g.0 g.1 g.2 g.3 in
        let is : own lives f.0 ≡ g.1 ∷ g.2 = ap (own lives) (sym us) ∙ g.3 in
        let s_in : f.0 < length lives = own_within lives f.0 g.1 g.2 is in
        let at : i ≡ h.0.entry = h.1.only i active g.4 in
        let only : (k : ℕ) → IsActive env (entry_at b k) → (entry_at b k).xid ≡ env.xid f.0
        → k ≡ i = λ k act same. h.1.only k act (same ∙ ap env.xid (sym us)) ∙ sym at in
        let shown : Shown env (Walk env base rows list) f.0 i b f.2.0 f.2.1 =
        locked_cell env (Walk env base rows list) f.0 i (own lives f.0) (suc m) lives b refl s_in only tree f.2.0 f.2.1 f.2.2 f.2.3 in
        let at_j : taken (cell_at b j) ≡ Some f.2.0.key = subst (λ (z : ℕ). taken (cell_at b z) ≡ Some f.2.0.key) f.2.4 shown.0 in
        let keys : f.2.0.key ≡ key = cc in
        (f.0, f.1, named (own lives f.0) f.2.0 f.2.2 keys)

-- a session with live changes here has such an entry
pub entry_of_slot : (env : Env) (rest : Home → Type 0) (m : ℕ) (lives : List (List Change)) (b : Home) → Tree env m lives b rest
    → (s : ℕ) (ch : Change) (more : List Change) → own lives s ≡ ch ∷ more → EntryOf env b s
entry_of_slot env rest zero lives b tree s ch more is = let none : own lives s ≡ [] = tree.0 s in absurd (cc (none, is))
entry_of_slot env rest (suc m) lives b tree s ch more is =
    let next : Next env m lives b rest s ch more = tree.0 s ch more is in
    let head : Head env s ch (suc (length more)) b next.0 = next.1 in
    record {
      entry = next.0.entry;
      within = head.within;
      active = (head.status, ap env.look head.leads.xid ∙ head.active);
      xid = head.leads.xid;
      only = head.only;
    }

-- no two active entries are of one transaction
pub entries_apart : (env : Env) (rest : Home → Type 0) (m : ℕ) (lives : List (List Change)) (b : Home) → Tree env m lives b rest → (i j : ℕ)
    → IsActive env (entry_at b i) → IsActive env (entry_at b j) → (entry_at b i).xid ≡ (entry_at b j).xid → i ≡ j
entries_apart env rest m lives b tree i j ai aj same =
    let f : (s : ℕ) × (ch : Change) × (more : List Change) × (own lives s ≡ ch ∷ more)
    × ((entry_at b i).xid ≡ env.xid s) = found env rest m lives b i ai tree in
    let e : EntryOf env b f.0 = entry_of_slot env rest m lives b tree f.0 f.1 f.2 f.3 in
    e.only i ai f.4 ∙ sym (e.only j aj (sym same ∙ f.4))

pub some_named : (chs : List Change) (k : ℕ) → Names chs k → (ch : Change) × (more : List Change) × (chs ≡ ch ∷ more)
some_named [] k named = absurd named
some_named (ch ∷ more) k named = (ch, more, refl)

pub held_cell : (env : Env) (rest : Home → Type 0) (m : ℕ) (lives : List (List Change)) (b : Home) → Tree env m lives b rest → (s k : ℕ)
    → Names (own lives s) k → HeldCell env b s k
held_cell env rest m lives b tree s k named =
    let f : (ch : Change) × (more : List Change) × (own lives s ≡ ch ∷ more) = some_named (own lives s) k named in
    let e : EntryOf env b s = entry_of_slot env rest m lives b tree s f.0 f.1 f.2 in
    let l : Locks env rest s e.entry b k = locked env rest s e.entry (own lives s) m lives b refl (own_within lives s f.0 f.1 f.2) e.only tree k named in
    record { entry = e; cell = l.0; has_key = l.1; lock = l.2 }

-- no two slots have changes of one key
pub one_slot_names : (env : Env) (rest : Home → Type 0) (m : ℕ) (lives : List (List Change)) (b : Home) → Distinct env → Unique b
    → Tree env m lives b rest → (s u k : ℕ) → Names (own lives s) k → Names (own lives u) k → s ≡ u
one_slot_names env rest m lives b distinct unique tree s u k first second =
    let a : HeldCell env b s k = held_cell env rest m lives b tree s k first in
    let c : HeldCell env b u k = held_cell env rest m lives b tree u k second in
    let same : a.cell ≡ c.cell = unique a.cell c.cell k a.has_key c.has_key in
    let lock : lock_of (cell_at b a.cell) ≡ suc c.entry.entry = subst (λ (z : ℕ). lock_of (cell_at b z) ≡ suc c.entry.entry) (sym same) c.lock in
    let eq : suc a.entry.entry ≡ suc c.entry.entry = sym a.lock ∙ lock in
    let entries : a.entry.entry ≡ c.entry.entry = omega (arith, eq) in
    let xids : env.xid s ≡ env.xid u = sym a.entry.xid ∙ (ap (λ (z : ℕ). (entry_at b z).xid) entries ∙ c.entry.xid) in
    distinct u s (ap env.look (sym a.entry.xid) ∙ a.entry.active.1) xids
