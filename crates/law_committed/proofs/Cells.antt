-- Taking live changes back leads each cell to what it was.
use Rattle.std.proofs.Common.{◌≡◌, inl, inr, ⊎_elim, ◌⊎◌, ◌<◌, ◌≤◌, ℕ, zero, suc, List, [], ◌∷◌, length, set, Some, refl, sym, ◌∙◌, ap, subst, arith}
use Rattle.std.proofs.lemmas.Bool.{cases_eq}
use Rattle.std.proofs.lemmas.List.{get_or-set_same, get_or-set_other}
use Rattle.law_committed.specs.First.{Falls, IsFirst, IsLive, IsUnchanged, CommittedCell, CommittedRows}
use Rattle.law_home.proofs.Bottom.{one_bottom}
use Rattle.law_home.proofs.Committing.{top}
use Rattle.law_home.proofs.Holding.{entry_of_slot, locked_cell}
use Rattle.law_home.proofs.Lives.{own_within}
use Rattle.law_home.proofs.Weaker.{tree_weaker}
use Rattle.law_home.specs.Kinds.{Cell, Empty, Undo}
use Rattle.law_home.specs.Steps.{EntryOf}
use Rattle.law_home.specs.Walk.{AllEmpty, Boundary, Change, Commit, Distinct, Env, Home, In, Next, Rows, Tree, Walk, back, cell_at, entry_at, last, lock_of, own, row_of, rows_of}

module _ (env : Env) where
  -- one live change of session s is taken back
  module _ (lives : List (List Change)) (b : Home) (s : ℕ) (ch : Change) (more : List Change) (r : Undo) (is : own lives s ≡ ch ∷ more)
      (falls : Falls env (ch ∷ more)) (there : env.store ch.place ≡ Some r) (within : r.cell < length b.cells) where
    abbrev Left : List (List Change)
    Left = set lives s more

    s_in : s < length lives
    s_in = own_within lives s ch more is

    left_same : own Left s ≡ more
    left_same = get_or-set_same lives s more [] s_in

    live_too : (u : ℕ) (q : Undo) → IsLive env Left u q → IsLive env lives u q
    live_too u q live = elim (cases_eq u s) [
      | inl us ↦
          let later : In live.change more = subst (λ (z : List Change). In live.change z) (ap (own Left) us ∙ left_same) live.live in
          let named : In live.change (ch ∷ more) = inr later in
          record {
            change = live.change;
            live = subst (λ (z : List Change). In live.change z) (sym (ap (own lives) us ∙ is)) named;
            there = live.there;
          }
      | inr ne ↦ record {
        change = live.change;
        live = subst (λ (z : List Change). In live.change z) (get_or-set_other lives s u more [] ne) live.live;
        there = live.there;
      }
    ]

    -- what was live is this record, or is live still
    live_still : (u : ℕ) (q : Undo) → IsLive env lives u q → ((u ≡ s) × (q ≡ r)) ⊎ IsLive env Left u q
    live_still u q live = elim (cases_eq u s) [
      | inl us ↦
          let named : In live.change (ch ∷ more) = subst (λ (z : List Change). In live.change z) (ap (own lives) us ∙ is) live.live in
          ⊎_elim
          (λ first.
          let a : env.store ch.place ≡ Some q = ap (λ (z : Change). env.store z.place) first ∙ live.there in
          let same : q ≡ r = cc in
          inl (us, same))
          (λ later. inr (record {
            change = live.change;
            live = subst (λ (z : List Change). In live.change z) (sym (ap (own Left) us ∙ left_same)) later;
            there = live.there;
          }))
          named
      | inr ne ↦ inr (record {
        change = live.change;
        live = subst (λ (z : List Change). In live.change z) (sym (get_or-set_other lives s u more [] ne)) live.live;
        there = live.there;
      })
    ]

    lower : (q : Undo) → IsLive env Left s q → q.number < r.number
    lower q live = falls.0 live.change r q (subst (λ (z : List Change). In live.change z) left_same live.live) there live.there

    this_live : IsLive env lives s r
    this_live =
        let named : In ch (ch ∷ more) = inl refl in
        record { change = ch; live = subst (λ (z : List Change). In ch z) (sym is) named; there = there }

    first_too : (u j : ℕ) (q : Undo) → IsFirst env Left u j q → IsFirst env lives u j q
    first_too u j q first = record {
      live = live_too u q first.live;
      cell = first.cell;
      lowest = λ p live at. ⊎_elim
          (λ this.
          let low : q.number < r.number = lower q (subst (λ (z : ℕ). IsLive env Left z q) this.0 first.live) in
          let number : p.number ≡ r.number = ap (λ (z : Undo). z.number) this.1 in
          omega (arith, low, number))
          (λ still. first.lowest p still at)
          (live_still u p live);
    }

    this_first : (j : ℕ) → r.cell ≡ j → IsUnchanged env Left j → IsFirst env lives s j r
    this_first j at none = record {
      live = this_live;
      cell = at;
      lowest = λ p live of. ⊎_elim
          (λ this.
          let number : p.number ≡ r.number = ap (λ (z : Undo). z.number) this.1 in
          omega (arith, number))
          (λ still. absurd (none s p still of))
          (live_still s p live);
    }

    pub was_before : (j : ℕ) (x : Cell) → CommittedCell env Left (back r b) j x → CommittedCell env lives b j x
    was_before j x was = ⊎_elim
        (λ stays. elim (cases_eq j r.cell) [
          | inl at ↦
              let here : cell_at (back r b) r.cell ≡ r.cell_before = get_or-set_same b.cells r.cell r.cell_before Empty within in
              let same : cell_at (back r b) r.cell ≡ x = ap (cell_at (back r b)) (sym at) ∙ stays.1 in
              inr (s, r, this_first j (sym at) stays.0, sym here ∙ same)
          | inr ne ↦ inl (
            λ u q live of. ⊎_elim
                (λ this. ne (sym of ∙ ap (λ (z : Undo). z.cell) this.1))
                (λ still. stays.0 u q still of)
                (live_still u q live),
            sym (get_or-set_other b.cells r.cell j r.cell_before Empty ne) ∙ stays.1,
          )
        ])
        (λ first. inr (first.0, first.1, first_too first.0 j first.1 first.2, first.3))
        was

  none_live : (lives : List (List Change)) (b : Home) → AllEmpty lives → (j : ℕ) → CommittedCell env lives b j (cell_at b j)
  none_live lives b none j = inl (λ s r live of. subst (λ (z : List Change). In live.change z) (none s) live.live, refl)

  left_falls : (lives : List (List Change)) (s : ℕ) (ch : Change) (more : List Change) → own lives s ≡ ch ∷ more
      → ((s : ℕ) → Falls env (own lives s)) → (u : ℕ) → Falls env (own (set lives s more) u)
  left_falls lives s ch more is falls u = elim (cases_eq u s) [
    | inl us ↦
        let fall : Falls env (ch ∷ more) = subst (λ (z : List Change). Falls env z) is (falls s) in
        subst (λ (z : List Change). Falls env z) (sym (ap (own (set lives s more)) us ∙ get_or-set_same lives s more [] (own_within lives s ch more is))) fall.1
    | inr ne ↦ subst (λ (z : List Change). Falls env z) (sym (get_or-set_other lives s u more [] ne)) (falls u)
  ]

  abbrev EndsAs : List (List Change) → Home → (Home → Type 0) → Home → Type 0
  EndsAs lives b rest end = rest end × ((j : ℕ) → CommittedCell env lives b j (cell_at end j))

  pub ends_committed : (rest : Home → Type 0) (m : ℕ) (lives : List (List Change)) (b : Home) → ((s : ℕ) → Falls env (own lives s))
      → Tree env m lives b rest → Tree env m lives b (EndsAs lives b rest)
  ends_committed rest zero lives b falls tree = (tree.0, tree.1, (tree.2, none_live lives b tree.0))
  ends_committed rest (suc m) lives b falls tree = (
    λ s ch more is.
        let next : Next env m lives b rest s ch more = tree.0 s ch more is in
        let fall : Falls env (ch ∷ more) = subst (λ (z : List Change). Falls env z) is (falls s) in
        let deep : Tree env m (set lives s more) (back next.0 b) (EndsAs (set lives s more) (back next.0 b) rest) =
        ends_committed rest m (set lives s more) (back next.0 b) (left_falls lives s ch more is falls) next.2 in (
          next.0,
          next.1,
          tree_weaker env (EndsAs (set lives s more) (back next.0 b) rest) (EndsAs lives b rest)
              (λ end both. (both.0, λ j. was_before lives b s ch more next.0 is fall next.1.there next.1.cell j (cell_at end j) (both.1 j)))
              m (set lives s more) (back next.0 b) deep,
        ),
    tree.1,
    λ none. (tree.2 none, none_live lives b none),
    tree.3,
  )

  -- records of one session that have the same number are the same
  pub apart : (chs : List Change) → Falls env chs → (c d : Change) (r q : Undo) → In c chs → In d chs → env.store c.place ≡ Some r
      → env.store d.place ≡ Some q → r.number ≡ q.number → r ≡ q
  apart [] falls c d r q in_c in_d has_r has_q same = absurd in_c
  apart (ch ∷ more) falls c d r q in_c in_d has_r has_q same = ⊎_elim
      (λ c_first.
      let a : env.store ch.place ≡ Some r = ap (λ (z : Change). env.store z.place) c_first ∙ has_r in
      ⊎_elim
      (λ d_first. let e : env.store ch.place ≡ Some q = ap (λ (z : Change). env.store z.place) d_first ∙ has_q in cc)
      (λ d_later. let low : q.number < r.number = falls.0 d r q d_later a has_q in absurd (omega (arith, low, same)))
      in_d)
      (λ c_later. ⊎_elim
      (λ d_first.
      let e : env.store ch.place ≡ Some q = ap (λ (z : Change). env.store z.place) d_first ∙ has_q in
      let low : r.number < q.number = falls.0 c q r c_later e has_r in
      absurd (omega (arith, low, same)))
      (λ d_later. apart more falls.1 c d r q c_later d_later has_r has_q same)
      in_d)
      in_c

  some_of : (chs : List Change) (c : Change) → In c chs → (h : Change) × (more : List Change) × (chs ≡ h ∷ more)
  some_of [] c named = absurd named
  some_of (h ∷ more) c named = (h, more, refl)

  module _ (rest : Home → Type 0) (m : ℕ) (lives : List (List Change)) (b : Home) (falls : (s : ℕ) → Falls env (own lives s)) (distinct : Distinct env)
      (tree : Tree env m lives b rest) where
    abbrev Locked : ℕ → Undo → Type 0
    Locked s r = (e : EntryOf env b s) × (lock_of (cell_at b r.cell) ≡ suc e.entry)

    -- a live record's cell is locked by its session's entry
    locked : (s : ℕ) (r : Undo) → IsLive env lives s r → Locked s r
    locked s r live =
        let f : (h : Change) × (more : List Change) × (own lives s ≡ h ∷ more) = some_of (own lives s) live.change live.live in
        let e : EntryOf env b s = entry_of_slot env rest m lives b tree s f.0 f.1 f.2 in
        let l = locked_cell env rest s e.entry (own lives s) m lives b refl (own_within lives s f.0 f.1 f.2) e.only tree live.change r live.live live.there in
        (e, l.1)

    one_session : (s u : ℕ) (r q : Undo) → IsLive env lives s r → IsLive env lives u q → r.cell ≡ q.cell → u ≡ s
    one_session s u r q live_r live_q same =
        let a : Locked s r = locked s r live_r in
        let c : Locked u q = locked u q live_q in
        let lock_a : lock_of (cell_at b r.cell) ≡ suc a.0.entry = a.1 in
        let lock_c : lock_of (cell_at b r.cell) ≡ suc c.0.entry = ap (λ (z : ℕ). lock_of (cell_at b z)) same ∙ c.1 in
        let both : suc a.0.entry ≡ suc c.0.entry = sym lock_a ∙ lock_c in
        let entries : c.0.entry ≡ a.0.entry = omega (arith, both) in
        let xids : env.xid u ≡ env.xid s = sym c.0.xid ∙ (ap (λ (z : ℕ). (entry_at b z).xid) entries ∙ a.0.xid) in
        distinct s u (ap env.look (sym c.0.xid) ∙ c.0.active.1) xids

    one_first : (j s u : ℕ) (r q : Undo) → IsFirst env lives s j r → IsFirst env lives u j q → r ≡ q
    one_first j s u r q f g =
        let us : u ≡ s = one_session s u r q f.live g.live (f.cell ∙ sym g.cell) in
        let live_q : IsLive env lives s q = subst (λ (z : ℕ). IsLive env lives z q) us g.live in
        let live_r : IsLive env lives u r = subst (λ (z : ℕ). IsLive env lives z r) (sym us) f.live in
        let up : r.number ≤ q.number = f.lowest q live_q g.cell in
        let down : q.number ≤ r.number = g.lowest r live_r f.cell in
        let same : r.number ≡ q.number = omega (arith, up, down) in
        apart (own lives s) (falls s) f.live.change live_q.change r q f.live.live live_q.live f.live.there live_q.there same

    pub one_cell : (j : ℕ) (x y : Cell) → CommittedCell env lives b j x → CommittedCell env lives b j y → x ≡ y
    one_cell j x y was_x was_y = ⊎_elim
        (λ stays. ⊎_elim
        (λ stays_y. sym stays.1 ∙ stays_y.1)
        (λ first_y. absurd (stays.0 first_y.0 first_y.1 first_y.2.live first_y.2.cell))
        was_y)
        (λ first. ⊎_elim
        (λ stays_y. absurd (stays_y.0 first.0 first.1 first.2.live first.2.cell))
        (λ first_y.
        let same : first.1 ≡ first_y.1 = one_first j first.0 first_y.0 first.1 first_y.1 first.2 first_y.2 in
        sym first.3 ∙ (ap (λ (z : Undo). z.cell_before) same ∙ first_y.3))
        was_y)
        was_x

  -- one end that any way may lead to
  module _ (rest : Home → Type 0) (m : ℕ) (lives : List (List Change)) (b : Home) (falls : (s : ℕ) → Falls env (own lives s)) (distinct : Distinct env)
      (tree : Tree env m lives b rest) where
    Ended : Tree env m lives b (EndsAs lives b rest)
    Ended = ends_committed rest m lives b falls tree

    pub ended : (c : Home) × EndsAs lives b rest c × EndsAs lives b rest c
    ended = one_bottom env distinct m m lives lives b (EndsAs lives b rest) (EndsAs lives b rest) Ended Ended

    pub is_one : (j : ℕ) → (x : Cell) × CommittedCell env lives b j x × ((y : Cell) → CommittedCell env lives b j y → x ≡ y)
    is_one j =
        let there : CommittedCell env lives b j (cell_at ended.0 j) = ended.1.1 j in
        (cell_at ended.0 j, there, λ y was. one_cell rest m lives b falls distinct tree j (cell_at ended.0 j) y there was)

  pub cells_show : (base : ℕ) (rows : Rows) (list : List Commit) (m : ℕ) (lives : List (List Change)) (b : Home)
      → ((s : ℕ) → Falls env (own lives s)) → Distinct env → Tree env m lives b (Walk env base rows list) → CommittedRows env lives b (rows_of rows list)
  cells_show base rows list m lives b falls distinct tree = record {
    sound = λ j k x v was shown.
        let same : x ≡ cell_at end.0 j = one_cell (Walk env base rows list) m lives b falls distinct tree j x (cell_at end.0 j) was (end.1.1 j) in
        is.is.sound j k v (subst (λ (z : Cell). row_of z k ≡ Some v) same shown);
    complete = λ k v has.
        let f : (j : ℕ) × (row_of (cell_at end.0 j) k ≡ Some v) = is.is.complete k v has in
        (f.0, cell_at end.0 f.0, end.1.1 f.0, f.1);
  }
    where
      end : (c : Home) × EndsAs lives b (Walk env base rows list) c × EndsAs lives b (Walk env base rows list) c
      end = ended (Walk env base rows list) m lives b falls distinct tree

      is : Boundary env end.0 (last base list) (rows_of rows list)
      is = top env base rows list end.0 end.1.0
