-- The walk over live changes holds of what is alike, and at later moments.
use Rattle.std.proofs.Common.{refl, ◌≡◌, inl, inr, ◌<◌, ℕ, zero, suc, List, [], ◌∷◌, length, set, sym, ◌∙◌, ap, subst, arith}
use Rattle.std.proofs.lemmas.Bool.{cases_eq}
use Rattle.std.proofs.lemmas.List.{get_or-set_same, get_or-set_other}
use Rattle.rb_base.specs.declared.ids.Xid.{Xid}
use Rattle.law_home.specs.Kinds.{Entry, Empty, Undo}
use Rattle.law_home.specs.Walk.{lock_of, In, Owned, NamesCell, Change, Home, Env, Head, Tree, Next, IsActive, LiveAges, LiveAlike, Alike, own, back, cell_at, entry_at, free_entry}
use Rattle.law_home.proofs.Aging.{back_alike}

module _ (going : ℕ → Type 0) (w : ℕ → ℕ) (env env2 : Env) (ages : LiveAges going w env env2) where
  head_active : (s : ℕ) (ch : Change) (n : ℕ) (b : Home) (r : Undo) → Head env s ch n b r → IsActive env (entry_at b r.entry)
  head_active s ch n b r head = (head.status, ap env.look head.leads.xid ∙ head.active)

  head_alike : (s : ℕ) (ch : Change) (n : ℕ) (b b2 : Home) (r : Undo) → going s → LiveAlike env env2 b b2 → Head env s ch n b r → Head env2 s ch n b2 r
  head_alike s ch n b b2 r goes live head = record {
    there = ages.store s ch.place r goes head.xid head.there;
    active = ap env2.look same_xid ∙ ages.goes_on s goes head.active;
    xid = head.xid ∙ sym same_xid;
    of = head.of ∙ sym same_xid;
    within = omega (arith, head.within, live.alike.entries);
    cell = omega (arith, head.cell, live.alike.cells);
    number = head.number;
    key = head.key;
    home = head.home;
    here = head.here ∙ sym live.alike.block;
    sort = head.sort;
    status = rw e_at head.status;
    leads = record {
      xid = ap (λ (z : Entry). z.xid) e_at ∙ (head.leads.xid ∙ sym same_xid);
      newest = ap (λ (z : Entry). z.newest) e_at ∙ head.leads.newest;
      chain = ap (λ (z : Entry). z.chain) e_at ∙ head.leads.chain;
      seg = head.leads.seg ∙ ap (λ (z : Xid). z.seg) (sym same_xid);
    };
    only = λ j active same. head.only j (live.active j active) (ap (λ (z : Entry). z.xid) (sym (live.entry j (live.active j active))) ∙ (same ∙ same_xid));
    lock = rw x_at head.lock;
    has_key = rw x_at head.has_key;
    shows = λ k. rw x_at (head.shows k);
    cell_before = head.cell_before;
    lock_before = head.lock_before;
    entry_before = head.entry_before;
    oldest = head.oldest;
  }
    where
      same_xid : env2.xid s ≡ env.xid s
      same_xid = ages.xid s goes

      e_at : entry_at b2 r.entry ≡ entry_at b r.entry
      e_at = live.entry r.entry (head_active s ch n b r head)

      x_at : cell_at b2 r.cell ≡ cell_at b r.cell
      x_at = live.cell r.entry r.cell (head_active s ch n b r head) head.lock

  back_live : (s : ℕ) (ch : Change) (n : ℕ) (b b2 : Home) (r : Undo) → LiveAlike env env2 b b2 → Head env s ch n b r → LiveAlike env env2 (back r b) (back r b2)
  back_live s ch n b b2 r live head = record {
    alike = back_alike w env env2 ages.ages r b b2 head.within head.cell live.alike;
    entry = λ i active. elim (cases_eq i r.entry) [
      | inl at ↦ rw at (get_or-set_same b2.entries r.entry r.entry_before free_entry e_in2
          ∙ sym (get_or-set_same b.entries r.entry r.entry_before free_entry head.within))
      | inr ne ↦ get_or-set_other b2.entries r.entry i r.entry_before free_entry ne
          ∙ (live.entry i (rw (sym (get_or-set_other b.entries r.entry i r.entry_before free_entry ne)) active)
          ∙ sym (get_or-set_other b.entries r.entry i r.entry_before free_entry ne))
    ];
    active = λ i active. elim (cases_eq i r.entry) [
      | inl at ↦
          let here : entry_at (back r b) i ≡ r.entry_before = rw at (get_or-set_same b.entries r.entry r.entry_before free_entry head.within) in
          let here2 : entry_at (back r b2) i ≡ r.entry_before = rw at (get_or-set_same b2.entries r.entry r.entry_before free_entry e_in2) in
          let was : IsActive env2 r.entry_before = rw (sym here2) active in
          let is : IsActive env r.entry_before = (was.0, ages.active r.entry_before.xid was.1) in
          rw here is
      | inr ne ↦ rw (get_or-set_other b.entries r.entry i r.entry_before free_entry ne) (live.active i (rw (sym (get_or-set_other b2.entries r.entry i r.entry_before free_entry ne)) active))
    ];
    lock = λ i j active lock. elim (cases_eq j r.cell) [
      | inl at ↦
          let same : cell_at (back r b) j ≡ cell_at (back r b2) j = rw at (get_or-set_same b.cells r.cell r.cell_before Empty head.cell
          ∙ sym (get_or-set_same b2.cells r.cell r.cell_before Empty c_in2)) in
          ap lock_of same ∙ lock
      | inr nj ↦
          let was : IsActive env (entry_at b i) = elim (cases_eq i r.entry) [
            | inl at ↦ rw at (head_active s ch n b r head)
            | inr ne ↦ rw (sym (get_or-set_other b.entries r.entry i r.entry_before free_entry ne)) active
          ] in
          ap lock_of (get_or-set_other b.cells r.cell j r.cell_before Empty nj)
          ∙ live.lock i j was (ap lock_of (sym (get_or-set_other b2.cells r.cell j r.cell_before Empty nj)) ∙ lock)
    ];
    cell = λ i j active lock. elim (cases_eq j r.cell) [
      | inl at ↦ rw at (get_or-set_same b2.cells r.cell r.cell_before Empty c_in2 ∙ sym (get_or-set_same b.cells r.cell r.cell_before Empty head.cell))
      | inr nj ↦
          let x2 : cell_at (back r b2) j ≡ cell_at b2 j = get_or-set_other b2.cells r.cell j r.cell_before Empty nj in
          let x1 : cell_at (back r b) j ≡ cell_at b j = get_or-set_other b.cells r.cell j r.cell_before Empty nj in
          let was : IsActive env (entry_at b i) = elim (cases_eq i r.entry) [
            | inl at ↦ rw at (head_active s ch n b r head)
            | inr ne ↦ rw (sym (get_or-set_other b.entries r.entry i r.entry_before free_entry ne)) active
          ] in
          x2 ∙ (live.cell i j was (rw (sym x1) lock) ∙ sym x1)
    ];
  }
    where
      e_in2 : r.entry < length b2.entries
      e_in2 = omega (arith, head.within, live.alike.entries)

      c_in2 : r.cell < length b2.cells
      c_in2 = omega (arith, head.cell, live.alike.cells)

  still : (lives : List (List Change)) (s : ℕ) (ch : Change) (more : List Change) → own lives s ≡ ch ∷ more
      → ((s : ℕ) (ch : Change) (more : List Change) → own lives s ≡ ch ∷ more → going s) → (u : ℕ) (c : Change) (l : List Change)
      → own (set lives s more) u ≡ c ∷ l → going u
  still lives s ch more has all u c l is = elim (cases_eq u s) [
    | inl us ↦ subst going (sym us) (all s ch more has)
    | inr ne ↦ all u c l (sym (get_or-set_other lives s u more [] ne) ∙ is)
  ]

  some_of : (c : Change) (chs : List Change) → In c chs → (h : Change) × (more : List Change) × (chs ≡ h ∷ more)
  some_of c [] named = absurd named
  some_of c (h ∷ more) named = (h, more, refl)

  owned_alike : (lives : List (List Change)) (b b2 : Home) → ((s : ℕ) (ch : Change) (more : List Change) → own lives s ≡ ch ∷ more → going s)
      → LiveAlike env env2 b b2 → Owned env lives b → Owned env2 lives b2
  owned_alike lives b b2 all live old = λ i j active lock.
      let was : IsActive env (entry_at b i) = live.active i active in
      let f : (s : ℕ) × ((entry_at b i).xid ≡ env.xid s) × NamesCell env lives s j = old i j was (live.lock i j was lock) in
      let h : (h : Change) × (more : List Change) × (own lives f.0 ≡ h ∷ more) = some_of f.2.0 (own lives f.0) f.2.2 in
      let goes : going f.0 = all f.0 h.0 h.1 h.2 in (
        f.0,
        ap (λ (z : Entry). z.xid) (live.entry i was)
            ∙ (f.1 ∙ sym (ages.xid f.0 goes)),
        (f.2.0, f.2.1, f.2.2, ages.store f.0 f.2.0.place f.2.1 goes f.2.5 f.2.3, f.2.4, f.2.5 ∙ sym (ages.xid f.0 goes)),
      )

  pub tree_alike : (rest rest2 : Home → Type 0) → ((b b2 : Home) → Alike env env2 b b2 → rest b → rest2 b2)
      → (m : ℕ) (lives : List (List Change)) (b b2 : Home) → ((s : ℕ) (ch : Change) (more : List Change) → own lives s ≡ ch ∷ more → going s)
      → LiveAlike env env2 b b2 → Tree env m lives b rest → Tree env2 m lives b2 rest2
  tree_alike rest rest2 after zero lives b b2 all live tree = (tree.0, λ j active. tree.1 j (live.active j active), after b b2 live.alike tree.2)
  tree_alike rest rest2 after (suc m) lives b b2 all live tree = (
    λ s ch more has. let next : Next env m lives b rest s ch more = tree.0 s ch more has in
        (next.0, head_alike s ch (suc (length more)) b b2 next.0 (all s ch more has) live next.1, tree_alike rest rest2 after m (set lives s more) (back next.0 b) (back next.0 b2) (still lives s ch more has all) (back_live s ch (suc (length more)) b b2 next.0 live next.1) next.2),
    λ j active.
        let was : IsActive env (entry_at b j) = live.active j active in
        let found : (s : ℕ) × (ch : Change) × (more : List Change) × (own lives s ≡ ch ∷ more) × ((entry_at b j).xid ≡ env.xid s) = tree.1 j was in (
          found.0,
          found.1,
          found.2,
          found.3,
          ap (λ (z : Entry). z.xid) (live.entry j was)
              ∙ (found.4 ∙ sym (ages.xid found.0 (all found.0 found.1 found.2 found.3))),
        ),
    λ none. after b b2 live.alike (tree.2 none),
    owned_alike lives b b2 all live tree.3,
  )
