-- A write that chooses by the rules reads what keeps its home.
use Rattle.std.proofs.Common.{◌≡◌, ◌⊎◌, inl, inr, ◌<◌, ◌/◌, ◌%◌, nat_lt, ℕ, zero, suc, true, List, ◌∷◌, length, map, Some, None, refl, sym, ◌∙◌, ap, subst, arith}
use Rattle.std.proofs.lemmas.Bool.{cases_lt}
use Rattle.std.proofs.lemmas.Bool.Decides.{nat_tests}
use Rattle.std.proofs.lemmas.List.{get_or_past}
use Rattle.rb_base.specs.declared.sizes.TheConstants.{SLOTS}
use Rattle.rb_base.specs.declared.ids.Xid.{Xid}
use Rattle.rb_base.specs.declared.shape.Shape.{Shape}
use Rattle.rb_model.specs.Change.{Kind}
use Rattle.rb_segment.specs.Header.{Segment, slot_in}
use Rattle.law_blocks.specs.Says.{says}
use Rattle.law_blocks.specs.Writes.{Chooses, Reads}
use Rattle.rb_txntable.specs.declared.looks.Look.TheVariants.{Active}
use Rattle.law_home.specs.Kinds.{Free, Open, Entry, Cell, Empty, Row, Stub, Undo}
use Rattle.law_home.specs.Steps.{Stands}
use Rattle.law_home.specs.Walk.{Change, Commit, Home, Env, Rows, Walk, Head, own, entry_at, cell_at, lock_of, taken, free_entry}
use Rattle.law_home.specs.Homes.{here, narrow}
use Rattle.law_home.specs.Steps.{cleaned}
use Rattle.rb_base.specs.Blocks.{table_blocks}
use Rattle.law_blocks.specs.Values.{Past, HomesStand, rows_here, made_by, slot_of}
use Rattle.law_blocks.specs.Says.{xid_by}
use Rattle.law_blocks.specs.Writes.{IsWriter}
use Rattle.law_home.proofs.Standing.{stands_clean}
use Rattle.law_blocks.proofs.Commits.{with_laws}
use Rattle.law_blocks.proofs.StandingWritten.{own_look}
use Rattle.law_home.specs.Writes.{IsOwn}
use Rattle.law_home.proofs.Lives.{found, first}

-- a free cell has no lock
free_unlocked : (x : Cell) → taken x ≡ None → lock_of x ≡ 0
free_unlocked Empty none = refl
free_unlocked (Row key v lock) none = let wrong : Some key ≡ None = none in absurd (cc)
free_unlocked (Stub key zero) none = refl
free_unlocked (Stub key (suc lock)) none = let wrong : Some key ≡ None = none in absurd (cc)

-- where a transaction has one Open entry at most
reads_by : (b : Home) (x : Xid) → ((i j : ℕ) → IsOwn x (entry_at b i) → IsOwn x (entry_at b j) → i ≡ j) → (kind : Kind) (r : Undo) → Chooses kind r x b → Reads kind r x b
reads_by b x one kind r chooses = record {
  xid = chooses.xid;
  here = chooses.here;
  sort = chooses.sort;
  entry_before = chooses.entry_before;
  cell_before = chooses.cell_before;
  fits = record {
    within = chooses.within;
    cell = chooses.cell;
    own = elim chooses.entry_for [
      | inl mine ↦ inl mine
      | inr other ↦ inr (other.0, λ j mine. none j other.1 mine)
    ];
    fresh = elim chooses.cell_for [
      | inl has ↦ inl has
      | inr free ↦ inr (
        free.0,
        λ j has. elim (cases_lt j (length b.cells)) [
          | inl lt ↦ free.1 j lt has
          | inr past ↦ let empty : taken (cell_at b j) ≡ None = ap taken (get_or_past b.cells j Empty (omega (arith, past))) in let wrong : None ≡ Some r.key = sym empty ∙ has in cc
        ],
      )
    ];
    lock = lock_is (lock_of (cell_at b r.cell)) refl;
  };
}
  where
    none : (j : ℕ) → ((j : ℕ) → j < length b.entries → IsOwn x (entry_at b j) → ⊥) → IsOwn x (entry_at b j) → ⊥
    none j never mine = elim (cases_lt j (length b.entries)) [
      | inl lt ↦ never j lt mine
      | inr past ↦ let free : (entry_at b j).status ≡ Free = ap (λ (z : Entry). z.status) (get_or_past b.entries j free_entry (omega (arith, past))) in let wrong : Free ≡ Open = sym free ∙ mine.0 in cc
    ]

    lock_is : (lock : ℕ) → lock_of (cell_at b r.cell) ≡ lock → (lock_of (cell_at b r.cell) ≡ 0) ⊎ (lock_of (cell_at b r.cell) ≡ suc r.entry)
    lock_is zero is = inl is
    lock_is (suc i) is = elim chooses.cell_for [
      | inr free ↦ inl (free_unlocked (cell_at b r.cell) free.0)
      | inl has ↦
          let mine : IsOwn x (entry_at b i) = chooses.waits_not i has is in
          elim chooses.entry_for [
            | inl own_one ↦ inr (is ∙ ap suc (one i r.entry mine own_one))
            | inr other ↦ absurd (none i other.1 mine)
          ]
    ]

module _ (w : ℕ → ℕ) (base : ℕ) (rows : Rows) (list : List Commit) (env : Env) (lives : List (List Change)) (b : Home) (stands : Stands env w base rows list lives b) (s : ℕ) (active : env.look (env.xid s) ≡ Active) where
  -- a transaction has one Open entry at most
  pub one_own : (i j : ℕ) → IsOwn (env.xid s) (entry_at b i) → IsOwn (env.xid s) (entry_at b j) → i ≡ j
  one_own i j one two =
      let f : (u : ℕ) × (ch : Change) × (more : List Change) × (own lives u ≡ ch ∷ more) × ((entry_at b j).xid ≡ env.xid u) = found env (Walk env base rows list) stands.m lives b j (two.0, ap env.look two.1 ∙ active) stands.tree in
      let h : (r : Undo) × Head env f.0 f.1 (suc (length f.2)) b r = first env (Walk env base rows list) stands.m lives b f.0 f.1 f.2 f.3 stands.tree in
      let at_j : j ≡ h.0.entry = h.1.only j (two.0, ap env.look two.1 ∙ active) f.4 in
      let at_i : i ≡ h.0.entry = h.1.only i (one.0, ap env.look one.1 ∙ active) (one.1 ∙ (sym two.1 ∙ f.4)) in
      at_i ∙ sym at_j

  pub reads_of : (kind : Kind) (r : Undo) → Chooses kind r (env.xid s) b → Reads kind r (env.xid s) b
  reads_of = reads_by b (env.xid s) one_own

-- the last id of a slot isn't one to come
not_last : (segments : ℕ → Segment) (x : Xid) (t : ℕ) → x ≡ xid_by segments t → (slot_in (segments x.seg).header x.slot).wrap < x.wrap → ⊥
not_last segments x t same above =
    let seg : x.seg ≡ t / SLOTS = ap (λ (z : Xid). z.seg) same in
    let slot : x.slot ≡ t % SLOTS = ap (λ (z : Xid). z.slot) same in
    let wrap : x.wrap ≡ (slot_in (segments (t / SLOTS)).header (t % SLOTS)).wrap = ap (λ (z : Xid). z.wrap) same in
    let here : x.wrap ≡ (slot_in (segments x.seg).header x.slot).wrap = subst (λ (z : ℕ). x.wrap ≡ (slot_in (segments x.seg).header z).wrap) (sym slot) (subst (λ (z : ℕ). x.wrap ≡ (slot_in (segments z).header (t % SLOTS)).wrap) (sym seg) wrap) in
    omega (arith, here, above)

-- no entry is of a transaction that is still to come
pub none_to_come : (shape : Shape) (segments : ℕ → Segment) (w : ℕ → ℕ) (base : ℕ) (rows : Rows) (list : List Commit) (lives : List (List Change)) (b : Home) → Stands (says shape segments) w base rows list lives b → (x : Xid) → (slot_in (segments x.seg).header x.slot).wrap < x.wrap → (j : ℕ) → IsOwn x (entry_at b j) → ⊥
none_to_come shape segments w base rows list lives b stands x above j mine =
    let test : nat_lt (slot_in (segments x.seg).header x.slot).wrap x.wrap ≡ true = grind (arith, nat_tests) in
    let look : (says shape segments).look x ≡ Active = rw test refl in
    let f : (u : ℕ) × (ch : Change) × (more : List Change) × (own lives u ≡ ch ∷ more) × ((entry_at b j).xid ≡ (says shape segments).xid u) = found (says shape segments) (Walk (says shape segments) base rows list) stands.m lives b j (mine.0, ap (says shape segments).look mine.1 ∙ look) stands.tree in
    not_last segments x f.0 (◌∙◌ {c = xid_by segments f.0} (sym mine.1) f.4) above

-- a write of the slot's own transaction, or of one that takes its slot by it
pub chosen_reads : (shape : Shape) (segments : ℕ → Segment) (homes : ℕ → Home) (past : Past) (lives : List (List Change)) → HomesStand shape segments homes past lives → (b : ℕ) → b < table_blocks shape → (x : Xid) → IsWriter segments x → (kind : Kind) (r : Undo) → Chooses kind r x (cleaned (says shape segments) (homes b)) → Reads kind r x (cleaned (says shape segments) (homes b))
chosen_reads shape segments homes past lives stand b b_in x writer kind r chooses =
    let rows = rows_here shape b past.rows in
    let list = map (narrow b) past.list in
    let clean : Stands (says shape segments) (made_by segments) past.base rows list (map (here b) lives) (cleaned (says shape segments) (homes b)) = stands_clean past.base rows list (made_by segments) (says shape segments) (map (here b) lives) (homes b) (with_laws shape segments past.base rows list (map (here b) lives) (homes b) (stand b b_in)) in
    elim writer [
      | inl own_one ↦
          let active : (says shape segments).look (xid_by segments own_one.0) ≡ Active = own_look (slot_of segments own_one.0) own_one.2 in
          subst (λ (z : Xid). Reads kind r z (cleaned (says shape segments) (homes b))) (sym own_one.1) (reads_of (made_by segments) past.base rows list (says shape segments) (map (here b) lives) (cleaned (says shape segments) (homes b)) clean own_one.0 active kind r (subst (λ (z : Xid). Chooses kind r z (cleaned (says shape segments) (homes b))) own_one.1 chooses))
      | inr above ↦ reads_by (cleaned (says shape segments) (homes b)) x (λ i j mine also. absurd (none_to_come shape segments (made_by segments) past.base rows list (map (here b) lives) (cleaned (says shape segments) (homes b)) clean x above i mine)) kind r chooses
    ]
