-- What a key's cleaned home says of the key is what the machine does, where no other session holds it.
use Rattle.std.proofs.Common.{◌≡◌, ◌≢◌, ◌⊎◌, inl, inr, ◌<◌, ◌≤◌, ◌%◌, ◌==◌, ◌&&◌, ◌||◌, cond, ℕ, zero, suc, Bool, true, false, not, List, length, Option, Some, None, refl, sym, ◌∙◌, ap, arith}
use Rattle.std.proofs.Math.ListN as lists
use Rattle.std.proofs.lemmas.Bool.{and_from, and_parts, cases_Bool, cases_lt, cond-true, cond-false, eq-eqb, eqb-true, false≢true}
use Rattle.std.proofs.lemmas.List.{length-map}
use Rattle.rb_write.specs.Asks.{shows_row}
use Rattle.rb_write.specs.Refusals.{HasNoCell, HasNoRow, HasRow}
use Rattle.rb_write.proofs.Rows.{row_or_none}
use Rattle.rb_base.specs.Blocks.{block_of, home_block, table_blocks}
use Rattle.rb_base.specs.declared.ids.Xid.{Xid}
use Rattle.rb_cell.specs.declared.cell.Cell as cells
use Rattle.rb_cell.specs.declared.cell.TheConstants.{CELLS, EMPTY, ROW}
use Rattle.rb_heap.specs.Cleaning.{cleaned_cell, cleaned_home}
use Rattle.rb_heap.specs.Homes as heap
use Rattle.rb_heap.specs.Homes.{empty_cell, home_cell, home_of, is_free, is_keyed, IsFirst}
use Rattle.rb_heap.specs.Soundness.{IsCellSound}
use Rattle.rb_heap.proofs.Reading.{cells_counted}
use Rattle.rb_model.specs.Full.{full_block}
use Rattle.rb_model.specs.State.{State}
use Rattle.rb_model.specs.Calls.{rows_now}
use Rattle.rb_model.specs.Rows.{has_row}
use Rattle.rb_model.specs.Tests.{holder, holds}
use Rattle.rb_segment.specs.Header.{Segment}
use Rattle.law_blocks.specs.Says.{walk_cell, walk_home}
use Rattle.law_blocks.specs.Standing.{env_of, homes_of, segments_of}
use Rattle.law_blocks.specs.States.{BlocksStand, lives_of, past_of}
use Rattle.law_blocks.proofs.CleanedSound as clean
use Rattle.law_blocks.proofs.HomeChosen.{free_taken}
use Rattle.law_blocks.proofs.HomesSound.{keyed_taken, taken_is}
use Rattle.law_write.specs.Stood.{IsClean, Stood}
use Rattle.law_write.specs.VerdictLaws.{clean_home}
use Rattle.law_write.proofs.Cleaned.{is_clean, stood_clean}
use Rattle.law_write.proofs.FullHomes as full
use Rattle.law_write.proofs.FullHomes.{AllTaken}
use Rattle.law_write.proofs.Presence as presence
use Rattle.law_write.proofs.Sites.{row_block}
use Rattle.law_write.proofs.StoodBlocks.{home_is, stood_of}
use Rattle.law_home.specs.Kinds.{Cell, Empty, Row, Stub}
use Rattle.law_home.specs.Walk.{Home, cell_at, row_of, taken}

-- a cell that holds the row of the key, in both words
row_walked : (key : ℕ) (x : cells.Cell) → x.state ≡ ROW → x.key ≡ key → row_of (walk_cell x) key ≡ Some x.value.items
row_walked key x is same =
    ap (λ (c : Cell). row_of c key) (cond-true (x.state == ROW) (Row x.key x.value.items x.lock) (cond ((x.state == EMPTY) && (x.lock == 0)) Empty (Stub x.key x.lock)) (eq-eqb x.state ROW is))
    ∙ cond-true (key == x.key) (Some x.value.items) None (eq-eqb key x.key (sym same))

walked_row : (key : ℕ) (x : cells.Cell) (v : List ℕ) → row_of (walk_cell x) key ≡ Some v → (x.state ≡ ROW) × (x.key ≡ key)
walked_row key x v shown = by (x.state == ROW) ((x.state == EMPTY) && (x.lock == 0)) refl shown
  where
    by : (r e : Bool) → (x.state == ROW) ≡ r → row_of (cond r (Row x.key x.value.items x.lock) (cond e Empty (Stub x.key x.lock))) key ≡ Some v → (x.state ≡ ROW) × (x.key ≡ key)
    by true e is some = (
      eqb-true x.state ROW is,
      elim (cases_Bool (key == x.key)) [
        | inl same ↦ sym (eqb-true key x.key same)
        | inr other ↦ let never : None ≡ Some v = sym (cond-false (key == x.key) (Some x.value.items) None other) ∙ some in absurd cc
      ],
    )
    by false true is some = absurd cc
    by false false is some = absurd cc

row_keyed : (key : ℕ) (x : cells.Cell) → x.state ≡ ROW → x.key ≡ key → is_keyed key x ≡ true
row_keyed key x is same = and_from ((x.state == ROW) || not (x.lock == 0)) (x.key == key) (ap (λ b. b || not (x.lock == 0)) (eq-eqb x.state ROW is)) (eq-eqb x.key key same)

-- a cell in order that isn't free keeps its key
not_free : (state lock : ℕ) → state ≤ 2 → ((state == 0) || ((state == 2) && (lock == 0))) ≡ false → ((state == 1) || not (lock == 0)) ≡ true
not_free zero lock few is = absurd (false≢true (sym is))
not_free (suc zero) lock few is = refl
not_free (suc (suc zero)) lock few is = ap not is
not_free (suc (suc (suc n))) lock few is = absurd (omega (arith, few))

module _ (h : State) (xids : List Xid) (blocks : List (List ℕ)) (stand : BlocksStand h xids blocks) (table key : ℕ) (first : 1 ≤ table) (last : table ≤ h.shape.tables) where
  abbrev pub Which : ℕ
  Which = home_block h.shape table key

  -- the home as blocks say it, cleaned, and as the walk does
  abbrev pub Cleaned : heap.Home
  Cleaned = cleaned_home (env_of h.shape blocks).look (home_of (block_of blocks Which))

  abbrev pub Walked : Home
  Walked = clean_home h blocks Which

  abbrev pub Segs : ℕ → Segment
  Segs = segments_of h.shape blocks

  pub stood : Stood h xids Segs (clean_home h blocks)
  stood = stood_clean h xids Segs (homes_of h.shape blocks) (stood_of h xids blocks stand)

  pub which_in : Which < table_blocks h.shape
  which_in = row_block h.shape table key stand.tell.in_range.few_blocks.0 first last

  pub walked_is : walk_home h.shape Which Cleaned ≡ Walked
  walked_is = home_is h xids blocks stand Which which_in

  pub is_clean_here : IsClean (env_of h.shape blocks) Walked
  is_clean_here = is_clean (env_of h.shape blocks) (homes_of h.shape blocks Which)

  pub cell_is : (c : ℕ) → cell_at Walked c ≡ walk_cell (home_cell Cleaned c)
  cell_is c = ap (λ (b : Home). cell_at b c) (sym walked_is) ∙ lists.get_or-map walk_cell Cleaned.cells c empty_cell

  cell_sound : (c : ℕ) → c < CELLS → IsCellSound h.shape (Which % h.shape.blocks) (home_cell Cleaned c)
  cell_sound = clean.cell_in_order h.shape blocks (past_of h xids) (lives_of h (env_of h.shape blocks)) stand.standing Which which_in

  sixteen : length Cleaned.cells ≡ CELLS
  sixteen = length-map (home_of (block_of blocks Which)).cells (cleaned_cell (env_of h.shape blocks).look (home_of (block_of blocks Which))) ∙ cells_counted (block_of blocks Which)

  -- the first cell that has the key is the only one
  keyed_once : (c k : ℕ) → is_keyed key (home_cell Cleaned c) ≡ true → is_keyed key (home_cell Cleaned k) ≡ true → c ≡ k
  keyed_once c k one two = (stood.each Which which_in).unique c k key (ap taken (cell_is c) ∙ keyed_taken key (home_cell Cleaned c) one) (ap taken (cell_is k) ∙ keyed_taken key (home_cell Cleaned k) two)

  keyed_first : (c : ℕ) → c < CELLS → is_keyed key (home_cell Cleaned c) ≡ true → IsFirst (is_keyed key) Cleaned.cells c
  keyed_first c lt is = record {
    within = lt;
    passes = is;
    lower = λ k under. elim (cases_Bool (is_keyed key (home_cell Cleaned k))) [
      | inl keyed ↦ let same = keyed_once k c keyed is in absurd (omega (arith, same, under))
      | inr not_keyed ↦ not_keyed
    ];
  }

  keyed_within : (c : ℕ) → is_keyed key (home_cell Cleaned c) ≡ true → c < CELLS
  keyed_within c is = elim (cases_lt c CELLS) [
    | inl lt ↦ lt
    | inr le ↦
        let n = sixteen in
        let out : home_cell Cleaned c ≡ empty_cell = lists.get_or-eq_default Cleaned.cells empty_cell (omega (arith, n, le)) in
        absurd (false≢true (sym (ap (is_keyed key) out) ∙ is))
  ]

  module _ (s : ℕ) (low : 1 ≤ s) (mine : (u : ℕ) → holder h table key ≡ Some u → u ≡ s) where
    nobody : (holder h table key ≡ None) ⊎ (holder h table key ≡ Some s)
    nobody = by (holder h table key) refl
      where
        by : (o : Option ℕ) → holder h table key ≡ o → (holder h table key ≡ None) ⊎ (holder h table key ≡ Some s)
        by None is = inl is
        by (Some u) is = inr (is ∙ ap (λ (z : ℕ). Some z) (mine u is))

    others : (u : ℕ) → 1 ≤ u → u ≢ s → holds h u table key ≡ false
    others = presence.not_others h xids Segs (clean_home h blocks) stood table key first last s nobody

    -- the session sees a row of the key where its cell has one
    pub row_there : HasRow Cleaned key → has_row table key (rows_now h s) ≡ true
    row_there (c, found, is) =
        let x = home_cell Cleaned c in
        let parts = and_parts ((x.state == ROW) || not (x.lock == 0)) (x.key == key) found.passes in
        presence.present_sees h xids Segs (clean_home h blocks) stood table key first last s low others c x.value.items (ap (λ (z : Cell). row_of z key) (cell_is c) ∙ row_walked key x is (eqb-true x.key key parts.1))

    pub no_row : HasNoRow Cleaned key → has_row table key (rows_now h s) ≡ false
    no_row none = elim (cases_Bool (has_row table key (rows_now h s))) [
      | inl is ↦
          let f : (j : ℕ) × (v : List ℕ) × (row_of (cell_at Walked j) key ≡ Some v) = presence.sees_present h xids Segs (clean_home h blocks) stood table key first last s low others is in
          let row = walked_row key (home_cell Cleaned f.0) f.1 (sym (ap (λ (z : Cell). row_of z key) (cell_is f.0)) ∙ f.2) in
          let keyed = row_keyed key (home_cell Cleaned f.0) row.0 row.1 in
          absurd (none f.0 (keyed_first f.0 (keyed_within f.0 keyed) keyed) row.0)
      | inr not_is ↦ not_is
    ]

    -- so its home and the machine agree of the key
    pub shows_is : shows_row Cleaned key ≡ has_row table key (rows_now h s)
    shows_is = elim (row_or_none Cleaned key sixteen) [
      | inl some ↦ some.0 ∙ sym (row_there some.1)
      | inr none ↦ none.0 ∙ sym (no_row none.1)
    ]

  -- all cells are taken by other keys where none has the key and none is free
  pub no_cell : HasNoCell Cleaned key → full_block h table key ≡ true
  no_cell none = full.full_block_when h xids Segs (clean_home h blocks) stood table first last key is_clean_here all
    where
      all : AllTaken Walked key
      all j few =
          let x = home_cell Cleaned j in
          let kept = not_free x.state x.lock (cell_sound j few).state (none.none_free j few) in
          let has : taken (cell_at Walked j) ≡ Some x.key = ap taken (cell_is j) ∙ (taken_is x ∙ cond-true ((x.state == ROW) || not (x.lock == 0)) (Some x.key) None kept) in
          (x.key, has, λ same. false≢true (sym (none.none_keyed j few) ∙ and_from ((x.state == ROW) || not (x.lock == 0)) (x.key == key) kept (eq-eqb x.key key same)))

  pub some_cell : ¬ HasNoCell Cleaned key → full_block h table key ≡ false
  some_cell some = elim (cases_Bool (full_block h table key)) [
    | inl is ↦ absurd (some (none (full.full_block_then h xids Segs (clean_home h blocks) stood table first last key is_clean_here is)))
    | inr not_is ↦ not_is
  ]
    where
      none : AllTaken Walked key → HasNoCell Cleaned key
      none all = record {
        none_keyed = λ k few. elim (cases_Bool (is_keyed key (home_cell Cleaned k))) [
          | inl keyed ↦
              let t : (q : ℕ) × (taken (cell_at Walked k) ≡ Some q) × (q ≢ key) = all k few in
              let both : Some t.0 ≡ Some key = sym t.1 ∙ (ap taken (cell_is k) ∙ keyed_taken key (home_cell Cleaned k) keyed) in
              let same : t.0 ≡ key = cc in
              absurd (t.2 same)
          | inr not_keyed ↦ not_keyed
        ];
        none_free = λ k few. elim (cases_Bool (is_free (home_cell Cleaned k))) [
          | inl free ↦
              let t : (q : ℕ) × (taken (cell_at Walked k) ≡ Some q) × (q ≢ key) = all k few in
              let never : None ≡ Some t.0 = sym (ap taken (cell_is k) ∙ free_taken h.shape (Which % h.shape.blocks) (home_cell Cleaned k) (cell_sound k few) free) ∙ t.1 in
              absurd cc
          | inr not_free ↦ not_free
        ];
      }
