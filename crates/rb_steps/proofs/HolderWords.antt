-- Who holds a key by its home, as the blocks have it, is who holds it in the machine: a lock whose transaction runs is
-- that of the session which owns its table slot.
use Rattle.std.proofs.Common.{◌≡◌, inl, inr, ◌<◌, ◌≤◌, ◌==◌, cond, find, get_or, ℕ, zero, suc, Bool, true, false, List, [], ◌∷◌, length, Option, Some, None, refl, sym, ◌∙◌, ap, subst, arith}
use Rattle.std.proofs.Math.ListN as lists
use Rattle.std.proofs.lemmas.Bool.{cases_Bool, cases_lt, cond-true, cond-false, eq-eqb, eqb-true, false≢true}
use Rattle.std.proofs.lemmas.List.{get_or-map, length-map}
use Rattle.rb_write.specs.Holding.{cell_locker, cell_of_key, holder_in, if_runs, locker}
use Rattle.rb_base.specs.Blocks.{block_of, home_block, table_blocks}
use Rattle.rb_base.specs.declared.ids.Xid.{Xid}
use Rattle.rb_cell.specs.declared.cell.Cell as cells
use Rattle.rb_heap.proofs.Reading.{entries_counted}
use Rattle.rb_heap.specs.Cleaning.{has_ended}
use Rattle.rb_heap.specs.Homes as heap
use Rattle.rb_heap.specs.Homes.{empty_cell, home_cell, home_entry, home_of, is_keyed}
use Rattle.rb_itl.specs.Entries.{free_entry}
use Rattle.rb_itl.specs.declared.slots.Entry as entries
use Rattle.rb_itl.specs.declared.slots.TheConstants.{ENTRIES, OPEN}
use Rattle.rb_model.specs.State.{State}
use Rattle.rb_model.specs.Tests.{holder}
use Rattle.rb_segment.specs.Header.{Segment}
use Rattle.law_blocks.proofs.HomeChosen.{taken_keyed}
use Rattle.law_blocks.proofs.HomesCleaned.{status_open}
use Rattle.law_blocks.proofs.HomesSound.{keyed_taken, lock_same, open_kind}
use Rattle.law_blocks.specs.Says.{walk_cell, walk_entry}
use Rattle.law_blocks.specs.Standing.{env_of, homes_of, segments_of}
use Rattle.law_blocks.specs.States.{BlocksStand, Owns}
use Rattle.rb_txntable.specs.declared.looks.Look.{Look}
use Rattle.rb_txntable.specs.declared.looks.Look.TheVariants.{Active, At, Before}
use Rattle.rb_steps.specs.Steps.{IsHolder}
use Rattle.law_write.proofs.Presence as presence
use Rattle.law_write.proofs.Presence.{HolderOf}
use Rattle.law_write.proofs.Sites.{row_block}
use Rattle.law_write.proofs.StoodBlocks.{stood_of}
use Rattle.law_write.specs.Stood.{Stood}
use Rattle.law_home.specs.Kinds.{Free, Open, Entry}
use Rattle.law_home.specs.Steps.{HeldCell}
use Rattle.law_home.specs.Walk as walk
use Rattle.law_home.specs.Walk.{Env, IsActive, cell_at, entry_at, lock_of, taken}

-- what is found passes and stands somewhere; where nothing is found, none passes
find_place : {X : Type 0} (p : X → Bool) (xs : List X) (d x : X) → find p xs ≡ Some x → (c : ℕ) × (c < length xs) × (get_or xs c d ≡ x) × (p x ≡ true)
find_place p [] d x is = absurd cc
find_place p (y ∷ ys) d x is = elim (cases_Bool (p y)) [
  | inl here ↦
      let both : Some y ≡ Some x = sym (cond-true (p y) (Some y) (find p ys) here) ∙ is in
      let same : y ≡ x = cc in
      (0, omega arith, same, ap p (sym same) ∙ here)
  | inr not_here ↦
      let f = find_place p ys d x (sym (cond-false (p y) (Some y) (find p ys) not_here) ∙ is) in
      (suc f.0, let lt = f.1 in omega (arith, lt), f.2, f.3)
]

find_none : {X : Type 0} (p : X → Bool) (xs : List X) (d : X) → find p xs ≡ None → (c : ℕ) → c < length xs → p (get_or xs c d) ≡ false
find_none p [] d is c lt = absurd (omega (arith, lt))
find_none p (y ∷ ys) d is zero lt = elim (cases_Bool (p y)) [
  | inl here ↦ let never : Some y ≡ None = sym (cond-true (p y) (Some y) (find p ys) here) ∙ is in absurd cc
  | inr not_here ↦ not_here
]
find_none p (y ∷ ys) d is (suc c) lt = elim (cases_Bool (p y)) [
  | inl here ↦ let never : Some y ≡ None = sym (cond-true (p y) (Some y) (find p ys) here) ∙ is in absurd cc
  | inr not_here ↦ find_none p ys d (sym (cond-false (p y) (Some y) (find p ys) not_here) ∙ is) c (omega (arith, lt))
]

module _ (h : State) (xids : List Xid) (blocks : List (List ℕ)) (stand : BlocksStand h xids blocks) (table key : ℕ) (first : 1 ≤ table) (last : table ≤ h.shape.tables) where
  abbrev Which : ℕ
  Which = home_block h.shape table key

  -- the home as blocks say it, and as the walk does
  abbrev Here : heap.Home
  Here = home_of (block_of blocks Which)

  abbrev Walked : walk.Home
  Walked = homes_of h.shape blocks Which

  abbrev Says : Env
  Says = env_of h.shape blocks

  abbrev Segs : ℕ → Segment
  Segs = segments_of h.shape blocks

  stood : Stood h xids Segs (homes_of h.shape blocks)
  stood = stood_of h xids blocks stand

  which_in : Which < table_blocks h.shape
  which_in = row_block h.shape table key stand.tell.in_range.few_blocks.0 first last

  cell_is : (c : ℕ) → cell_at Walked c ≡ walk_cell (home_cell Here c)
  cell_is c = lists.get_or-map walk_cell Here.cells c empty_cell

  entry_is : (i : ℕ) → i < ENTRIES → entry_at Walked i ≡ walk_entry h.shape (home_entry Here i)
  entry_is i few = get_or-map (walk_entry h.shape) Here.entries i free_entry walk.free_entry (let n = entries_counted (block_of blocks Which) in omega (arith, n, few))

  keyed_within : (c : ℕ) → is_keyed key (home_cell Here c) ≡ true → c < length Here.cells
  keyed_within c is = elim (cases_lt c (length Here.cells)) [
    | inl lt ↦ lt
    | inr le ↦ absurd (false≢true (sym (ap (is_keyed key) (lists.get_or-eq_default Here.cells empty_cell le)) ∙ is))
  ]

  -- nobody holds the key where no cell of a session is held
  nobody : ((t : ℕ) → HeldCell Says Walked t key → ⊥) → holder h table key ≡ None
  nobody none = by (holder h table key) refl
    where
      by : (o : Option ℕ) → holder h table key ≡ o → holder h table key ≡ None
      by None is = is
      by (Some u) is = let f : (t : ℕ) × Owns h u t × HeldCell Says Walked t key = presence.lock_of_holder h xids Segs (homes_of h.shape blocks) stood table key first last u is in absurd (none f.0 f.2)

  held_keyed : (t : ℕ) (held : HeldCell Says Walked t key) → is_keyed key (home_cell Here held.cell) ≡ true
  held_keyed t held = taken_keyed key (home_cell Here held.cell) (sym (ap taken (cell_is held.cell)) ∙ held.has_key)

  -- the cell of the key
  module _ (c : ℕ) (keyed : is_keyed key (home_cell Here c) ≡ true) where
    has : taken (cell_at Walked c) ≡ Some key
    has = ap taken (cell_is c) ∙ keyed_taken key (home_cell Here c) keyed

    lock_is : lock_of (cell_at Walked c) ≡ (home_cell Here c).lock
    lock_is = ap lock_of (cell_is c) ∙ lock_same (home_cell Here c)

    -- is the one that a session holds, whose lock names the session's entry
    held_lock : (t : ℕ) (held : HeldCell Says Walked t key) → (home_cell Here c).lock ≡ suc held.entry.entry
    held_lock t held =
        let same : held.cell ≡ c = (stood.each Which which_in).unique held.cell c key held.has_key has in
        sym lock_is ∙ (ap (λ (z : ℕ). lock_of (cell_at Walked z)) (sym same) ∙ held.lock)

    -- an entry that is named, and isn't of a transaction that runs
    not_active : (i : ℕ) → (home_cell Here c).lock ≡ suc i → (IsActive Says (entry_at Walked i) → ⊥) → holder h table key ≡ None
    not_active i lock never = nobody (λ t held. let at : held.entry.entry ≡ i = (let l = held_lock t held in omega (arith, l, lock)) in never (subst (λ (z : ℕ). IsActive Says (entry_at Walked z)) at held.entry.active))

    module _ (i : ℕ) (lock : (home_cell Here c).lock ≡ suc i) where
      abbrev E : entries.Entry
      E = home_entry Here i

      by_look : i < ENTRIES → E.kind ≡ OPEN → (l : Look) → Says.look E.xid ≡ l → IsHolder h Says table key (cond (has_ended l) None (Some E.xid))
      by_look few opened Active look =
          let at = entry_is i few in
          let xid : (entry_at Walked i).xid ≡ E.xid = ap (λ (z : Entry). z.xid) at in
          let active : IsActive Says (entry_at Walked i) = (ap (λ (z : Entry). z.status) at ∙ status_open E.kind E.number opened, ap Says.look xid ∙ look) in
          let o : HolderOf h xids Segs (homes_of h.shape blocks) stood table key first last i = presence.holder_of_lock h xids Segs (homes_of h.shape blocks) stood table key first last i c active has (lock_is ∙ lock) in
          (o.owner.session, o.slot, o.is, record { owner = o.owner; at = o.owned_by; session = refl }, sym xid ∙ o.xid)
      by_look few opened (At n) look = not_active i lock (λ active. let clash : Active ≡ At n = sym active.1 ∙ (ap Says.look (ap (λ (z : Entry). z.xid) (entry_is i few)) ∙ look) in cc)
      by_look few opened (Before n) look = not_active i lock (λ active. let clash : Active ≡ Before n = sym active.1 ∙ (ap Says.look (ap (λ (z : Entry). z.xid) (entry_is i few)) ∙ look) in cc)

      by_kind : i < ENTRIES → (b : Bool) → (E.kind == OPEN) ≡ b → IsHolder h Says table key (if_runs Says.look (cond b (Some E.xid) None))
      by_kind few true test = by_look few (eqb-true E.kind OPEN test) (Says.look E.xid) refl
      by_kind few false test = not_active i lock (λ active. let opened = open_kind E.kind E.number (sym (ap (λ (z : Entry). z.status) (entry_is i few)) ∙ active.0) in false≢true (sym test ∙ eq-eqb E.kind OPEN opened))

      named : IsHolder h Says table key (if_runs Says.look (locker Here (suc i)))
      named = elim (cases_lt i ENTRIES) [
        | inl few ↦ by_kind few (E.kind == OPEN) refl
        | inr many ↦
            -- a lock names one of the eight, as its entry is Open
            let opened : (entry_at Walked i).status ≡ Open = (stood.each Which which_in).locks i c (lock_is ∙ lock) in
            let n = length-map Here.entries (walk_entry h.shape) in
            let k = entries_counted (block_of blocks Which) in
            let out : entry_at Walked i ≡ walk.free_entry = lists.get_or-eq_default Walked.entries walk.free_entry (omega (arith, n, k, many)) in
            let never : Free ≡ Open = sym (ap (λ (z : Entry). z.status) out) ∙ opened in
            absurd cc
      ]

    by_lock : (l : ℕ) → (home_cell Here c).lock ≡ l → IsHolder h Says table key (if_runs Says.look (locker Here l))
    by_lock zero is = nobody (λ t held. let l = held_lock t held in omega (arith, l, is))
    by_lock (suc i) is = named i is

  by_cell : (o : Option cells.Cell) → cell_of_key Here key ≡ o → IsHolder h Says table key (if_runs Says.look (cell_locker Here o))
  by_cell None is = nobody (λ t held. false≢true (sym (find_none (is_keyed key) Here.cells empty_cell is held.cell (keyed_within held.cell (held_keyed t held))) ∙ held_keyed t held))
  by_cell (Some x) is =
      let f = find_place (is_keyed key) Here.cells empty_cell x is in
      let keyed : is_keyed key (home_cell Here f.0) ≡ true = ap (is_keyed key) f.2 ∙ f.3 in
      subst (λ (z : cells.Cell). IsHolder h Says table key (if_runs Says.look (cell_locker Here (Some z)))) f.2 (by_lock f.0 keyed (home_cell Here f.0).lock refl)

  pub holder_is : IsHolder h Says table key (holder_in h.shape blocks table key)
  holder_is = by_cell (cell_of_key Here key) refl
