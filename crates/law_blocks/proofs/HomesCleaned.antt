-- A home cleaned as heap blocks say it is the walk's cleaned home, where a lock names an Open entry.
use Rattle.std.proofs.Common.{◌≡◌, inl, inr, ◌<◌, ◌==◌, ◌&&◌, cond, ℕ, zero, suc, Bool, true, false, List, [], ◌∷◌, length, map, refl, sym, ◌∙◌, ap, arith}
use Rattle.std.proofs.Math.ListN as lists
use Rattle.std.proofs.lemmas.List.{get_or-map}
use Rattle.std.proofs.lemmas.Bool.{cases_lt, cases_Bool, cond-true, cond-false}
use Rattle.std.proofs.lemmas.Bool.Decides.{nat_tests}
use Rattle.std.specs.List.{AllByRecursion}
use Rattle.rb_base.specs.declared.shape.Shape.{Shape}
use Rattle.rb_base.specs.declared.ids.Xid.{Xid}
use Rattle.rb_cell.specs.declared.cell.Cell as cells
use Rattle.rb_cell.specs.declared.cell.TheConstants.{EMPTY, ROW}
use Rattle.rb_itl.specs.Entries as itl
use Rattle.rb_itl.specs.declared.slots.Entry as entries
use Rattle.rb_itl.specs.declared.slots.TheConstants.{OPEN, EXACT, BOUND}
use Rattle.rb_heap.specs.Cleaning as heap_clean
use Rattle.rb_heap.specs.Homes as heap
use Rattle.rb_txntable.specs.declared.looks.Look.{Look}
use Rattle.rb_txntable.specs.declared.looks.Look.TheVariants.{Active, At, Before}
use Rattle.law_home.specs.Kinds.{Status, Free, Open, Exact, Bound, Cell, Empty, Row, Stub, Entry}
use Rattle.law_home.specs.Walk.{Home, Env, entry_at, free_entry}
use Rattle.law_home.specs.Steps.{told_by, cleaned, cleaned_entry, cleaned_status, cleaned_cell, cleaned_lock, kept_by}
use Rattle.law_blocks.specs.Says.{status_of, walk_entry, walk_cell, walk_home}

same_kind : (a b : ℕ) → (a == b) ≡ true → a ≡ b
same_kind a b is = grind (arith, nat_tests)

pub status_open : (kind number : ℕ) → kind ≡ OPEN → status_of kind number ≡ Open
status_open kind number is = rw is refl

-- an entry that isn't Open tells the same, cleaned or not
status_other : (env : Env) (xid : Xid) (kind number : ℕ) → (kind == OPEN) ≡ false → cleaned_status env xid (status_of kind number) ≡ status_of kind number
status_other env xid kind number no_open =
    ap (λ (s : Status). cleaned_status env xid s) (cond-false (kind == OPEN) Open (cond (kind == EXACT) (Exact number) (cond (kind == BOUND) (Bound number) Free)) no_open)
    ∙ (by_kind (kind == EXACT) (kind == BOUND) ∙ sym (cond-false (kind == OPEN) Open (cond (kind == EXACT) (Exact number) (cond (kind == BOUND) (Bound number) Free)) no_open))
  where
    by_kind : (e b : Bool) → cleaned_status env xid (cond e (Exact number) (cond b (Bound number) Free)) ≡ cond e (Exact number) (cond b (Bound number) Free)
    by_kind true b = refl
    by_kind false true = refl
    by_kind false false = refl

-- of a cell: an empty one isn't locked, and a lock names an Open entry
pub record IsLockedOpen (home : heap.Home) (x : cells.Cell) : Type 0 where
  pub unlocked : x.state ≡ EMPTY → x.lock ≡ 0
  pub opens : (i : ℕ) → x.lock ≡ suc i → (heap.home_entry home i).kind ≡ OPEN

module _ (shape : Shape) (env : Env) where
  told_is : (look : Look) (e : entries.Entry) → e.kind ≡ OPEN → walk_entry shape (heap_clean.told_entry e look) ≡ record { status = told_by look; xid = (walk_entry shape e).xid; newest = (walk_entry shape e).newest; chain = e.length }
  told_is Active e is = ap (λ (s : Status). record { status = s; xid = (walk_entry shape e).xid; newest = (walk_entry shape e).newest; chain = e.length }) (status_open e.kind e.number is)
  told_is (At c) e is = refl
  told_is (Before b) e is = refl

  pub entry_cleaned : (e : entries.Entry) → walk_entry shape (heap_clean.cleaned_entry env.look e) ≡ cleaned_entry env (walk_entry shape e)
  entry_cleaned e = elim (cases_Bool (e.kind == OPEN)) [
    | inl is ↦
        let kind : e.kind ≡ OPEN = same_kind e.kind OPEN is in
        ap (walk_entry shape) (cond-true (e.kind == OPEN) (heap_clean.told_entry e (env.look e.xid)) e is)
        ∙ (told_is (env.look e.xid) e kind ∙ ap (λ (s : Status). record { status = cleaned_status env e.xid s; xid = e.xid; newest = (walk_entry shape e).newest; chain = e.length }) (sym (status_open e.kind e.number kind)))
    | inr not_is ↦
        ap (walk_entry shape) (cond-false (e.kind == OPEN) (heap_clean.told_entry e (env.look e.xid)) e not_is)
        ∙ ap (λ (s : Status). record { status = s; xid = e.xid; newest = (walk_entry shape e).newest; chain = e.length }) (sym (status_other env e.xid e.kind e.number not_is))
  ]

  kept_told : (look : Look) (lock : ℕ) → kept_by (told_by look) lock ≡ cond (heap_clean.has_ended look) 0 lock
  kept_told Active lock = refl
  kept_told (At c) lock = refl
  kept_told (Before b) lock = refl

  module _ (n : ℕ) (home : heap.Home) where
    abbrev b : Home
    b = walk_home shape n home

    abbrev there : ℕ → entries.Entry
    there i = heap.home_entry home i

    -- an entry that isn't there is free
    is_there : (i : ℕ) → (there i).kind ≡ OPEN → i < length home.entries
    is_there i is_open = elim (cases_lt i (length home.entries)) [
      | inl lt ↦ lt
      | inr le ↦
          let free : there i ≡ itl.free_entry = lists.get_or-eq_default home.entries itl.free_entry le in
          let zeroth : (there i).kind ≡ 0 = ap (λ (e : entries.Entry). e.kind) free in
          absurd (omega (arith, zeroth, is_open))
    ]

    lock_cleaned : (lock : ℕ) → ((i : ℕ) → lock ≡ suc i → (there i).kind ≡ OPEN) → cleaned_lock env b lock ≡ heap_clean.cleaned_lock env.look home lock
    lock_cleaned zero opens = refl
    lock_cleaned (suc i) opens =
        let is_open = opens i refl in
        let at : entry_at b i ≡ walk_entry shape (there i) = get_or-map (walk_entry shape) home.entries i itl.free_entry free_entry (is_there i is_open) in
        let test : (there i).kind == OPEN ≡ true = rw is_open refl in
        ap (λ (e : Entry). kept_by (cleaned_entry env e).status (suc i)) at
        ∙ ap (λ (s : Status). kept_by (cleaned_status env (there i).xid s) (suc i)) (status_open (there i).kind (there i).number is_open)
        ∙ kept_told (env.look (there i).xid) (suc i)
        ∙ ap (λ (t : Bool). cond (t && heap_clean.has_ended (env.look (there i).xid)) 0 (suc i)) (sym test)

    cell_cleaned : (x : cells.Cell) → IsLockedOpen home x → walk_cell (heap_clean.cleaned_cell env.look home x) ≡ cleaned_cell env b (walk_cell x)
    cell_cleaned x fine = by_state (x.state == ROW) (x.state == EMPTY) refl x.lock (lock_cleaned x.lock fine.opens) (λ is. fine.unlocked (same_kind x.state EMPTY is))
      where
        by_state : (r e : Bool) → (x.state == EMPTY) ≡ e → (lock : ℕ) → cleaned_lock env b lock ≡ heap_clean.cleaned_lock env.look home lock → (e ≡ true → lock ≡ 0)
            → cond r (Row x.key x.value.items (heap_clean.cleaned_lock env.look home lock)) (cond (e && (heap_clean.cleaned_lock env.look home lock == 0)) Empty (Stub x.key (heap_clean.cleaned_lock env.look home lock)))
            ≡ cleaned_cell env b (cond r (Row x.key x.value.items lock) (cond (e && (lock == 0)) Empty (Stub x.key lock)))
        by_state true e is lock same un = ap (λ (n : ℕ). Row x.key x.value.items n) (sym same)
        by_state false true is lock same un = let z : lock ≡ 0 = un refl in rw z refl
        by_state false false is lock same un = ap (λ (n : ℕ). Stub x.key n) (sym same)

    -- The two say the same.
    pub home_cleaned : AllByRecursion (IsLockedOpen home) home.cells → walk_home shape n (heap_clean.cleaned_home env.look home) ≡ cleaned env b
    home_cleaned all =
        let es : map (walk_entry shape) (map (heap_clean.cleaned_entry env.look) home.entries) ≡ map (cleaned_entry env) (map (walk_entry shape) home.entries) = entries_are home.entries in
        let cs : map walk_cell (map (heap_clean.cleaned_cell env.look home) home.cells) ≡ map (cleaned_cell env b) (map walk_cell home.cells) = cells_are home.cells all in
        ap (λ (l : List Entry). record { block = n; entries = l; cells = map walk_cell (map (heap_clean.cleaned_cell env.look home) home.cells) }) es
        ∙ ap (λ (l : List Cell). record { block = n; entries = map (cleaned_entry env) (map (walk_entry shape) home.entries); cells = l }) cs
      where
        entries_are : (l : List entries.Entry) → map (walk_entry shape) (map (heap_clean.cleaned_entry env.look) l) ≡ map (cleaned_entry env) (map (walk_entry shape) l)
        entries_are [] = refl
        entries_are (e ∷ l) = ap (λ (z : Entry). z ∷ map (walk_entry shape) (map (heap_clean.cleaned_entry env.look) l)) (entry_cleaned e) ∙ ap (λ (z : List Entry). cleaned_entry env (walk_entry shape e) ∷ z) (entries_are l)

        cells_are : (l : List cells.Cell) → AllByRecursion (IsLockedOpen home) l → map walk_cell (map (heap_clean.cleaned_cell env.look home) l) ≡ map (cleaned_cell env b) (map walk_cell l)
        cells_are [] all = refl
        cells_are (x ∷ l) all = ap (λ (z : Cell). z ∷ map walk_cell (map (heap_clean.cleaned_cell env.look home) l)) (cell_cleaned x all.0) ∙ ap (λ (z : List Cell). cleaned_cell env b (walk_cell x) ∷ z) (cells_are l all.1)
