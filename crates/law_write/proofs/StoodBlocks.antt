-- Blocks that stand for the machine's state do so as segments and homes, and a home that is cleaned in them is the walk's.
use Rattle.std.proofs.Common.{◌≡◌, ◌≢◌, inl, inr, ◌<◌, ◌%◌, ◌==◌, ◌||◌, ℕ, suc, true, false, not, List, [], ◌∷◌, length, get_or, Some, None, refl, sym, ◌∙◌, ap, subst, arith}
use Rattle.std.proofs.Math.ListN as lists
use Rattle.std.proofs.lemmas.Bool.{cases_lt, cases_Bool, and_parts, and_from, cond-true, cond-false, eq-eqb, eqb-true, false≢true}
use Rattle.std.proofs.lemmas.List.{length-map}
use Rattle.std.specs.List.{AllByRecursion}
use Rattle.rb_base.specs.Blocks.{block_of, table_blocks}
use Rattle.rb_base.specs.declared.ids.Xid.{Xid}
use Rattle.rb_cell.specs.Cells as cells_of
use Rattle.rb_cell.specs.declared.cell.Cell as cells
use Rattle.rb_cell.specs.declared.cell.TheConstants.{CELLS, EMPTY, ROW}
use Rattle.rb_heap.specs.Cleaning.{cleaned_home}
use Rattle.rb_heap.specs.Homes.{home_of, empty_cell, is_keyed}
use Rattle.rb_heap.specs.Soundness.{IsCellSound}
use Rattle.rb_heap.proofs.Reading.{entries_counted, cells_counted, cell_read, entry_read}
use Rattle.rb_itl.specs.Entries as itl
use Rattle.rb_itl.specs.declared.slots.Entry as entries
use Rattle.rb_model.specs.State.{State}
use Rattle.law_blocks.specs.Says.{walk_entry, walk_cell, walk_home}
use Rattle.law_blocks.specs.Standing.{env_of, homes_of, segments_of}
use Rattle.law_blocks.specs.States.{BlocksStand}
use Rattle.law_blocks.proofs.HomesCleaned.{IsLockedOpen, home_cleaned}
use Rattle.law_blocks.proofs.HomesSound.{cell_here, lock_same, open_here, taken_is}
use Rattle.law_write.specs.Stood.{Stood}
use Rattle.law_home.specs.Steps.{cleaned}
use Rattle.law_home.specs.Walk as walk
use Rattle.law_home.specs.Walk.{cell_at, taken}

taken_keyed : (key : ℕ) (x : cells.Cell) → taken (walk_cell x) ≡ Some key → is_keyed key x ≡ true
taken_keyed key x has = elim (cases_Bool ((x.state == ROW) || not (x.lock == 0))) [
  | inl is ↦
      let there : Some x.key ≡ Some key = sym (cond-true ((x.state == ROW) || not (x.lock == 0)) (Some x.key) None is) ∙ (sym (taken_is x) ∙ has) in
      let same : x.key ≡ key = cc in
      and_from ((x.state == ROW) || not (x.lock == 0)) (x.key == key) is (eq-eqb x.key key same)
  | inr isnt ↦ let never : None ≡ Some key = sym (cond-false ((x.state == ROW) || not (x.lock == 0)) (Some x.key) None isnt) ∙ (sym (taken_is x) ∙ has) in absurd cc
]

no_key : (state lock : ℕ) → state ≡ 0 → lock ≡ 0 → ((state == 1) || not (lock == 0)) ≡ false
no_key state lock a c = rw (a, c) refl

-- all items of a list, one by one
all_of : {X : Type 0} (P : X → Type 0) (xs : List X) (d : X) → ((i : ℕ) → i < length xs → P (get_or xs i d)) → AllByRecursion P xs
all_of P [] d each = tt
all_of P (x ∷ xs) d each = (each 0 (omega arith), all_of P xs d (λ i lt. each (suc i) (omega (arith, lt))))

module _ (h : State) (xids : List Xid) (blocks : List (List ℕ)) (stand : BlocksStand h xids blocks) where
  module _ (b : ℕ) (b_in : b < table_blocks h.shape) where
    abbrev Block : List ℕ
    Block = block_of blocks b

    -- a cell's key is of its home
    key_of : (j k : ℕ) → taken (cell_at (homes_of h.shape blocks b) j) ≡ Some k → k % h.shape.blocks ≡ b % h.shape.blocks
    key_of j k has = elim (cases_lt j CELLS) [
      | inl few ↦
          let x : cells.Cell = cells_of.cell_at Block j in
          let is : is_keyed k x ≡ true = taken_keyed k x (sym (ap taken (cell_here h.shape Block j few)) ∙ has) in
          let parts = and_parts ((x.state == ROW) || not (x.lock == 0)) (x.key == k) is in
          let sound : IsCellSound h.shape (b % h.shape.blocks) x = (stand.standing.homes_sound b b_in).cells.each j few in
          let some : x.state ≢ EMPTY = λ empty. false≢true (sym (no_key x.state x.lock empty (sound.unlocked empty)) ∙ parts.0) in
          ap (λ (z : ℕ). z % h.shape.blocks) (sym (eqb-true x.key k parts.1)) ∙ sound.key some
      | inr many ↦
          let out : cell_at (homes_of h.shape blocks b) j ≡ walk_cell empty_cell = lists.get_or-map walk_cell (home_of Block).cells j empty_cell ∙ ap walk_cell (lists.get_or-eq_default (home_of Block).cells empty_cell (let c = cells_counted Block in omega (arith, c, many))) in
          let none : None ≡ Some k = sym (ap taken out) ∙ has in
          absurd cc
    ]

    -- a lock names an Open entry, and an empty cell has none
    locked : (c : ℕ) → c < CELLS → IsLockedOpen (home_of Block) (cells_of.cell_at Block c)
    locked c few = record {
      unlocked = ((stand.standing.homes_sound b b_in).cells.each c few).unlocked;
      opens = λ i is.
          let opened = open_here h.shape Block i ((stand.standing.stands.homes_stand b b_in).locks i c (ap walk.lock_of (cell_here h.shape Block c few) ∙ lock_same (cells_of.cell_at Block c) ∙ is)) in
          ap (λ (e : entries.Entry). e.kind) (entry_read Block i itl.free_entry opened.0) ∙ opened.1;
    }

    -- The home, cleaned, in both words.
    pub home_is : walk_home h.shape b (cleaned_home (env_of h.shape blocks).look (home_of Block)) ≡ cleaned (env_of h.shape blocks) (homes_of h.shape blocks b)
    home_is = home_cleaned h.shape (env_of h.shape blocks) b (home_of Block) (all_of (IsLockedOpen (home_of Block)) (home_of Block).cells empty_cell (λ c lt.
        let few : c < CELLS = let n = cells_counted Block in omega (arith, n, lt) in
        subst (IsLockedOpen (home_of Block)) (sym (cell_read Block c empty_cell few)) (locked c few)))

  pub stood_of : Stood h xids (segments_of h.shape blocks) (homes_of h.shape blocks)
  stood_of = record {
    in_range = stand.tell.in_range;
    counted = stand.tell.counted;
    books_counted = stand.tell.books_counted;
    books = stand.tell.books;
    owners = λ t o is. stand.tell.owner_there o.session t (record { owner = o; at = is; session = refl });
    one_slot = stand.tell.one_slot;
    has_slot = stand.tell.has_slot;
    tables = stand.tell.tables;
    commit_tables = stand.tell.commit_tables;
    live = λ t lt active. ((stand.standing.stands.slots t lt).active active).count;
    sizes = λ b. (length-map (home_of (block_of blocks b)).entries (walk_entry h.shape) ∙ entries_counted (block_of blocks b), length-map (home_of (block_of blocks b)).cells walk_cell ∙ cells_counted (block_of blocks b));
    keys = λ b j k lt has. key_of b lt j k has;
    each = λ b lt. stand.standing.stands.homes_stand b lt;
  }
