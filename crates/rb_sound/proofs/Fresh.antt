-- The blocks of a new file are in order.
use Rattle.std.proofs.Common.{◌≡◌, ◌⊎◌, ℕ, ◌-◌, ◌*◌, ◌%◌, ◌<◌, ◌≤◌, ◌==◌, ◌&&◌, Bool, true, false, nat_lt, if◌then◌else◌, List, ◌++◌, refl, arith, ap, sym, subst, ◌∙◌, inl, inr, slice_index_or}
use Rattle.std.proofs.lemmas.Bool.{cases_lt, le-ltb, false≢true, eqb-true, ne_eqb, and_parts, agree_below_at}
use Rattle.std.proofs.lemmas.List.{get_or-replicate}
use Rattle.std.proofs.Math.Nat.{mul-mod_right}
use Rattle.rb_base.specs.declared.sizes.TheConstants.{SEGMENT_BLOCKS, SLOTS}
use Rattle.rb_ring.specs.declared.extents.TheConstants.{EXTENTS}
use Rattle.rb_cell.specs.declared.cell.TheConstants.{CELLS}
use Rattle.rb_base.specs.declared.shape.Shape.{Shape}
use Rattle.rb_base.specs.Blocks.{block_of, block_kind, fresh_head, fresh_rest, fresh_blocks, fresh_segment, table_blocks}
use Rattle.rb_itl.specs.Entries.{entry_at, free_entry}
use Rattle.rb_heap.specs.Homes.{Home, home_of, is_keyed, empty_cell, empty_home}
use Rattle.rb_heap.proofs.Fresh.{of_rows, new_block, new_empty}
use Rattle.rb_heap.proofs.Reading.{entry_read, cell_read}
use Rattle.rb_cell.specs.declared.cell.Cell.{Cell}
use Rattle.rb_cell.specs.Cells.{cell_at, value_length}
use Rattle.rb_base.specs.Blocks.{header_block}
use Rattle.rb_heap.specs.Soundness.{IsEntrySound, IsCellSound, IsLock, IsHomeSound}
use Rattle.rb_txntable.specs.Slots.{slot_state, slot_before}
use Rattle.rb_ring.specs.Ring.{extent_ord, extent_newest, head_extent, head_records, lost_number, IsRing}
use Rattle.rb_undoblock.specs.declared.record.UndoRecord.{UndoRecord}
use Rattle.rb_sound.specs.Active.{AreActive}
use Rattle.rb_sound.specs.Sound.{IsSegment}
use Rattle.rb_sound.proofs.Chains.{slot_is}
use Rattle.rb_txntable.specs.declared.slots.TableSlot.{TableSlot}

-- the header of a segment in a new file, as block n
abbrev header_of : ℕ → List ℕ
header_of n = fresh_head 2 n ++ fresh_segment

slots_test : (n i : ℕ) → i < SLOTS → ((slot_state (header_of n) i == 0) && (slot_before (header_of n) i == 0)) ≡ true
unfolding slot_state slot_before
slots_test n i few = agree_below_at (λ (k : ℕ). (slot_state (header_of n) k == 0) && (slot_before (header_of n) k == 0)) (λ (_ : ℕ). true) SLOTS i refl few

extents_test : (n e : ℕ) → e < EXTENTS → (extent_newest (header_of n) e == 0) ≡ true
unfolding extent_newest
extents_test n e few = agree_below_at (λ (k : ℕ). extent_newest (header_of n) k == 0) (λ (_ : ℕ). true) 8 e refl few

head_zero : (n : ℕ) → head_extent (header_of n) ≡ 0
unfolding head_extent
head_zero n = refl

records_zero : (n : ℕ) → head_records (header_of n) ≡ 0
unfolding head_records
records_zero n = refl

lost_zero : (n : ℕ) → lost_number (header_of n) ≡ 0
unfolding lost_number
lost_zero n = refl

abbrev ord_of : ℕ → ℕ
ord_of e = if e == 0 then 2 else if e == 1 then 1 else 0

ord_fresh : (n e : ℕ) → e < EXTENTS → extent_ord (header_of n) e ≡ ord_of e
unfolding extent_ord
ord_fresh n e few = eqb-true (extent_ord (header_of n) e) (ord_of e) (agree_below_at (λ (k : ℕ). extent_ord (header_of n) k == ord_of k) (λ (_ : ℕ). true) 8 e refl few)

low : (e : ℕ) → e < 2 → (e ≡ 0) ⊎ (e ≡ 1)
low e few = elim (cases_lt e 1) [ inl lt ↦ inl (omega arith) | inr le ↦ inr (omega arith) ]

others_zero : (e : ℕ) → 2 ≤ e → ord_of e ≡ 0
others_zero e le = rw (ne_eqb e 0 (λ is. absurd (omega arith)), ne_eqb e 1 (λ is. absurd (omega arith))) refl

ring_of : (n : ℕ) → IsRing (extent_ord (header_of n)) 0 2
ring_of n =
    let zeroth : extent_ord (header_of n) 0 ≡ 2 = ord_fresh n 0 (omega arith) in
    let first : extent_ord (header_of n) 1 ≡ 1 = ord_fresh n 1 (omega arith) in
    record {
      few = (omega arith, omega arith);
      head_within = omega arith;
      positive = λ e lt. elim (low e lt) [ inl is ↦ rw is (omega (arith, zeroth)) | inr is ↦ rw is (omega (arith, first)) ];
      near = λ e lt.
          elim (low e lt) [
            | inl is ↦ rw is (record { up_to = omega arith; near = omega (arith, zeroth) })
            | inr is ↦ rw is (record { up_to = omega (arith, zeroth, first); near = omega (arith, zeroth, first) })
          ];
      apart = λ e lt lower below. λ same. absurd (let e_is : e ≡ 1 = omega arith in let lower_is : lower ≡ 0 = omega arith in let now = rw (e_is, lower_is) at same in omega (arith, zeroth, first, now));
      others = λ e le lt. ord_fresh n e lt ∙ others_zero e le;
    }

segment_of : (commit n : ℕ) → IsSegment commit (header_of n)
segment_of commit n = record {
  ring = (2, subst (λ (head : ℕ). IsRing (extent_ord (header_of n)) head 2) (sym (head_zero n)) (ring_of n));
  records = omega (arith, records_zero n);
  slots = λ i few.
      let both = and_parts (slot_state (header_of n) i == 0) (slot_before (header_of n) i == 0) (slots_test n i few) in
      record {
        state = omega (arith, eqb-true (slot_state (header_of n) i) 0 both.0);
        before = omega (arith, eqb-true (slot_before (header_of n) i) 0 both.1);
      };
  lost = omega (arith, lost_zero n);
  newest = λ e few. omega (arith, eqb-true (extent_newest (header_of n) e) 0 (extents_test n e few));
}

-- the kind of a block, by whether it is one of the tables and by its place in its segment
abbrev kind_by : Bool → ℕ → ℕ
kind_by front rest = if front then 1 else if rest == 0 then 2 else 3

header_kind : (front : Bool) (rest : ℕ) → front ≡ false → rest ≡ 0 → kind_by front rest ≡ 2
header_kind front rest behind whole = rw (behind, whole) refl

kind_of : (shape : Shape) (g : ℕ) → block_kind shape (header_block shape g) ≡ 2
kind_of shape g =
    let which = header_block shape g in
    let back : which - table_blocks shape ≡ SEGMENT_BLOCKS * g = omega arith in
    header_kind (nat_lt which (table_blocks shape)) ((which - table_blocks shape) % SEGMENT_BLOCKS) (le-ltb which (table_blocks shape) (omega arith)) (rw back (mul-mod_right SEGMENT_BLOCKS g))

pub segments_fresh : (shape : Shape) (commit g : ℕ) → g < shape.segments → IsSegment commit (block_of (fresh_blocks shape) (header_block shape g))
segments_fresh shape commit g lt =
    let which = header_block shape g in
    let kind = ap (λ (kind : ℕ). fresh_head kind which ++ fresh_rest kind) (kind_of shape g) in
    subst (IsSegment commit) (sym (new_block shape which (omega arith) ∙ kind)) (segment_of commit which)

-- no slot of it is Active
idle_fresh : (shape : Shape) (g i : ℕ) → g < shape.segments → i < SLOTS → slot_state (block_of (fresh_blocks shape) (header_block shape g)) i ≡ 0
idle_fresh shape g i lt few =
    let which = header_block shape g in
    let kind = ap (λ (kind : ℕ). fresh_head kind which ++ fresh_rest kind) (kind_of shape g) in
    let both = and_parts (slot_state (header_of which) i == 0) (slot_before (header_of which) i == 0) (slots_test which i few) in
    subst (λ (header : List ℕ). slot_state header i ≡ 0) (sym (new_block shape which (omega arith) ∙ kind)) (eqb-true (slot_state (header_of which) i) 0 both.0)

pub active_fresh : (Kept : UndoRecord → Type 0) (shape : Shape) → AreActive Kept shape (fresh_blocks shape)
active_fresh Kept shape g i there few runs =
    let same = slot_is shape (fresh_blocks shape) g i (block_of (fresh_blocks shape) (header_block shape g)) refl few in
    let state = ap (λ (slot : TableSlot). slot.state) same in
    absurd (omega (arith, state, runs, idle_fresh shape g i there few))

-- a block of rows in a new file, as block n
abbrev rows_of : ℕ → List ℕ
rows_of n = fresh_head 1 n ++ fresh_rest 1

values_test : (n c : ℕ) → c < CELLS → (value_length (rows_of n) c == 0) ≡ true
unfolding value_length
values_test n c few = agree_below_at (λ (k : ℕ). value_length (rows_of n) k == 0) (λ (_ : ℕ). true) CELLS c refl few

rows_fresh : (shape : Shape) (which : ℕ) → which < table_blocks shape → block_of (fresh_blocks shape) which ≡ rows_of which
rows_fresh shape which lt = new_block shape which (omega arith) ∙ ap (λ (kind : ℕ). fresh_head kind which ++ fresh_rest kind) (of_rows shape which lt)

-- a block whose entries are free, whose cells are empty and whose values have no length
home_empty : (shape : Shape) (commit : ℕ) (wrap_of : ℕ → ℕ → ℕ) (home : ℕ) (block : List ℕ) → home_of block ≡ empty_home → ((c : ℕ) → c < CELLS → value_length block c ≡ 0) → IsHomeSound shape commit wrap_of home block
home_empty shape commit wrap_of home block empty values =
    let free : (i : ℕ) → i < 8 → entry_at block i ≡ free_entry = λ i few. sym (entry_read block i free_entry few) ∙ ap (λ (h : Home). slice_index_or h.entries i free_entry) empty ∙ get_or-replicate 8 i free_entry free_entry few in
    let cell : (c : ℕ) → c < CELLS → cell_at block c ≡ empty_cell = λ c few. sym (cell_read block c empty_cell few) ∙ ap (λ (h : Home). slice_index_or h.cells c empty_cell) empty ∙ get_or-replicate CELLS c empty_cell empty_cell few in
    record {
      entries = λ i few. subst (IsEntrySound shape commit wrap_of) (sym (free i few)) (record { kind = omega arith; taken = λ not_free. absurd (not_free refl) });
      cells = record {
        each = λ c few. subst (IsCellSound shape home) (sym (cell c few)) (record { state = omega arith; unlocked = λ _. refl; key = λ not_empty. absurd (not_empty refl) });
        values = λ c few. omega (arith, values c few);
        locks = λ c few. subst (λ (x : Cell). IsLock block x.lock) (sym (cell c few)) (record { few = omega arith; taken = λ locked. absurd (locked refl) });
        keys = record { one = λ key c other few _ has _. absurd (false≢true (sym (ap (is_keyed key) (cell c few)) ∙ has)) };
      };
    }

pub homes_fresh : (shape : Shape) (commit : ℕ) (wrap_of : ℕ → ℕ → ℕ) (home which : ℕ) → which < table_blocks shape → IsHomeSound shape commit wrap_of home (block_of (fresh_blocks shape) which)
homes_fresh shape commit wrap_of home which lt =
    home_empty shape commit wrap_of home (block_of (fresh_blocks shape) which) (new_empty shape which lt)
    (λ c few. ap (λ (b : List ℕ). value_length b c) (rows_fresh shape which lt) ∙ eqb-true (value_length (rows_of which) c) 0 (values_test which c few))
