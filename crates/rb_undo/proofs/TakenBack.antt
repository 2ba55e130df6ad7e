-- What the group that puts a change back makes of the blocks.
use Rattle.std.proofs.Common.{◌≡◌, ℕ, ◌+◌, ◌*◌, ◌<◌, ◌≤◌, ◌==◌, ◌^◌, true, false, not, Result, Ok, Err, OnOk, List, [], ◌++◌, length, refl, arith, ap, sym, ◌∙◌}
use Rattle.std.proofs.Math.Nat.{mul-le-mul_right}
use Rattle.std.proofs.lemmas.Bool.{eq-eqb}
use Rattle.std.proofs.lemmas.Bool.Decides.{nat_tests}
use Rattle.std.specs.List.{AllByRecursion}
use Rattle.std.specs.Result.{is_err}
use Rattle.rb_base.specs.declared.sizes.TheConstants.{GROUP_BYTES, SLOTS}
use Rattle.rb_itl.specs.declared.slots.TheConstants.{ENTRIES}
use Rattle.rb_cell.specs.declared.cell.TheConstants.{CELLS}
use Rattle.rb_base.proofs.Blocks.{block_long, group_others}
use Rattle.rb_base.proofs.OneBlock.{one_block}
use Rattle.rb_base.specs.Blocks.{after_group, block_of, header_block, table_blocks, written_to, AreBlocks, IsShape, StaysBehind}
use Rattle.rb_base.specs.Groups.{Patch, group_length, IsGroup}
use Rattle.rb_base.specs.Logs.{Logs}
use Rattle.rb_base.specs.declared.ids.Xid.{Xid}
use Rattle.rb_base.specs.declared.shape.Shape.{Shape}
use Rattle.rb_base.specs.declared.store.Store.{Ghosts}
use Rattle.rb_cell.proofs.CellBytes.{length-cell, cell_size}
use Rattle.rb_cell.specs.Cells.{cell_bytes, cell_of, value_length, with_cell, IsCell}
use Rattle.rb_cell.specs.declared.cell.Cell.{Cell}
use Rattle.rb_heap.proofs.Blocks.{home_after}
use Rattle.rb_heap.proofs.Lengths.{length_behind, length_entry, short_cell, short_same}
use Rattle.rb_heap.proofs.Patching.{cell_written, entry_written}
use Rattle.rb_heap.specs.Cleaning.{back_home}
use Rattle.rb_heap.specs.Homes.{Home, home_of, home_patches, with_home_entry}
use Rattle.rb_heap.specs.Soundness.{StaysShort}
use Rattle.rb_itl.specs.Entries.{entry_of, with_entry, IsEntry}
use Rattle.rb_itl.specs.declared.slots.Entry.{Entry}
use Rattle.rb_segment.proofs.HeaderAfter.{header_after}
use Rattle.rb_segment.specs.Calls.{slot_patches}
use Rattle.rb_segment.specs.Header.{Header, header_of}
use Rattle.rb_segment.specs.Moves.{taken_back}
use Rattle.rb_undo.specs.Backs.{back_patches, header_for, TakesBack}
use Rattle.rb_undoblock.specs.declared.record.UndoRecord.{UndoRecord}

-- no group more
pub plus_none : (a b : ℕ) → a ≡ b + 0 → a ≡ b
plus_none a b is = omega (arith, is)

-- the patches of a home leave room for that of a table slot
pub home_short : (block c i : ℕ) (cell : Cell) (entry : Entry) (none home : List Patch) → none ≡ [] → home ≡ none ++ home_patches block c cell i entry → IsCell cell → group_length home + 72 ≤ GROUP_BYTES
home_short block c i cell entry none home begun changed sound = rw (changed, begun) (omega (arith, length-cell cell sound))

-- the group, by what each of the calls says that made it
pub group_made : (block : ℕ) (x : Xid) (u : UndoRecord) (h moved : Header) (cell : Cell) (entry : Entry) (none home group : List Patch)
    → none ≡ [] → home ≡ none ++ home_patches u.home u.cell cell u.entry entry → group ≡ home ++ slot_patches block x.slot moved
    → cell ≡ cell_of u.cell_before → entry ≡ entry_of u.entry_before → moved ≡ taken_back x.slot u.previous h
    → group ≡ home_patches u.home u.cell (cell_of u.cell_before) u.entry (entry_of u.entry_before) ++ slot_patches block x.slot (taken_back x.slot u.previous h)
group_made block x u h moved cell entry none home group begun changed taken cell_is entry_is moved_is = rw (taken, changed, begun, cell_is, entry_is, moved_is) refl

module _ (shape : Shape) (x : Xid) (u : UndoRecord) (number : ℕ) (blocks : List (List ℕ)) (header : List ℕ) where
  abbrev at : ℕ
  at = header_block shape x.seg

  abbrev group : List Patch
  group = back_patches shape x u (header_for shape blocks x)

  module _ (are : AreBlocks shape blocks) (there : x.seg < shape.segments) (slot : x.slot < SLOTS) (home : u.home < table_blocks shape) (entry : u.entry < ENTRIES) (cell : u.cell < CELLS) (cell_sound : IsCell (cell_of u.cell_before)) (entry_sound : IsEntry (entry_of u.entry_before)) where
    stay : AllByRecursion StaysBehind group
    stay = (
      record { behind_head = omega arith; within_block = omega (arith, length-cell (cell_of u.cell_before) cell_sound) },
      (record { behind_head = omega arith; within_block = omega arith }, (record { behind_head = omega arith; within_block = omega arith }, tt)),
    )

    home_back : home_of (block_of (after_group number group blocks) u.home) ≡ back_home u.entry (entry_of u.entry_before) u.cell (cell_of u.cell_before) (home_of (block_of blocks u.home))
    home_back =
        let block = block_of blocks u.home in
        let long = block_long shape blocks u.home are (omega (arith, home)) in
        let own : (u.home == u.home) ≡ true = eq-eqb u.home u.home refl in
        let other : (at == u.home) ≡ false = grind (arith, nat_tests) in
        home_after shape blocks number u.home group are (omega (arith, home)) stay
        ∙ rw (own, other)
        (entry_written (with_cell block u.cell (cell_of u.cell_before)) u.entry (entry_of u.entry_before) (cell_size block u.cell (cell_of u.cell_before) long cell cell_sound) entry entry_sound
        ∙ ap (λ (h : Home). with_home_entry h u.entry (entry_of u.entry_before)) (cell_written block u.cell (cell_of u.cell_before) long cell cell_sound))

    -- no value gets too long, as the cell of before is one that can be written
    short_back : StaysShort (block_of blocks u.home) (block_of (after_group number group blocks) u.home)
    short_back =
        let block = block_of blocks u.home in
        let now = block_of (after_group number group blocks) u.home in
        let old = cell_of u.cell_before in
        let long = block_long shape blocks u.home are (omega (arith, home)) in
        let sized = cell_size block u.cell old long cell cell_sound in
        let own : (u.home == u.home) ≡ true = eq-eqb u.home u.home refl in
        let other : (at == u.home) ≡ false = grind (arith, nat_tests) in
        let written : written_to u.home group block ≡ with_entry (with_cell block u.cell old) u.entry (entry_of u.entry_before) = rw (own, other) refl in
        let behind = one_block shape number u.home group blocks are (omega (arith, home)) stay in
        let same : (c : ℕ) → value_length now c ≡ value_length (with_cell block u.cell old) c = λ c.
        length_behind now (written_to u.home group block) c behind ∙ ap (λ (l : List ℕ). value_length l c) written
        ∙ length_entry (with_cell block u.cell old) u.entry c (entry_of u.entry_before) sized entry in
        λ short. short_same (with_cell block u.cell old) now same (short_cell block u.cell old long cell cell_sound short)

    -- the group is one
    pub is_group : IsShape shape → IsGroup group
    is_group in_range = record {
      few = omega arith;
      each = (
        record { block_fits = fits; some = omega (arith, size); behind_head = omega arith; within_block = omega (arith, size) },
        (
          record { block_fits = fits; some = omega arith; behind_head = omega arith; within_block = omega arith },
          (record { block_fits = header_fits; some = omega arith; behind_head = omega arith; within_block = omega arith }, tt),
        ),
      );
      within = omega (arith, size);
    }
      where
        size : length (cell_bytes (cell_of u.cell_before)) ≡ 92
        size = length-cell (cell_of u.cell_before) cell_sound

        rows_few : table_blocks shape ≤ 16 * 4096
        rows_few = let m : shape.tables * shape.blocks ≤ 16 * shape.blocks = mul-le-mul_right shape.blocks in_range.few_tables.1 in omega (arith, m, in_range.few_blocks.1)

        fits : u.home < 2 ^ 32
        fits = let m = rows_few in omega (arith, m, home)

        header_fits : at < 2 ^ 32
        header_fits = let m = rows_few in omega (arith, m, there, in_range.few_segments.1)

    -- The header was moved in a copy, to which the same bytes were written.
    header_back : header ≡ written_to at (slot_patches at x.slot (header_of header)) (block_of blocks at) → header_of header ≡ taken_back x.slot u.previous (header_for shape blocks x)
        → header_for shape (after_group number group blocks) x ≡ taken_back x.slot u.previous (header_for shape blocks x)
    header_back copied moved =
        let other : (u.home == at) ≡ false = grind (arith, nat_tests) in
        let same : written_to at group (block_of blocks at) ≡ written_to at (slot_patches at x.slot (header_of header)) (block_of blocks at) = rw (other, moved) refl in
        header_after shape blocks number at group are (omega (arith, there)) stay ∙ ap header_of (same ∙ sym copied) ∙ moved

    pub takes_back : header ≡ written_to at (slot_patches at x.slot (header_of header)) (block_of blocks at) → header_of header ≡ taken_back x.slot u.previous (header_for shape blocks x)
        → TakesBack shape x u blocks (after_group number group blocks)
    takes_back copied moved = record {
      home = home_back;
      short = short_back;
      header = header_back copied moved;
      others = λ b not_home not_header. group_others number b group blocks (λ e. not_home (sym e), (λ e. not_home (sym e), (λ e. not_header (sym e), tt)));
    }

-- what a call that answered Ok says
pub on_ok : {T E P Q : Type 0} (result : Result T E) → (P → Q) → OnOk result P → OnOk result Q
on_ok (Ok value) so is = so is
on_ok (Err fault) so is = tt

pub logs_ok : {S T E : Type 0} (s : Ghosts S) (old new : S) (groups : List (List Patch)) (result : Result T E) → Logs s old new groups (not (is_err result)) → OnOk result (Logs s old new groups true)
logs_ok s old new groups (Ok value) logs = logs
logs_ok s old new groups (Err fault) logs = tt
