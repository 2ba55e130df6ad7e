use Rattle.std.proofs.Common.{◌-◌, ◌≡◌, ℕ, ◌∷◌, [], ◌++◌, List, length, take, drop, replicate, refl, arith, rules}
use borrow.Rule.Slice.PartMut.{put_mid}
use Rattle.rb_undoblock.specs.declared.record.TheConstants.{CELL_BEFORE_AT, CELL_BEFORE_BYTES, ENTRY_BEFORE_AT, ENTRY_BEFORE_BYTES, UNDO_BYTES}
use Rattle.byteorder.specs.Endian.{big_bytes}
use Rattle.rb_base.specs.Addresses.{uba_bytes}
use Rattle.rb_undoblock.specs.declared.record.UndoRecord.{UndoRecord}
use Rattle.rb_base.proofs.Written.{nothing_yet, part_next}
use Rattle.rb_undoblock.proofs.bytes.undo_bytes.Goals as goal

-- the bytes in front of them
abbrev undo_front : UndoRecord → List ℕ
undo_front u = big_bytes 8 u.wrap ++ big_bytes 8 u.key ++ big_bytes 4 u.number ++ big_bytes 4 u.home ++ big_bytes 2 u.table ++ (u.slot ∷ u.kind ∷ u.entry ∷ u.cell ∷ []) ++ replicate 2 0 ++ uba_bytes u.previous

-- two parts that were written one behind another
two_written : (bytes entry cell : List ℕ) → length bytes ≡ UNDO_BYTES → length entry ≡ ENTRY_BEFORE_BYTES → length cell ≡ CELL_BEFORE_BYTES → put_mid CELL_BEFORE_AT CELL_BEFORE_BYTES (put_mid ENTRY_BEFORE_AT ENTRY_BEFORE_BYTES bytes entry) cell ≡ take ENTRY_BEFORE_AT bytes ++ entry ++ cell ++ drop (UNDO_BYTES - 4) bytes
two_written bytes entry cell long entry_long cell_long =
    let first = part_next bytes bytes (take ENTRY_BEFORE_AT bytes) entry ENTRY_BEFORE_AT ENTRY_BEFORE_BYTES (nothing_yet bytes ENTRY_BEFORE_AT (omega (arith, long))) entry_long (omega (arith, long)) in
    let second = part_next bytes (put_mid ENTRY_BEFORE_AT ENTRY_BEFORE_BYTES bytes entry) (take ENTRY_BEFORE_AT bytes ++ entry) cell CELL_BEFORE_AT CELL_BEFORE_BYTES first cell_long (omega (arith, long)) in
    second.whole

pub returns-clause-bytes : goal.returns-clause-bytes
returns-clause-bytes c =
    let front : c.put_uba.new.bytes ≡ undo_front c.args.undo ++ replicate (UNDO_BYTES - ENTRY_BEFORE_AT) 0 = rw (c.put_uba.ensures, c.put_u16.ensures, c.put_u32-2.ensures, c.put_u32.ensures, c.put_u64-2.ensures, c.put_u64.ensures) refl in
    let entry_long : length c.args.undo.entry_before ≡ ENTRY_BEFORE_BYTES = search rules in
    let cell_long : length c.args.undo.cell_before ≡ CELL_BEFORE_BYTES = search rules in
    rw (c.copy_from_slice-2.ensures.after, c.copy_from_slice.ensures.after, front) (two_written (undo_front c.args.undo ++ replicate (UNDO_BYTES - ENTRY_BEFORE_AT) 0) c.args.undo.entry_before c.args.undo.cell_before refl entry_long cell_long)
