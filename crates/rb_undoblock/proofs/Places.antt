-- A record that was written over a block's bytes.
use Rattle.std.proofs.Common.{◌≡◌, ℕ, List, [], ◌∷◌, ◌++◌, length, take, drop, replicate, refl, arith, ap, ◌∙◌, append_assoc}
use Rattle.std.proofs.lemmas.List.{take_at, drop_at, length-append}
use Rattle.rb_undoblock.specs.declared.record.TheConstants.{CELL_BEFORE_AT, CELL_BEFORE_BYTES, ENTRY_BEFORE_AT, ENTRY_BEFORE_BYTES, UNDO_BYTES}
use Rattle.rb_base.specs.declared.sizes.TheConstants.{BLOCK_HEAD}
use Rattle.byteorder.specs.Endian.{big_bytes}
use Rattle.byteorder.specs.Numbers.{big_number-reads_back}
use Rattle.rb_base.specs.Addresses.{uba_bytes}
use Rattle.rb_base.specs.Fields.{part, number_at}
use Rattle.rb_base.proofs.Apart.{places_apart}
use Rattle.rb_base.proofs.Overwriting.{length-overwritten, part_written, part_apart}
use Rattle.rb_undoblock.specs.declared.record.UndoRecord.{UndoRecord}
use Rattle.rb_undoblock.specs.Undo.{undo_place, undo_of, undo_at, undo_bytes, IsUndoRecord}
use Rattle.rb_undoblock.specs.Undo.{UndoReadsBack, UndoReadsOwn, UndoKept, KeepsOutsideUndo, UndoLengthKept}

pub undo_long : (u : UndoRecord) → IsUndoRecord u → length (undo_bytes u) ≡ UNDO_BYTES
undo_long u h =
    let front = big_bytes 8 u.wrap ++ big_bytes 8 u.key ++ big_bytes 4 u.number ++ big_bytes 4 u.home ++ big_bytes 2 u.table ++ (u.slot ∷ u.kind ∷ u.entry ∷ u.cell ∷ []) ++ replicate 2 0 ++ uba_bytes u.previous in
    let l = length-append (front ++ u.entry_before ++ u.cell_before) (replicate 4 0) in
    let m = length-append (front ++ u.entry_before) u.cell_before in
    let n = length-append front u.entry_before in
    omega (arith, l, m, n, h.entry_before, h.cell_before)

pub kept_outside : KeepsOutsideUndo
kept_outside block r at count u long lt h side = part_apart block (undo_place r) (undo_bytes u) at count UNDO_BYTES (omega (arith, long, undo_long u h)) (undo_long u h) side

pub others_kept : UndoKept
unfolding undo_at
others_kept block r s u long lt lt_too h other =
    ap undo_of (kept_outside block r (undo_place s) UNDO_BYTES u long lt h (places_apart BLOCK_HEAD UNDO_BYTES r s other))

pub length_kept : UndoLengthKept
length_kept block r u long lt h = length-overwritten block (undo_place r) (undo_bytes u) (omega (arith, long, undo_long u h)) ∙ long

-- each field is read from the bytes that it was written to
pub read_back : UndoReadsBack
read_back u h =
    let bytes = undo_bytes u in
    let wrap : number_at bytes 0 8 ≡ u.wrap = big_number-reads_back 8 u.wrap (drop 8 bytes) h.wrap in
    let key : number_at bytes 8 8 ≡ u.key = big_number-reads_back 8 u.key (drop 16 bytes) h.key in
    let number : number_at bytes 16 4 ≡ u.number = big_number-reads_back 4 u.number (drop 20 bytes) h.number in
    let home : number_at bytes 20 4 ≡ u.home = big_number-reads_back 4 u.home (drop 24 bytes) h.home in
    let table : number_at bytes 24 2 ≡ u.table = big_number-reads_back 2 u.table (drop 26 bytes) h.table in
    let block : number_at bytes 32 4 ≡ u.previous.block = big_number-reads_back 4 u.previous.block (drop 36 bytes) h.previous.block in
    let rec : number_at bytes 36 2 ≡ u.previous.rec = big_number-reads_back 2 u.previous.rec (drop 38 bytes) h.previous.rec in
    let ord : number_at bytes 40 8 ≡ u.previous.ord = big_number-reads_back 8 u.previous.ord (drop 48 bytes) h.previous.ord in
    let zeros = replicate 4 0 in
    let saved : drop ENTRY_BEFORE_AT bytes ≡ u.entry_before ++ (u.cell_before ++ zeros) = append_assoc u.entry_before u.cell_before zeros in
    let entry_before : part bytes ENTRY_BEFORE_AT ENTRY_BEFORE_BYTES ≡ u.entry_before = ap (take ENTRY_BEFORE_BYTES) saved ∙ take_at u.entry_before (u.cell_before ++ zeros) ENTRY_BEFORE_BYTES h.entry_before in
    let cell_before : part bytes CELL_BEFORE_AT CELL_BEFORE_BYTES ≡ u.cell_before =
    ap (λ (l : List ℕ). take CELL_BEFORE_BYTES (drop ENTRY_BEFORE_BYTES l)) saved ∙ ap (take CELL_BEFORE_BYTES) (drop_at u.entry_before (u.cell_before ++ zeros) ENTRY_BEFORE_BYTES h.entry_before) ∙ take_at u.cell_before zeros CELL_BEFORE_BYTES h.cell_before in
    rw (wrap, key, number, home, table, block, rec, ord, entry_before, cell_before) refl

pub own_read : UndoReadsOwn
unfolding undo_at
own_read block r u long lt h = ap undo_of (part_written block (undo_place r) (undo_bytes u) UNDO_BYTES (omega (arith, long, undo_long u h)) (undo_long u h)) ∙ read_back u h
