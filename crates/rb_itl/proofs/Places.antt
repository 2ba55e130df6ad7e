-- An entry that was written over a block's bytes.
use Rattle.std.proofs.Common.{◌≡◌, ◌+◌, ◌≤◌, drop, refl, arith, ap, sym, ◌∙◌, inr}
use Rattle.std.proofs.lemmas.List.{take_all, length-drop}
use Rattle.rb_itl.specs.declared.slots.TheConstants.{ENTRY_BYTES}
use Rattle.rb_base.specs.declared.sizes.TheConstants.{BLOCK_HEAD}
use Rattle.byteorder.specs.Numbers.{big_number-reads_back}
use Rattle.rb_base.proofs.Apart.{places_apart}
use Rattle.rb_base.proofs.Overwriting.{length-overwritten, part_written, part_apart}
use Rattle.rb_base.specs.Fields.{number_at}
use Rattle.rb_itl.specs.Entries.{entry_place, entry_bytes, entry_of, with_entry, ReadsOwn, KeepsOthers, KeepsOutside, KeepsCells, KeepsLength, ReadsBack}

pub entry_kept_outside : KeepsOutside
entry_kept_outside block i at count e long lt side = part_apart block (entry_place i) (entry_bytes e) at count ENTRY_BYTES (omega (arith, long)) refl side

pub others_kept : KeepsOthers
others_kept block i j e long lt lt_too other =
    ap entry_of (entry_kept_outside block i (entry_place j) ENTRY_BYTES e long lt (places_apart BLOCK_HEAD ENTRY_BYTES i j other))

pub length_kept : KeepsLength
length_kept block i e long lt = length-overwritten block (entry_place i) (entry_bytes e) (omega (arith, long)) ∙ long

pub cells_kept : KeepsCells
cells_kept block i e long lt =
    sym (take_all 1632 (drop 416 (with_entry block i e)) (omega (arith, length-drop 416 (with_entry block i e), length_kept block i e long lt)))
    ∙ entry_kept_outside block i 416 1632 e long lt (inr (omega arith))
    ∙ take_all 1632 (drop 416 block) (omega (arith, length-drop 416 block, long))

-- each field is read from the bytes that it was written to
pub read_back : ReadsBack
read_back e h =
    let bytes = entry_bytes e in
    let seg : number_at bytes 4 2 ≡ e.xid.seg = big_number-reads_back 2 e.xid.seg (drop 6 bytes) h.seg in
    let slot : number_at bytes 6 2 ≡ e.xid.slot = big_number-reads_back 2 e.xid.slot (drop 8 bytes) h.slot in
    let wrap : number_at bytes 8 8 ≡ e.xid.wrap = big_number-reads_back 8 e.xid.wrap (drop 16 bytes) h.wrap in
    let number : number_at bytes 16 8 ≡ e.number = big_number-reads_back 8 e.number (drop 24 bytes) h.number in
    let block : number_at bytes 24 4 ≡ e.newest.block = big_number-reads_back 4 e.newest.block (drop 28 bytes) h.newest.block in
    let rec : number_at bytes 28 2 ≡ e.newest.rec = big_number-reads_back 2 e.newest.rec (drop 30 bytes) h.newest.rec in
    let ord : number_at bytes 32 8 ≡ e.newest.ord = big_number-reads_back 8 e.newest.ord (drop 40 bytes) h.newest.ord in
    let length : number_at bytes 40 4 ≡ e.length = big_number-reads_back 4 e.length (drop 44 bytes) h.length in
    rw (seg, slot, wrap, number, block, rec, ord, length) refl

pub own_read : ReadsOwn
own_read block i e long lt fits = ap entry_of (part_written block (entry_place i) (entry_bytes e) ENTRY_BYTES (omega (arith, long)) refl) ∙ read_back e fits
