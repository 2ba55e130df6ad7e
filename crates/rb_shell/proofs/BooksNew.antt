-- The headers of a new file tell the new book of each segment.
use Rattle.std.proofs.Common.{◌≡◌, ◌<◌, ◌-◌, ◌*◌, ◌%◌, ◌==◌, ℕ, Bool, nat_lt, false, if◌then◌else◌, ◌++◌, refl, sym, ◌∙◌, ap, arith}
use Rattle.std.proofs.Math.Nat.{mul-mod_right}
use Rattle.std.proofs.lemmas.Bool.{le-ltb}
use Rattle.std.proofs.lemmas.List.{ext_get_or, get_or-replicate, length-replicate}
use Rattle.std.proofs.lemmas.List.FromFn.{get_or-map-range_with_len, length-map-range_with_len}
use Rattle.rb_base.specs.Blocks.{block_kind, fresh_blocks, fresh_head, fresh_rest, fresh_segment, header_block, table_blocks}
use Rattle.rb_base.specs.declared.shape.Shape.{Shape}
use Rattle.rb_heap.proofs.Fresh.{new_block}
use Rattle.rb_shell.specs.NewBooks.{new_books}
use Rattle.rb_model.specs.Book.{fresh_book}
use Rattle.rb_recovery.specs.Opens.{books_of}
use Rattle.rb_restart.specs.Rollback.{found_book}
use Rattle.rb_ring.specs.Ring.{extent_ord, extent_newest, head_extent, head_records, record_count, lost_number}
use Rattle.rb_segment.specs.Books.{fresh_header}
use Rattle.rb_segment.specs.Header.{header_of, segment_of}
use Rattle.law_blocks.proofs.SegmentRead.{header_is}
use Rattle.law_blocks.specs.Standing.{segments_of}
use Rattle.rb_txntable.specs.Slots.{slot_state, slot_touched, slot_live, slot_wrap, slot_newest, slot_before, slot_record, slot_first, slot_start}

header_read : (n : ℕ) → header_of (fresh_head 2 n ++ fresh_segment) ≡ fresh_header
unfolding header_of slot_state slot_touched slot_live slot_wrap slot_newest slot_before slot_record slot_first slot_start extent_ord extent_newest head_extent head_records record_count lost_number
header_read n = refl

abbrev kind_by : Bool → ℕ → ℕ
kind_by front rest = if front then 1 else if rest == 0 then 2 else 3

header_kind : (front : Bool) (rest : ℕ) → front ≡ false → rest ≡ 0 → kind_by front rest ≡ 2
header_kind front rest behind whole = rw (behind, whole) refl

kind_of : (shape : Shape) (g : ℕ) → block_kind shape (header_block shape g) ≡ 2
kind_of shape g =
    let which = header_block shape g in
    let back : which - table_blocks shape ≡ 33 * g = omega arith in
    header_kind (nat_lt which (table_blocks shape)) ((which - table_blocks shape) % 33) (le-ltb which (table_blocks shape) (omega arith)) (rw back (mul-mod_right 33 g))

header_fresh : (shape : Shape) (g : ℕ) → g < shape.segments → (segments_of shape (fresh_blocks shape) g).header ≡ fresh_header
header_fresh shape g lt =
    let which = header_block shape g in
    header_is shape (fresh_blocks shape) g
    ∙ ap header_of (new_block shape which (omega (arith, lt)) ∙ ap (λ (kind : ℕ). fresh_head kind which ++ fresh_rest kind) (kind_of shape g))
    ∙ header_read which

found_fresh : found_book fresh_header ≡ fresh_book
found_fresh = refl

pub books_new : (shape : Shape) → books_of shape (fresh_blocks shape) ≡ new_books shape
books_new shape =
    let told = λ (g : ℕ). found_book (segment_of shape (fresh_blocks shape) g).header in
    let many = length-map-range_with_len told 0 shape.segments in
    let new = length-replicate shape.segments fresh_book in
    ext_get_or fresh_book (books_of shape (fresh_blocks shape)) (new_books shape) (many ∙ sym new) (λ g lt.
    let there : g < shape.segments = omega (arith, lt, many) in
    get_or-map-range_with_len told 0 shape.segments g g fresh_book there (omega arith)
    ∙ ap found_book (header_fresh shape g there)
    ∙ found_fresh
    ∙ sym (get_or-replicate shape.segments g fresh_book fresh_book there))
