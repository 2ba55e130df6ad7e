-- The header in a block after a group of patches.
use Rattle.std.proofs.Common.{◌≡◌, ℕ, ◌+◌, ◌-◌, ◌<◌, ◌≤◌, List, take, drop, refl, arith, ap, sym, ◌∙◌, slice_index}
use Rattle.std.proofs.lemmas.List.{drop-drop}
use Rattle.std.specs.List.{AllByRecursion}
use Rattle.rb_base.specs.declared.sizes.TheConstants.{SLOTS}
use Rattle.rb_ring.specs.declared.extents.TheConstants.{EXTENTS}
use Rattle.byteorder.specs.Endian.{big_number}
use Rattle.rb_base.proofs.Fronts.{byte_of_part}
use Rattle.rb_base.proofs.Listed.{listed_same}
use Rattle.rb_base.proofs.OneBlock.{one_block}
use Rattle.rb_base.specs.Blocks.{after_group, behind_head, block_of, shape_blocks, written_to, AreBlocks, StaysBehind}
use Rattle.rb_base.specs.Fields.{number_at}
use Rattle.rb_base.specs.Groups.{Patch}
use Rattle.rb_base.specs.declared.shape.Shape.{Shape}
use Rattle.rb_ring.specs.Ring.{extent_at}
use Rattle.rb_segment.proofs.Parts.{ring_same, slots_same}
use Rattle.rb_segment.specs.Header.{header_of, no_extent}
use Rattle.rb_txntable.specs.Slots.{slot_at, no_slot}

module _ (one other : List ℕ) (same : behind_head one ≡ behind_head other) where
  rest_same : (at : ℕ) → 32 ≤ at → drop at one ≡ drop at other
  rest_same at behind =
      let split : at ≡ 32 + (at - 32) = omega arith in
      rw split (sym (drop-drop (at - 32) 32 one) ∙ ap (drop (at - 32)) same ∙ drop-drop (at - 32) 32 other)

  number_same : (at count : ℕ) → 32 ≤ at → number_at one at count ≡ number_at other at count
  number_same at count behind = ap (big_number count) (rest_same at behind)

  byte_same : (at : ℕ) → 32 ≤ at → slice_index one at ≡ slice_index other at
  byte_same at behind = sym (byte_of_part one at 1 (omega arith)) ∙ ap (λ (l : List ℕ). slice_index (take 1 l) 0) (rest_same at behind) ∙ byte_of_part other at 1 (omega arith)

  -- A header is read behind the head alone.
  pub header_same : header_of one ≡ header_of other
  unfolding header_of
  header_same =
      let slots = listed_same (slot_at one) (slot_at other) SLOTS no_slot (slots_same one other (λ at count behind lt. number_same at count behind) (λ at behind lt. byte_same at behind)) in
      let ring = ring_same one other (λ at count behind. number_same at count (omega arith)) in
      let extents = listed_same (extent_at one) (extent_at other) EXTENTS no_extent (λ e lt. ring.0 e) in
      rw (slots, extents, ring.1, ring.2, ring.3, ring.4) refl

-- so what its block's own patches, written over a copy of it, make of the copy, they make of the file's header
pub header_after : (shape : Shape) (blocks : List (List ℕ)) (number which : ℕ) (patches : List Patch) → AreBlocks shape blocks → which < shape_blocks shape → AllByRecursion StaysBehind patches
    → header_of (block_of (after_group number patches blocks) which) ≡ header_of (written_to which patches (block_of blocks which))
header_after shape blocks number which patches are there behind = header_same (block_of (after_group number patches blocks) which) (written_to which patches (block_of blocks which)) (one_block shape number which patches blocks are there behind)
