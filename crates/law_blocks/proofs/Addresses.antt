-- The address of the next record tells its place, and a listed one reads its record.
use Rattle.std.proofs.Common.{◌≡◌, ◌+◌, ◌-◌, ◌*◌, ◌/◌, ◌%◌, ℕ, List, ◌∷◌, Some, ◌<◌, ◌≤◌, sym, ◌∙◌, ap, arith}
use Rattle.std.proofs.Math.Nat.{div-add-mod, mod-lt}
use Rattle.rb_undoblock.specs.declared.record.TheConstants.{UNDO_RECORDS}
use Rattle.rb_base.specs.declared.sizes.TheConstants.{SEGMENT_BLOCKS}
use Rattle.rb_ring.specs.declared.extents.TheConstants.{EXTENT_BLOCKS, EXTENT_RECORDS}
use Rattle.rb_base.specs.Blocks.{block_of, header_block, table_blocks}
use Rattle.rb_base.specs.declared.ids.Uba.{Uba}
use Rattle.rb_base.specs.declared.ids.Xid.{Xid}
use Rattle.rb_base.specs.declared.shape.Shape.{Shape}
use Rattle.rb_model.specs.Change.{Place}
use Rattle.rb_model.specs.Book.{turn_of}
use Rattle.rb_segment.specs.Header.{Header, position_of, record_in, segment_of}
use Rattle.rb_segment.specs.Moves.{Ring, IsAddress, next_address}
use Rattle.law_blocks.specs.Says.{place_of}
use Rattle.law_blocks.specs.Standing.{segments_of}
use Rattle.law_blocks.specs.Values.{Listed}
use Rattle.rb_undoblock.specs.Undo.{undo_at}
use Rattle.rb_undoblock.specs.declared.record.UndoRecord.{UndoRecord}
use Rattle.law_home.specs.Walk.{Change}
use Rattle.rb_segment.proofs.Addresses.{next_address_tells, address_reads, address_block}

places : (a b c d : ℕ) → a ≡ c → b ≡ d → (let p : Place = record { seg = a; index = b } in p) ≡ record { seg = c; index = d }
places a b c d one two = cc

pub next_place_is : (shape : Shape) (g : ℕ) (h : Header) → Ring h → h.records < EXTENT_RECORDS → place_of shape (next_address shape g h) ≡ record { seg = g; index = h.writes + 1 }
next_place_is shape g h ring few =
    let t = next_address_tells shape g h ring few in
    let u = next_address shape g h in
    places ((u.block - table_blocks shape) / SEGMENT_BLOCKS) (EXTENT_RECORDS * (u.ord - 2) + UNDO_RECORDS * (((u.block - table_blocks shape) % SEGMENT_BLOCKS - 1) % EXTENT_BLOCKS) + u.rec + 1) g (h.writes + 1) t.0 t.1

-- the turn and the position that an address's place counts
pub place_turn : (shape : Shape) (g d k : ℕ) (u : Uba) → u.block ≡ header_block shape g + 1 + d → d < 32 → u.rec < UNDO_RECORDS → 2 ≤ u.ord → k ≡ (place_of shape u).index → (turn_of k ≡ u.ord) × (position_of k ≡ UNDO_RECORDS * (d % EXTENT_BLOCKS) + u.rec)
place_turn shape g d k u at d_few few first is =
    let offset : u.block - table_blocks shape ≡ SEGMENT_BLOCKS * g + (1 + d) = omega (arith, at) in
    let a = div-add-mod (u.block - table_blocks shape) SEGMENT_BLOCKS in
    let b = mod-lt (u.block - table_blocks shape) (thirty_three) in
    let seg : (u.block - table_blocks shape) / SEGMENT_BLOCKS ≡ g = omega (arith, offset, a, b, d_few) in
    let rest : (u.block - table_blocks shape) % SEGMENT_BLOCKS - 1 ≡ d = omega (arith, offset, a, b, seg, d_few) in
    let part : ((u.block - table_blocks shape) % SEGMENT_BLOCKS - 1) % EXTENT_BLOCKS ≡ d % EXTENT_BLOCKS = ap (λ (z : ℕ). z % EXTENT_BLOCKS) rest in
    let c = mod-lt d (four) in
    let p = div-add-mod (k - 1) EXTENT_RECORDS in
    let q = mod-lt (k - 1) (forty) in
    let count : k - 1 ≡ EXTENT_RECORDS * (u.ord - 2) + (UNDO_RECORDS * (d % EXTENT_BLOCKS) + u.rec) = omega (arith, is, part) in
    let turn : (k - 1) / EXTENT_RECORDS ≡ u.ord - 2 = omega (arith, count, p, q, c, few) in
    (omega (arith, turn, first), omega (arith, turn, count, p, q, c, few))
  where
    thirty_three : 0 < SEGMENT_BLOCKS
    thirty_three = omega arith

    four : 0 < EXTENT_BLOCKS
    four = omega arith

    forty : 0 < EXTENT_RECORDS
    forty = omega arith

pub listed_reads : (shape : Shape) (blocks : List (List ℕ)) (x : Xid) (Saved : UndoRecord → Type 0) (uba : Uba) (ch : Change) (more : List Change) (r : UndoRecord) → Listed shape (segments_of shape blocks x.seg) x Saved uba (ch ∷ more) → record_in (segments_of shape blocks x.seg) ch.place.index ≡ Some r → undo_at (block_of blocks uba.block) uba.rec ≡ r
listed_reads shape blocks x Saved uba ch more r listed is =
    let a : IsAddress shape x.seg (segment_of shape blocks x.seg).header uba = listed.1 in
    let d = uba.block - header_block shape x.seg - 1 in
    let t = place_turn shape x.seg d ch.place.index uba (omega (arith, a.behind)) (omega (arith, a.behind, a.within)) a.rec a.first (ap (λ (z : Place). z.index) (sym listed.2)) in
    sym (address_block shape blocks x.seg uba a.behind a.within a.rec) ∙ address_reads shape x.seg (segment_of shape blocks x.seg) uba ch.place.index r a t.0 t.1 is
