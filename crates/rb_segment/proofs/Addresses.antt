-- The address of the next record tells its segment, and how many records were made before it. What an address reads, and
-- that each move leaves the addresses that were given.
use Rattle.std.proofs.Common.{◌≡◌, inl, inr, ◌<◌, ◌≤◌, ◌+◌, ◌-◌, ◌*◌, ◌/◌, ◌%◌, ℕ, List, length, get_or, Option, Some, None, refl, sym, ◌∙◌, ap, subst, arith}
use Rattle.std.proofs.Math.Nat.{div-add-mod, mod-lt}
use Rattle.std.proofs.lemmas.List.FromFn.{get_or-map-range_with_len}
use Rattle.rb_undoblock.specs.declared.record.TheConstants.{UNDO_RECORDS}
use Rattle.rb_base.specs.declared.sizes.TheConstants.{SEGMENT_BLOCKS}
use Rattle.rb_ring.specs.declared.extents.TheConstants.{EXTENTS, EXTENT_BLOCKS, EXTENT_RECORDS}
use Rattle.rb_base.specs.Blocks.{block_of, header_block, table_blocks}
use Rattle.rb_base.specs.declared.ids.Uba.{Uba}
use Rattle.rb_base.specs.declared.shape.Shape.{Shape}
use Rattle.rb_model.specs.Book.{turn_of}
use Rattle.rb_ring.specs.declared.extents.Extent.{Extent}
use Rattle.std.proofs.lemmas.List.{get_or-set_same}
use Rattle.rb_segment.specs.Header.{Header, Segment, no_extent, slot_in, undo_block, segment_of, head_turn, ord_in, record_in, undo_in, extent_with, position_of}
use Rattle.rb_segment.specs.Moves.{Ring, MayTurn, IsAddress, next_place, next_address, turned, committed}
use Rattle.rb_segment.proofs.Commits.{stamped_turns, ord_stamped}
use Rattle.rb_segment.proofs.Records.{found, made_of, some_cases, turned_others, turned_gone}
use Rattle.rb_undoblock.specs.Undo.{undo_at, no_undo}
use Rattle.rb_undoblock.specs.declared.record.UndoRecord.{UndoRecord}

thirty_three : 0 < SEGMENT_BLOCKS
thirty_three = omega arith

four : 0 < EXTENT_BLOCKS
four = omega arith

ten : 0 < UNDO_RECORDS
ten = omega arith

-- block j of extent e of segment g
pub block_tells : (shape : Shape) (g e j block : ℕ) → block ≡ header_block shape g + 1 + EXTENT_BLOCKS * e + j → e < EXTENTS → j < EXTENT_BLOCKS → ((block - table_blocks shape) / SEGMENT_BLOCKS ≡ g) × (((block - table_blocks shape) % SEGMENT_BLOCKS - 1) % EXTENT_BLOCKS ≡ j)
block_tells shape g e j block at e_few j_few =
    let is : block - table_blocks shape ≡ SEGMENT_BLOCKS * g + (1 + EXTENT_BLOCKS * e + j) = omega (arith, at) in
    let a = div-add-mod (block - table_blocks shape) SEGMENT_BLOCKS in
    let b = mod-lt (block - table_blocks shape) (thirty_three) in
    let seg : (block - table_blocks shape) / SEGMENT_BLOCKS ≡ g = omega (arith, is, a, b, e_few, j_few) in
    let rest : (block - table_blocks shape) % SEGMENT_BLOCKS - 1 ≡ EXTENT_BLOCKS * e + j = omega (arith, is, a, b, seg, e_few, j_few) in
    let c = div-add-mod ((block - table_blocks shape) % SEGMENT_BLOCKS - 1) EXTENT_BLOCKS in
    let d = mod-lt ((block - table_blocks shape) % SEGMENT_BLOCKS - 1) (four) in
    (seg, omega (arith, rest, c, d, j_few))

-- the segment, and the number of the record, counted from 1
pub next_address_tells : (shape : Shape) (g : ℕ) (h : Header) → Ring h → h.records < EXTENT_RECORDS
    → (((next_address shape g h).block - table_blocks shape) / SEGMENT_BLOCKS ≡ g) × (EXTENT_RECORDS * ((next_address shape g h).ord - 2) + UNDO_RECORDS * ((((next_address shape g h).block - table_blocks shape) % SEGMENT_BLOCKS - 1) % EXTENT_BLOCKS) + (next_address shape g h).rec + 1 ≡ h.writes + 1)
next_address_tells shape g h ring few =
    let a = div-add-mod h.records UNDO_RECORDS in
    let b = mod-lt h.records (ten) in
    let p = div-add-mod (next_place h) UNDO_RECORDS in
    let q = mod-lt (next_place h) (ten) in
    let quotient : next_place h / UNDO_RECORDS ≡ EXTENT_BLOCKS * h.head + h.records / UNDO_RECORDS = omega (arith, a, b, p, q) in
    let rest : next_place h % UNDO_RECORDS ≡ h.records % UNDO_RECORDS = omega (arith, a, b, p, q, quotient) in
    let at : undo_block shape g (next_place h) ≡ header_block shape g + 1 + EXTENT_BLOCKS * h.head + h.records / UNDO_RECORDS = omega (arith, quotient) in
    let t = block_tells shape g h.head (h.records / UNDO_RECORDS) (undo_block shape g (next_place h)) at ring.head_in (omega (arith, a, b, few)) in
    (t.0, omega (arith, t.1, a, b, rest, ring.count, ring.second))

-- the address of the next record is one, also once the record is added
pub next_address_is : (shape : Shape) (g : ℕ) (h : Header) → Ring h → h.records < EXTENT_RECORDS → IsAddress shape g h (next_address shape g h)
next_address_is shape g h ring few =
    let p = div-add-mod (next_place h) UNDO_RECORDS in
    let q = mod-lt (next_place h) (ten) in
    let c = div-add-mod (next_place h / UNDO_RECORDS) EXTENT_BLOCKS in
    let d = mod-lt (next_place h / UNDO_RECORDS) (four) in
    record {
      behind = omega arith;
      within = omega (arith, p, q, ring.head_in, few);
      rec = omega (arith, q);
      first = ring.second;
      given = omega arith;
      extent = λ e at.
          let f : (e < length h.extents) × (ord_in h e ≡ head_turn h) = found h.extents (head_turn h) e at in
          let one : e ≡ h.head = ring.apart e h.head (omega (arith, f.1, ring.second)) (f.1) in
          let place : (undo_block shape g (next_place h) - header_block shape g - 1) ≡ next_place h / UNDO_RECORDS = omega arith in
          let here : (next_place h / UNDO_RECORDS) / EXTENT_BLOCKS ≡ h.head = omega (arith, p, q, c, d, few) in
          one ∙ (sym here ∙ ap (λ (z : ℕ). z / EXTENT_BLOCKS) (sym place));
    }

-- one stays one where its turn's extent, as long as there is one, is the same
pub address_later : (shape : Shape) (g : ℕ) (h h2 : Header) (u : Uba) → head_turn h ≤ head_turn h2 → ((turn e : ℕ) → 1 ≤ turn → turn ≤ head_turn h → extent_with h2.extents turn ≡ Some e → extent_with h.extents turn ≡ Some e) → IsAddress shape g h u → IsAddress shape g h2 u
address_later shape g h h2 u later turns a = record {
  behind = a.behind;
  within = a.within;
  rec = a.rec;
  first = a.first;
  given = omega (arith, a.given, later);
  extent = λ e at. a.extent e (turns u.ord e (omega (arith, a.first)) a.given at);
}

-- a slot that is taken, a record that is added or put back, and the end of a slot leave the turns
pub address_same : (shape : Shape) (g : ℕ) (h h2 : Header) (u : Uba) → h2.extents ≡ h.extents → h2.head ≡ h.head → IsAddress shape g h u → IsAddress shape g h2 u
address_same shape g h h2 u extents head a =
    let turn : head_turn h2 ≡ head_turn h = ap (λ (z : ℕ). ord_in h2 z) head ∙ ap (λ (z : List Extent). (get_or z h.head no_extent).ord) extents in
    address_later shape g h h2 u (omega (arith, turn)) (λ t e some le at. ap (λ (z : List Extent). extent_with z t) (sym extents) ∙ at) a

-- a commit too
pub address_committed : (shape : Shape) (g c i : ℕ) (h : Header) (u : Uba) → IsAddress shape g h u → IsAddress shape g (committed c i h) u
address_committed shape g c i h u a =
    let turn : head_turn (committed c i h) ≡ head_turn h = ord_stamped c (slot_in h i).touched 0 h.extents h.head in
    address_later shape g h (committed c i h) u (omega (arith, turn)) (λ t e some le at. sym (stamped_turns c (slot_in h i).touched 0 h.extents t) ∙ at) a

-- an extent that takes the next turn leaves the others theirs
pub address_turned : (shape : Shape) (g e : ℕ) (h : Header) (u : Uba) → Ring h → MayTurn h e → IsAddress shape g h u → IsAddress shape g (turned e h) u
address_turned shape g e h u ring may a = address_later shape g h (turned e h) u up (λ t f some le at. elim (some_cases (extent_with h.extents t) e) [
  | inl was ↦ let none : None ≡ Some f = sym (turned_gone e h ring may t some le was) ∙ at in absurd (cc)
  | inr ne ↦ sym (turned_others e h ring may t some le (extent_with h.extents t) refl ne) ∙ at
]) a
  where
    up : head_turn h ≤ head_turn (turned e h)
    up = let now : head_turn (turned e h) ≡ head_turn h + 1 = ap (λ (z : Extent). z.ord) (get_or-set_same h.extents e (record { ord = head_turn h + 1; newest = 0 }) no_extent (omega (arith, may.within, ring.extents))) in omega (arith, now)

-- which place of its segment an address names
abbrev pub place_read : Shape → ℕ → Uba → ℕ
place_read shape g u = EXTENT_RECORDS * ((u.block - header_block shape g - 1) / EXTENT_BLOCKS) + UNDO_RECORDS * ((u.block - header_block shape g - 1) % EXTENT_BLOCKS) + u.rec

-- a record that is found under the turn and position of an address stands where the address says
pub address_reads : (shape : Shape) (g : ℕ) (s : Segment) (u : Uba) (k : ℕ) (r : UndoRecord) → IsAddress shape g s.header u → turn_of k ≡ u.ord → position_of k ≡ UNDO_RECORDS * ((u.block - header_block shape g - 1) % EXTENT_BLOCKS) + u.rec → record_in s k ≡ Some r → get_or s.undo (place_read shape g u) no_undo ≡ r
address_reads shape g s u k r a turn position is =
    let m : undo_in s.undo (position_of k) (extent_with s.header.extents (turn_of k)) ≡ Some r = (made_of s k r is).2 in
    at_place (extent_with s.header.extents u.ord) refl (subst (λ (z : ℕ). undo_in s.undo (position_of k) (extent_with s.header.extents z) ≡ Some r) turn m)
  where
    at_place : (o : Option ℕ) → extent_with s.header.extents u.ord ≡ o → undo_in s.undo (position_of k) o ≡ Some r → get_or s.undo (place_read shape g u) no_undo ≡ r
    at_place None was there = let wrong : None ≡ Some r = there in absurd (cc)
    at_place (Some e) was there =
        let e_is : e ≡ (u.block - header_block shape g - 1) / EXTENT_BLOCKS = a.extent e was in
        let place : place_read shape g u ≡ EXTENT_RECORDS * e + position_of k = omega (arith, e_is, position) in
        let one : Some (get_or s.undo (EXTENT_RECORDS * e + position_of k) no_undo) ≡ Some r = there in
        let same : get_or s.undo (EXTENT_RECORDS * e + position_of k) no_undo ≡ r = cc in
        ap (λ (z : ℕ). get_or s.undo z no_undo) place ∙ same

-- in blocks that is the record that the block of the address has at its position
pub address_block : (shape : Shape) (blocks : List (List ℕ)) (g : ℕ) (u : Uba) → header_block shape g < u.block → u.block < header_block shape g + SEGMENT_BLOCKS → u.rec < UNDO_RECORDS → get_or (segment_of shape blocks g).undo (place_read shape g u) no_undo ≡ undo_at (block_of blocks u.block) u.rec
unfolding segment_of
address_block shape blocks g u behind within few =
    let d = u.block - header_block shape g - 1 in
    let a = div-add-mod d EXTENT_BLOCKS in
    let b = mod-lt d (four) in
    let i = place_read shape g u in
    let i_is : i ≡ UNDO_RECORDS * d + u.rec = omega (arith, a) in
    let p = div-add-mod i 10 in
    let q = mod-lt i (ten) in
    let quotient : i / UNDO_RECORDS ≡ d = omega (arith, i_is, p, q, few) in
    let rest : i % UNDO_RECORDS ≡ u.rec = omega (arith, i_is, p, q, quotient, few) in
    let block : undo_block shape g i ≡ u.block = omega (arith, quotient, behind) in
    get_or-map-range_with_len (λ (z : ℕ). undo_at (block_of blocks (undo_block shape g z)) (z % UNDO_RECORDS)) 0 (EXTENTS * EXTENT_RECORDS) i i no_undo (omega (arith, i_is, within, few)) (omega arith)
    ∙ (ap (λ (z : ℕ). undo_at (block_of blocks z) (i % UNDO_RECORDS)) block ∙ ap (λ (z : ℕ). undo_at (block_of blocks u.block) z) rest)
