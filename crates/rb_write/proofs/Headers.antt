-- The header of the segment of a transaction that writes, and the turn that its record takes.
use Rattle.std.proofs.Common.{◌≡◌, ℕ, ◌<◌, List, Option, None, Some, inl, inr, refl, ap, sym, subst, ◌∙◌, arith}
use Rattle.std.proofs.lemmas.Bool.{cases_eq}
use Rattle.std.proofs.lemmas.List.{get_or-set_same}
use Rattle.rb_base.specs.declared.sizes.TheConstants.{SLOTS}
use Rattle.rb_base.specs.Blocks.{block_of, header_block}
use Rattle.rb_base.specs.Groups.{Patch}
use Rattle.rb_base.specs.declared.ids.Xid.{Xid}
use Rattle.rb_base.specs.declared.shape.Shape.{Shape}
use Rattle.rb_segment.proofs.Parts.{slots_many}
use Rattle.rb_segment.specs.Calls.{HasTurned, IsYoung, IsYoungAt, Runs}
use Rattle.rb_segment.specs.Header.{Header, header_of, ord_in, slot_in}
use Rattle.rb_segment.specs.Moves.{claimed, claimed_slot, NoneMayTurn}
use Rattle.law_blocks.specs.Writing.{HasHeaderRoom, IsHeaderReady}
use Rattle.rb_txntable.specs.Slots.{no_slot}
use Rattle.rb_txntable.specs.declared.slots.TableSlot.{TableSlot}
use Rattle.rb_write.specs.Asks.{header_in, AreYoung, IsWriterOf}

-- a header that turned for a record could
pub turned_may : (block : ℕ) (h room : Header) (patches : List Patch) → HasTurned block h room patches → NoneMayTurn h → ⊥
turned_may block h room patches turned none = elim turned [
  | inl same ↦ omega (arith, same.0, none.full)
  | inr turn ↦
      let e = turn.0 in
      let may = turn.1 in
      elim (cases_eq (ord_in h e) 0) [
        | inl out ↦ omega (arith, out, none.kept e may.within)
        | inr kept ↦ let pinned = none.pinned e (may.oldest kept) in may.free kept pinned.0 pinned.1 pinned.2
      ]
]

young_as : (h : Header) (x : Xid) → Runs h x → IsYoung h → IsYoungAt h x.slot
young_as h x runs young = record { writes = young.writes; live = young.lives x.slot runs.slot runs.active; head = young.head; turn = young.turn }

-- The slot that is taken has no live record.
young_claimed : (header : List ℕ) (i : ℕ) → i < SLOTS → IsYoung (header_of header) → IsYoungAt (claimed i (header_of header)) i
young_claimed header i lt young =
    let h = header_of header in
    let slot : slot_in (claimed i h) i ≡ claimed_slot h (slot_in h i) = get_or-set_same h.slots i (claimed_slot h (slot_in h i)) no_slot (omega (arith, slots_many header, lt)) in
    let none : (slot_in (claimed i h) i).live ≡ 0 = ap (λ (s : TableSlot). s.live) slot in
    record { writes = young.writes; live = omega (arith, none); head = young.head; turn = young.turn }

module _ (shape : Shape) (blocks : List (List ℕ)) (x : Xid) (ready : Header) (seg : x.seg < shape.segments) where
  -- the numbers of the header are those that the record asks for
  pub young_at : (own : Option Xid) → Runs ready x → AreYoung shape blocks → IsWriterOf shape blocks own x ready → IsYoungAt ready x.slot
  young_at None runs young writer = let takes = writer.takes refl in
      rw takes.2 (young_claimed (block_of blocks (header_block shape x.seg)) x.slot runs.slot (young.headers x.seg seg))
  young_at (Some y) runs young writer =
      let has = writer.has y refl in
      let same : header_in shape blocks x.seg ≡ ready = ap (λ (z : Xid). header_in shape blocks z.seg) has.0 ∙ sym has.1 in
      young_as ready x runs (subst IsYoung same (young.headers x.seg seg))

  -- the header is the file's, or with the slot taken there
  pub ready_is : (own : Option Xid) → Runs ready x → IsWriterOf shape blocks own x ready → IsHeaderReady (header_in shape blocks x.seg) x.slot ready
  ready_is None runs writer = let takes = writer.takes refl in inr (takes.1, takes.2)
  ready_is (Some y) runs writer =
      let has = writer.has y refl in
      let same : ready ≡ header_in shape blocks x.seg = has.1 ∙ ap (λ (z : Xid). header_in shape blocks z.seg) (sym has.0) in
      let there : Runs (header_in shape blocks x.seg) x = subst (λ (h : Header). Runs h x) same runs in
      inl (there.active, same)

pub room_is : (block : ℕ) (h room : Header) (patches : List Patch) → HasTurned block h room patches → HasHeaderRoom h room
room_is block h room patches turned = elim turned [
  | inl same ↦ inl (same.0, same.1)
  | inr turn ↦ inr (turn.0, turn.1, turn.2)
]
