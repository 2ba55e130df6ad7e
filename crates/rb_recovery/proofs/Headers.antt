-- A header in order passes, by its bytes, the tests of an opening.
use Rattle.std.proofs.Common.{◌≡◌, ◌<◌, ℕ, List, sym, ◌∙◌, ap, subst, arith}
use Rattle.rb_ring.specs.declared.extents.TheConstants.{EXTENTS}
use Rattle.rb_ring.specs.Ring.{extent_ord, IsRing}
use Rattle.rb_ring.specs.declared.extents.Extent.{Extent}
use Rattle.rb_segment.proofs.Parts.{extent_read, ring_read, slot_read}
use Rattle.rb_segment.specs.Header.{HeaderInOrder, header_of, ord_in}
use Rattle.rb_sound.specs.Sound.{IsSegment}
use Rattle.rb_txntable.specs.declared.slots.TableSlot.{TableSlot}

-- a ring by numbers that are the same at each extent
ring_alike : (ord other : ℕ → ℕ) (head k : ℕ) → ((e : ℕ) → e < EXTENTS → other e ≡ ord e) → IsRing ord head k → IsRing other head k
ring_alike ord other head k same is =
    let most = is.few.1 in
    let newest : other head ≡ ord head = same head (omega (arith, most, is.head_within)) in
    record {
      few = is.few;
      head_within = is.head_within;
      positive = λ e lt. let here = same e (omega (arith, most, lt)) in omega (arith, here, is.positive e lt);
      near = λ e lt.
          let here = same e (omega (arith, most, lt)) in
          let near = is.near e lt in
          record { up_to = omega (arith, newest, here, near.up_to); near = omega (arith, newest, here, near.near) };
      apart = λ e lt lower below equal. is.apart e lt lower below (sym (same lower (omega (arith, most, lt, below))) ∙ equal ∙ same e (omega (arith, most, lt)));
      others = λ e le lt. same e lt ∙ is.others e le lt;
    }

pub segment_sound : (commit : ℕ) (block : List ℕ) → HeaderInOrder commit (header_of block) → IsSegment commit block
segment_sound commit block order =
    let read = ring_read block in
    let ords = λ (e : ℕ) (few : e < EXTENTS). ap (λ (x : Extent). x.ord) (sym (extent_read block e few)) in
    record {
      ring = (order.ring.0, subst (λ (head : ℕ). IsRing (extent_ord block) head order.ring.0) read.0 (ring_alike (ord_in (header_of block)) (extent_ord block) (header_of block).head order.ring.0 ords order.ring.1));
      records = omega (arith, read.1, order.records);
      slots = λ i few.
          let slot = order.slots i few in
          let same = slot_read block i few in
          let state = ap (λ (s : TableSlot). s.state) same in
          let before = ap (λ (s : TableSlot). s.before) same in
          let newest = ap (λ (s : TableSlot). s.newest) same in
          record { state = omega (arith, state, slot.state); before = omega (arith, before, newest, slot.before) };
      lost = omega (arith, read.3, order.lost);
      newest = λ e few.
          let same = ap (λ (x : Extent). x.newest) (extent_read block e few) in
          let most = order.newest e few in
          omega (arith, same, most);
    }
