use Rattle.std.proofs.Common.{refl}
use Rattle.rb_txntable.specs.Slots.{slot_touched, slot_live, slot_record, slot_first, slot_start}
use Rattle.rb_txntable.proofs.read.slot_at.Goals as goal

pub returns : goal.returns
unfolding slot_touched slot_live slot_record slot_first slot_start
returns c =
    rw (c.slot_state.ensures, c.u32_at.ensures, c.slot_wrap.ensures, c.slot_newest.ensures, c.slot_before.ensures, c.uba_at.ensures, c.u64_at.ensures, c.u64_at-2.ensures, c.slot_place-place.ensures) refl
