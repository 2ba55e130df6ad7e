use Rattle.std.proofs.Common.{ℕ, List, refl, ap, ◌∙◌}
use Rattle.rb_base.specs.Addresses.{slot_place}
use Rattle.rb_segment.proofs.Parts.{set_over, slot_set, slot_read}
use Rattle.rb_txntable.proofs.Places.{own_read}
use Rattle.rb_txntable.specs.Slots.{slot_at, slot_bytes}
use Rattle.rb_segment.specs.Header.{header_of}
use Rattle.rb_segment.proofs.copy.set_slot.Goals as goal

pub returns-clause-patch : goal.returns-clause-patch
returns-clause-patch c = c.set.ensures.patch ∙ rw (c.slot_place-at.ensures, c.slot_bytes.ensures.bytes) refl

pub returns-clause-copy : goal.returns-clause-copy
returns-clause-copy c = set_over c.args.no (slot_place c.args.i) (slot_bytes c.args.slot.now) c.args.header.now c.set.new.copy (c.set.ensures.copy ∙ rw (c.slot_place-at.ensures, c.slot_bytes.ensures.bytes) refl)

pub returns-clause-means : goal.returns-clause-means
returns-clause-means c = ap header_of (c.set.ensures.copy ∙ rw (c.slot_place-at.ensures, c.slot_bytes.ensures.bytes) refl) ∙ slot_set c.args.header.now c.args.i c.args.slot.now c.requires.header c.requires.place c.slot_bytes.ensures.sound

pub returns-clause-read : goal.returns-clause-read
returns-clause-read c = slot_read c.set.new.copy c.args.i c.requires.place ∙ ap (λ (l : List ℕ). slot_at l c.args.i) (c.set.ensures.copy ∙ rw (c.slot_place-at.ensures, c.slot_bytes.ensures.bytes) refl) ∙ own_read c.args.header.now c.args.i c.args.slot.now c.requires.header c.requires.place c.slot_bytes.ensures.sound
