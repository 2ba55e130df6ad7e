use Rattle.std.proofs.Common.{ℕ, List, refl, ap, ◌∙◌}
use Rattle.rb_segment.proofs.Parts.{set_over, extent_set, extent_read, extent_own}
use Rattle.rb_ring.specs.Ring.{extent_at, extent_bytes, extent_place}
use Rattle.rb_segment.specs.Header.{header_of}
use Rattle.rb_segment.proofs.copy.set_extent.Goals as goal

pub returns-clause-patch : goal.returns-clause-patch
returns-clause-patch c = c.set.ensures.patch ∙ rw (c.extent_place-at.ensures, c.extent_bytes.ensures.bytes) refl

pub returns-clause-copy : goal.returns-clause-copy
returns-clause-copy c = set_over c.args.no (extent_place c.args.e) (extent_bytes c.args.extent.now) c.args.header.now c.set.new.copy (c.set.ensures.copy ∙ rw (c.extent_place-at.ensures, c.extent_bytes.ensures.bytes) refl)

pub returns-clause-means : goal.returns-clause-means
returns-clause-means c = ap header_of (c.set.ensures.copy ∙ rw (c.extent_place-at.ensures, c.extent_bytes.ensures.bytes) refl) ∙ extent_set c.args.header.now c.args.e c.args.extent.now c.requires.header c.requires.place c.extent_bytes.ensures.in_range

pub returns-clause-read : goal.returns-clause-read
returns-clause-read c = extent_read c.set.new.copy c.args.e c.requires.place ∙ ap (λ (l : List ℕ). extent_at l c.args.e) (c.set.ensures.copy ∙ rw (c.extent_place-at.ensures, c.extent_bytes.ensures.bytes) refl) ∙ extent_own c.args.header.now c.args.e c.args.extent.now c.requires.header c.requires.place c.extent_bytes.ensures.in_range
