use Rattle.std.proofs.Common.{refl, ap, ◌∙◌}
use Rattle.rb_ring.specs.declared.extents.TheConstants.{HEAD_AT}
use Rattle.rb_segment.proofs.Parts.{set_over, head_set}
use Rattle.rb_ring.specs.Ring.{head_bytes}
use Rattle.rb_segment.specs.Header.{header_of}
use Rattle.rb_segment.proofs.copy.set_head.Goals as goal

pub returns-clause-patch : goal.returns-clause-patch
returns-clause-patch c = c.set.ensures.patch ∙ rw (c.head_bytes.ensures) refl

pub returns-clause-copy : goal.returns-clause-copy
returns-clause-copy c = set_over c.args.no HEAD_AT (head_bytes c.args.head c.args.records) c.args.header.now c.set.new.copy (c.set.ensures.copy ∙ rw (c.head_bytes.ensures) refl)

pub returns-clause-means : goal.returns-clause-means
returns-clause-means c = ap header_of (c.set.ensures.copy ∙ rw (c.head_bytes.ensures) refl) ∙ head_set c.args.header.now c.args.head c.args.records c.requires.header c.ranges.head.fits c.ranges.records.fits
