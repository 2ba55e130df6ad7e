use Rattle.std.proofs.Common.{refl, ap, ◌∙◌}
use Rattle.rb_ring.specs.declared.extents.TheConstants.{LOST_AT}
use Rattle.byteorder.specs.Endian.{big_bytes}
use Rattle.rb_segment.proofs.Parts.{set_over, lost_set}
use Rattle.rb_segment.specs.Header.{header_of}
use Rattle.rb_segment.proofs.copy.set_lost.Goals as goal

pub returns-clause-patch : goal.returns-clause-patch
returns-clause-patch c = c.set.ensures.patch ∙ rw (c.number_bytes.ensures) refl

pub returns-clause-copy : goal.returns-clause-copy
returns-clause-copy c = set_over c.args.no LOST_AT (big_bytes 8 c.args.lost) c.args.header.now c.set.new.copy (c.set.ensures.copy ∙ rw (c.number_bytes.ensures) refl)

pub returns-clause-means : goal.returns-clause-means
returns-clause-means c = ap header_of (c.set.ensures.copy ∙ rw (c.number_bytes.ensures) refl) ∙ lost_set c.args.header.now c.args.lost c.requires.header c.ranges.lost.fits
