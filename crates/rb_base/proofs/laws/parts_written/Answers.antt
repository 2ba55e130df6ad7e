use Rattle.std.proofs.Common.{refl}
use Rattle.rb_base.proofs.Apart.{places_apart}
use Rattle.rb_base.proofs.Overwriting.{length-overwritten, part_apart, part_written}
use Rattle.rb_base.proofs.laws.parts_written.Goals as goal

pub returns-clause-own : goal.returns-clause-own
returns-clause-own c old bytes at within = part_written old at bytes _ within refl

pub returns-clause-others : goal.returns-clause-others
returns-clause-others c old bytes at from count within apart = part_apart old at bytes from count _ within refl apart

pub returns-clause-length : goal.returns-clause-length
returns-clause-length c old bytes at within = length-overwritten old at bytes within

pub returns-clause-places : goal.returns-clause-places
returns-clause-places c = places_apart
