use Rattle.std.proofs.Common.{◌<◌, ◌-◌, ◌%◌, sym, arith}
use Rattle.std.proofs.Math.Nat.{mod-lt}
use Rattle.rb_ring.specs.declared.extents.TheConstants.{EXTENT_RECORDS}
use Rattle.rb_cr.proofs.Extents.{place_gone, place_there}
use Rattle.rb_cr.proofs.reads.record_place.Goals as goal

pub returns-in-Some-clause-some : goal.returns-in-Some-clause-some
returns-in-Some-clause-some c =
    let lt : (c.args.index - 1) % EXTENT_RECORDS < EXTENT_RECORDS = mod-lt (c.args.index - 1) (forty) in
    (omega (arith, lt, c.in-Some.ensures.within), λ s same. place_there c.args.header.now c.args.index s same c.in-Some.e c.requires.first c.requires.made (sym c.in-Some.ensures.extent))
  where
    forty : 0 < EXTENT_RECORDS
    forty = omega arith

pub returns-in-None-clause-none : goal.returns-in-None-clause-none
returns-in-None-clause-none c = λ s same. place_gone c.args.header.now c.args.index s same c.requires.first c.requires.made (sym c.in-None.ensures.extent)
