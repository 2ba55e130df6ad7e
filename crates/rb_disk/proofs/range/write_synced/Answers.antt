use Rattle.std.proofs.Common.{length}
use Rattle.rb_base.specs.Moments.{LeavesOnly, begun, goes_on}
use Rattle.rb_disk.specs.Ranges.{TornFrom}
use Rattle.rb_disk.specs.Writes.{none_is_torn}
use Rattle.rb_disk.proofs.range.write_synced.Given.{Over}
use Rattle.rb_disk.proofs.range.write_synced.Goals.{After-write_at}
use Rattle.rb_disk.proofs.range.write_synced.Goals as goal

-- the write leaves the range torn
wrote : (g : Over) (c : After-write_at g) → g.D.Disk.tells → LeavesOnly g.D.Disk.moment g.D.Disk.image_since c.args.disk.now c.write_at.new.self (TornFrom c.args.at (length c.args.bytes.now) (g.D.Disk.image c.args.disk.now))
wrote g c told =
    let disk = c.args.disk.now in
    let n = length c.args.bytes.now in
    let P = TornFrom c.args.at n (g.D.Disk.image disk) in
    let first = begun g.D.Disk.moment g.D.Disk.image_since disk P (λ f left. (f, g.met.D.Disk.only_now disk f told left, none_is_torn c.args.at n f)) in
    goes_on g.D.Disk.moment g.D.Disk.image_since disk disk c.write_at.new.self P _ first (c.write_at.ensures.time told) (c.write_at.ensures.images told)

pub returns-in_err-write_at-clause-any_moment : goal.returns-in_err-write_at-clause-any_moment
returns-in_err-write_at-clause-any_moment g c told = wrote g (goal.at.returns-in_err-write_at-clause-any_moment g c).After-write_at told

-- and the sync adds nothing
pub returns-clause-any_moment : goal.returns-clause-any_moment
returns-clause-any_moment g c told =
    let disk = c.args.disk.now in
    let P = TornFrom c.args.at (length c.args.bytes.now) (g.D.Disk.image disk) in
    let one = wrote g (goal.at.returns-clause-any_moment g c).After-write_at told in
    goes_on g.D.Disk.moment g.D.Disk.image_since disk c.write_at.new.self c.sync.new.self P _ one (c.sync.ensures.time told) (λ f left. c.write_at.ensures.images told f (c.sync.ensures.images told f left))
