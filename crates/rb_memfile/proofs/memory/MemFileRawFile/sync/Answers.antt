-- Time goes on by a sync, whether it succeeds or fails.
use Rattle.std.proofs.Common.{rules, ◌≤◌, arith}
use Rattle.std.specs.Prelude.{OnOk}
use Rattle.rb_base.specs.Moments.{Passes}
use Rattle.rb_memfile.specs.Images.{IsDropped, IsSynced}
use Rattle.rb_memfile.specs.Laws.{dropped_time, synced_time}
use Rattle.rb_memfile.specs.MemFile.{LeavesNow, LeavesSince, seen_of, syncs_of}
use Rattle.rb_memfile.proofs.Results.{either}
use Rattle.rb_memfile.proofs.memory.MemFileRawFile.sync.Goals as goal

pub returns-clause-time : goal.returns-clause-time
returns-clause-time c =
    let old = c.args.self.now in
    let new = c.flush.new.self in
    let least = (c.args.self.now.shortest) in
    let no_less : old.shortest ≤ least = omega arith in
    let synced : OnOk c.flush.result (IsSynced least (seen_of old) (seen_of new)) = search rules in
    either c.flush.result (IsSynced least (seen_of old) (seen_of new)) (IsDropped (seen_of old) (seen_of new))
    (Passes (syncs_of old) (syncs_of new) (LeavesSince old) (LeavesSince new) (LeavesNow new))
    (synced_time least (seen_of old) (seen_of new) no_less) (dropped_time (seen_of old) (seen_of new)) synced c.flush.ensures.dropped
