-- What lists of ranges say of their bytes, of the list after a write.
use Rattle.std.proofs.Common.{length, rules}
use Rattle.rb_filedisk.specs.FileDisk.{unsynced_of}
use Rattle.rb_filedisk.specs.Unsynced.{IsWith}
use Rattle.rb_filedisk.proofs.ByteLemmas.{remembers_all, remembers_no_other}
use Rattle.rb_filedisk.proofs.file.FileDiskDisk.write_at.Goals as goal

pub returns-clause-every : goal.returns-clause-every
returns-clause-every g c =
    let before = unsynced_of c.args.self.now in
    let now = unsynced_of c.count_fault.new.self in
    let with : IsWith c.args.at (length c.args.bytes.now) before now = search rules in
    remembers_all c.args.at (length c.args.bytes.now) before now with

pub returns-clause-no_other : goal.returns-clause-no_other
returns-clause-no_other g c =
    let before = unsynced_of c.args.self.now in
    let now = unsynced_of c.count_fault.new.self in
    let with : IsWith c.args.at (length c.args.bytes.now) before now = search rules in
    remembers_no_other c.args.at (length c.args.bytes.now) before now with
