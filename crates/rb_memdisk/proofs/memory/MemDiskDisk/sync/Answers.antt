use Rattle.std.proofs.Common.{◌≡◌, List, ℕ, length, sym, subst}
use Rattle.rb_memdisk.specs.Record.{MayLeave}
use Rattle.rb_memdisk.specs.Replays.{reads_now}
use Rattle.rb_memdisk.proofs.memory.MemDiskDisk.sync.Goals as goal

-- a sync leaves what is read, which might have been left before it
pub returns-clause-images : goal.returns-clause-images
returns-clause-images c = λ file left.
    let is : file ≡ c.args.self.now.bytes.items = c.add.ensures.on.images file left in
    subst (λ (d : List ℕ). MayLeave c.args.self.now.first.items c.args.self.now.calls.items c.args.self.now.written.items (length c.args.self.now.calls.items) d) (sym is)
    (reads_now c.args.self.now.first.items c.args.self.now.bytes.items c.args.self.now.calls.items c.args.self.now.written.items c.args.self.now.reads c.args.self.now.fitting)
