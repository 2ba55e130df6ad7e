use Rattle.std.proofs.Common.{◌≡◌, ◌≤◌, length, drop, take, true}
use Rattle.rb_memdisk.specs.Record.{fits, picked_after_all}
use Rattle.rb_memdisk.specs.Replays.{Covers}
use Rattle.rb_memdisk.proofs.memory.MemDisk.picked_image.Given as goal

abbrev pub invariant-loop-call : goal.invariant-loop-call
invariant-loop-call l = record {
  fitting : fits l.file.items (drop l.call-index l.calls) (drop l.used l.self.written.items) ≡ true;
  same : picked_after_all l.pick l.image.items l.file.items (drop l.call-index l.calls) (drop l.used l.self.written.items)
      ≡ picked_after_all l.pick l.self.first.items l.self.first.items l.calls l.self.written.items;
  covers : Covers l.pick l.image.items l.file.items;
  calls : l.calls ≡ take l.k l.self.calls.items;
  used : l.used ≤ length l.self.written.items;
}
