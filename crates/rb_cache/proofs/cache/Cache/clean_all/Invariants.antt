use Rattle.std.proofs.Common.{◌≡◌, ◌≤◌, ◌-◌, [], length}
use Rattle.rb_cache.specs.Calls.{flushed}
use Rattle.rb_cache.specs.Frames.{IsCacheMemory, numbers_of}
use Rattle.rb_cache.specs.Slots.{AreCleanFrom, cache_of, held_in}
use Rattle.rb_cache.proofs.CleanLemmas.{CleanedSoFar}
use Rattle.rb_cache.proofs.cache.Cache.clean_all.Given as goal

abbrev pub invariant-loop-dirty : goal.invariant-loop-dirty
invariant-loop-dirty g l = record {
  count : length l.self-inside.frames.slots ≡ l.fn.self.frames;
  next : l.next ≤ length l.self-inside.frames.slots;
  log : l.log ≡ flushed l.fn.log;
  layout : l.twin.layout ≡ l.layout;
  batch : l.twin.batch ≡ [];
  numbers : numbers_of (held_in l.self-inside.frames) ≡ numbers_of l.fn.self.held;
  memory : IsCacheMemory (cache_of l.self-inside.frames);
  clean : AreCleanFrom 0 l.next l.self-inside.frames.slots;
  still : g.D.Disk.faults l.disk ≡ g.D.Disk.faults l.fn.disk;
  told : g.D.Disk.tells → CleanedSoFar g.D.Disk l.layout l.fn.log l.fn.disk l.fn.self.held (held_in l.self-inside.frames) l.disk;
}

abbrev pub decreases-loop-dirty : goal.decreases-loop-dirty
decreases-loop-dirty g l = length l.self-inside.frames.slots - l.next
