use Rattle.std.specs.Map.{keys_of}
use Rattle.rb_cache.proofs.MemoryLemmas.{memory_in}
use Rattle.rb_cache.proofs.frames.Frames.count.Goals as goal

pub returns-clause-memory : goal.returns-clause-memory
returns-clause-memory c = memory_in c.args.self.now c.self.inside.slots.items (keys_of c.self.inside.order.entries) c.self.inside.places.items c.self.view_is c.self.invariant
