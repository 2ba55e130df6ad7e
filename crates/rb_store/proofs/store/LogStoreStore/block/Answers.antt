use Rattle.std.proofs.Common.{sym, ◌∙◌}
use Rattle.rb_store.proofs.StoreLemmas.{first_seen, first_there, one_by}
use Rattle.rb_store.proofs.store.LogStoreStore.block.Goals as goal

pub returns-clause-block : goal.returns-clause-block
returns-clause-block g c told k = rw (← c.self.view_is) (λ is.
    let a = c.self.inside in
    let s = a.cache in
    let front = c.self.invariant.0.front k is in
    first_seen s.layout (g.D.Disk.content a.disk) s.held k c.front.result.now front c.front.ensures.bytes
    ∙ sym (one_by s.layout (g.D.Disk.content a.disk) s.held k (first_there s.layout s.held k front c.self.invariant.0.cached.there)))
