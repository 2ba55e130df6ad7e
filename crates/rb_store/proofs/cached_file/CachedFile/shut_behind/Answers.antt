use Rattle.std.proofs.Common.{⊎_elim, arith}
use Rattle.rb_log.specs.GroupLaws.{groups_end}
use Rattle.rb_store.proofs.cached_file.CachedFile.shut_behind.Goals as goal

pub returns-then-used-self-clause-shut : goal.returns-then-used-self-clause-shut
returns-then-used-self-clause-shut g c told groups = rw (← c.self.view_is) (λ count has.
    let l = c.self.inside.layout in
    let log = c.self.inside.log in
    let few = c.if-used-self.true in
    let used = c.used.ensures.used in
    ⊎_elim (λ last. absurd (omega (arith, last, few, used)))
    (λ shut. shut) (groups_end l log.head (g.D.Disk.content c.args.disk.now) 0 log.used groups (omega (arith, count)) has))
