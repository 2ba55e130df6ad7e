use Rattle.std.proofs.Common.{true, None, ap, ◌∙◌}
use Rattle.rb_store.specs.CachedFiles.{first_of}
use Rattle.rb_store.proofs.StoreLemmas.{call_moments, call_settles, memory_again, quiet_same, same_by}
use Rattle.rb_store.proofs.store.LogStoreStore.flush.Goals as goal

pub invariant_of-self : goal.invariant_of-self
invariant_of-self g c =
    let a = c.self.inside in
    let e = c.in-Ok.ensures in
    let s = a.cache in
    let t = c.flush.new.self in (
      memory_again s t a.lsn a.loaded (c.self.inside.loaded) a.failed c.self.invariant.0 e.memory e.batch e.keeps e.numbers (λ k is. ap first_of e.held ∙ c.self.invariant.0.front k is),
      λ told going. quiet_same g.D.Disk s t a.lsn a.disk c.flush.new.disk (g.met.D.Disk.reads_an_image c.flush.new.disk told) e.keeps (c.self.invariant.1 told going) (e.settled told) (e.seen told),
    )

pub returns-in-Ok-clause-blocks : goal.returns-in-Ok-clause-blocks
returns-in-Ok-clause-blocks g c told = rw (← c.self.view_is)
    (same_by g.D.Disk c.self.inside.cache c.flush.new.self c.self.inside.disk c.flush.new.disk c.in-Ok.ensures.keeps (c.in-Ok.ensures.seen told))

pub returns-in-Ok-clause-settles : goal.returns-in-Ok-clause-settles
returns-in-Ok-clause-settles g c told b n =
    let going = ap (λ v. v.failed) c.self.view_is ∙ c.requires.going in
    rw (← c.self.view_is) (λ st.
    let a = c.self.inside in
    let e = c.in-Ok.ensures in
    let s = a.cache in
    call_settles g.D.Disk s a.lsn a.loaded a.failed a.forced a.disk c.self.invariant.0.cached b n st (c.self.invariant.1 told going) c.self.invariant.0.few c.flush.new.self c.flush.new.disk (c.self.inside.loaded) a.failed a.forced
    e.keeps e.numbers (g.met.D.Disk.reads_an_image c.flush.new.disk told) (e.settled told) (e.done told) (same_by g.D.Disk s c.flush.new.self a.disk c.flush.new.disk e.keeps (e.seen told)))

pub returns-in-Ok-clause-any_moment : goal.returns-in-Ok-clause-any_moment
returns-in-Ok-clause-any_moment g c told b n =
    let going = ap (λ v. v.failed) c.self.view_is ∙ c.requires.going in
    rw (← c.self.view_is) (λ st.
    let a = c.self.inside in
    call_moments g.D.Disk a.cache a.lsn a.loaded a.failed a.forced a.disk c.self.invariant.0.cached b n st (c.self.invariant.1 told going) c.self.invariant.0.few c.flush.new.self c.flush.new.disk (c.self.inside.loaded) a.failed a.forced (c.in-Ok.ensures.any_moment told))

pub returns-in-Err-clause-any_moment : goal.returns-in-Err-clause-any_moment
returns-in-Err-clause-any_moment g c told b n =
    let going = ap (λ v. v.failed) c.self.view_is ∙ c.requires.going in
    rw (← c.self.view_is) (λ st.
    let a = c.self.inside in
    call_moments g.D.Disk a.cache a.lsn a.loaded a.failed a.forced a.disk c.self.invariant.0.cached b n st (c.self.invariant.1 told going) c.self.invariant.0.few c.flush.new.self c.flush.new.disk None true a.forced (c.in-Err.ensures.any_moment told))
