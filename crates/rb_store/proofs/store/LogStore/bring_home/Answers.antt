use Rattle.std.proofs.Common.{true, None, ap, ◌∙◌}
use Rattle.rb_store.proofs.StoreLemmas.{call_moments, call_settles, memory_again, quiet_same, same_by}
use Rattle.rb_store.proofs.store.LogStore.bring_home.Goals as goal

pub invariant_of-self : goal.invariant_of-self
invariant_of-self g c =
    let a = c.self.inside in
    let e = c.in-Ok.ensures in
    let s = a.cache in
    let t = c.clean_all.new.self in (
      memory_again s t a.lsn a.loaded (None) a.failed c.self.invariant.0 e.memory e.batch e.keeps e.numbers (λ k is. cc),
      λ told going. quiet_same g.D.Disk s t a.lsn a.disk c.clean_all.new.disk (g.met.D.Disk.reads_an_image c.clean_all.new.disk told) e.keeps (c.self.invariant.1 told going) (e.settled told) (e.seen told),
    )

pub returns-in-Ok-clause-blocks : goal.returns-in-Ok-clause-blocks
returns-in-Ok-clause-blocks g c told = rw (← c.self.view_is)
    (same_by g.D.Disk c.self.inside.cache c.clean_all.new.self c.self.inside.disk c.clean_all.new.disk c.in-Ok.ensures.keeps (c.in-Ok.ensures.seen told))

pub returns-in-Ok-clause-settles : goal.returns-in-Ok-clause-settles
returns-in-Ok-clause-settles g c told b n =
    let going = ap (λ v. v.failed) c.self.view_is ∙ c.requires.going in
    rw (← c.self.view_is) (λ st.
    let a = c.self.inside in
    let e = c.in-Ok.ensures in
    let s = a.cache in
    call_settles g.D.Disk s a.lsn a.loaded a.failed a.forced a.disk c.self.invariant.0.cached b n st (c.self.invariant.1 told going) c.self.invariant.0.few c.clean_all.new.self c.clean_all.new.disk (None) a.failed a.forced
    e.keeps e.numbers (g.met.D.Disk.reads_an_image c.clean_all.new.disk told) (e.settled told) (e.done told) (same_by g.D.Disk s c.clean_all.new.self a.disk c.clean_all.new.disk e.keeps (e.seen told)))

pub returns-in-Ok-clause-any_moment : goal.returns-in-Ok-clause-any_moment
returns-in-Ok-clause-any_moment g c told b n =
    let going = ap (λ v. v.failed) c.self.view_is ∙ c.requires.going in
    rw (← c.self.view_is) (λ st.
    let a = c.self.inside in
    call_moments g.D.Disk a.cache a.lsn a.loaded a.failed a.forced a.disk c.self.invariant.0.cached b n st (c.self.invariant.1 told going) c.self.invariant.0.few c.clean_all.new.self c.clean_all.new.disk (None) a.failed a.forced (c.in-Ok.ensures.any_moment told))

pub returns-in-Err-clause-any_moment : goal.returns-in-Err-clause-any_moment
returns-in-Err-clause-any_moment g c told b n =
    let going = ap (λ v. v.failed) c.self.view_is ∙ c.requires.going in
    rw (← c.self.view_is) (λ st.
    let a = c.self.inside in
    call_moments g.D.Disk a.cache a.lsn a.loaded a.failed a.forced a.disk c.self.invariant.0.cached b n st (c.self.invariant.1 told going) c.self.invariant.0.few c.clean_all.new.self c.clean_all.new.disk None true a.forced (c.in-Err.ensures.any_moment told))
