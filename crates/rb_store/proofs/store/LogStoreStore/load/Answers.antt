use Rattle.std.proofs.Common.{◌≡◌, true, None, Some, ap, arith, inl, inr, sym, ◌∙◌}
use Rattle.std.proofs.lemmas.Bool.{cases_eq}
use Rattle.rb_layout.specs.declared.layout.Head.{Head}
use Rattle.rb_store.proofs.Settled.{still_moments, still_settles}
use Rattle.rb_store.proofs.StoreLemmas.{are_blocks, call_moments, call_settles, memory_again, quiet_same, same_by, waits_same}
use Rattle.rb_store.proofs.store.LogStoreStore.load.Goals as goal

pub invariant_of-self : goal.invariant_of-self
invariant_of-self g c =
    let a = c.self.inside in
    let e = c.in-Ok.ensures in
    let s = a.cache in
    let t = c.get.new.self in (
      memory_again s t a.lsn a.loaded (Some c.args.no) a.failed c.self.invariant.0 e.memory e.batch e.keeps e.numbers (λ k is. c.in-Ok.ensures.first ∙ is),
      λ told going. quiet_same g.D.Disk s t a.lsn a.disk c.get.new.disk (g.met.D.Disk.reads_an_image c.get.new.disk told) e.keeps (c.self.invariant.1 told going) (e.settled told) (e.seen told),
    )

pub returns-in-Ok-clause-blocks : goal.returns-in-Ok-clause-blocks
returns-in-Ok-clause-blocks g c told = rw (← c.self.view_is)
    (same_by g.D.Disk c.self.inside.cache c.get.new.self c.self.inside.disk c.get.new.disk c.in-Ok.ensures.keeps (c.in-Ok.ensures.seen told))

pub returns-in-Ok-clause-settles : goal.returns-in-Ok-clause-settles
returns-in-Ok-clause-settles g c told b n =
    let going = ap (λ v. v.failed) c.self.view_is ∙ c.requires.going in
    rw (← c.self.view_is) (λ st.
    let a = c.self.inside in
    let e = c.in-Ok.ensures in
    let s = a.cache in
    call_settles g.D.Disk s a.lsn a.loaded a.failed a.forced a.disk c.self.invariant.0.cached b n st (c.self.invariant.1 told going) c.self.invariant.0.few c.get.new.self c.get.new.disk (Some c.args.no) a.failed c.more_forced-self-inside.result
    e.keeps e.numbers (g.met.D.Disk.reads_an_image c.get.new.disk told) (e.settled told) (e.done told) (same_by g.D.Disk s c.get.new.self a.disk c.get.new.disk e.keeps (e.seen told)))

pub returns-in-Ok-clause-any_moment : goal.returns-in-Ok-clause-any_moment
returns-in-Ok-clause-any_moment g c told b n =
    let going = ap (λ v. v.failed) c.self.view_is ∙ c.requires.going in
    rw (← c.self.view_is) (λ st.
    let a = c.self.inside in
    call_moments g.D.Disk a.cache a.lsn a.loaded a.failed a.forced a.disk c.self.invariant.0.cached b n st (c.self.invariant.1 told going) c.self.invariant.0.few c.get.new.self c.get.new.disk (Some c.args.no) a.failed c.more_forced-self-inside.result (c.in-Ok.ensures.any_moment told))

pub returns-in-Err-clause-any_moment : goal.returns-in-Err-clause-any_moment
returns-in-Err-clause-any_moment g c told b n =
    let going = ap (λ v. v.failed) c.self.view_is ∙ c.requires.going in
    rw (← c.self.view_is) (λ st.
    let a = c.self.inside in
    call_moments g.D.Disk a.cache a.lsn a.loaded a.failed a.forced a.disk c.self.invariant.0.cached b n st (c.self.invariant.1 told going) c.self.invariant.0.few c.get.new.self c.get.new.disk None true a.forced (c.in-Err.ensures.any_moment told))

pub returns-in-Ok-clause-whole : goal.returns-in-Ok-clause-whole
returns-in-Ok-clause-whole g c told =
    let going = ap (λ v. v.failed) c.self.view_is ∙ c.requires.going in
    let a = c.self.inside in
    let e = c.in-Ok.ensures in
    let s = a.cache in
    let t = c.get.new.self in
    let q = quiet_same g.D.Disk s t a.lsn a.disk c.get.new.disk (g.met.D.Disk.reads_an_image c.get.new.disk told) e.keeps (c.self.invariant.1 told going) (e.settled told) (e.seen told) in
    are_blocks t.layout (g.D.Disk.content c.get.new.disk) t.held q.whole c.in-Ok.ensures.memory.units

pub returns-in-Ok-clause-holds_back : goal.returns-in-Ok-clause-holds_back
returns-in-Ok-clause-holds_back g c =
    let e = c.in-Ok.ensures in
    let s = c.self.inside.cache in
    let t = c.get.new.self in
    let forced = c.more_forced-self-inside.ensures in
    let now : t.used ≡ c.used-used_now.result = sym c.used-used_now.ensures in
    let was : c.used-used.result ≡ s.used = c.used-used.ensures in
    rw (← c.self.view_is) (record {
      no_fewer = forced.no_less;
      waits = λ same few. elim (cases_eq c.used-used.result c.used-used_now.result) [
        | inl is ↦ waits_same s t e.numbers e.waits (now ∙ sym is ∙ was)
        | inr differ ↦ let up = forced.more differ few in absurd (omega (arith, up, same))
      ];
      cause = λ more. elim (cases_eq c.used-used.result c.used-used_now.result) [
        | inl is ↦ let same = forced.same is in absurd (omega (arith, more, same))
        | inr differ ↦ inl (e.fills.cause (λ is. differ (was ∙ sym is ∙ now)))
      ];
      full = e.fills.full;
      no_back = let head = ap (λ (h : Head). h.number) e.keeps.head in omega (arith, head);
      moves = λ more. let head = ap (λ (h : Head). h.number) e.keeps.head in absurd (omega (arith, more, head));
      layout = e.keeps.layout;
    })

pub returns-then-eq-clause-whole : goal.returns-then-eq-clause-whole
returns-then-eq-clause-whole g c told =
    let going = ap (λ v. v.failed) c.self.view_is ∙ c.requires.going in
    let a = c.self.inside in
    rw (← c.self.view_is) (are_blocks a.cache.layout (g.D.Disk.content a.disk) a.cache.held (c.self.invariant.1 told going).whole c.self.invariant.0.cached.units)

pub returns-then-eq-clause-settles : goal.returns-then-eq-clause-settles
returns-then-eq-clause-settles g c told b n st = still_settles g.D.Disk c.args.self.now b n st

pub returns-then-eq-clause-any_moment : goal.returns-then-eq-clause-any_moment
returns-then-eq-clause-any_moment g c told b n st = still_moments g.D.Disk c.args.self.now b n st (λ image left. g.met.D.Disk.only_now c.args.self.now.disk image told left)
