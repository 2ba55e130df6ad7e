use Rattle.std.proofs.Common.{◌≡◌, ap, subst, ⊎_elim}
use Rattle.std.proofs.lemmas.Result.{on_ok_weaker}
use Rattle.rb_layout.specs.declared.layout.Head.{Head}
use Rattle.rb_log.specs.GroupSlots.{GroupsAre, LogState}
use Rattle.rb_store.proofs.CachedLemmas.{fills_by}
use Rattle.rb_store.proofs.cached_file.CachedFile.get.Goals as goal

pub returns-clause-any_moment : goal.returns-clause-any_moment
returns-clause-any_moment g c told groups = rw (← c.self.view_is) (λ count log. c.get.ensures.any_moment told groups (record { count = count; log = log }))

pub returns-clause-done : goal.returns-clause-done
returns-clause-done g c told = rw (← c.self.view_is) (on_ok_weaker c.get.result (λ done groups count log.
    let x = done groups (record { count = count; log = log }) in
    let head : c.get.new.log.head ≡ c.self.inside.log.head = ⊎_elim (λ same. ap (λ (s : LogState). s.head) same) (λ flushed. ap (λ (s : LogState). s.head) flushed) c.get.ensures.log in
    record {
      groups1 = x.groups1;
      used_is = x.has.count;
      log = subst (λ (h : Head). GroupsAre c.self.inside.layout h (g.D.Disk.content c.get.new.disk) 0 x.groups1) head x.has.log;
      later = x.later;
    }) (c.get.ensures.done told))

pub returns-clause-fills : goal.returns-clause-fills
returns-clause-fills g c = rw (← c.self.view_is) (on_ok_weaker c.get.result (λ order.
    fills_by _ _ c.args.no c.get.ensures.frames (λ free. ap (λ (s : LogState). s.used) (c.get.ensures.room free)) order) c.get.ensures.order)

pub returns-clause-settled : goal.returns-clause-settled
returns-clause-settled g c told = rw (← c.self.view_is) (on_ok_weaker c.get.result (λ s. record { calm = s.calm; clean = s.clean; only = s.only; shut = s.shut }) (c.get.ensures.settled told))
