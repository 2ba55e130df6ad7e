use Rattle.std.proofs.Common.{ℕ, ◌+◌, List, Some, take, subst, ◌∙◌}
use Rattle.rb_base.specs.Blocks.{after_groups}
use Rattle.std.proofs.lemmas.Result.{on_ok_weaker}
use Rattle.rb_base.specs.Moments.{joined, weaker}
use Rattle.rb_base.specs.Stores.{OpensToSome}
use Rattle.rb_layout.specs.Regions.{shape_of}
use Rattle.rb_layout.specs.declared.layout.Layout.{Layout}
use Rattle.rb_store.specs.Meaning.{Opens}
use Rattle.rb_store.specs.StoreStates.{StoreState}
use Rattle.rb_store.proofs.store.LogStore.clear_log.Goals as goal

pub returns-clause-settles : goal.returns-clause-settles
returns-clause-settles g c told = on_ok_weaker c.move_log.result (λ stays b n st.
    let one = c.in_ok-bring_home.ensures.settles told b n st in record {
      count = one.count;
      few = one.few;
      settled = stays _ _ one.settled;
      waits = c.move_log.ensures.pending ∙ one.waits;
    }) (c.move_log.ensures.stays told)

pub returns-clause-any_moment : goal.returns-clause-any_moment
returns-clause-any_moment g c told b n st =
    let moment = λ (x : StoreState g.row.D.Denot). g.D.Disk.moment x.disk in
    let since = λ (x : StoreState g.row.D.Denot) (t : ℕ) (i : List ℕ). g.D.Disk.image_since x.disk t i in
    let old = c.args.self.now in
    let mid = c.bring_home.new.self in
    let new = c.move_log.new.self in
    let one = c.in_ok-bring_home.ensures.settles told b n st in
    let b1 = after_groups (n + 1) (take one.count old.pending) b in
    let n1 = n + one.count in
    let P : List ℕ → Type 0 = OpensToSome (Opens (shape_of old.layout) (Some old.layout.log)) n old.pending b in
    joined moment since old mid new P (c.bring_home.ensures.any_moment told b n st)
    (weaker moment since mid new (λ i. Opens (shape_of mid.layout) (Some mid.layout.log) i b1 n1) P
    (λ i opens. record { count = one.count; few = one.few; opening = subst (λ (l : Layout). Opens (shape_of l) (Some l.log) i b1 n1) c.bring_home.ensures.layout opens })
    (c.move_log.ensures.any_moment told b1 n1 one.settled))
