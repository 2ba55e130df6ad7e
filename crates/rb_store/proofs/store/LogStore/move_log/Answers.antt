use Rattle.std.proofs.Common.{◌≡◌, ◌<◌, [], false, true, Some, ap, sym, subst, arith, ◌∙◌}
use Rattle.rb_base.specs.Moments.{begun}
use Rattle.rb_cache.specs.Frames.{NoneDirty}
use Rattle.rb_layout.specs.Regions.{shape_of}
use Rattle.rb_log.specs.Slots.{head_at}
use Rattle.rb_store.specs.CachedFiles.{CachedState, IsCachedMemory, IsStoreMemory}
use Rattle.rb_store.specs.Meaning.{Opens}
use Rattle.rb_store.specs.StoreLaws.{stable_left}
use Rattle.rb_store.specs.StoreStates.{StoreState, IsQuietAt, IsStableAt, blocks_by}
use Rattle.rb_store.proofs.MovedHead.{blocks_moved, move_moments, move_quiet, move_stable}
use Rattle.rb_store.proofs.StoreLemmas.{store_of}
use Rattle.rb_store.proofs.store.LogStore.move_log.Given.{Over}
use Rattle.rb_store.proofs.store.LogStore.move_log.Goals.{After-move_head, In-Ok}
use Rattle.rb_store.proofs.store.LogStore.move_log.Goals as goal

pub returns-then-used-eq0-clause-any_moment : goal.returns-then-used-eq0-clause-any_moment
returns-then-used-eq0-clause-any_moment g c told b n st =
    let s = c.args.self.now in
    begun (λ (x : StoreState g.row.D.Denot). g.D.Disk.moment x.disk) (λ (x : StoreState g.row.D.Denot) t i. g.D.Disk.image_since x.disk t i) s (λ i. Opens (shape_of s.layout) (Some s.layout.log) i b n)
    (λ i left. stable_left i st (g.met.D.Disk.only_now s.disk i told left))

-- the store before the head moves: all is at home, and none waits
module _ (g : Over) (c : After-move_head g) where
  abbrev before : CachedState
  before = c.self.inside.cache

  abbrev store : StoreState g.row.D.Denot
  store = store_of before c.self.inside.lsn c.self.inside.loaded c.self.inside.failed c.self.inside.forced c.self.inside.disk

  abbrev memory : IsStoreMemory before c.self.inside.lsn c.self.inside.loaded c.self.inside.failed
  memory = c.self.invariant.0

  going : c.self.inside.failed ≡ false
  going = ap (λ v. v.failed) c.self.view_is ∙ c.requires.going

  quiet : g.D.Disk.tells → IsQuietAt before.layout before.head before.used c.self.inside.lsn before.held (g.D.Disk.content c.self.inside.disk) (g.D.Disk.image c.self.inside.disk)
  quiet told = c.self.invariant.1 told going

  clean : NoneDirty before.held
  clean = subst (λ v. NoneDirty v.held) (sym c.self.view_is) c.requires.clean

  waits : before.pending ≡ []
  waits = ap (λ v. v.pending) c.self.view_is ∙ c.requires.flushed

  few : before.used < before.layout.log
  few = let below = memory.cached.below in omega (arith, below)

-- and behind it
module _ (g : Over) (c : In-Ok g) where
  abbrev at : After-move_head g
  at = c.before

  abbrev moved : CachedState
  moved = record (before g at) { head = head_at (before g at).layout (before g at).head (before g at).used; used = 0 }

  again : IsStoreMemory moved c.self.inside.lsn c.self.inside.loaded c.self.inside.failed
  again = record {
    numbered = λ going. let was = (memory g at).numbered going in omega (arith, was);
    few = (memory g at).few;
    cached = subst IsCachedMemory c.in-Ok.ensures.moved c.move_head.ensures.memory;
    empty = (memory g at).empty;
    front = (memory g at).front;
  }

pub invariant_of-self : goal.invariant_of-self
invariant_of-self g c =
    let ok = (goal.at.invariant_of-self g c).In-Ok in
    let a = c.self.inside in
    let at = (goal.at.invariant_of-self g c).After-move_head in
    let new = c.move_head.new.disk in
    subst (λ (x : CachedState). IsStoreMemory x a.lsn a.loaded a.failed × (g.D.Disk.tells → a.failed ≡ false → IsQuietAt x.layout x.head x.used a.lsn x.held (g.D.Disk.content new) (g.D.Disk.image new)))
    (sym c.in-Ok.ensures.moved)
    (again g ok, λ told going. move_quiet g.D.Disk (store g at) (quiet g at told) (clean g at) (waits g at) (memory g at).cached.in_log (few g at) new (c.move_head.ensures.outside told) (c.in-Ok.ensures.only told))

pub returns-in-Ok-clause-blocks : goal.returns-in-Ok-clause-blocks
returns-in-Ok-clause-blocks g c told =
    let at = (goal.at.returns-in-Ok-clause-blocks g c).After-move_head in
    let a = c.self.inside in
    let new = c.move_head.new.disk in
    rw (← c.self.view_is) (subst (λ (x : CachedState). blocks_by x.layout (g.D.Disk.content new) x.held ≡ blocks_by a.cache.layout (g.D.Disk.content a.disk) a.cache.held) (sym c.in-Ok.ensures.moved)
    (blocks_moved g.D.Disk (store g at) (quiet g at told) (clean g at) (waits g at) (memory g at).cached.in_log (few g at) new (c.move_head.ensures.outside told)))

pub returns-in-Ok-clause-stays : goal.returns-in-Ok-clause-stays
returns-in-Ok-clause-stays g c told b n =
    let at = (goal.at.returns-in-Ok-clause-stays g c).After-move_head in
    let a = c.self.inside in
    let new = c.move_head.new.disk in
    rw (← c.self.view_is) (λ st. subst (λ (x : CachedState). IsStableAt x.layout x.head x.used x.pending a.lsn (blocks_by x.layout (g.D.Disk.content new) x.held) (g.D.Disk.content new) (g.D.Disk.image new) b n) (sym c.in-Ok.ensures.moved)
    (move_stable g.D.Disk (store g at) (quiet g at told) (clean g at) (waits g at) (memory g at).cached.in_log (few g at) new b n st (c.move_head.ensures.outside told) (c.in-Ok.ensures.head told) (c.in-Ok.ensures.only told)
    (blocks_moved g.D.Disk (store g at) (quiet g at told) (clean g at) (waits g at) (memory g at).cached.in_log (few g at) new (c.move_head.ensures.outside told))))

pub returns-in-Ok-clause-any_moment : goal.returns-in-Ok-clause-any_moment
returns-in-Ok-clause-any_moment g c told b n =
    let at = (goal.at.returns-in-Ok-clause-any_moment g c).After-move_head in
    let a = c.self.inside in
    rw (← c.self.view_is) (λ st. move_moments g.D.Disk (store g at) (quiet g at told) (clean g at) (waits g at) (memory g at).cached.in_log (few g at) c.move_head.new.disk b n st
    (store_of c.move_head.new.self a.lsn a.loaded a.failed a.forced c.move_head.new.disk) (c.move_head.ensures.any_moment told))

pub returns-in-Err-clause-any_moment : goal.returns-in-Err-clause-any_moment
returns-in-Err-clause-any_moment g c told b n =
    let at = (goal.at.returns-in-Err-clause-any_moment g c).After-move_head in
    let a = c.self.inside in
    rw (← c.self.view_is) (λ st. move_moments g.D.Disk (store g at) (quiet g at told) (clean g at) (waits g at) (memory g at).cached.in_log (few g at) c.move_head.new.disk b n st
    (store_of c.move_head.new.self a.lsn a.loaded true a.forced c.move_head.new.disk) (c.move_head.ensures.any_moment told))
