use Rattle.std.proofs.Common.{◌≡◌, ◌≢◌, ◌+◌, ◌++◌, ◌∙◌, List, [], length, arith, ap, subst, sym, length-append}
use Rattle.rb_base.specs.Groups.{Patch}
use Rattle.rb_base.specs.Moments.{weaker}
use Rattle.rb_disk.specs.Moments.{Leaves}
use Rattle.rb_layout.specs.Regions.{file_length}
use Rattle.rb_layout.specs.declared.layout.Layout.{Layout}
use Rattle.rb_log.specs.GroupSlots.{FlushedOrNot, GroupsAre, LogState}
use Rattle.rb_log.specs.Slots.{SameOutside, SameSlots, gate_of}
use Rattle.rb_twin.specs.Twins.{twin_gate}
use Rattle.rb_cache.specs.Evictions.{Flushed}
use Rattle.rb_cache.specs.Frames.{AreClean}
use Rattle.rb_cache.specs.OnDisk.{IsCalm, Later, OnDisk}
use Rattle.rb_cache.proofs.Evicting.{clean_begun}
use Rattle.rb_cache.proofs.Parts.{gate_behind, home_behind}
use Rattle.rb_cache.proofs.ShutLemmas.{flush_shut}
use Rattle.rb_cache.proofs.Steps.{flush_on_disk}
use Rattle.rb_store.specs.CachedFiles.{CachedState, SeenAt}
use Rattle.rb_store.proofs.CachedLemmas.{clean_same, only_calm, seen_same}
use Rattle.rb_store.proofs.cached_file.CachedFile.flush.Given.{Over}
use Rattle.rb_store.proofs.cached_file.CachedFile.flush.Goals.{After-flush, In_ok-flush}
use Rattle.rb_store.proofs.cached_file.CachedFile.flush.Goals as goal

module _ (g : Over) (c : After-flush g) where
  abbrev layout : Layout
  layout = c.self.inside.layout

  abbrev log : LogState
  log = c.self.inside.log

  abbrev held : CachedState
  held = record {
    layout = layout;
    head = log.head;
    used = log.used;
    pending = log.pending;
    frames = c.self.inside.cache.frames;
    held = c.self.inside.cache.held;
    batch = c.self.inside.twin.batch;
  }

  calm : g.D.Disk.tells → IsCalm (g.D.Disk.image c.args.disk.now) layout (g.D.Disk.content c.args.disk.now)
  calm told = subst (λ (v : CachedState). IsCalm (g.D.Disk.image c.args.disk.now) v.layout (g.D.Disk.content c.args.disk.now)) (sym c.self.view_is) (c.requires.calm told)

  -- what the flush of the log leaves
  left : g.D.Disk.tells → (groups : List (List Patch)) → length groups ≡ log.used → GroupsAre layout log.head (g.D.Disk.content c.args.disk.now) 0 groups
      → Leaves g.D.Disk c.args.disk.now c.flush.new.disk (FlushedOrNot (g.D.Disk.image c.args.disk.now) layout log.head groups log.pending)
  left told groups count has =
      subst (λ (l : Layout). Leaves g.D.Disk c.args.disk.now c.flush.new.disk (FlushedOrNot (g.D.Disk.image c.args.disk.now) l log.head groups log.pending)) c.self.invariant.log_layout
      (c.flush.ensures.any_moment told groups count (subst (λ (l : Layout). GroupsAre l log.head (g.D.Disk.content c.args.disk.now) 0 groups) (sym c.self.invariant.log_layout) has))

  leaves : g.D.Disk.tells → (groups : List (List Patch)) → length groups ≡ log.used → GroupsAre layout log.head (g.D.Disk.content c.args.disk.now) 0 groups
      → Leaves g.D.Disk c.args.disk.now c.flush.new.disk (OnDisk (g.D.Disk.image c.args.disk.now) layout log.head groups log.pending (g.D.Disk.content c.args.disk.now) (SeenAt held (g.D.Disk.content c.args.disk.now)))
  leaves told groups count has =
      let image = g.D.Disk.image c.args.disk.now in
      let content = g.D.Disk.content c.args.disk.now in
      weaker g.D.Disk.moment g.D.Disk.image_since c.args.disk.now c.flush.new.disk (FlushedOrNot image layout log.head groups log.pending) (OnDisk image layout log.head groups log.pending content (SeenAt held content))
      (λ im some. flush_on_disk image layout log.head content (calm told) groups log.pending (SeenAt held content) im some) (left told groups count has)

pub returns-in_err-flush-clause-any_moment : goal.returns-in_err-flush-clause-any_moment
returns-in_err-flush-clause-any_moment g c told groups = rw (← c.self.view_is) (λ count has.
    leaves g (goal.at.returns-in_err-flush-clause-any_moment g c).After-flush told groups count has)

pub returns-clause-any_moment : goal.returns-clause-any_moment
returns-clause-any_moment g c told groups = rw (← c.self.view_is) (λ count has.
    leaves g (goal.at.returns-clause-any_moment g c).After-flush told groups count has)

outside : (g : Over) (c : In_ok-flush g) → g.D.Disk.tells → SameOutside c.self.inside.layout.log (g.D.Disk.content c.args.disk.now) (g.D.Disk.content c.flush.new.disk)
outside g c told = subst (λ (l : Layout). SameOutside l.log (g.D.Disk.content c.args.disk.now) (g.D.Disk.content c.flush.new.disk)) c.self.invariant.log_layout (c.in_ok-flush.ensures.outside told)

pub returns-clause-seen : goal.returns-clause-seen
returns-clause-seen g c told = rw (← c.self.view_is) (λ k lt.
    let l = c.self.inside.layout in
    let old = g.D.Disk.content c.args.disk.now in
    let new = g.D.Disk.content c.flush.new.disk in
    seen_same l old new c.self.inside.cache.held k (home_behind l new old k (outside g c told).behind))

pub returns-clause-settled : goal.returns-clause-settled
returns-clause-settled g c told =
    let at = (goal.at.returns-clause-settled g c).After-flush in
    let l = c.self.inside.layout in
    let old = g.D.Disk.content c.args.disk.now in
    let new = g.D.Disk.content c.flush.new.disk in
    let out = outside g c told in
    let quiet = calm g at told in
    let whole : length new ≡ file_length l = subst (λ (m : Layout). length new ≡ file_length m) c.self.invariant.log_layout (c.in_ok-flush.ensures.whole told) in
    let shut : twin_gate l new ≢ 1 = λ is. quiet.shut old (g.met.D.Disk.reads_an_image c.args.disk.now told) (sym (gate_behind l new old out.behind) ∙ is) in
    let clean = subst (λ (v : CachedState). AreClean v.layout old v.held) (sym c.self.view_is) (c.requires.clean told) in
    rw (← c.self.view_is) (record {
      calm = only_calm (g.D.Disk.image c.flush.new.disk) l new whole (c.in_ok-flush.ensures.only told (c.requires.only told)) shut;
      clean = clean_same l old new c.self.inside.cache.held (λ k. home_behind l new old k out.behind) clean;
      only = c.in_ok-flush.ensures.only told;
      shut = λ was. subst (λ (x : LogState). gate_of l x.head new x.used ≢ 1) (sym c.in_ok-flush.ensures.flushed)
          (flush_shut l c.self.inside.log old new
          (λ some. subst (λ (m : Layout). gate_of m c.self.inside.log.head new (c.self.inside.log.used + length c.self.inside.log.pending) ≡ 0) c.self.invariant.log_layout (c.in_ok-flush.ensures.closed told some))
          (λ none. ap g.D.Disk.content (c.in_ok-flush.ensures.none told none)) was);
    })

pub returns-clause-done : goal.returns-clause-done
returns-clause-done g c told groups = rw (← c.self.view_is) (λ count has.
    let at = (goal.at.returns-clause-done g c).After-flush in
    let l = c.self.inside.layout in
    let log = c.self.inside.log in
    let old = g.D.Disk.content c.args.disk.now in
    let new = g.D.Disk.content c.flush.new.disk in
    let same = c.self.invariant.log_layout in
    let written = subst (λ (m : Layout). GroupsAre m log.head new 0 (groups ++ log.pending)) same
    (c.in_ok-flush.ensures.written told groups count (subst (λ (m : Layout). GroupsAre m log.head old 0 groups) (sym same) has)) in
    let flushed : Flushed g.D.Disk l log.head groups log.pending c.args.disk.now c.flush.new.disk = record {
      any_moment = left g at told groups count has;
      log = written;
      outside = outside g c told;
      durable = λ im here. subst (λ (m : Layout). SameSlots m.log new im) same (c.in_ok-flush.ensures.durable told im here);
    } in
    let cleaning = clean_begun g.D.Disk (λ disk t im le here. g.met.D.Disk.now_counts disk t im told le here) (λ disk im left. g.met.D.Disk.only_now disk im told left) l log.head groups log.pending
    (SeenAt (held g at) old) c.args.disk.now c.flush.new.disk (calm g at told) flushed in
    let state = c.in_ok-flush.ensures.flushed in
    let waits : c.flush.new.self.pending ≡ [] = ap (λ (s : LogState). s.pending) state in
    let used : c.flush.new.self.used ≡ log.used + length log.pending = ap (λ (s : LogState). s.used) state in
    record {
      groups1 = groups ++ log.pending;
      used_is = omega (arith, length-append groups log.pending, count, used);
      log = written;
      later = subst (λ (p : List (List Patch)). Later (g.D.Disk.image c.args.disk.now) (g.D.Disk.image c.flush.new.disk) l groups log.pending old (groups ++ log.pending) p new (SeenAt (held g at) old)) (sym waits) cleaning.later;
    })
