use Rattle.std.proofs.Common.{◌≡◌, ◌≢◌, ◌+◌, ◌-◌, ◌<◌, ℕ, List, [], length, ⊎_elim, ap, arith, subst, sym, ◌∙◌}
use Rattle.std.proofs.lemmas.Result.{err_from_is_err_and}
use Rattle.std.specs.List.{AllByRecursion}
use Rattle.rb_base.specs.Blocks.{AreWithin}
use Rattle.rb_base.specs.Groups.{Patch}
use Rattle.rb_base.proofs.Each.{all_so}
use Rattle.rb_layout.specs.Regions.{block_count, shape_of}
use Rattle.rb_layout.specs.declared.layout.Head.{Head}
use Rattle.rb_layout.specs.declared.layout.Layout.{Layout}
use Rattle.rb_log.specs.GroupSlots.{IsLoggable, LogState}
use Rattle.rb_log.specs.GroupSlots.{GroupsAre}
use Rattle.law_redo.specs.Rolled.{rolled}
use Rattle.rb_twin.specs.Twins.{home}
use Rattle.rb_cache.specs.Frames.{seen}
use Rattle.rb_cache.specs.declared.frame.Frame.{Frame}
use Rattle.rb_disk.specs.Moments.{Leaves}
use Rattle.rb_log.specs.GroupSlots.{KeptLog}
use Rattle.rb_log.specs.Slots.{gate_of}
use Rattle.rb_cache.specs.OnDisk.{Later}
use Rattle.rb_disk.specs.DiskModel.{Only}
use Rattle.rb_store.specs.CachedFiles.{CachedState, Done, IsShutBehind, RollsTo}
use Rattle.rb_store.specs.Openings.{HasOpened, LeavesMeaning}
use Rattle.rb_store.proofs.CachedLemmas.{only_calm}
use Rattle.rb_store.proofs.OpeningLemmas.{as_rolled, has_opened, keeps_of, later_rolled, log_mid, repair_failed, rolled_leaves, shut_leaves}
use Rattle.rb_store.proofs.store_open.bring_up.Given.{Over}
use Rattle.rb_store.proofs.store_open.bring_up.Goals.{After-repair_homes, After-roll_forward, In_ok-roll_forward}
use Rattle.rb_store.proofs.store_open.bring_up.Goals as goal

module _ (g : Over) (c : After-repair_homes g) where
  used_is : c.from-used.result ≡ length c.args.memory.scan.groups.items
  used_is = c.from-used.ensures ∙ c.used.ensures.used ∙ ap (λ (s : LogState). s.used) c.requires.scanned.log_is

  pub last_is : c.args.head.number - 1 + c.from-used.result + 1 ≡ c.args.head.number + length c.args.memory.scan.groups.items
  last_is = omega (arith, used_is, c.requires.valid.first)

pub returns-in_err-repair_homes-clause-none : goal.returns-in_err-repair_homes-clause-none
returns-in_err-repair_homes-clause-none g c told is b k opens =
    let at = (goal.at.returns-in_err-repair_homes-clause-none g c).After-repair_homes in
    let p = err_from_is_err_and c.from_residual.result c.from_residual.ensures.1 in
    c.in_err-repair_homes.ensures.none told (cc (p.1, p.2, is)) opens.means.twin
    (keeps_of g.D.Disk (λ disk t im le here. g.met.D.Disk.now_counts disk t im told le here) (λ disk. g.met.D.Disk.reads_an_image disk told) c.args.layout c.args.disk.now c.args.head c.args.memory.scan.groups.items (c.args.head.number - 1 + c.from-used.result)
    (c.requires.identity told) c.requires.valid (c.requires.head told) (c.requires.scanned.ends told) (last_is g at) (c.requires.only told) b k c.requires.scanned.few opens)

pub returns-in_err-repair_homes-clause-left : goal.returns-in_err-repair_homes-clause-left
returns-in_err-repair_homes-clause-left g c told =
    let at = (goal.at.returns-in_err-repair_homes-clause-left g c).After-repair_homes in
    repair_failed g.D.Disk (λ disk t im le here. g.met.D.Disk.now_counts disk t im told le here) (λ disk. g.met.D.Disk.reads_an_image disk told) c.args.layout c.args.disk.now c.args.head c.args.memory.scan.groups.items (c.args.head.number - 1 + c.from-used.result)
    (c.requires.identity told) c.requires.valid (c.requires.head told) (c.requires.scanned.ends told) (last_is g at) (c.requires.only told) c.repair_homes.new.disk (c.repair_homes.ensures.foreign told) (c.repair_homes.ensures.any_moment told)

pub roll_forward-requires-clause-within : goal.roll_forward-requires-clause-within
roll_forward-requires-clause-within g c =
    subst (λ (gs : List (List Patch)). AllByRecursion (AreWithin (shape_of c.args.layout)) gs) (sym c.deref.ensures.value)
    (all_so (IsLoggable c.args.layout) (AreWithin (shape_of c.args.layout)) c.args.memory.scan.groups.items (λ group valid. valid.within) c.requires.scanned.valid)

module _ (g : Over) (c : After-roll_forward g) where
  abbrev l : Layout
  l = c.args.layout

  abbrev groups : List (List Patch)
  groups = c.args.memory.scan.groups.items

  abbrev log : LogState
  log = c.args.memory.scan.log

  head_is : log.head ≡ c.args.head
  head_is = ap (λ (s : LogState). s.head) c.requires.scanned.log_is

  none_waits : log.pending ≡ []
  none_waits = ap (λ (s : LogState). s.pending) c.requires.scanned.log_is

  count : length groups ≡ log.used
  count = sym (ap (λ (s : LogState). s.used) c.requires.scanned.log_is)

  abbrev last : ℕ
  last = c.args.head.number - 1 + c.from-used.result

  used_groups : c.from-used.result ≡ length groups
  used_groups = c.from-used.ensures ∙ c.used.ensures.used ∙ sym count

  number_is : last + 1 ≡ c.args.head.number + length groups
  number_is = omega (arith, used_groups, c.requires.valid.first)

  has_log : g.D.Disk.tells → GroupsAre l log.head (g.D.Disk.content c.repair_homes.new.disk) 0 groups
  has_log told = subst (λ (h : Head). GroupsAre l h (g.D.Disk.content c.repair_homes.new.disk) 0 groups) (sym head_is)
      (log_mid g.D.Disk (λ disk t im le here. g.met.D.Disk.now_counts disk t im told le here) (λ disk. g.met.D.Disk.reads_an_image disk told) l c.args.disk.now c.args.head groups last
      (c.requires.identity told) c.requires.valid (c.requires.head told) (c.requires.scanned.ends told) number_is (c.requires.only told) c.requires.scanned.few c.repair_homes.new.disk (c.in_ok-repair_homes.ensures.repaired told))

  pub left : g.D.Disk.tells → LeavesMeaning g.D.Disk l c.args.disk.now c.roll_forward.new.disk
  left told =
      let r = c.in_ok-repair_homes.ensures.repaired told in
      rolled_leaves g.D.Disk (λ disk t im le here. g.met.D.Disk.now_counts disk t im told le here) (λ disk. g.met.D.Disk.reads_an_image disk told) l c.args.disk.now c.args.head groups last
      (c.requires.identity told) c.requires.valid (c.requires.head told) (c.requires.scanned.ends told) number_is (c.requires.only told) c.requires.scanned.few c.repair_homes.new.disk r c.roll_forward.new.disk
      (c.repair_homes.ensures.any_moment told r.twin)
      (as_rolled g.D.Disk l c.repair_homes.new.disk c.roll_forward.new.disk log.head c.args.head log.pending c.args.memory.cache.held c.deref.result.now groups head_is none_waits c.requires.cache c.deref.ensures.value
      (c.roll_forward.ensures.any_moment told groups count (has_log told)))

pub returns-in_err-roll_forward-clause-left : goal.returns-in_err-roll_forward-clause-left
returns-in_err-roll_forward-clause-left g c told = left g (goal.at.returns-in_err-roll_forward-clause-left g c).After-roll_forward told

pub roll_forward-requires-clause-calm : goal.roll_forward-requires-clause-calm
roll_forward-requires-clause-calm g c told =
    let r = c.in_ok-repair_homes.ensures.repaired told in only_calm (g.D.Disk.image c.repair_homes.new.disk) c.args.layout (g.D.Disk.content c.repair_homes.new.disk) r.whole r.only r.shut

-- Once they are rolled forward the gate behind them is shut, by a call that ends over this disk.
module _ (g : Over) (c : In_ok-roll_forward g) (told : g.D.Disk.tells) where
  abbrev at : After-roll_forward g
  at = c.before.before.before

  abbrev mid : g.row.D.Denot
  mid = c.repair_homes.new.disk

  abbrev now : g.row.D.Denot
  now = c.roll_forward.new.disk

  abbrev t : CachedState
  t = c.roll_forward.new.cache

  abbrev start : CachedState
  start = record {
    layout = c.args.layout;
    head = c.args.memory.scan.log.head;
    used = c.args.memory.scan.log.used;
    pending = c.args.memory.scan.log.pending;
    frames = c.args.memory.cache.frames;
    held = c.args.memory.cache.held;
    batch = c.repair_homes.new.twin.batch;
  }

  done : Done g.D.Disk start t mid now (groups g at) (RollsTo start (g.D.Disk.content mid) c.args.head.number c.deref.result.now)
  done = c.in_ok-roll_forward.ensures.done told (groups g at) (count g at) (has_log g at told)

  waits : t.pending ≡ []
  waits = ⊎_elim (λ same. same ∙ none_waits g at) (λ none. none) c.in_ok-roll_forward.ensures.waits

  there : GroupsAre c.args.layout c.args.head (g.D.Disk.content now) 0 done.groups1
  there = subst (λ (h : Head). GroupsAre c.args.layout h (g.D.Disk.content now) 0 done.groups1) (head_is g at) done.log

  layout_is : t.layout ≡ c.args.layout
  layout_is = c.in_ok-roll_forward.ensures.keeps.layout

  head_to : t.head ≡ c.args.head
  head_to = c.in_ok-roll_forward.ensures.keeps.head ∙ head_is g at

  later : Later (g.D.Disk.image mid) (g.D.Disk.image now) c.args.layout (groups g at) [] (g.D.Disk.content mid) done.groups1 t.pending (g.D.Disk.content now)
      (λ k x. rolled c.args.head.number (groups g at) k x ≡ rolled c.args.head.number (groups g at) k (home c.args.layout (g.D.Disk.content mid) k))
  later = later_rolled (g.D.Disk.image mid) (g.D.Disk.image now) c.args.layout c.args.head.number (g.D.Disk.content mid) (g.D.Disk.content now) (log g at).pending c.args.memory.cache.held c.deref.result.now (groups g at) done.groups1 t.pending
      (none_waits g at) c.requires.cache c.deref.ensures.value done.later

  -- that call, over the groups that the log has then
  module _ (end : g.row.D.Denot) (leaves : (gs : List (List Patch)) → length gs ≡ t.used → GroupsAre t.layout t.head (g.D.Disk.content now) 0 gs → Leaves g.D.Disk now end (KeptLog (g.D.Disk.image now) t.layout t.head gs)) where
    there_to : GroupsAre t.layout t.head (g.D.Disk.content now) 0 done.groups1
    there_to = subst (λ (l : Layout). GroupsAre l t.head (g.D.Disk.content now) 0 done.groups1) (sym layout_is) (subst (λ (h : Head). GroupsAre c.args.layout h (g.D.Disk.content now) 0 done.groups1) (sym head_to) there)

    shuts : Leaves g.D.Disk now end (KeptLog (g.D.Disk.image now) c.args.layout c.args.head done.groups1)
    shuts = subst (λ (l : Layout). Leaves g.D.Disk now end (KeptLog (g.D.Disk.image now) l c.args.head done.groups1)) layout_is
        (subst (λ (h : Head). Leaves g.D.Disk now end (KeptLog (g.D.Disk.image now) t.layout h done.groups1)) head_to (leaves done.groups1 done.used_is there_to))

    seen_is : (k : ℕ) → k < block_count c.args.layout → seen c.args.layout (g.D.Disk.content now) t.held k ≡ rolled c.args.head.number (groups g at) k (home c.args.layout (g.D.Disk.content mid) k)
    seen_is k lt =
        c.in_ok-roll_forward.ensures.seen told k lt
        ∙ ap (λ (fs : List Frame). rolled c.args.head.number c.deref.result.now k (seen c.args.layout (g.D.Disk.content mid) fs k)) c.requires.cache
        ∙ ap (λ (gs : List (List Patch)). rolled c.args.head.number gs k (home c.args.layout (g.D.Disk.content mid) k)) c.deref.ensures.value

    pub left_by : LeavesMeaning g.D.Disk c.args.layout c.args.disk.now end
    left_by =
        let r = c.in_ok-repair_homes.ensures.repaired told in
        let settled = c.in_ok-roll_forward.ensures.settled told in
        shut_leaves g.D.Disk (λ disk t im le here. g.met.D.Disk.now_counts disk t im told le here) (λ disk. g.met.D.Disk.reads_an_image disk told) c.args.layout c.args.disk.now c.args.head (groups g at) (last g at)
        (c.requires.identity told) c.requires.valid (c.requires.head told) (c.requires.scanned.ends told) (number_is g at) (c.requires.only told) c.requires.scanned.few mid r
        now t done.groups1 layout_is head_to waits done.used_is later there settled.calm settled.clean (settled.only r.only) seen_is end shuts
        (c.repair_homes.ensures.any_moment told r.twin)
        (as_rolled g.D.Disk c.args.layout mid now (log g at).head c.args.head (log g at).pending c.args.memory.cache.held c.deref.result.now (groups g at) (head_is g at) (none_waits g at) c.requires.cache c.deref.ensures.value
        (c.roll_forward.ensures.any_moment told (groups g at) (count g at) (has_log g at told)))

    pub opened_by : Only (g.D.Disk.content end) (g.D.Disk.image end)
        → ((gs : List (List Patch)) → length gs ≡ t.used → GroupsAre t.layout t.head (g.D.Disk.content now) 0 gs → IsShutBehind t (g.D.Disk.content end))
        → HasOpened g.D.Disk t (last g at) c.args.disk.now end
    opened_by only shut =
        let r = c.in_ok-repair_homes.ensures.repaired told in
        let settled = c.in_ok-roll_forward.ensures.settled told in
        let next = subst (λ (l : Layout). gate_of l c.args.head (g.D.Disk.content end) t.used ≢ 1) layout_is
        (subst (λ (h : Head). gate_of t.layout h (g.D.Disk.content end) t.used ≢ 1) head_to (shut done.groups1 done.used_is there_to)) in
        has_opened g.D.Disk (λ disk t im le here. g.met.D.Disk.now_counts disk t im told le here) (λ disk. g.met.D.Disk.reads_an_image disk told) c.args.layout c.args.disk.now c.args.head (groups g at) (last g at)
        (c.requires.identity told) c.requires.valid (c.requires.head told) (c.requires.scanned.ends told) (number_is g at) (c.requires.only told) c.requires.scanned.few mid r
        now t done.groups1 layout_is head_to waits done.used_is later there settled.calm settled.clean (settled.only r.only) seen_is end shuts only next

pub returns-in_err-shut_behind-clause-left : goal.returns-in_err-shut_behind-clause-left
returns-in_err-shut_behind-clause-left g c told = left_by g (goal.at.returns-in_err-shut_behind-clause-left g c).In_ok-roll_forward told c.shut_behind.new.disk (c.shut_behind.ensures.any_moment told)

pub returns-clause-left : goal.returns-clause-left
returns-clause-left g c told = left_by g (goal.at.returns-clause-left g c).In_ok-roll_forward told c.shut_behind.new.disk (c.shut_behind.ensures.any_moment told)

pub returns-clause-opened : goal.returns-clause-opened
returns-clause-opened g c told =
    let at = (goal.at.returns-clause-opened g c).After-roll_forward in
    let ok = (goal.at.returns-clause-opened g c).In_ok-roll_forward in
    subst (λ (x : CachedState). HasOpened g.D.Disk x (last g at) c.args.disk.now c.shut_behind.new.disk) (sym c.shut_behind.ensures.stays)
    (opened_by g ok told c.shut_behind.new.disk (c.shut_behind.ensures.any_moment told) (c.in_ok-shut_behind.ensures.only told) (c.in_ok-shut_behind.ensures.shut told))
