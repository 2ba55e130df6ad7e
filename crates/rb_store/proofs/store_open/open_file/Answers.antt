use Rattle.std.proofs.Common.{◌≡◌, ℕ, List, ap, subst, sym, ◌∙◌}
use Rattle.std.proofs.lemmas.Result.{err_from_is_err_and, IfOk-weaker}
use Rattle.rb_disk.specs.Moments.{Rests, rests_on}
use Rattle.rb_layout.specs.OneLayout.{one_layout}
use Rattle.rb_layout.specs.Regions.{file_version}
use Rattle.rb_layout.specs.declared.layout.Head.{Head}
use Rattle.rb_layout.specs.declared.layout.Layout.{Layout}
use Rattle.rb_log.specs.GroupSlots.{GroupsAre}
use Rattle.rb_control.specs.Heads.{head_of, IsHead}
use Rattle.rb_store.specs.Meaning.{OpensAt}
use Rattle.rb_store.specs.Openings.{HasOpened}
use Rattle.rb_store.specs.StoreStates.{blocks_by}
use Rattle.rb_store.proofs.MeaningLemmas.{too_great}
use Rattle.rb_store.proofs.OpeningLemmas.{left_alone, left_as_is}
use Rattle.rb_store.proofs.SameLayout.{same_layout}
use Rattle.rb_store.proofs.store_open.open_file.Given.{Over}
use Rattle.rb_store.proofs.store_open.open_file.Goals.{In_ok-layout, In_ok-memory, After-scan_all}
use Rattle.rb_store.proofs.store_open.open_file.Goals as goal

pub scan_all-requires-clause-so_far : goal.scan_all-requires-clause-so_far
scan_all-requires-clause-so_far g c = c.in_ok-memory.ensures.scanned (g.D.Disk.content c.take_memory.new.disk)

-- a file that opens does so by the layout that was read
opens_layout : (g : Over) (c : In_ok-layout g) → g.D.Disk.tells → (m : Layout) (b : List (List ℕ)) (n : ℕ) → OpensAt m (g.D.Disk.content c.args.disk.now) b n → OpensAt c.in_ok-layout.layout (g.D.Disk.content c.args.disk.now) b n
opens_layout g c told m b n opens =
    let l = c.in_ok-layout.layout in
    let is : m ≡ l = same_layout m l (one_layout file_version m l (g.D.Disk.content c.args.disk.now) opens.means.identity (c.in_ok-layout.ensures.identity told)) in
    subst (λ (x : Layout). OpensAt x (g.D.Disk.content c.args.disk.now) b n) is opens

opens_here : (g : Over) (c : In_ok-memory g) → g.D.Disk.tells → (b : List (List ℕ)) (n : ℕ) → OpensAt c.in_ok-layout.layout (g.D.Disk.content c.args.disk.now) b n → OpensAt c.in_ok-layout.layout (g.D.Disk.content c.take_memory.new.disk) b n
opens_here g c told b n opens =
    let same : g.D.Disk.content c.take_memory.new.disk ≡ g.D.Disk.content c.args.disk.now = ap g.D.Disk.content c.take_memory.ensures.untouched ∙ (c.in_ok-head.ensures.same told).same ∙ (c.in_ok-layout.ensures.same told).same in
    subst (λ (f : List ℕ). OpensAt c.in_ok-layout.layout f b n) (sym same) opens

-- the head that was read is that of the file
head_here : (g : Over) (c : In_ok-memory g) → g.D.Disk.tells → c.in_ok-head.head ≡ head_of (g.D.Disk.content c.take_memory.new.disk)
head_here g c told = c.in_ok-head.ensures.head told ∙ ap head_of (sym (ap g.D.Disk.content c.take_memory.ensures.untouched ∙ (c.in_ok-head.ensures.same told).same))

still : (g : Over) (c : After-scan_all g) → g.D.Disk.tells → Rests g.D.Disk c.args.disk.now c.scan_all.new.disk
still g c told = rests_on g.D.Disk c.args.disk.now c.synced_layout.new.disk c.scan_all.new.disk (c.in_ok-layout.ensures.same told)
    (rests_on g.D.Disk c.synced_layout.new.disk c.read.new.disk c.scan_all.new.disk (c.in_ok-head.ensures.same told)
    (subst (λ x. Rests g.D.Disk x c.scan_all.new.disk) c.take_memory.ensures.untouched (c.scan_all.ensures.same told)))

pub returns-in_err-scan_all-clause-none : goal.returns-in_err-scan_all-clause-none
returns-in_err-scan_all-clause-none g c told is m b n opens =
    let at = (goal.at.returns-in_err-scan_all-clause-none g c).In_ok-memory in
    let here = opens_here g at told b n (opens_layout g (goal.at.returns-in_err-scan_all-clause-none g c).In_ok-layout told m b n opens) in
    let p = err_from_is_err_and c.from_residual-in_err-scan_all.result c.from_residual-in_err-scan_all.ensures.1 in
    absurd (c.in_err-scan_all.ensures.none told (cc (p.1, p.2, is)) here.means.groups
    (subst (λ (h : Head). GroupsAre c.in_ok-layout.layout h (g.D.Disk.content c.take_memory.new.disk) 0 here.means.groups) (here.means.head_is ∙ sym (head_here g at told)) here.means.log))

-- a head that can't be read is one whose number is too great, where the file opens
pub returns-in_err-head-clause-none : goal.returns-in_err-head-clause-none
returns-in_err-head-clause-none g c told is m b n opens =
    let here = opens_layout g (goal.at.returns-in_err-head-clause-none g c).In_ok-layout told m b n opens in
    let p = err_from_is_err_and c.from_residual-in_err-head.result c.from_residual-in_err-head.ensures.1 in
    too_great c.in_ok-layout.layout (g.D.Disk.content c.args.disk.now) b n here.means
    (λ head. c.in_err-head.ensures.none told (cc (p.1, p.2, is)) (subst (λ (f : List ℕ). IsHead c.in_ok-layout.layout (head_of f)) (sym (c.in_ok-layout.ensures.same told).same) head))

pub bring_up-requires-clause-head : goal.bring_up-requires-clause-head
bring_up-requires-clause-head g c told = head_here g (goal.at.bring_up-requires-clause-head g c).In_ok-memory told ∙ ap head_of (sym (c.scan_all.ensures.same told).same)

pub returns-clause-opened : goal.returns-clause-opened
returns-clause-opened g c told =
    let rest = still g (goal.at.returns-clause-opened g c).After-scan_all told in
    IfOk-weaker c.bring_up.result (λ o. HasOpened g.D.Disk o.file o.last c.scan_all.new.disk c.bring_up.new.disk) (λ o. HasOpened g.D.Disk o.file o.last c.args.disk.now c.bring_up.new.disk) (λ o opened. record {
      quiet = opened.quiet;
      found = subst (λ (f : List ℕ). OpensAt o.file.layout f (blocks_by o.file.layout (g.D.Disk.content c.bring_up.new.disk) o.file.held) o.last) rest.same opened.found;
      stable = opened.stable;
    }) (c.bring_up.ensures.opened told)

pub returns-clause-none : goal.returns-clause-none
returns-clause-none g c told is m b n opens =
    let here = opens_here g (goal.at.returns-clause-none g c).In_ok-memory told b n (opens_layout g (goal.at.returns-clause-none g c).In_ok-layout told m b n opens) in
    absurd (c.bring_up.ensures.none told is b n (subst (λ (f : List ℕ). OpensAt c.in_ok-layout.layout f b n) (sym (c.scan_all.ensures.same told).same) here))

pub returns-clause-left : goal.returns-clause-left
returns-clause-left g c told = left_alone g.D.Disk (λ disk im left. g.met.D.Disk.only_now disk im told left) c.in_ok-layout.layout c.args.disk.now c.scan_all.new.disk c.bring_up.new.disk
    (c.in_ok-layout.ensures.identity told) (still g (goal.at.returns-clause-left g c).After-scan_all told) (c.bring_up.ensures.left told)

pub returns-in_err-scan_all-clause-left : goal.returns-in_err-scan_all-clause-left
returns-in_err-scan_all-clause-left g c told = left_as_is g.D.Disk (λ disk im left. g.met.D.Disk.only_now disk im told left) c.args.disk.now c.scan_all.new.disk
    (still g (goal.at.returns-in_err-scan_all-clause-left g c).After-scan_all told)

pub returns-in_err-layout-clause-left : goal.returns-in_err-layout-clause-left
returns-in_err-layout-clause-left g c told = left_as_is g.D.Disk (λ disk im left. g.met.D.Disk.only_now disk im told left) c.args.disk.now c.synced_layout.new.disk (c.synced_layout.ensures.same told)

pub returns-in_err-head-clause-left : goal.returns-in_err-head-clause-left
returns-in_err-head-clause-left g c told = left_as_is g.D.Disk (λ disk im left. g.met.D.Disk.only_now disk im told left) c.args.disk.now c.read.new.disk
    (rests_on g.D.Disk c.args.disk.now c.synced_layout.new.disk c.read.new.disk (c.in_ok-layout.ensures.same told) (c.read.ensures.same told))

pub returns-in_err-memory-clause-left : goal.returns-in_err-memory-clause-left
returns-in_err-memory-clause-left g c told = left_as_is g.D.Disk (λ disk im left. g.met.D.Disk.only_now disk im told left) c.args.disk.now c.take_memory.new.disk
    (subst (Rests g.D.Disk c.args.disk.now) (sym c.take_memory.ensures.untouched)
    (rests_on g.D.Disk c.args.disk.now c.synced_layout.new.disk c.read.new.disk (c.in_ok-layout.ensures.same told) (c.in_ok-head.ensures.same told)))
