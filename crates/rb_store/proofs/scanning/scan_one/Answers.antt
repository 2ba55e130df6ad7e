use Rattle.std.proofs.Common.{◌≡◌, ◌+◌, ◌<◌, ◌++◌, ◌∷◌, ℕ, List, [], length, arith, subst, sym, vec_capacity, ◌∙◌}
use Rattle.rb_base.specs.Groups.{Patch}
use Rattle.std.proofs.lemmas.Result.{err_from_is_err_and}
use Rattle.rb_log.specs.GroupSlots.{LogState, GroupsAre, HoldsGroup, IsFaultyGroup, IsLoggable}
use Rattle.rb_log.specs.GroupLaws.{faulty_none_group}
use Rattle.rb_log.specs.Slots.{log_unit}
use Rattle.rb_store.specs.Scanned.{HasScanned, HasScannedAll}
use Rattle.rb_store.proofs.ScanLemmas.{scan_more, scan_end, put_last, dropped_last}
use Rattle.rb_store.proofs.scanning.scan_one.Goals as goal

pub returns-in_err-scan-clause-none : goal.returns-in_err-scan-clause-none
returns-in_err-scan-clause-none g c told is others log =
    let h = c.requires.so_far in
    let l = c.args.layout.now in
    let head = c.args.head in
    let file = g.D.Disk.content c.args.disk.now in
    let groups = c.args.scan.now.groups.items in
    let p = err_from_is_err_and c.from_residual.result c.from_residual.ensures.1 in
    let faulty = subst (λ (x : LogState). IsFaultyGroup x.layout x.head file x.used) h.log_is (c.in_err-scan.ensures.faulty told (cc (p.1, p.2, is))) in
    faulty_none_group l head file 0 (length groups) groups (omega arith) (h.begins told) faulty others log

pub returns-then-not-branch-clause-end : goal.returns-then-not-branch-clause-end
returns-then-not-branch-clause-end g c _ =
    let h = c.requires.so_far in
    let old = c.args.scan.now.log in
    let file = g.D.Disk.content c.args.disk.now in
    let ended = c.in_ok-scan.ensures.ended c.if-not-branch.true in
    let end = λ (t : g.D.Disk.tells). c.in_ok-scan.ensures.end t c.if-not-branch.true in
    let pushed : c.push_reserved.new.self.items ≡ c.args.scan.now.groups.items ++ c.new.result ∷ [] = c.push_reserved.ensures.items in
    let all = scan_end g.D.Disk.tells c.args.layout.now c.args.head file old c.scan.new.self c.args.scan.now.groups.items _ h ended
    (λ t. subst (λ (x : LogState). GroupsAre x.layout x.head file old.used []) h.log_is (end t)) in
    let kept : c.truncate.new.self.items ≡ c.args.scan.now.groups.items = c.truncate.ensures.items ∙ dropped_last c.args.scan.now.groups.items c.push_reserved.new.self.items c.len-place.result c.new.result c.scan.new.group pushed (omega (arith, c.len-place.ensures)) in
    subst (λ (gs : List (List Patch)). HasScannedAll g.D.Disk.tells c.args.layout.now c.args.head file c.scan.new.self gs) (sym kept) all

pub returns-clause-more : goal.returns-clause-more
returns-clause-more g c _ =
    let h = c.requires.so_far in
    let l = c.args.layout.now in
    let head = c.args.head in
    let old = c.args.scan.now.log in
    let file = g.D.Disk.content c.args.disk.now in
    let more = c.in_ok-scan.ensures.more c.if-not-branch.false in
    let one_more = c.in_ok-scan.ensures.one_more c.if-not-branch.false in
    let valid : IsLoggable l c.scan.new.group = subst (λ (x : LogState). IsLoggable x.layout c.scan.new.group) h.log_is (c.in_ok-scan.ensures.valid c.if-not-branch.false) in
    let lt : old.used + 1 < l.log = subst (λ (x : LogState). old.used + 1 < x.layout.log) h.log_is more in
    let holds = λ (t : g.D.Disk.tells).
    let found = c.in_ok-scan.ensures.found t c.if-not-branch.false in
    subst (λ (x : LogState). HoldsGroup x.layout (log_unit x.layout x.head file old.used) (head.number + old.used) c.scan.new.group) h.log_is (subst (λ (n : ℕ). HoldsGroup old.layout (log_unit old.layout old.head file old.used) n c.scan.new.group) (omega (arith, c.used.ensures.used)) found) in
    let next = scan_more g.D.Disk.tells l head file old c.scan.new.self c.args.scan.now.groups.items c.scan.new.group (vec_capacity c.args.scan.now.groups) h one_more (λ t. c.in_ok-scan.ensures.ahead t) lt valid holds in
    let kept = put_last c.args.scan.now.groups.items c.push_reserved.new.self.items c.len-place.result c.new.result c.scan.new.group c.push_reserved.ensures.items (omega (arith, c.len-place.ensures)) in
    subst (λ (gs : List (List Patch)). HasScanned g.D.Disk.tells l head file c.scan.new.self gs (vec_capacity c.push_reserved.new.self)) (sym kept)
    (subst (λ (room : ℕ). HasScanned g.D.Disk.tells l head file c.scan.new.self (c.args.scan.now.groups.items ++ c.scan.new.group ∷ []) room) (sym c.push_reserved.ensures.capacity) next)
