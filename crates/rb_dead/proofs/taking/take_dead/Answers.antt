use Rattle.std.proofs.Common.{◌≡◌, ◌≤◌, ◌+◌, ◌*◌, min, not, IfSome, Ok, Err, [], Option, Some, None, length, true, false, refl, sym, ◌∙◌, ap, subst, arith}
use Rattle.std.proofs.lemmas.Bool.{false≢true}
use Rattle.rb_base.specs.Logs.{Laws, more_logs, no_logs}
use Rattle.rb_base.specs.declared.sizes.TheConstants.{SLOTS}
use Rattle.rb_dead.proofs.Leads.{leads_none}
use Rattle.rb_dead.proofs.Taken.{cut_down, fails_logged, none_owed, takes_err, takes_found, takes_none}
use Rattle.rb_dead.specs.Takes.{FoundDead}
use Rattle.rb_dead.specs.declared.slot.Dead.{Dead}
use Rattle.rb_dead.proofs.taking.take_dead.Given.{Over}
use Rattle.rb_dead.proofs.taking.take_dead.Goals as goal

laws_of : (g : Over) → Laws g.T.Store
laws_of g = record {
  stable_left = λ store b n i keeps stable here. g.met.T.Store.stable_left store b n i keeps stable here;
  stable_numbered = λ store b n keeps stable. g.met.T.Store.stable_numbered store b n keeps stable;
  stable_patched = λ store b n keeps stable. g.met.T.Store.stable_patched store b n keeps stable;
  now_counts = λ store t i keeps le here. g.met.T.Store.now_counts store t i keeps le here;
  only_now = λ store i keeps here. g.met.T.Store.only_now store i keeps here;
  holds_back_same = λ store. g.met.T.Store.holds_back_same store;
  holds_back_joined = λ a b c first second. g.met.T.Store.holds_back_joined a b c first second;
}

pub returns-in_default-clause-gives : goal.returns-in_default-clause-gives
returns-in_default-clause-gives g c = ([], no_logs g.T.Store c.args.store.now c.requires.going, omega arith, λ _. omega arith)

pub returns-in_default-clause-took : goal.returns-in_default-clause-took
returns-in_default-clause-took g c = λ told h xids has.
    let s = g.T.Store in
    let old = c.args.store.now in
    let none : c.args.owed.now ≡ 0 = let no = c.in_default.ensures in omega (arith, no) in
    takes_none s h xids c.args.sessions.now c.args.owed.now c.args.owed.now old old has c.args.most (SLOTS * c.args.seg + c.args.i) (none_owed h xids (s.blocks old) has.holds.blocks (SLOTS * c.args.seg + c.args.i) (sym has.all ∙ none))
    (leads_none s h xids c.args.sessions.now told (laws_of g) c.args.owed.now old old has (no_logs s old c.requires.going))

pub returns-in_err-found-clause-took : goal.returns-in_err-found-clause-took
returns-in_err-found-clause-took g c = λ told h xids has.
    let s = g.T.Store in
    let old = c.args.store.now in
    let new = c.dead_in_slot.new.store in
    takes_err s h xids c.args.sessions.now c.args.owed.now c.args.owed.now old new has c.args.most (SLOTS * c.args.seg + c.args.i) c.from_residual.result c.from_residual.ensures.0
    (λ kind. fails_logged s h xids c.args.sessions.now c.args.owed.now c.args.owed.now old new has told (laws_of g) c.in_err-found.ensures.logs kind)

pub returns-in_default-2-clause-took : goal.returns-in_default-2-clause-took
returns-in_default-2-clause-took g c = λ told h xids has.
    let s = g.T.Store in
    let old = c.args.store.now in
    let new = c.dead_in_slot.new.store in
    let t = SLOTS * c.args.seg + c.args.i in
    let none : FoundDead h (s.blocks old) t None = subst (FoundDead h (s.blocks old) t) c.in_default-2.is (c.in_ok-found.ensures.found told h xids has.shape has.holds.blocks has.remembers) in
    takes_none s h xids c.args.sessions.now c.args.owed.now c.args.owed.now old new has c.args.most t none
    (leads_none s h xids c.args.sessions.now told (laws_of g) c.args.owed.now old new has c.in_ok-found.ensures.logs)

pub returns-in_err-taken-clause-gives : goal.returns-in_err-taken-clause-gives
returns-in_err-taken-clause-gives g c =
    let s = g.T.Store in
    let given = c.in_err-taken.ensures.logs in
    let cut = cut_down c.try_from.result c.args.most c.in-Some.most_owed c.min.result c.try_from.ensures c.ranges.most.fits (c.min.ensures ∙ ap (min c.args.most) c.unwrap_or.ensures) in
    let owes = c.in-Some.ensures in (
      given.0,
      rw c.from_residual-in_err-taken.ensures.0 (more_logs s c.args.store.now c.dead_in_slot.new.store c.take.new.store [] given.0 false c.in_ok-found.ensures.logs given.1),
      (let few = given.2 in let low = cut.0 in omega (arith, few, low, owes.0, owes.1)),
      λ fine. absurd (false≢true (sym (ap not c.from_residual-in_err-taken.ensures.0) ∙ fine)),
    )

pub returns-in_err-taken-clause-took : goal.returns-in_err-taken-clause-took
returns-in_err-taken-clause-took g c = λ told h xids has.
    let s = g.T.Store in
    let old = c.args.store.now in
    let mid = c.dead_in_slot.new.store in
    let new = c.take.new.store in
    let t = SLOTS * c.args.seg + c.args.i in
    let found = c.in-Some-2.found in
    let is : FoundDead h (s.blocks old) t (Some found) = subst (FoundDead h (s.blocks old) t) c.in-Some-2.is (c.in_ok-found.ensures.found told h xids has.shape has.holds.blocks has.remembers) in
    let place : (found.xid.seg ≡ c.args.seg) × (found.xid.slot ≡ c.args.i) = subst (λ (o : Option Dead). IfSome o (λ dead. (dead.xid.seg ≡ c.args.seg) × (dead.xid.slot ≡ c.args.i))) c.in-Some-2.is c.in_ok-found.ensures.place in
    let cut = cut_down c.try_from.result c.args.most c.in-Some.most_owed c.min.result c.try_from.ensures c.ranges.most.fits (c.min.ensures ∙ ap (min c.args.most) c.unwrap_or.ensures) in
    let owes = c.in-Some.ensures in
    takes_err s h xids c.args.sessions.now c.args.owed.now c.args.owed.now old new has c.args.most t c.from_residual-in_err-taken.result c.from_residual-in_err-taken.ensures.0
    (takes_found s h xids c.args.sessions.now c.args.owed.now c.args.owed.now old new has told (laws_of g) mid c.in_ok-found.ensures.logs found c.min.result c.args.most t is (let seg = place.0 in let slot = place.1 in omega (arith, seg, slot)) (λ n le. cut.1 n (omega (arith, le, owes.1))) (Err c.in_err-taken.field-0.0)
    (λ has_mid found_mid. c.in_err-taken.ensures.took told h xids c.args.sessions.now c.args.owed.now c.args.owed.now has_mid found_mid (λ fine. absurd (false≢true fine))))

pub returns-clause-gives : goal.returns-clause-gives
returns-clause-gives g c =
    let s = g.T.Store in
    let given = c.in_ok-taken.ensures.logs in
    let cut = cut_down c.try_from.result c.args.most c.in-Some.most_owed c.min.result c.try_from.ensures c.ranges.most.fits (c.min.ensures ∙ ap (min c.args.most) c.unwrap_or.ensures) in
    let owes = c.in-Some.ensures in
    let few : length given.0 ≤ c.args.owed.now = let few = given.2 in let low = cut.0 in omega (arith, few, low, owes.0, owes.1) in
    let number = given.1.number refl in (
      given.0,
      more_logs s c.args.store.now c.dead_in_slot.new.store c.take.new.store [] given.0 true c.in_ok-found.ensures.logs given.1,
      few,
      λ _. omega (arith, few, number, c.logged.ensures, c.logged-before.ensures, c.saturating_sub.ensures),
    )

pub returns-clause-took : goal.returns-clause-took
returns-clause-took g c = λ told h xids has.
    let s = g.T.Store in
    let old = c.args.store.now in
    let mid = c.dead_in_slot.new.store in
    let new = c.take.new.store in
    let t = SLOTS * c.args.seg + c.args.i in
    let found = c.in-Some-2.found in
    let is : FoundDead h (s.blocks old) t (Some found) = subst (FoundDead h (s.blocks old) t) c.in-Some-2.is (c.in_ok-found.ensures.found told h xids has.shape has.holds.blocks has.remembers) in
    let place : (found.xid.seg ≡ c.args.seg) × (found.xid.slot ≡ c.args.i) = subst (λ (o : Option Dead). IfSome o (λ dead. (dead.xid.seg ≡ c.args.seg) × (dead.xid.slot ≡ c.args.i))) c.in-Some-2.is c.in_ok-found.ensures.place in
    let given = c.in_ok-taken.ensures.logs in
    let cut = cut_down c.try_from.result c.args.most c.in-Some.most_owed c.min.result c.try_from.ensures c.ranges.most.fits (c.min.ensures ∙ ap (min c.args.most) c.unwrap_or.ensures) in
    let owes = c.in-Some.ensures in
    let few : length given.0 ≤ c.args.owed.now = let few = given.2 in let low = cut.0 in omega (arith, few, low, owes.0, owes.1) in
    let number = given.1.number refl in
    takes_found s h xids c.args.sessions.now c.args.owed.now c.saturating_sub.result old new has told (laws_of g) mid c.in_ok-found.ensures.logs found c.min.result c.args.most t is (let seg = place.0 in let slot = place.1 in omega (arith, seg, slot)) (λ n le. cut.1 n (omega (arith, le, owes.1))) (Ok c.in_ok-taken.taken)
    (λ has_mid found_mid. c.in_ok-taken.ensures.took told h xids c.args.sessions.now c.args.owed.now c.saturating_sub.result has_mid found_mid (λ _. omega (arith, few, number, c.logged.ensures, c.logged-before.ensures, c.saturating_sub.ensures)))
