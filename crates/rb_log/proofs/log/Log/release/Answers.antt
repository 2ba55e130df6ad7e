use Rattle.std.proofs.Common.{◌≡◌, ◌+◌, ◌-◌, ◌<◌, ◌≤◌, ◌∙◌, true, ℕ, take, ap, sym, subst, arith}
use Rattle.rb_log.specs.GroupLaws.{slot_below}
use Rattle.rb_log.specs.GroupSlots.{LogState}
use Rattle.rb_log.specs.Slots.{slot_of}
use Rattle.rb_log.specs.WaitingUnits.{bodies_of, AreSpelled}
use Rattle.rb_log.proofs.log.Log.release.Goals as goal

pub invariant_of-self : goal.invariant_of-self
invariant_of-self c =
    let a = c.self.inside in
    let i = c.self.invariant in
    let scanned : a.scanned ≡ true = ap (λ (s : LogState). s.scanned) c.self.view_is ∙ c.requires.scanned in
    let none : a.ahead ≡ 0 = i.ended scanned in
    let lower : a.head.number ≤ c.args.head.number = subst (λ (s : LogState). s.head.number ≤ c.args.head.number) (sym c.self.view_is) c.requires.number in
    let upper : c.args.head.number ≤ a.head.number + a.used = subst (λ (s : LogState). c.args.head.number ≤ s.head.number + s.used) (sym c.self.view_is) c.requires.flushed in
    let slot_is : c.args.head.slot ≡ slot_of a.layout a.head (c.args.head.number - a.head.number) = subst (λ (s : LogState). c.args.head.slot ≡ slot_of s.layout s.head (c.args.head.number - s.head.number)) (sym c.self.view_is) c.requires.slot in
    let old = slot_below a.layout a.head (c.args.head.number - a.head.number) i.slot (omega (arith, i.below, upper)) in
    let slot : c.args.head.slot < a.layout.log = omega (arith, slot_is, old) in
    let line = slot_below a.layout c.args.head (a.used - (c.args.head.number - a.head.number)) slot (omega (arith, i.below)) in
    record {
      slot = slot;
      small = omega (arith, i.small, lower, upper);
      below = omega (arith, i.below);
      enough = i.enough;
      counts = i.counts;
      each = i.each;
      spelled = subst (λ (n : ℕ). AreSpelled n (bodies_of (take a.waiting a.units.items))) (omega (arith, lower, upper)) i.spelled;
      spare = i.spare;
      none = i.none;
      units = i.units;
      few = i.few;
      within = omega (arith, i.within);
      in_line = omega (arith, line, none);
      ended = i.ended;
    }
