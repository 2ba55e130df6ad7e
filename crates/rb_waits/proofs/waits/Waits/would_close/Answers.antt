use Rattle.std.proofs.Common.{◌≡◌, ◌∙◌, ℕ, ◌-◌, List, Option, length, map, sym, ap, arith}
use Rattle.std.proofs.lemmas.List.{length-map}
use Rattle.rb_model.specs.Queue.{Waiter, leads, waits_for}
use Rattle.rb_waits.specs.declared.waits.Waiter as code
use Rattle.rb_waits.specs.Waiters.{waiter_view}
use Rattle.rb_waits.proofs.Rings.{at_the_end, goes_on, is_there, ring_answer, waits_for_nobody}
use Rattle.rb_waits.proofs.waits.Waits.would_close.Goals as goal

as_many : (read waiters : List code.Waiter) (view : List Waiter) → read ≡ waiters → map waiter_view waiters ≡ view → length view ≡ length read - 0
as_many read waiters view is seen =
    let one = ap length is in
    let two = ap length seen in
    let three = length-map waiters waiter_view in
    omega (arith, one, two, three)

-- for whom a session waits, by what the search was told
told : (at : ℕ) (read waiters : List code.Waiter) (view : List Waiter) (r o : Option ℕ) → read ≡ waiters → map waiter_view waiters ≡ view → r ≡ waits_for at (map waiter_view read) → r ≡ o → waits_for at view ≡ o
told at read waiters view r o is seen says found = sym (ap (λ ws. waits_for at (map waiter_view ws)) is ∙ ap (waits_for at) seen) ∙ sym says ∙ found

pub loop-step-init : goal.loop-step-init
loop-step-init c = ap (λ n. leads n c.args.self.now c.args.s c.args.u) (as_many c.as_slice-queue.result.now c.self.inside.queue.items c.args.self.now c.as_slice-queue.ensures.value c.self.view_is)

pub returns-then-at-s-clause-closes : goal.returns-then-at-s-clause-closes
returns-then-at-s-clause-closes c =
    let l = c.loop-step in
    is_there _ (length c.as_slice-queue.result.now) l._step c.args.self.now c.args.s l.at l.invariant c.if-at-s.true

pub returns-then-at-s-clause-ring : goal.returns-then-at-s-clause-ring
returns-then-at-s-clause-ring c = ring_answer _ c.args.self.now c.args.s c.args.u (returns-then-at-s-clause-closes c)

pub returns-in_default-clause-closes : goal.returns-in_default-clause-closes
returns-in_default-clause-closes c =
    let l = c.loop-step in
    waits_for_nobody _ (length c.as_slice-queue.result.now) l._step c.args.self.now c.args.s l.at l.invariant c.loop-step-test.true c.if-at-s.false
    (told l.at c.as_slice-queue.result.now c.self.inside.queue.items c.args.self.now c.waits_for.result _ c.as_slice-queue.ensures.value c.self.view_is c.waits_for.ensures c.in_default.is)

pub returns-in_default-clause-ring : goal.returns-in_default-clause-ring
returns-in_default-clause-ring c = ring_answer _ c.args.self.now c.args.s c.args.u (returns-in_default-clause-closes c)

pub loop-step-preserved : goal.loop-step-preserved
loop-step-preserved c =
    let l = c.loop-step in
    goes_on _ (length c.as_slice-queue.result.now) l._step c.args.self.now c.args.s l.at c.in-Some.on l.invariant c.loop-step-test.true c.if-at-s.false
    (told l.at c.as_slice-queue.result.now c.self.inside.queue.items c.args.self.now c.waits_for.result _ c.as_slice-queue.ensures.value c.self.view_is c.waits_for.ensures c.in-Some.is)

pub returns-clause-closes : goal.returns-clause-closes
returns-clause-closes c =
    let l = c.loop-step in
    at_the_end _ (length c.as_slice-queue.result.now) l._step c.args.self.now c.args.s l.at l.invariant c.loop-step-test.false

pub returns-clause-ring : goal.returns-clause-ring
returns-clause-ring c = ring_answer _ c.args.self.now c.args.s c.args.u (returns-clause-closes c)
