use Rattle.std.proofs.Common.{◌≡◌, ℕ, List, false, Some, Err, refl, sym, ◌∙◌, ap, subst, arith}
use Rattle.rb_engine.specs.Behind.{Behind}
use Rattle.rb_engine.proofs.BehindLemmas.{behind_from}
use Rattle.rb_model.specs.Clearing.{ClearsTo}
use Rattle.rb_engine.specs.Does.{EngineView, IsInStep, Kept, KnowsQueue, Stands}
use Rattle.rb_model.specs.Answers.{write_answer}
use Rattle.rb_model.specs.Calls as machine
use Rattle.rb_model.specs.Change.{Action}
use Rattle.rb_model.specs.NextState.{unqueued}
use Rattle.rb_model.specs.Queue.{Waiter, first_ready, left_by, ready_count}
use Rattle.rb_sessions.specs.Kept.{asked_of_pending}
use Rattle.rb_waits.specs.Room.{AreQueuedOnce}
use Rattle.rb_waits.proofs.Turns.{ready_is_there, ready_leaves}
use Rattle.rb_engine.proofs.QueueLemmas.{queue_left}
use Rattle.rb_engine.proofs.StepLemmas.{in_step_queue}
use Rattle.rb_engine.proofs.WaitLemmas.{asked_held, held_some, stands_left}
use Rattle.rb_engine.proofs.resume.do_resume.Goals as goal

pub held-requires : goal.held-requires
held-requires g c =
    let first : first_ready c.memory.inside.waits ≡ Some c.in_ok-s.s = sym c.ready.ensures ∙ c.in_ok-s.was in
    let once = subst (λ (k : Kept). AreQueuedOnce k.waits) (sym c.memory.view_is) c.requires.step.queue.once in
    let at = ready_is_there c.in_ok-s.s c.memory.inside.waits once first in
    (at.0, at.1)

pub returns-in_err-pending-clause-did : goal.returns-in_err-pending-clause-did
returns-in_err-pending-clause-did g c = λ h st.
    let s = g.T.Store in
    let store = c.args.store.now in
    let inside : Kept = record { sessions = c.memory.inside.sessions; waits = c.memory.inside.waits; scn = c.memory.inside.scn; stopped = c.memory.inside.stopped; copies = c.memory.inside.copies; dead = c.memory.inside.dead } in
    let is : IsInStep s inside store = subst (λ (k : Kept). IsInStep s k store) (sym c.memory.view_is) c.requires.step in
    let first : first_ready inside.waits ≡ Some c.in_ok-s.s = sym c.ready.ensures ∙ c.in_ok-s.was in
    let at = ready_is_there c.in_ok-s.s inside.waits is.queue.once first in
    absurd (held_some inside c.in_ok-s.s c.held.result is.queue at.2 c.held.ensures c.in_err-pending.was)

pub do_write-outcome-requires : goal.do_write-outcome-requires
do_write-outcome-requires g c =
    let s = g.T.Store in
    let store = c.args.store.now in
    let inside : Kept = record { sessions = c.memory.inside.sessions; waits = c.memory.inside.waits; scn = c.memory.inside.scn; stopped = c.memory.inside.stopped; copies = c.memory.inside.copies; dead = c.memory.inside.dead } in
    let now : Kept = record { sessions = c.memory.inside.sessions; waits = c.leave.new.self; scn = c.memory.inside.scn; stopped = c.memory.inside.stopped; copies = c.memory.inside.copies; dead = c.memory.inside.dead } in
    let is : IsInStep s inside store = subst (λ (k : Kept). IsInStep s k store) (sym c.memory.view_is) c.requires.step in
    record { step = in_step_queue s inside now store store is refl refl refl (queue_left inside now c.in_ok-s.s is.queue c.leave.ensures refl) (λ going. (is.going going, omega arith, going)) }

pub returns-clause-did : goal.returns-clause-did
returns-clause-did g c = λ h st.
    let s = g.T.Store in
    let store = c.args.store.now in
    let w = c.in_ok-s.s in
    let p = c.in_ok-pending.pending in
    let inside : Kept = record { sessions = c.memory.inside.sessions; waits = c.memory.inside.waits; scn = c.memory.inside.scn; stopped = c.memory.inside.stopped; copies = c.memory.inside.copies; dead = c.memory.inside.dead } in
    let now : Kept = record { sessions = c.memory.inside.sessions; waits = c.leave.new.self; scn = c.memory.inside.scn; stopped = c.memory.inside.stopped; copies = c.memory.inside.copies; dead = c.memory.inside.dead } in
    let here : Stands s h (record { memory = inside; store = store }) = subst (λ (k : Kept). Stands s h (record { memory = k; store = store })) (sym c.memory.view_is) st in
    let left : now ≡ record inside { waits = left_by w inside.waits } = ap (λ (l : List Waiter). let k : Kept = record { sessions = c.memory.inside.sessions; waits = l; scn = c.memory.inside.scn; stopped = c.memory.inside.stopped; copies = c.memory.inside.copies; dead = c.memory.inside.dead } in k) c.leave.ensures in
    let going : h.stopped ≡ false = sym here.knows.stopped ∙ c.if-memory.false in
    let knows : KnowsQueue h inside = here.knows.queue going in
    let first : first_ready h.queue ≡ Some w = ap first_ready (sym knows.waits) ∙ (sym c.ready.ensures ∙ c.in_ok-s.was) in
    let new : EngineView _ = record { memory = c.do_write-outcome.new.memory; store = c.do_write-outcome.new.store } in
    let does = c.do_write-outcome.ensures.did (unqueued h w) (stands_left s h w inside now store here left) in (
      going,
      first,
      asked_of_pending p,
      asked_held h inside knows w c.held.result p c.held.ensures c.in_ok-pending.was,
      behind_from s (unqueued h w) (machine.Write w p.table p.key (asked_of_pending p).action) (write_answer c.do_write-outcome.result) c.args.memory.now now store new
          (subst (λ (a : Action). Behind s (ClearsTo (unqueued h w) (machine.Write w p.table p.key a) (write_answer c.do_write-outcome.result)) (unqueued h w) (machine.Write w p.table p.key a) (write_answer c.do_write-outcome.result) (record { memory = now; store = store }) new) c.op.ensures.op does),
    )

pub returns-clause-fewer : goal.returns-clause-fewer
returns-clause-fewer g c =
    let w = c.in_ok-s.s in
    let first : first_ready c.memory.inside.waits ≡ Some w = sym c.ready.ensures ∙ c.in_ok-s.was in
    let once = subst (λ (k : Kept). AreQueuedOnce k.waits) (sym c.memory.view_is) c.requires.step.queue.once in
    let less = ready_leaves w c.memory.inside.waits first once in
    let left = ap ready_count c.leave.ensures in
    let same = ap (λ (k : Kept). ready_count k.waits) c.memory.view_is in
    omega (arith, c.do_write-outcome.ensures.ready, less, left, same)
