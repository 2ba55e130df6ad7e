use Rattle.std.proofs.Common.{◌≡◌, ◌+◌, ◌∙◌, ℕ, [], true, false, Option, None, Some, is_some, refl, sym, ap, subst, arith}
use Rattle.rb_base.specs.Counts.{Rose}
use Rattle.rb_calls.proofs.CallLemmas.{did_resume, did_still, fewer_on, none_some}
use Rattle.rb_calls.proofs.ResumeLemmas.{few_more, few_within, resumed_all, resumed_fails, resumed_more, resumed_none}
use Rattle.rb_calls.specs.Since.{IsSince, StandsAs, since_same, since_joined}
use Rattle.rb_engine.specs.Does.{EngineView}
use Rattle.rb_lines.proofs.Dids.{did_on}
use Rattle.rb_model.proofs.Stops.{fault_of_write}
use Rattle.rb_model.specs.Out.{Logged}
use Rattle.rb_model.specs.Queue.{first_ready}
use Rattle.rb_waits.proofs.Turns.{none_ready}
use Rattle.rb_calls.proofs.resumes.resume_ready.Given.{Over}
use Rattle.rb_calls.proofs.resumes.resume_ready.Goals as goal

-- where no call is made yet, the store stays
still : (g : Over) (e : EngineView g.row.T.Denot) (m : Logged) → StandsAs g.T.Store e m → m.state.stopped ≡ false → IsSince g.T.Store e e m m
still g e m is going = since_same e m (λ kept. record {
  stable_left = g.met.T.Store.stable_left;
  stable_numbered = g.met.T.Store.stable_numbered;
  stable_patched = g.met.T.Store.stable_patched;
  now_counts = g.met.T.Store.now_counts;
  only_now = g.met.T.Store.only_now;
  holds_back_same = g.met.T.Store.holds_back_same;
  holds_back_joined = g.met.T.Store.holds_back_joined;
}) is going

pub loop-turn-init : goal.loop-turn-init
loop-turn-init g c = record {
  so_far = λ m is going. record { now = m; reached = is; passed = still g c.args.engine.now m is going; ran = resumed_none g.L.Listener.heard m _ _ going };
  fewer = λ one. absurd (omega (arith, one));
  room = omega (arith, c.requires);
  few = ([], omega arith, refl);
  idle = λ none. (refl, refl);
  same = record { shape = refl; slots = refl };
  disk = refl;
}

no_some : (o : Option ℕ) → is_some o ≡ false → o ≡ None
no_some None none = refl
no_some (Some s) none = cc

pub returns-then-not-has_ready-clause-did : goal.returns-then-not-has_ready-clause-did
returns-then-not-has_ready-clause-did g c = λ m is going.
    let d = c.loop-turn.invariant.so_far m is going in
    let none : first_ready c.loop-turn.engine.memory.waits ≡ None = no_some _ (sym c.has_ready.ensures ∙ c.if-not-has_ready.true) in
    record {
      now = d.now;
      reached = d.reached;
      passed = d.passed;
      ran = resumed_all g.L.Listener.heard m d.now _ _ _ d.ran (sym (ap first_ready (d.reached.engine.knows.queue d.ran.going).waits) ∙ none);
    }

pub returns-then-not-has_ready-clause-few : goal.returns-then-not-has_ready-clause-few
returns-then-not-has_ready-clause-few g c = few_within g.L.Listener.heard c.loop-turn._turn 16 _ _ (omega arith) c.loop-turn.invariant.few

pub returns-in_default-clause-did : goal.returns-in_default-clause-did
returns-in_default-clause-did g c = λ m is going.
    let d = c.loop-turn.invariant.so_far m is going in
    let e = c.in_default.ensures.did d.now.state d.reached.engine in
    did_still c.args.engine.now c.loop-turn.engine c.resume.new.self m _ e.1
    (record { now = d.now; reached = d.reached; passed = d.passed; ran = resumed_all g.L.Listener.heard m d.now _ _ _ d.ran (e.0 d.ran.going) })

pub returns-in_default-clause-few : goal.returns-in_default-clause-few
returns-in_default-clause-few g c = few_within g.L.Listener.heard c.loop-turn._turn 16 _ _ (omega arith) c.loop-turn.invariant.few

pub returns-then-has_failed-clause-did : goal.returns-then-has_failed-clause-did
returns-then-has_failed-clause-did g c = λ m is going.
    did_on c.args.engine.now c.loop-turn.engine c.resume.new.self m _ _ _ (λ a b d h n k. since_joined a b d h n k) (c.loop-turn.invariant.so_far m is going) (λ n so. so.going)
    (λ n reached on. did_resume g.T.Store n c.in-Some.s c.in-Some.outcome c.loop-turn.engine c.resume.new.self reached on c.resume.ensures.same (λ fine. c.in-Some.ensures.disk.still (fault_of_write c.in-Some.outcome ∙ fine)) _ (c.in-Some.ensures.did n.state reached.engine) (λ now again. again))
    (λ n k so again. resumed_fails g.L.Listener.heard m n k _ c.in-Some.s _ _ _ _ so again c.hear.ensures.heard (sym c.has_failed.ensures ∙ c.if-has_failed.true))

pub returns-then-has_failed-clause-few : goal.returns-then-has_failed-clause-few
returns-then-has_failed-clause-few g c = few_within g.L.Listener.heard (c.loop-turn._turn + 1) 16 _ _ (omega arith) (few_more g.L.Listener.heard c.loop-turn._turn _ _ _ c.in-Some.s _ c.loop-turn.invariant.few c.hear.ensures.heard)

pub returns-then-has_failed-clause-disk : goal.returns-then-has_failed-clause-disk
returns-then-has_failed-clause-disk g c =
    let d = c.in-Some.ensures.disk in
    record {
      no_less = omega (arith, d.no_less, c.loop-turn.invariant.disk);
      cause = subst (λ (n : ℕ). Rose n (g.T.Store.faults c.resume.new.self.store)) c.loop-turn.invariant.disk (d.cause (fault_of_write c.in-Some.outcome ∙ (sym c.has_failed.ensures ∙ c.if-has_failed.true)));
      still = tt;
    }

pub loop-turn-preserved : goal.loop-turn-preserved
loop-turn-preserved g c =
    let i = c.loop-turn.invariant in
    let fine = sym c.has_failed.ensures ∙ c.if-has_failed.false in
    record {
      so_far = λ m is going. did_on c.args.engine.now c.loop-turn.engine c.resume.new.self m _ _ _ (λ a b d h n k. since_joined a b d h n k) (i.so_far m is going) (λ n so. so.going)
          (λ n reached on. did_resume g.T.Store n c.in-Some.s c.in-Some.outcome c.loop-turn.engine c.resume.new.self reached on c.resume.ensures.same (λ fine. c.in-Some.ensures.disk.still (fault_of_write c.in-Some.outcome ∙ fine)) _ (c.in-Some.ensures.did n.state reached.engine) (λ now again. again))
          (λ n k so again. resumed_more g.L.Listener.heard m n k _ c.in-Some.s _ _ _ _ so again c.hear.ensures.heard fine);
      fewer = λ one. fewer_on _ _ c.loop-turn._turn c.in-Some.ensures.fewer c.resume.ensures.few i.fewer;
      room = omega (arith, i.room, c.hear.ensures.room);
      few = few_more g.L.Listener.heard c.loop-turn._turn _ _ _ c.in-Some.s _ i.few c.hear.ensures.heard;
      idle = λ none. absurd (none_some (c.resume.ensures.idle (ap (λ (x : EngineView g.row.T.Denot). first_ready x.memory.waits) (i.idle none).0 ∙ none)).0 c.in-Some.is);
      same = record { shape = c.resume.ensures.same.shape ∙ i.same.shape; slots = c.resume.ensures.same.slots ∙ i.same.slots };
      disk = c.in-Some.ensures.disk.still (fault_of_write c.in-Some.outcome ∙ fine) ∙ i.disk;
    }

pub returns-clause-did : goal.returns-clause-did
returns-clause-did g c = λ m is going.
    let i = c.loop-turn.invariant in
    let d = i.so_far m is going in
    let few = i.fewer (omega arith) in
    let none : first_ready c.loop-turn.engine.memory.waits ≡ None = none_ready c.loop-turn.engine.memory.waits (omega (arith, few)) in
    record {
      now = d.now;
      reached = d.reached;
      passed = d.passed;
      ran = resumed_all g.L.Listener.heard m d.now _ _ _ d.ran (sym (ap first_ready (d.reached.engine.knows.queue d.ran.going).waits) ∙ none);
    }

pub returns-clause-few : goal.returns-clause-few
returns-clause-few g c = few_within g.L.Listener.heard c.loop-turn._turn 16 _ _ (omega arith) c.loop-turn.invariant.few

pub hear-requires : goal.hear-requires
hear-requires g c = let room = c.loop-turn.invariant.room in omega (arith, room)
