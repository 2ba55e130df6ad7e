use Rattle.std.proofs.Common.{◌≡◌, ◌<◌, ℕ, Bool, false, refl, sym, ◌∙◌, ap, subst, arith}
use Rattle.std.proofs.lemmas.Result.{err_from_is_err_and}
use Rattle.std.specs.Result.{is_err}
use Rattle.rb_base.specs.declared.shape.Shape.{Shape}
use Rattle.rb_calls.proofs.CallLemmas.{did_call}
use Rattle.rb_calls.specs.Since.{IsSince, StandsAs, since_same, since_joined, engine_outside}
use Rattle.rb_engine.specs.Does.{EngineView}
use Rattle.rb_generator.specs.Answered.{CallsAnswered}
use Rattle.rb_generator.specs.Ends.{HasCounted}
use Rattle.rb_generator.proofs.AnsweredLemmas.{calls_all, calls_fault, calls_last, calls_more, calls_none}
use Rattle.rb_lines.proofs.Dids.{did_as, did_on}
use Rattle.rb_model.specs.Answers.{answer_of}
use Rattle.rb_model.specs.Lines.{most_calls}
use Rattle.rb_model.specs.Out.{Logged}
use Rattle.rb_script.specs.Commands.{command_of}
use Rattle.rb_generator.proofs.commands.make_calls.Given.{Over}
use Rattle.rb_generator.proofs.commands.make_calls.Goals as goal

-- where no call is made yet, the store stays
still : (g : Over) (e : EngineView g.row.T.Denot) (m : Logged) → StandsAs g.T.Store e m → m.state.stopped ≡ false → IsSince g.T.Store e e m m
still g e m is going = since_same e m (λ kept. record {
  stable_left = g.met.T.Store.stable_left;
  stable_numbered = g.met.T.Store.stable_numbered;
  stable_patched = g.met.T.Store.stable_patched;
  now_counts = g.met.T.Store.now_counts;
  only_now = g.met.T.Store.only_now;
  holds_back_same = g.met.T.Store.holds_back_same;
  holds_back_joined = g.met.T.Store.holds_back_joined;
}) is going

pub loop-k-init : goal.loop-k-init
loop-k-init g c = record {
  so_far = λ m is going. record { now = m; reached = is; passed = still g c.args.engine.now m is going; ran = calls_none m _ _ _ _ going };
  few = omega arith;
  same = record { shape = refl; slots = refl };
  disk = refl;
}

pub loop-k-preserved : goal.loop-k-preserved
loop-k-preserved g c =
    let i = c.loop-k.invariant in
    let o = c.answer-answer.ensures in
    let t = c.note.ensures in
    let fine = sym (t.fault c.answer-answer.new.row) ∙ ap is_err c.in_ok-note.was in
    record {
      so_far = λ m is going. did_on c.args.engine.now c.loop-k.engine c.answer-answer.new.engine m _ _ _ (λ a b d h n k. since_joined a b d h n k) (i.so_far m is going) (λ n so. so.going)
          (λ n reached on. did_call g.T.Store n _ _ c.loop-k.engine c.answer-answer.new.engine _ reached on o.made (λ now once. once))
          (λ n k so once. calls_more m n k _ _ _ c.loop-k.k (answer_of c.answer-answer.result c.answer-answer.new.row) _ _ _ so
          (subst (λ (end : ℕ). c.loop-k.k < end) (c.calls_of-k-end.ensures ∙ ap (λ (x : Shape). most_calls x (command_of c.args.command.now)) (c.shape.ensures.shape ∙ is.engine.shape)) c.loop-k-test.true)
          once (t.counted c.answer-answer.new.row) (sym (c.goes_on.ensures c.answer-answer.new.row) ∙ c.if-not-goes_on.false));
      few = omega (arith, i.few, t.few);
      same = record { shape = o.made.same.shape ∙ i.same.shape; slots = o.made.same.slots ∙ i.same.slots };
      disk = o.made.disk.still fine ∙ i.disk;
    }

pub returns-in_err-note-clause-did : goal.returns-in_err-note-clause-did
returns-in_err-note-clause-did g c = λ m is going.
    let i = c.loop-k.invariant in
    let o = c.answer-answer.ensures in
    let t = c.note.ensures in
    let p = err_from_is_err_and c.from_residual.result c.from_residual.ensures.1 in
    did_on c.args.engine.now c.loop-k.engine c.answer-answer.new.engine m _ _ _ (λ a b d h n k. since_joined a b d h n k) (i.so_far m is going) (λ n so. so.going)
    (λ n reached on. did_call g.T.Store n _ _ c.loop-k.engine c.answer-answer.new.engine _ reached on o.made (λ now once. once))
    (λ n k so once.
    subst (λ (fault : Bool). HasCounted (CallsAnswered m engine_outside (command_of c.args.command.now) (most_calls m.state.shape (command_of c.args.command.now)) 0) k c.args.counts.now c.note.new.self fault) (sym (ap is_err p.1))
    (calls_fault m n k _ _ _ c.loop-k.k (answer_of c.answer-answer.result c.answer-answer.new.row) _ _ _ so
    (subst (λ (end : ℕ). c.loop-k.k < end) (c.calls_of-k-end.ensures ∙ ap (λ (x : Shape). most_calls x (command_of c.args.command.now)) (c.shape.ensures.shape ∙ is.engine.shape)) c.loop-k-test.true)
    once (t.counted c.answer-answer.new.row) (sym (t.fault c.answer-answer.new.row) ∙ ap is_err c.in_err-note.was)))

pub returns-then-not-goes_on : goal.returns-then-not-goes_on
returns-then-not-goes_on g c =
    let i = c.loop-k.invariant in
    let o = c.answer-answer.ensures in
    let t = c.note.ensures in
    let fine = sym (t.fault c.answer-answer.new.row) ∙ ap is_err c.in_ok-note.was in
    let here : c.loop-k.k < most_calls (g.T.Store.shape_of c.args.engine.now.store) (command_of c.args.command.now) = subst (λ (end : ℕ). c.loop-k.k < end) (c.calls_of-k-end.ensures ∙ ap (λ (x : Shape). most_calls x (command_of c.args.command.now)) c.shape.ensures.shape) c.loop-k-test.true in
    record {
      did = λ m is going. did_on c.args.engine.now c.loop-k.engine c.answer-answer.new.engine m _ _ _ (λ a b d h n k. since_joined a b d h n k) (i.so_far m is going) (λ n so. so.going)
          (λ n reached on. did_call g.T.Store n _ _ c.loop-k.engine c.answer-answer.new.engine _ reached on o.made (λ now once. once))
          (λ n k so once.
          subst (λ (fault : Bool). HasCounted (CallsAnswered m engine_outside (command_of c.args.command.now) (most_calls m.state.shape (command_of c.args.command.now)) 0) k c.args.counts.now c.note.new.self fault) fine
          (calls_last m n k _ _ _ c.loop-k.k (answer_of c.answer-answer.result c.answer-answer.new.row) _ _ _ so
          (subst (λ (x : Shape). c.loop-k.k < most_calls x (command_of c.args.command.now)) is.engine.shape here)
          once (t.counted c.answer-answer.new.row) (sym (c.goes_on.ensures c.answer-answer.new.row) ∙ c.if-not-goes_on.true)));
      few = omega (arith, i.few, t.few, here);
      same = record { shape = o.made.same.shape ∙ i.same.shape; slots = o.made.same.slots ∙ i.same.slots };
      disk = record { no_less = omega (arith, o.made.disk.still fine, i.disk); cause = tt; still = o.made.disk.still fine ∙ i.disk };
    }

pub returns-clause-did : goal.returns-clause-did
returns-clause-did g c = λ m is going.
    let ended : c.loop-k.k ≡ c.calls_of-k-end.result = omega arith in
    let all : c.loop-k.k ≡ most_calls m.state.shape (command_of c.args.command.now) = ended ∙ c.calls_of-k-end.ensures ∙ ap (λ (x : Shape). most_calls x (command_of c.args.command.now)) (c.shape.ensures.shape ∙ is.engine.shape) in
    did_as c.args.engine.now c.loop-k.engine m _ _ (λ n so. calls_all m n _ _ _ c.loop-k.k _ _ all so) (c.loop-k.invariant.so_far m is going)
