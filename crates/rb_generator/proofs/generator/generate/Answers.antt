use Rattle.std.proofs.Common.{◌≡◌, ◌∙◌, ℕ, ◌+◌, ◌*◌, ◌≤◌, Bool, true, false, Result, refl, sym, ap, subst, arith}
use Rattle.std.proofs.lemmas.Result.{err_from_is_err_and}
use Rattle.std.specs.Fmt.{decimal}
use Rattle.std.specs.Result.{is_err}
use Rattle.rb_base.specs.declared.faults.Failed.{Failed}
use Rattle.rb_base.specs.declared.shape.Shape.{Shape}
use Rattle.rb_calls.specs.Since.{IsSince, StandsAs, since_same, since_joined, engine_outside}
use Rattle.rb_engine.specs.Does.{EngineView}
use Rattle.rb_generator.specs.Answered.{CommandAnswered}
use Rattle.rb_generator.specs.Counted.{told}
use Rattle.rb_generator.specs.Draws.{drawn, state_after}
use Rattle.rb_generator.specs.Ends.{HasCounted, HasGenerated}
use Rattle.rb_generator.specs.declared.counts.Counts.{Counts}
use Rattle.rb_generator.proofs.AnsweredLemmas.{CommandsSoFar, command_at, commands_all, commands_fail, commands_more, commands_none}
use Rattle.rb_generator.proofs.DrawLemmas.{four_on}
use Rattle.rb_lines.proofs.Dids.{did_as, did_on}
use Rattle.rb_model.specs.Lines.{Command}
use Rattle.rb_model.specs.Out.{Logged, Outside}
use Rattle.rb_generator.proofs.generator.generate.Given.{Over}
use Rattle.rb_generator.proofs.generator.generate.Goals as goal

-- where no call is made yet, the store stays
still : (g : Over) (e : EngineView g.row.T.Denot) (m : Logged) → StandsAs g.T.Store e m → m.state.stopped ≡ false → IsSince g.T.Store e e m m
still g e m is going = since_same e m (λ kept. record {
  stable_left = g.met.T.Store.stable_left;
  stable_numbered = g.met.T.Store.stable_numbered;
  stable_patched = g.met.T.Store.stable_patched;
  now_counts = g.met.T.Store.now_counts;
  only_now = g.met.T.Store.only_now;
  holds_back_same = g.met.T.Store.holds_back_same;
  holds_back_joined = g.met.T.Store.holds_back_joined;
}) is going

-- the command of the turn is the one of the run
turned : (m k : Logged) (outside : Outside) (n i x : ℕ) (shape : Shape) (counts counts2 : Counts) (failed fault : Bool) (start : Logged) → shape ≡ start.state.shape → x ≡ state_after n (4 * i) → failed ≡ fault
    → HasCounted (CommandAnswered m outside (drawn shape x (decimal (i + 1)))) k counts counts2 failed → HasCounted (CommandAnswered m outside (command_at start.state.shape n i)) k counts counts2 fault
turned m k outside n i x shape counts counts2 failed fault start same drawn_as is has =
    subst (λ (v : Bool). HasCounted (CommandAnswered m outside (command_at start.state.shape n i)) k counts counts2 v) is
    (subst (λ (c : Command). HasCounted (CommandAnswered m outside c) k counts counts2 failed) (ap (λ (z : Shape). drawn z x (decimal (i + 1))) same ∙ ap (λ (z : ℕ). drawn start.state.shape z (decimal (i + 1))) drawn_as) has)

pub loop-i-init : goal.loop-i-init
loop-i-init g c = record {
  so_far = λ m is going. record { now = m; reached = is; passed = still g c.args.engine.now m is going; ran = subst (λ (counts : Counts). CommandsSoFar m engine_outside c.args.commands 0 m counts) (sym c.none-counts.ensures) (commands_none m _ _ going) };
  drawn = c.from.ensures;
  few = subst (λ (counts : Counts). told counts ≤ 0) (sym c.none-counts.ensures) (omega arith);
  same = record { shape = refl; slots = refl };
  disk = refl;
}

pub loop-i-preserved : goal.loop-i-preserved
loop-i-preserved g c =
    let i = c.loop-i.invariant in
    let t = c.turn.ensures in
    record {
      so_far = λ m is going. did_on c.args.engine.now c.loop-i.engine c.turn.new.engine m _ _ _ (λ a b d h n k. since_joined a b d h n k) (i.so_far m is going) (λ n so. so.going)
          (λ n reached on. t.did n reached on)
          (λ n k so has. commands_more m n k _ c.args.commands c.loop-i.i _ _ so c.loop-i-test.true
          (turned n k _ c.args.commands c.loop-i.i _ _ _ _ _ false m (i.same.shape ∙ is.engine.shape) i.drawn (ap is_err c.in_ok-turn.was) has));
      drawn = four_on c.args.commands c.loop-i.i _ _ i.drawn t.drawn;
      few = omega (arith, i.few, t.few);
      same = record { shape = t.same.shape ∙ i.same.shape; slots = t.same.slots ∙ i.same.slots };
      disk = c.in_ok-turn.ensures.disk.still ∙ i.disk;
    }

pub returns-in_err-turn-clause-did : goal.returns-in_err-turn-clause-did
returns-in_err-turn-clause-did g c = λ m is going.
    let i = c.loop-i.invariant in
    let t = c.turn.ensures in
    let p = err_from_is_err_and c.from_residual.result c.from_residual.ensures.1 in
    did_on c.args.engine.now c.loop-i.engine c.turn.new.engine m _ _ _ (λ a b d h n k. since_joined a b d h n k) (i.so_far m is going) (λ n so. so.going)
    (λ n reached on. t.did n reached on)
    (λ n k so has.
    subst (λ (r : Result Counts Failed). HasGenerated m engine_outside c.args.commands k r) (sym p.1)
    (commands_fail m n k _ c.args.commands c.loop-i.i _ _ so c.loop-i-test.true p.0
    (turned n k _ c.args.commands c.loop-i.i _ _ _ _ _ true m (i.same.shape ∙ is.engine.shape) i.drawn (ap is_err c.in_err-turn.was) has)))

pub returns-clause-did : goal.returns-clause-did
returns-clause-did g c = λ m is going.
    let ended : c.loop-i.i ≡ c.args.commands = omega arith in
    did_as c.args.engine.now c.loop-i.engine m _ _ (λ n so. commands_all m n _ _ c.loop-i.i _ ended so) (c.loop-i.invariant.so_far m is going)
