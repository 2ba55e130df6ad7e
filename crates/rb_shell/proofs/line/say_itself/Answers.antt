use Rattle.std.proofs.Common.{◌≡◌, false, ℕ, List, refl, ap, sym, ◌∙◌, subst}
use Rattle.rb_model.specs.Lines.{bad_line_text, Spells, SpellsNone, is_remark}
use Rattle.rb_model.specs.Out.{LineSaid, Logged, too_long, skipped, bad}
use Rattle.rb_lines.proofs.Dids.{did_as}
use Rattle.rb_script.specs.Commands.{command_of}
use Rattle.rb_engine.specs.Does.{EngineView}
use Rattle.rb_calls.specs.Since.{IsSince, StandsAs, engine_outside, since_same}
use Rattle.rb_shell.proofs.SaidLemmas.{bad_said, command_said, said_nothing}
use Rattle.rb_shell.proofs.line.say_itself.Given.{Over}
use Rattle.rb_shell.proofs.line.say_itself.Goals as goal

-- where no call is made, the store stays
still : (g : Over) (e : EngineView g.row.T.Denot) (m : Logged) → StandsAs g.T.Store e m → m.state.stopped ≡ false → IsSince g.T.Store e e m m
still g e m is going = since_same e m (λ kept. record {
  stable_left = g.met.T.Store.stable_left;
  stable_numbered = g.met.T.Store.stable_numbered;
  stable_patched = g.met.T.Store.stable_patched;
  now_counts = g.met.T.Store.now_counts;
  only_now = g.met.T.Store.only_now;
  holds_back_same = g.met.T.Store.holds_back_same;
  holds_back_joined = g.met.T.Store.holds_back_joined;
}) is going

pub returns-then-line-gt-LINE_BYTES-clause-did : goal.returns-then-line-gt-LINE_BYTES-clause-did
returns-then-line-gt-LINE_BYTES-clause-did g c = λ m is going. record {
  now = m;
  reached = is;
  passed = still g c.args.engine.now m is going;
  ran = bad_said m engine_outside c.args.line.now bad_line_text g.K.Sink.tells _ _ _ _ c.tell.result
      (too_long c.if-line-gt-LINE_BYTES.true refl refl) going c.requires c.tell.ensures.told (c.tell.ensures.first c.requires);
}

pub returns-then-is_remark-clause-did : goal.returns-then-is_remark-clause-did
returns-then-is_remark-clause-did g c = λ m is going. record {
  now = m;
  reached = is;
  passed = still g c.args.engine.now m is going;
  ran = (
    said_nothing (LineSaid m engine_outside c.args.line.now) m g.K.Sink.tells _ _
        (skipped c.if-line-gt-LINE_BYTES.false (ap is_remark (sym c.without_return-text.ensures) ∙ sym c.is_remark.ensures ∙ c.if-is_remark.true) refl refl) c.requires,
    going,
  );
}

pub returns-in-None-clause-did : goal.returns-in-None-clause-did
returns-in-None-clause-did g c = λ m is going. record {
  now = m;
  reached = is;
  passed = still g c.args.engine.now m is going;
  ran = bad_said m engine_outside c.args.line.now bad_line_text g.K.Sink.tells _ _ _ _ c.tell-in-None.result
      (bad c.if-line-gt-LINE_BYTES.false (ap is_remark (sym c.without_return-text.ensures) ∙ sym c.is_remark.ensures ∙ c.if-is_remark.false)
      (subst SpellsNone c.without_return-text.ensures c.in-None.ensures.none) refl refl) going c.requires c.tell-in-None.ensures.told (c.tell-in-None.ensures.first c.requires);
}

pub returns-in-Some-clause-did : goal.returns-in-Some-clause-did
returns-in-Some-clause-did g c = λ m is going.
    did_as _ _ m _ _
    (λ n said. command_said m n engine_outside c.args.line.now (command_of c.in-Some.command) g.K.Sink.tells _ _ _ c.run_command.result c.if-line-gt-LINE_BYTES.false
    (subst (λ (text : List ℕ). Spells text (command_of c.in-Some.command)) c.without_return-text.ensures c.in-Some.ensures.found) said)
    (c.run_command.ensures.did m is going)
