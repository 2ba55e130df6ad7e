use Rattle.std.proofs.Common.{◌≡◌, false, sym, subst}
use Rattle.rb_calls.specs.Since.{IsSince, StandsAs, engine_outside}
use Rattle.rb_lines.specs.Ran.{CallsBegun, Did}
use Rattle.rb_model.specs.Lines.{Command}
use Rattle.rb_model.specs.Out.{CommandOut, Logged}
use Rattle.rb_shell.specs.Steps.{SaidAs}
use Rattle.rb_shell.proofs.line.run_command.Goals as goal

pub returns-in-Some-clause-did : goal.returns-in-Some-clause-did
returns-in-Some-clause-did g c =
    let f = c.fetch_rows in
    subst
    (λ (x : Command). (m : Logged) → StandsAs g.T.Store c.args.engine.now m → m.state.stopped ≡ false
    → Did (StandsAs g.T.Store) (IsSince g.T.Store) c.args.engine.now f.new.engine m
    (λ now. SaidAs (CommandOut m engine_outside x) (CallsBegun m engine_outside x) now g.K.Sink.tells (g.K.Sink.held c.args.sink.now) (g.K.Sink.held f.new.sink) f.new.waiting.bytes.items f.result))
    (sym c.in-Some.ensures) f.ensures.did
