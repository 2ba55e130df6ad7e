use Rattle.rb_shell.proofs.script.InterpreterLineRunner.run_line.Goals as goal

pub returns-clause-did : goal.returns-clause-did
returns-clause-did g c = λ m is going.
    let d = c.do_line.ensures.did m is going in
    record { now = d.now; reached = d.reached; passed = d.passed; ran = d.ran }
