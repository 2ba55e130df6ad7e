use Rattle.std.proofs.Common.{arith}
use Rattle.rb_script.proofs.Spaced.{no_smaller}
use Rattle.rb_script.proofs.words.id_of.Goals as goal

pub returns-clause-none : goal.returns-clause-none
returns-clause-none c =
    no_smaller c.args.text.now c.in_ok-number.number 65536 c.try_from.result c.ok.result (omega arith) (omega arith) c.in_ok-number.ensures.found c.try_from.ensures c.ok.ensures.value
