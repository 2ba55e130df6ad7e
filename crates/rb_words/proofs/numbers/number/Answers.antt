use Rattle.std.proofs.Common.{arith}
use Rattle.rb_words.proofs.Spelling.{narrow_none}
use Rattle.rb_words.proofs.numbers.number.Goals as goal

pub returns-clause-none : goal.returns-clause-none
returns-clause-none c =
    narrow_none 4294967296 c.in_ok-number.number c.try_from.result c.ok.result c.args.word.now c.args.name.now c.try_from.ensures c.ok.ensures.value (omega arith) (omega arith) c.in_ok-number.ensures.found
