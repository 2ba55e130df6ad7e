use Rattle.std.proofs.Common.{◌≡◌, [], arith}
use Rattle.rb_words.proofs.Spelling.{same_alone}
use Rattle.rb_words.proofs.numbers.parse_commands.Goals as goal

pub returns-then-commands-gt-MOST_COMMANDS-clause-none : goal.returns-then-commands-gt-MOST_COMMANDS-clause-none
returns-then-commands-gt-MOST_COMMANDS-clause-none c = λ n few asked.
    let same : c.in_ok-commands.commands ≡ n = same_alone c.args.parameters.now _ [] c.in_ok-commands.commands n
    c.in-len1.len_at_least c.in-len1.len_below c.in_ok-commands.ensures.found (omega arith) (omega arith) asked in
    omega (arith, same)
