use Rattle.std.proofs.Common.{take, IsTrue}
use Rattle.rb_script.specs.Words.{is_word}
use Rattle.rb_script.proofs.words.split.Given as goal

-- no space so far
abbrev pub invariant-loop-at : goal.invariant-loop-at
invariant-loop-at l = IsTrue (is_word (take l.at l.text))
