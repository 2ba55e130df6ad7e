-- The words that ask something of the program itself.
use Rattle.std.specs.Prelude.{ℕ, List, codes}
use Rattle.rb_words.specs.declared.question.Question.{Question}
use Rattle.rb_words.specs.declared.question.Question.TheVariants.{Version, Help}

-- the word that asks it
abbrev pub question_word : Question → List ℕ
question_word Version = codes "--version"
question_word Help = codes "--help"
