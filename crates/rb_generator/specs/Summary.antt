-- The line that tells of a run of the generator.
use Rattle.std.specs.Prelude.{ℕ, List, [], ◌∷◌, ◌++◌, codes}
use Rattle.rb_generator.specs.declared.counts.Counts.{Counts}
use Rattle.rb_model.specs.Calls.{number_text}

-- a word and a number
abbrev pub part : List ℕ → ℕ → List ℕ
part word n = word ++ number_text n

-- of so many commands, with these counts of their answers and the number of the last commit
abbrev pub summary_text : ℕ → Counts → ℕ → List ℕ
summary_text commands counts now = part (codes "commands") commands ++ part (codes " committed") counts.committed
    ++ part (codes " rows") counts.rows ++ part (codes " waits") counts.waits
    ++ part (codes " refused") counts.refused ++ part (codes " now") now ++ 10 ∷ []
