-- The numbers that are drawn, and the commands of them, on worked rows.
use Rattle.std.proofs.Common.{◌≡◌, [], ◌∷◌, refl, arith}
use Rattle.std.proofs.lemmas.Fmt.{decimal_digit}
use Rattle.std.specs.Prelude.{codes}
use Rattle.rb_base.specs.declared.shape.Shape.{Shape}
use Rattle.rb_generator.specs.Counted.{counts_of}
use Rattle.rb_generator.specs.Draws.{commands_of, next, number_of, state_after}
use Rattle.rb_generator.specs.Summary.{summary_text}
use Rattle.rb_model.specs.Calls.{Done, Waits, Committed, Given, End, Refused, Insert, Update, Delete, Lock}
use Rattle.rb_model.specs.Lines.{WriteLine, CommitLine, OpenLine, FetchLine}
use Rattle.rb_model.specs.declared.refusal.Refusal.TheVariants.{Duplicate, SlotsFull}

-- The first draw of a run of one.
first_state : state_after 1 1 ≡ 7806831264735756412
unfolding next
first_state = refl

first_number : number_of 7806831264735756412 ≡ 908834774
unfolding number_of
first_number = refl

-- two tables of four blocks
abbrev shape : Shape
shape = record { tables = 2; blocks = 4; segments = 1 }

none_of_none : commands_of shape 0 ≡ []
none_of_none = refl

-- a commit of a session that has no changes
one : commands_of shape 1 ≡ CommitLine 2 ∷ []
unfolding next number_of
one = refl

two : commands_of shape 2 ≡ WriteLine 3 1 8 (Update (codes "1")) ∷ FetchLine 4 (codes "c") 4 ∷ []
unfolding next number_of
two = rw (decimal_digit 1 (omega arith)) refl

three : commands_of shape 3
    ≡ WriteLine 4 1 3 Delete ∷ WriteLine 4 2 31 (Insert (codes "2")) ∷ OpenLine 2 (codes "c") 1 0 18446744073709551615 ∷ []
unfolding next number_of
three = rw (decimal_digit 2 (omega arith)) refl

four : commands_of shape 4
    ≡ WriteLine 5 2 30 (Update (codes "1")) ∷ WriteLine 4 2 1 Lock ∷ WriteLine 1 1 31 (Insert (codes "3")) ∷ WriteLine 1 2 11 Lock ∷ []
unfolding next number_of
four = rw (decimal_digit 1 (omega arith), decimal_digit 3 (omega arith)) refl

-- Only a commit that takes a number counts as one; the end of a fetch counts as nothing.
counted : counts_of (Done ∷ Committed 7 ∷ Given 1 (codes "a") ∷ End ∷ Given 2 (codes "b") ∷ Waits 3 ∷ Refused SlotsFull ∷ Refused Duplicate ∷ [])
    ≡ record { committed = 1; rows = 2; waits = 1; refused = 2 }
counted = refl

summary_of_none : summary_text 0 (counts_of []) 0 ≡ codes "commands 0 committed 0 rows 0 waits 0 refused 0 now 0\n"
summary_of_none = rw (decimal_digit 0 (omega arith)) refl
