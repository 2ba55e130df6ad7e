-- The numbers that the generator draws, and the commands that it makes of them.
use Rattle.std.specs.Prelude.{ℕ, zero, suc, ◌+◌, ◌*◌, ◌/◌, ◌%◌, ◌^◌}
use Rattle.std.specs.Prelude.{nat_lt, if◌then◌else◌, List, codes, map}
use Rattle.std.specs.Fmt.{decimal}
use Rattle.std.specs.List.{range_with_len}
use Rattle.rb_base.specs.declared.shape.Shape.{Shape}
use Rattle.rb_model.specs.Calls.{Insert, Update, Delete, Lock}
use Rattle.rb_model.specs.Lines.{Command, WriteLine, CommitLine, RollbackLine, OpenLine, FetchLine, CloseLine}
use Rattle.rb_model.specs.Lines.{CancelLine}

-- The state behind a state: a linear congruence of 64 bits.
unfoldable pub next : ℕ → ℕ
next x = (x * 6364136223846793005 + 1442695040888963407) % 2 ^ 64

-- the number that a state gives: its upper 31 bits
unfoldable pub number_of : ℕ → ℕ
number_of x = x / 2 ^ 33

-- the state after so many draws
abbrev pub state_after : ℕ → ℕ → ℕ
state_after seed zero = seed
state_after seed (suc draws) = next (state_after seed draws)

-- the one name of a cursor
abbrev pub cursor_name : List ℕ
cursor_name = codes "c"

-- The command of a kind, 0 to 99, of session s, with table t, key k and a value. A cursor is over all keys.
abbrev pub chosen : (kind s t k : ℕ) → List ℕ → Command
chosen kind s t k value =
    if nat_lt kind 25 then WriteLine s t k (Insert value) else
    (if nat_lt kind 55 then WriteLine s t k (Update value) else
    (if nat_lt kind 65 then WriteLine s t k Delete else
    (if nat_lt kind 70 then WriteLine s t k Lock else
    (if nat_lt kind 80 then CommitLine s else
    (if nat_lt kind 85 then RollbackLine s else
    (if nat_lt kind 93 then OpenLine s cursor_name t 0 18446744073709551615 else
    (if nat_lt kind 98 then FetchLine s cursor_name 4 else
    (if nat_lt kind 99 then CloseLine s cursor_name else CancelLine s))))))))

-- The command of the four draws behind a state, with that value: its kind, its session of 8, a key, for which the
-- blocks of a table have half the places, and its table.
abbrev pub drawn : Shape → ℕ → List ℕ → Command
drawn shape x value =
    let second = next (next x) in let third = next second in
    chosen (number_of (next x) % 100) (1 + number_of second % 8) (1 + number_of (next third) % shape.tables)
    (number_of third % (8 * shape.blocks)) value

-- the commands of a run of n: the draws begin with the state n, and the value is a command's number, from 1 on
abbrev pub commands_of : Shape → ℕ → List Command
commands_of shape n = map (λ i. drawn shape (state_after n (4 * i)) (decimal (i + 1))) (range_with_len 0 n)
