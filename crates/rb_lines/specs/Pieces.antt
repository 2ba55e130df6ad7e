-- Lines that come in pieces: a line under way, and the bytes that come next.
use Rattle.std.specs.Prelude.{ℕ, ◌==◌, if◌then◌else◌, List, [], ◌∷◌, ◌++◌}

-- the lines that the bytes end
abbrev pub lines_from : List ℕ → List ℕ → List (List ℕ)
lines_from line [] = []
lines_from line (b ∷ bytes) = if b == 10 then line ∷ lines_from [] bytes else lines_from (line ++ b ∷ []) bytes

-- the line that is under way after them
abbrev pub rest_from : List ℕ → List ℕ → List ℕ
rest_from line [] = line
rest_from line (b ∷ bytes) = if b == 10 then rest_from [] bytes else rest_from (line ++ b ∷ []) bytes

-- the last line at the end of the input; an empty rest is none
abbrev pub last_of : List ℕ → List (List ℕ)
last_of [] = []
last_of (b ∷ line) = (b ∷ line) ∷ []
