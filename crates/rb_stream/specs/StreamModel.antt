-- What a call takes from a source or adds to a sink.
use Rattle.std.specs.Prelude.{◌≡◌, ℕ, ◌<◌, ◌≤◌, List, [], ◌++◌, length, take, drop, Result, Ok}
use Rattle.std.specs.Prelude.{Err}

-- A call took the first n bytes of what was left into the front of a buffer, n at most its length, and the
-- rest of the buffer stays. For a buffer with room, no byte is taken only at the end. A call that fails takes
-- none and leaves the buffer.
abbrev pub Takes : {E : Type 0} → List ℕ → List ℕ → List ℕ → List ℕ → Result ℕ E → Type 0
Takes left_before left_now buffer_before buffer_now (Ok n) =
    (n ≤ length buffer_before) × (n ≤ length left_before)
    × (buffer_now ≡ take n left_before ++ drop n buffer_before)
    × (left_now ≡ drop n left_before)
    × (0 < length buffer_before → n ≡ 0 → left_before ≡ [])
Takes left_before left_now buffer_before buffer_now (Err e) =
    (left_now ≡ left_before) × (buffer_now ≡ buffer_before)

-- A call added the whole piece, or a front of it where it failed.
abbrev pub Puts : {E : Type 0} → List ℕ → List ℕ → List ℕ → Result (Unit {0}) E → Type 0
Puts held_before held_now piece (Ok done) = held_now ≡ held_before ++ piece
Puts held_before held_now piece (Err e) = (n : ℕ) × (n ≤ length piece)
    × (held_now ≡ held_before ++ take n piece)
