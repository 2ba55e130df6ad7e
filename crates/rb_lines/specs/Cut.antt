-- Where a fault of the sink cut a run of lines off.
use Rattle.std.specs.Prelude.{◌≡◌, ◌⊎◌, ℕ, ◌<◌, ◌≤◌, false, List, [], ◌∷◌}
use Rattle.std.specs.Prelude.{◌++◌, length}
use Rattle.rb_model.specs.Lines.{lines_of}
use Rattle.rb_model.specs.Out.{Outside, Logged}
use Rattle.rb_lines.specs.Ran.{CutShort, LineBegun, Ran}
use Rattle.rb_lines.specs.Whole.{whole_lines}

-- A fault of the sink ended the lines. When the last piece of at most `most` bytes was asked for, no call had failed,
-- and the lines that were whole had been done. All lines before the one that was cut off had their replies put. It is
-- one that was whole with that piece, or the last one at the end of the source: nothing was taken after it.
pub record CutOff (outside : Outside) (most : ℕ) (before now : Logged) (left_before left_now : List ℕ)
    (held_before held_now : List ℕ) : Type 0 where
  pub taken : List ℕ
  pub piece : List ℕ
  pub few : length piece ≤ most
  pub split : left_before ≡ taken ++ (piece ++ left_now)
  -- the lines of the piece before the one that was cut off, it, and those after it, which were not begun
  pub done : List (List ℕ)
  pub line : List ℕ
  pub more : List (List ℕ)
  pub lines : lines_of left_before ≡ (whole_lines taken ++ done) ++ line ∷ more
  pub here : (length (whole_lines taken ++ done) < length (whole_lines (taken ++ piece)))
      ⊎ ((left_now ≡ []) × (more ≡ []))
  pub middle : Logged
  pub held : List ℕ
  pub ran : Ran outside before middle (whole_lines taken ++ done) (Unit {0}) held_before held
  pub going : middle.state.stopped ≡ false
  pub cut : CutShort (LineBegun middle outside line) now held held_now
