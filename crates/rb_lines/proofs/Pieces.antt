-- What a machine did with the bytes of one piece, line by line.
use Rattle.std.proofs.Common.{◌≡◌, ℕ, ◌+◌, ◌-◌, ◌≤◌, false, List, [], ◌∷◌, ◌++◌, length, take, drop, Result, Err, sym, ◌∙◌, ap, subst, append_assoc, arith, length-drop, take_all}
use Rattle.std.proofs.lemmas.List.{take-append-drop}
use Rattle.rb_model.specs.Out.{Outside, Logged}
use Rattle.rb_lines.specs.declared.runner.StepFault.{StepFault}
use Rattle.rb_lines.specs.Ran.{Ran, RanAs}
use Rattle.rb_lines.specs.Pieces.{lines_from, rest_from}
use Rattle.rb_lines.proofs.Cuts.{EndsAt, lines-append, rest-append, lines_end, rest_end}
use Rattle.rb_lines.proofs.Runs.{as-append, as_more}

pub split_at : (bytes taken rest : List ℕ) (n : ℕ) → bytes ≡ taken ++ rest → bytes ≡ (taken ++ take n rest) ++ drop n rest
split_at bytes taken rest n e =
    e ∙ ap (λ (l : List ℕ). taken ++ l) (sym (take-append-drop n rest)) ∙ sym (append_assoc taken (take n rest) (drop n rest))

-- what is left is a slice
pub split_more : (bytes taken rest : List ℕ) (n : ℕ) → bytes ≡ taken ++ rest → bytes ≡ (taken ++ take n rest) ++ take (length rest - n) (drop n rest)
split_more bytes taken rest n e =
    let all : length (drop n rest) ≤ length rest - n = omega (arith, length-drop n rest) in
    split_at bytes taken rest n e ∙ ap (λ (l : List ℕ). (taken ++ take n rest) ++ l) (sym (take_all (length rest - n) (drop n rest) all))

-- no line is under way behind an end
pub none_under_way : (line taken rest : List ℕ) (size : ℕ) → EndsAt rest size → rest_from line (taken ++ take (size + 1) rest) ≡ []
none_under_way line taken rest size e = rest-append line taken (take (size + 1) rest) ∙ rest_end (rest_from line taken) rest size e

-- the bytes that were fed, and the line that ends next
pub as_line : (outside : Outside) (h m h2 : Logged) (line taken rest : List ℕ) (size : ℕ) (tells : Type 0) (held held1 held2 : List ℕ) (r : Result (Unit {0}) StepFault)
    → EndsAt rest size
    → Ran outside h m (lines_from line taken) tells held held1 → m.state.stopped ≡ false
    → RanAs outside m h2 ((rest_from line taken ++ take size rest) ∷ []) tells held1 held2 r
    → RanAs outside h h2 (lines_from line (taken ++ take (size + 1) rest)) tells held held2 r
as_line outside h m h2 line taken rest size tells held held1 held2 r e ran going q =
    let cut : lines_from line (taken ++ take (size + 1) rest) ≡ lines_from line taken ++ (rest_from line taken ++ take size rest) ∷ [] =
    lines-append line taken (take (size + 1) rest)
    ∙ ap (λ (ls : List (List ℕ)). lines_from line taken ++ ls) (lines_end (rest_from line taken) rest size e) in
    subst (λ (ls : List (List ℕ)). RanAs outside h h2 ls tells held held2 r) (sym cut)
    (as-append outside h m h2 _ _ tells held held1 held2 r ran going q)

-- a fault in a piece, and the bytes behind it
pub as_piece : (outside : Outside) (h h2 : Logged) (line bytes taken rest : List ℕ) (tells : Type 0) (held held2 : List ℕ) (fault : StepFault)
    → bytes ≡ taken ++ rest → h.state.stopped ≡ false → RanAs outside h h2 (lines_from line taken) tells held held2 (Err fault)
    → RanAs outside h h2 (lines_from line bytes) tells held held2 (Err fault)
as_piece outside h h2 line bytes taken rest tells held held2 fault split going q =
    let cut : lines_from line bytes ≡ lines_from line taken ++ lines_from (rest_from line taken) rest =
    ap (λ (b : List ℕ). lines_from line b) split ∙ lines-append line taken rest in
    subst (λ (ls : List (List ℕ)). RanAs outside h h2 ls tells held held2 (Err fault)) (sym cut)
    (as_more outside h h2 _ (lines_from (rest_from line taken) rest) tells held held2 fault going q)
