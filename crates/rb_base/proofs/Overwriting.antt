-- What bytes that were written over others leave of them.
use Rattle.std.proofs.Common.{◌≡◌, ℕ, ◌+◌, ◌-◌, ◌≤◌, List, ◌++◌, length, take, drop, arith, ap, sym, ◌∙◌, append_assoc, inl, inr}
use Rattle.std.proofs.lemmas.List.{take_at, drop_at, take-take, take-append-le, drop-append-le, drop-drop, drop-take, length-append, length-take-le, length-drop}
use Rattle.rb_base.specs.Fields.{part, overwritten, AreApart}

pub length-overwritten : (old : List ℕ) (at : ℕ) (bytes : List ℕ) → at + length bytes ≤ length old → length (overwritten old at bytes) ≡ length old
length-overwritten old at bytes within =
    let l = length-append (take at old ++ bytes) (drop (at + length bytes) old) in
    let m = length-append (take at old) bytes in
    omega (arith, l, m, length-take-le at old (omega arith), length-drop (at + length bytes) old)

-- what was written is there
pub part_written : (old : List ℕ) (at : ℕ) (bytes : List ℕ) (count : ℕ) → at + length bytes ≤ length old → length bytes ≡ count → part (overwritten old at bytes) at count ≡ bytes
part_written old at bytes count within long =
    let rest = drop (at + length bytes) old in
    ap (λ (l : List ℕ). take count (drop at l)) (append_assoc (take at old) bytes rest)
    ∙ ap (take count) (drop_at (take at old) (bytes ++ rest) at (length-take-le at old (omega arith)))
    ∙ take_at bytes rest count long

-- the bytes in front of it stay
take_before : (old : List ℕ) (at : ℕ) (bytes : List ℕ) (end : ℕ) → at ≤ length old → end ≤ at → take end (overwritten old at bytes) ≡ take end old
take_before old at bytes end within le =
    let front = take at old in
    let rest = drop (at + length bytes) old in
    ap (take end) (append_assoc front bytes rest) ∙ take-append-le end front (bytes ++ rest) (omega (arith, length-take-le at old within)) ∙ take-take end at old le

-- and those behind it
pub drop_behind : (old : List ℕ) (at : ℕ) (bytes : List ℕ) (from : ℕ) → at + length bytes ≤ length old → at + length bytes ≤ from → drop from (overwritten old at bytes) ≡ drop from old
drop_behind old at bytes from within le =
    let end = at + length bytes in
    let front = take at old ++ bytes in
    let more : from ≡ end + (from - end) = omega arith in
    let long : length front ≡ end = omega (arith, length-append (take at old) bytes, length-take-le at old (omega arith)) in
    ap (λ (n : ℕ). drop n (overwritten old at bytes)) more
    ∙ sym (drop-drop (from - end) end (overwritten old at bytes))
    ∙ ap (drop (from - end)) (drop_at front (drop end old) end long)
    ∙ drop-drop (from - end) end old
    ∙ ap (λ (n : ℕ). drop n old) (sym more)

pub part_apart : (old : List ℕ) (at : ℕ) (bytes : List ℕ) (from count size : ℕ) → at + length bytes ≤ length old → length bytes ≡ size → AreApart from count at size → part (overwritten old at bytes) from count ≡ part old from count
part_apart old at bytes from count size within long apart =
    elim apart [
      | inl before ↦ sym (drop-take from count (overwritten old at bytes)) ∙ ap (drop from) (take_before old at bytes (from + count) (omega arith) before) ∙ drop-take from count old
      | inr behind ↦ ap (take count) (drop_behind old at bytes from within (omega (arith, long)))
    ]

-- seen from a place in front of it
pub drop_before : (old : List ℕ) (at more : ℕ) (bytes : List ℕ) → at + more ≤ length old → drop at (overwritten old (at + more) bytes) ≡ overwritten (drop at old) more bytes
drop_before old at more bytes within =
    let front = take (at + more) old in
    let rest = drop (at + more + length bytes) old in
    let end : at + more + length bytes ≡ at + (more + length bytes) = omega arith in
    ap (drop at) (append_assoc front bytes rest)
    ∙ drop-append-le at front (bytes ++ rest) (omega (arith, length-take-le (at + more) old within))
    ∙ ap (λ (l : List ℕ). l ++ (bytes ++ rest)) (drop-take at more old)
    ∙ sym (append_assoc (take more (drop at old)) bytes rest)
    ∙ ap (λ (l : List ℕ). take more (drop at old) ++ bytes ++ l) (ap (λ (n : ℕ). drop n old) end ∙ sym (drop-drop (more + length bytes) at old))
