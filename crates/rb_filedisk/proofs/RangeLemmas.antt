-- What a list of ranges with one more is, by its last one.
use Rattle.std.proofs.Common.{◌≡◌, ◌<◌, Bool, true, false, cond, ◌||◌, List, [], ◌∷◌, ◌++◌, length, refl, ap, ◌∙◌, arith}
use Rattle.std.proofs.lemmas.Bool.{false≢true}
use Rattle.rb_filedisk.specs.Unsynced.{with_range, joined, touches}
use Rattle.rb_filedisk.specs.declared.unsynced.Range.{Range}

-- only the last range counts
pub with_range-last : (full : Bool) (new : Range) (front : List Range) (last : Range)
    → with_range full new (front ++ last ∷ []) ≡ front ++ with_range full new (last ∷ [])
unfolding with_range
with_range-last full new [] last = refl
with_range-last full new (x ∷ []) last = refl
with_range-last full new (x ∷ y ∷ front) last = ap (λ rest. x ∷ rest) (with_range-last full new (y ∷ front) last)

-- the last range takes the new one in
pub with_range-joined : (full : Bool) (new : Range) (front : List Range) (last : Range)
    → (full || touches last new) ≡ true
    → with_range full new (front ++ last ∷ []) ≡ front ++ joined last new ∷ []
unfolding with_range
with_range-joined full new front last joins =
    with_range-last full new front last
    ∙ ap (λ b. front ++ cond b (joined last new ∷ []) (last ∷ new ∷ [])) joins

-- the new range comes after the last one
pub with_range-apart : (full : Bool) (new : Range) (front : List Range) (last : Range)
    → (full || touches last new) ≡ false
    → with_range full new (front ++ last ∷ []) ≡ front ++ last ∷ new ∷ []
unfolding with_range
with_range-apart full new front last apart =
    with_range-last full new front last
    ∙ ap (λ b. front ++ cond b (joined last new ∷ []) (last ∷ new ∷ [])) apart

-- no range is in front of the first one
pub with_range-first : (full : Bool) (new : Range) (old : List Range) → (0 < length old → false ≡ true)
    → old ++ new ∷ [] ≡ with_range full new old
unfolding with_range
with_range-first full new [] none = refl
with_range-first full new (x ∷ old) none = absurd (false≢true (none (omega arith)))

-- of the same range and the same list
pub with_range-same : (full is_full : Bool) (new range : Range) (old ranges : List Range) → full ≡ is_full → new ≡ range → old ≡ ranges
    → with_range full new old ≡ with_range is_full range ranges
with_range-same full is_full new range old ranges e f g = rw (e, f, g) refl
