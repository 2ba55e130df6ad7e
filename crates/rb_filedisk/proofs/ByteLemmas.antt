-- The bytes of a list of ranges with one more.
use Rattle.std.proofs.Common.{◌≡◌, ◌⊎◌, inl, inr, ⊎_elim, ℕ, ◌<◌, ◌≤◌, Bool, true, false, cond, ◌||◌, ◌==◌, List, [], ◌∷◌, ◌++◌, length, get_or, zero, suc, refl, sym, ap, ◌∙◌, subst, arith}
use Rattle.std.proofs.lemmas.Bool.{and_parts, cases_lt, leb-true}
use Rattle.std.specs.Prelude.{All}
use Rattle.std.proofs.lemmas.List.Elements.{All-cons, All-head, All-nil, All-tail}
use Rattle.rb_filedisk.proofs.RangeLemmas.{with_range-joined}
use Rattle.rb_filedisk.specs.declared.unsynced.Range.{Range}
use Rattle.rb_filedisk.specs.declared.unsynced.Unsynced.{Unsynced}
use Rattle.rb_filedisk.specs.Unsynced.{Has, HasOne, with_range, joined, touches, written, ranges_of, IsWith, RemembersAll, RemembersNoOther}

-- of two ranges, joined or not, every byte is there
two_kept : (joins : Bool) (last new : Range) (byte : ℕ) → HasOne (new ∷ last ∷ []) byte
    → HasOne (cond joins (joined last new ∷ []) (last ∷ new ∷ [])) byte
two_kept true last new byte (inl h) = inl (omega (arith, h.0), omega (arith, h.1))
two_kept true last new byte (inr (inl h)) = inl (omega (arith, h.0), omega (arith, h.1))
two_kept true last new byte (inr (inr h)) = absurd h
two_kept false last new byte (inl h) = inr (inl h)
two_kept false last new byte (inr (inl h)) = inl h
two_kept false last new byte (inr (inr h)) = absurd h

pub every_byte : (full : Bool) (new : Range) (old : List Range) (byte : ℕ) → HasOne (new ∷ old) byte
    → HasOne (with_range full new old) byte
unfolding with_range
every_byte full new [] byte h = h
every_byte full new (last ∷ []) byte h = two_kept (full || touches last new) last new byte h
every_byte full new (x ∷ y ∷ old) byte (inl h) = inr (every_byte full new (y ∷ old) byte (inl h))
every_byte full new (x ∷ y ∷ old) byte (inr (inl h)) = inl h
every_byte full new (x ∷ y ∷ old) byte (inr (inr h)) = inr (every_byte full new (y ∷ old) byte (inr h))

-- two ranges that touch have the bytes of the joined one
in_touching : (last new : Range) (byte : ℕ) → last.start ≤ new.end → new.start ≤ last.end → Has (joined last new) byte
    → HasOne (new ∷ last ∷ []) byte
in_touching last new byte after before h =
    ⊎_elim (λ (early : byte < last.start). inl (omega (arith, early, after, h.0), omega (arith, early, after, h.0)))
    (λ (late : last.start ≤ byte).
    ⊎_elim (λ (within : byte < last.end). inr (inl (late, within)))
    (λ (past : last.end ≤ byte). inl (omega (arith, past, before), omega (arith, past, h.1)))
    (cases_lt byte last.end))
    (cases_lt byte last.start)

two_left : (joins : Bool) (last new : Range) (byte : ℕ) → joins ≡ touches last new
    → HasOne (cond joins (joined last new ∷ []) (last ∷ new ∷ [])) byte → HasOne (new ∷ last ∷ []) byte
two_left true last new byte same (inl h) =
    let both = and_parts _ _ (sym same) in
    in_touching last new byte (leb-true last.start new.end both.0) (leb-true new.start last.end both.1) h
two_left true last new byte same (inr h) = absurd h
two_left false last new byte same (inl h) = inr (inl h)
two_left false last new byte same (inr (inl h)) = inl h
two_left false last new byte same (inr (inr h)) = absurd h

pub no_other_byte : (new : Range) (old : List Range) (byte : ℕ) → HasOne (with_range false new old) byte
    → HasOne (new ∷ old) byte
unfolding with_range
no_other_byte new [] byte h = h
no_other_byte new (last ∷ []) byte h = two_left (touches last new) last new byte refl h
no_other_byte new (x ∷ y ∷ old) byte (inl h) = inr (inl h)
no_other_byte new (x ∷ y ∷ old) byte (inr h) =
    ⊎_elim (λ (here : Has new byte). inl here) (λ (there : HasOne (y ∷ old) byte). inr (inr there)) (no_other_byte new (y ∷ old) byte h)

-- the last range, where it took in one that touches it
pub no_other_joined : (new last : Range) (front : List Range) (byte : ℕ) → touches last new ≡ true
    → HasOne (front ++ joined last new ∷ []) byte → HasOne (new ∷ (front ++ last ∷ [])) byte
no_other_joined new last front byte touch h =
    no_other_byte new (front ++ last ∷ []) byte
    (subst (λ (ranges : List Range). HasOne ranges byte) (sym (with_range-joined false new front last touch)) h)

-- a list with one more at its end
pub no_other_pushed : (new : Range) (front : List Range) (byte : ℕ) → HasOne (front ++ new ∷ []) byte → HasOne (new ∷ front) byte
no_other_pushed new [] byte h = h
no_other_pushed new (x ∷ front) byte (inl h) = inr (inl h)
no_other_pushed new (x ∷ front) byte (inr h) =
    ⊎_elim (λ (here : Has new byte). inl here) (λ (there : HasOne front byte). inr (inr there)) (no_other_pushed new front byte h)

pub has_same : (new range : Range) (old ranges : List Range) (byte : ℕ) → new ≡ range → old ≡ ranges → HasOne (new ∷ old) byte
    → HasOne (range ∷ ranges) byte
has_same new range old ranges byte e f h = rw (← e, ← f) h

-- the bytes of some ranges and those of one more
pub one_more : (ranges : List Range) (range : Range) (byte : ℕ) → HasOne (ranges ++ range ∷ []) byte → HasOne ranges byte ⊎ Has range byte
one_more [] range byte (inl h) = inr h
one_more [] range byte (inr h) = absurd h
one_more (x ∷ ranges) range byte (inl h) = inl (inl h)
one_more (x ∷ ranges) range byte (inr h) =
    ⊎_elim (λ (here : HasOne ranges byte). inl (inr here)) (λ (there : Has range byte). inr there) (one_more ranges range byte h)

-- the bytes of one of them
pub of_one : (ranges : List Range) (k : ℕ) (range : Range) (byte : ℕ) → k < length ranges → Has (get_or ranges k range) byte → HasOne ranges byte
of_one [] k range byte lt h = absurd (omega (arith, lt))
of_one (x ∷ ranges) zero range byte lt h = inl h
of_one (x ∷ ranges) (suc k) range byte lt h = inr (of_one ranges k range byte (omega (arith, lt)) h)

-- where a list with one more ends by a length, so do its ranges and that one
two_within : (joins : Bool) (count : ℕ) (last new : Range) → All (λ range. range.end ≤ count) (cond joins (joined last new ∷ []) (last ∷ new ∷ []))
    → (last.end ≤ count) × (new.end ≤ count)
two_within true count last new all =
    let end = All-head (λ (range : Range). range.end ≤ count) (joined last new) [] all in
    (omega (arith, end), omega (arith, end))
two_within false count last new all = (
  All-head (λ (range : Range). range.end ≤ count) last (new ∷ []) all,
  All-head (λ (range : Range). range.end ≤ count) new [] (All-tail (λ (range : Range). range.end ≤ count) last (new ∷ []) all),
)

pub all_within : (full : Bool) (new : Range) (old : List Range) (count : ℕ) → All (λ range. range.end ≤ count) (with_range full new old)
    → (new.end ≤ count) × All (λ range. range.end ≤ count) old
unfolding with_range
all_within full new [] count all = (All-head (λ (range : Range). range.end ≤ count) new [] all, All-nil (λ (range : Range). range.end ≤ count))
all_within full new (last ∷ []) count all =
    let both = two_within (full || touches last new) count last new all in
    (both.1, All-cons (λ (range : Range). range.end ≤ count) last [] both.0 (All-nil (λ (range : Range). range.end ≤ count)))
all_within full new (x ∷ y ∷ old) count all =
    let others = with_range full new (y ∷ old) in
    let rest = all_within full new (y ∷ old) count (All-tail (λ (range : Range). range.end ≤ count) x others all) in
    (rest.0, All-cons (λ (range : Range). range.end ≤ count) x (y ∷ old) (All-head (λ (range : Range). range.end ≤ count) x others all) rest.1)

pub remembers_all : (at count : ℕ) (before now : Unsynced) → IsWith at count before now → RemembersAll at count before now
remembers_all at count before now is byte h =
    subst (λ (ranges : List Range). HasOne ranges byte) (sym is)
    (every_byte (length (ranges_of before) == 128) (written at count) (ranges_of before) byte h)

not_eq : (count : ℕ) → count < 128 → (count == 128) ≡ false
not_eq count few = grind (arith)

pub remembers_no_other : (at count : ℕ) (before now : Unsynced) → IsWith at count before now
    → RemembersNoOther at count before now
remembers_no_other at count before now is few byte h =
    no_other_byte (written at count) (ranges_of before) byte (subst (λ (ranges : List Range). HasOne ranges byte)
    (is ∙ ap (λ (full : Bool). with_range full (written at count) (ranges_of before)) (not_eq (length (ranges_of before)) few)) h)
