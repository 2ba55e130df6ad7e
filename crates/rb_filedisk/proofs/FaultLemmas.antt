-- Counts of faults over several steps, and the pieces that so many faults leave lost.
use Rattle.std.proofs.Common.{◌≡◌, ◌⊎◌, inl, inr, ⊎_elim, ℕ, ◌+◌, ◌-◌, ◌^◌, ◌<◌, ◌≤◌, min, Bool, true, false, List, [], ◌∷◌, ◌++◌, refl, sym, subst, arith}
use Rattle.std.specs.Prelude.{Result, Ok, Err, is_ok, OnOk, OnErr}
use Rattle.std.proofs.lemmas.Bool.{false≢true}
use Rattle.std.proofs.lemmas.List.{length-append}
use Rattle.rb_rawfile.specs.RawModel.{IsOf}
use Rattle.rb_filedisk.specs.Faults.{FailedOnce, InOne, InPieces, RoseBy, Tells}

in_front : (starts more : List ℕ) (place : ℕ) → InOne starts place → InOne (starts ++ more) place
in_front [] more place here = absurd here
in_front (start ∷ starts) more place (inl here) = inl here
in_front (start ∷ starts) more place (inr there) = inr (in_front starts more place there)

behind : (starts more : List ℕ) (place : ℕ) → InOne more place → InOne (starts ++ more) place
behind [] more place here = here
behind (start ∷ starts) more place here = inr (behind starts more place here)

-- where no place is one of these, no piece is needed
pub pieces_none : (count : ℕ) (places : ℕ → Type 0) → ((place : ℕ) → places place → ⊥) → InPieces count places
pieces_none count places none = ([], omega arith, λ place here. absurd (none place here))

-- of fewer places
pub pieces_fewer : (count : ℕ) (places fewer : ℕ → Type 0) → ((place : ℕ) → fewer place → places place) → InPieces count places → InPieces count fewer
pieces_fewer count places fewer is has = (has.0, has.1, λ place here. has.2 place (is place here))

-- with one piece more
pieces_one : (count start : ℕ) (places more : ℕ → Type 0) → ((place : ℕ) → more place → places place ⊎ IsOf start 4096 place) → InPieces count places
    → InPieces (count + 1) more
pieces_one count start places more is has =
    (start ∷ has.0, omega (arith, has.1), λ place here. ⊎_elim (λ (was : places place). inr (has.2 place was)) (λ (new : IsOf start 4096 place). inl new) (is place here))

-- the pieces of some places and those of others
pieces_both : (count other : ℕ) (places others all : ℕ → Type 0) → ((place : ℕ) → all place → places place ⊎ others place) → InPieces count places
    → InPieces other others → InPieces (count + other) all
pieces_both count other places others all is has have = (
  has.0 ++ have.0,
  omega (arith, length-append has.0 have.0, has.1, have.1),
  λ place here. ⊎_elim (λ (one : places place). in_front has.0 have.0 place (has.2 place one)) (λ (two : others place). behind has.0 have.0 place (have.2 place two)) (is place here),
)

-- before the first step
pub tells_none : (count : ℕ) → Tells count count true
tells_none count = record { no_less = λ short. omega arith; rose = λ bad short. absurd (false≢true (sym bad)) }

-- a call of a raw file
pub tells_call : {T E : Type 0} (r : Result T E) (before now : ℕ) → OnErr r (now ≡ min (before + 1) (2 ^ 64 - 1)) → OnOk r (now ≡ before) → Tells before now (is_ok r)
tells_call (Ok x) before now faulted no_fault = record { no_less = λ short. omega (arith, no_fault); rose = λ bad short. absurd (false≢true (sym bad)) }
tells_call (Err e) before now faulted no_fault = record { no_less = λ short. omega (arith, faulted, short); rose = λ bad short. omega (arith, faulted, short) }

-- one step more
pub tells_more : (before mid now : ℕ) (was well all : Bool) → Tells before mid was → Tells mid now well → (all ≡ false → (was ≡ false) ⊎ (well ≡ false))
    → Tells before now all
tells_more before mid now was well all first second either = record {
  no_less = λ short. let up = second.no_less short in let under : mid < 2 ^ 64 - 1 = omega (arith, up, short) in omega (arith, up, first.no_less under);
  rose = λ bad short.
      let up = second.no_less short in
      let under : mid < 2 ^ 64 - 1 = omega (arith, up, short) in
      ⊎_elim (λ (one : was ≡ false). omega (arith, up, first.rose one under)) (λ (two : well ≡ false). omega (arith, second.rose two short, first.no_less under)) (either bad);
}

-- A piece is read and written again. Where that fails, so many as its bytes may stay lost.
pub others_piece : {T E : Type 0} (r : Result T E) (before mid now n start : ℕ) (places more : ℕ → Type 0) → (mid < 2 ^ 64 - 1 → before ≤ mid)
    → OnErr r (now ≡ min (mid + 1) (2 ^ 64 - 1)) → OnOk r (now ≡ mid) → ((m : ℕ) → RoseBy m before mid → InPieces m places)
    → OnOk r ((place : ℕ) → more place → places place) → ((place : ℕ) → more place → places place ⊎ IsOf start 4096 place) → RoseBy n before now → InPieces n more
others_piece (Ok x) before mid now n start places more up faulted no_fault so_far none either rose =
    pieces_fewer n places more none (so_far n (omega (arith, no_fault, rose.0), omega (arith, no_fault, rose.1)))
others_piece (Err e) before mid now n start places more up faulted no_fault so_far none either rose =
    let one : now ≡ mid + 1 = omega (arith, faulted, rose.1) in
    let below : mid < 2 ^ 64 - 1 = omega (arith, one, rose.1) in
    let risen = up below in
    subst (λ (k : ℕ). InPieces k more) (omega (arith, one, risen, rose.0))
    (pieces_one (n - 1) start places more either (so_far (n - 1) (omega (arith, one, risen, rose.0), below)))

-- one range more
pub others_range : (before mid now n : ℕ) (places others all : ℕ → Type 0) → (mid < 2 ^ 64 - 1 → before ≤ mid) → (now < 2 ^ 64 - 1 → mid ≤ now)
    → ((m : ℕ) → RoseBy m before mid → InPieces m places) → ((m : ℕ) → RoseBy m mid now → InPieces m others)
    → ((place : ℕ) → all place → places place ⊎ others place) → RoseBy n before now → InPieces n all
others_range before mid now n places others all up further so_far here either rose =
    let risen = further rose.1 in
    let below : mid < 2 ^ 64 - 1 = omega (arith, risen, rose.1) in
    let first = up below in
    subst (λ (k : ℕ). InPieces k all) (omega (arith, first, risen, rose.0))
    (pieces_both (mid - before) (now - mid) places others all either (so_far (mid - before) (omega (arith, first), below)) (here (now - mid) (omega (arith, risen), rose.1)))

-- where one fault came in all, and a first step had one, all went well in the second
pub second_well : (before mid now : ℕ) (well : Bool) → Tells before mid false → Tells mid now well → FailedOnce before now → well ≡ true
second_well before mid now true first second once = refl
second_well before mid now false first second once =
    let up = second.rose refl once.1 in
    let below : mid < 2 ^ 64 - 1 = omega (arith, up, once.1) in
    absurd (omega (arith, up, first.rose refl below, once.0))
