-- How a raw file's count of faults goes on, and what so many faults may leave lost. The count ends at 2^64 - 1.
use Rattle.std.specs.Prelude.{◌≡◌, ℕ, ◌+◌, ◌-◌, ◌^◌, ◌<◌, ◌≤◌, ◌⊎◌}
use Rattle.std.specs.Prelude.{Bool, false, List, [], ◌∷◌, length}
use Rattle.rb_rawfile.specs.RawModel.{IsOf}

-- So many faults came: the count rose by them, and hasn't reached its end.
abbrev pub RoseBy : (faults before now : ℕ) → Type 0
RoseBy faults before now = (now ≡ before + faults) × (now < 2 ^ 64 - 1)

-- one fault came
abbrev pub FailedOnce : (before now : ℕ) → Type 0
FailedOnce before now = RoseBy 1 before now

-- An answer tells faults: short of its end the count never falls, and where not all went well it rose.
pub record Tells (before now : ℕ) (well : Bool) : Type 0 where
  pub no_less : now < 2 ^ 64 - 1 → before ≤ now
  pub rose : well ≡ false → now < 2 ^ 64 - 1 → before < now

-- a place is in one of the pieces of 4,096 bytes that begin here
abbrev pub InOne : List ℕ → ℕ → Type 0
InOne [] place = ⊥
InOne (start ∷ starts) place = IsOf start 4096 place ⊎ InOne starts place

-- all these places are in so many pieces, or fewer
abbrev pub InPieces : ℕ → (ℕ → Type 0) → Type 0
InPieces count places = (starts : List ℕ) × (length starts ≤ count)
    × ((place : ℕ) → places place → InOne starts place)

-- of these places, those in a file of this length that are lost
abbrev pub lost_of : (ℕ → Type 0) → ℕ → (ℕ → Type 0) → ℕ → Type 0
lost_of places len lost place = places place × (place < len) × lost place
