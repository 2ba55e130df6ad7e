-- The table slot that a transaction takes, of the first few, one slot more at a time.
use Rattle.std.proofs.Common.{◌≡◌, ◌≢◌, ℕ, ◌+◌, ◌<◌, ◌≤◌, List, Option, None, Some, IfSome, IfNone, arith, inl, inr}
use Rattle.std.proofs.lemmas.Bool.{cases_lt, cases_eq}
use Rattle.rb_txntable.specs.Slots.{slot_state, slot_newest}

-- slot c is to be taken, of the first n
pub record IsBest (header : List ℕ) (n c : ℕ) : Type 0 where
  pub within : c < n
  pub idle : slot_state header c ≢ 1
  pub least : (j : ℕ) → j < n → slot_state header j ≢ 1 → slot_newest header c ≤ slot_newest header j
  pub first : (j : ℕ) → j < c → slot_state header j ≢ 1 → slot_newest header j ≢ slot_newest header c

pub record IsChoice (header : List ℕ) (n : ℕ) (chosen : Option ℕ) : Type 0 where
  pub found : IfSome chosen (IsBest header n)
  pub none : IfNone chosen ((j : ℕ) → j < n → slot_state header j ≡ 1)

-- slot n is to be taken in place of the chosen one
abbrev pub IsPreferred : List ℕ → ℕ → Option ℕ → Type 0
IsPreferred header n chosen = (slot_state header n ≢ 1) × IfSome chosen (λ c. slot_newest header n < slot_newest header c)

pub no_choice : (header : List ℕ) → IsChoice header 0 None
no_choice header = record { found = tt; none = λ j lt. absurd (omega arith) }

pub taken : (header : List ℕ) (n : ℕ) (chosen : Option ℕ) → IsChoice header n chosen → IsPreferred header n chosen → IsChoice header (n + 1) (Some n)
taken header n None h preferred = record {
  found = record {
    within = omega arith;
    idle = preferred.0;
    least = λ j lt idle.
        elim (cases_lt j n) [
          | inl before ↦ absurd (idle (h.none j before))
          | inr le ↦ let same : j ≡ n = omega arith in rw same (omega arith)
        ];
    first = λ j lt idle. absurd (idle (h.none j lt));
  };
  none = tt;
}
taken header n (Some c) h preferred =
    let best : IsBest header n c = h.found in
    record {
      found = record {
        within = omega arith;
        idle = preferred.0;
        least = λ j lt idle.
            elim (cases_lt j n) [
              | inl before ↦ omega (arith, best.least j before idle, preferred.1)
              | inr le ↦ let same : j ≡ n = omega arith in rw same (omega arith)
            ];
        first = λ j lt idle is. omega (arith, best.least j lt idle, preferred.1, is);
      };
      none = tt;
    }

pub passed : (header : List ℕ) (n : ℕ) (chosen : Option ℕ) → IsChoice header n chosen → (IsPreferred header n chosen → ⊥) → IsChoice header (n + 1) chosen
passed header n None h not_preferred = record {
  found = tt;
  none = λ j lt.
      elim (cases_lt j n) [
        | inl before ↦ h.none j before
        | inr le ↦
            let same : j ≡ n = omega arith in
            elim (cases_eq (slot_state header n) 1) [
              | inl active ↦ rw same active
              | inr idle ↦ absurd (not_preferred (idle, tt))
            ]
      ];
}
passed header n (Some c) h not_preferred =
    let best : IsBest header n c = h.found in
    record {
      found = record {
        within = omega (arith, best.within);
        idle = best.idle;
        least = λ j lt idle.
            elim (cases_lt j n) [
              | inl before ↦ best.least j before idle
              | inr le ↦
                  let same : j ≡ n = omega arith in
                  elim (cases_lt (slot_newest header n) (slot_newest header c)) [
                    | inl less ↦ absurd (not_preferred (rw (← same) idle, less))
                    | inr not_less ↦ rw same not_less
                  ]
            ];
        first = best.first;
      };
      none = tt;
    }
