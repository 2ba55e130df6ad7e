-- What a crash may leave of an object, now or at some moment since a stated one, and how that goes on over several
-- calls. An image is what is left: the bytes of a file, say.
use Rattle.std.specs.Prelude.{◌⊎◌, ℕ, ◌≤◌}
use Rattle.std.proofs.Common.{inl, inr, ⊎_elim, arith}

-- a crash may leave nothing now that it mightn't have left before
abbrev pub NoMore : {X : Type 0} → (X → Type 0) → (X → Type 0) → Type 0
NoMore {X} before now = (c : X) → now c → before c

-- Time goes on: what a crash may have left at some moment since t is what it may have left by the call's
-- start, or what it may leave now. Nothing is forgotten: what it may have left by then, it may have left still.
pub record Passes {X : Type 0} (before now : ℕ) (since_before since_now : ℕ → X → Type 0) (image : X
    → Type 0) : Type 0 where
  pub later : before ≤ now
  pub splits : (t : ℕ) (c : X) → t ≤ before → since_now t c → since_before t c ⊎ image c
  pub stay : (t : ℕ) (c : X) → t ≤ before → since_before t c → since_now t c

-- Each image that a crash at some moment since `old` may have left has P.
pub record LeavesOnly {D X : Type 0} (moment : D → ℕ) (since : D → ℕ → X → Type 0) (old new : D) (P : X
    → Type 0) : Type 0 where
  pub later : moment old ≤ moment new
  pub each : (c : X) → since new (moment old) c → P c
  -- for a call that began earlier
  pub earlier : (t : ℕ) (c : X) → t ≤ moment old → since new t c → since old t c ⊎ P c

-- A crash may leave nothing but what it might have left before: now, or at some moment since. Nothing is forgotten.
pub record LeavesNoMore {D X : Type 0} (left : D → X → Type 0) (moment : D → ℕ) (since : D → ℕ → X
    → Type 0) (old new : D) : Type 0 where
  pub no_more : NoMore (left old) (left new)
  pub later : moment old ≤ moment new
  pub nothing_else : (t : ℕ) (c : X) → t ≤ moment old → since new t c → since old t c ⊎ left old c
  pub stay : (t : ℕ) (c : X) → t ≤ moment old → since old t c → since new t c

module _ {D X : Type 0} (left : D → X → Type 0) (moment : D → ℕ) (since : D → ℕ → X → Type 0) where
  -- no call at all
  pub no_call : (disk : D) → LeavesNoMore left moment since disk disk
  no_call disk = record {
    no_more = λ c now. now;
    later = omega arith;
    nothing_else = λ t c le was. inl was;
    stay = λ t c le was. was;
  }

  -- one call after which there is no more than before
  pub one_call : (old new : D) → NoMore (left old) (left new)
      → Passes (moment old) (moment new) (since old) (since new) (left new) → LeavesNoMore left moment since old new
  one_call old new fewer time = record {
    no_more = fewer;
    later = time.later;
    nothing_else = λ t c le was. ⊎_elim (λ before. inl before) (λ now. inr (fewer c now)) (time.splits t c le was);
    stay = time.stay;
  }

  -- several such calls after several others
  pub more_calls : (old mid new : D) → LeavesNoMore left moment since old mid
      → LeavesNoMore left moment since mid new
      → LeavesNoMore left moment since old new
  more_calls old mid new first second = record {
    no_more = λ c now. first.no_more c (second.no_more c now);
    later = omega (arith, first.later, second.later);
    nothing_else = λ t c le was.
        ⊎_elim (first.nothing_else t c le) (λ now. inr (first.no_more c now))
        (second.nothing_else t c (omega (arith, le, first.later)) was);
    stay = λ t c le was. second.stay t c (omega (arith, le, first.later)) (first.stay t c le was);
  }

  -- such calls leave P where each image has it already
  pub still_leaves : (old new : D) (P : X → Type 0) → ((c : X) → since old (moment old) c → left old c)
      → ((c : X) → left old c → P c) → LeavesNoMore left moment since old new
      → LeavesOnly moment since old new P
  still_leaves old new P only_now here still = record {
    later = still.later;
    each = λ c was. ⊎_elim (λ before. here c (only_now c before)) (here c)
        (still.nothing_else (moment old) c (omega arith) was);
    earlier = λ t c le was. ⊎_elim (λ before. inl before) (λ now. inr (here c now))
        (still.nothing_else t c le was);
  }

module _ {D X : Type 0} (moment : D → ℕ) (since : D → ℕ → X → Type 0) where
  -- before the first call; the premise is that each image now has P
  pub begun : (disk : D) (P : X → Type 0) → ((c : X) → since disk (moment disk) c → P c)
      → LeavesOnly moment since disk disk P
  begun disk P here = record { later = omega arith; each = here; earlier = λ t c le left. inl left }

  -- one call more, after which each image has P
  pub goes_on : (old mid new : D) (P image : X → Type 0) → LeavesOnly moment since old mid P
      → Passes (moment mid) (moment new) (since mid) (since new) image
      → ((c : X) → image c → P c) → LeavesOnly moment since old new P
  goes_on old mid new P image so_far time here = record {
    later = omega (arith, so_far.later, time.later);
    each = λ c left. ⊎_elim (so_far.each c) (here c) (time.splits (moment old) c so_far.later left);
    earlier = λ t c le left. ⊎_elim (so_far.earlier t c le) (λ now. inr (here c now))
        (time.splits t c (omega (arith, le, so_far.later)) left);
  }

  -- what follows from P
  pub weaker : (old new : D) (P Q : X → Type 0) → ((c : X) → P c → Q c) → LeavesOnly moment since old new P
      → LeavesOnly moment since old new Q
  weaker old new P Q so leaves = record {
    later = leaves.later;
    each = λ c left. so c (leaves.each c left);
    earlier = λ t c le left. ⊎_elim (λ was. inl was) (λ has. inr (so c has)) (leaves.earlier t c le left);
  }

  -- several calls after several others
  pub joined : (old mid new : D) (P : X → Type 0) → LeavesOnly moment since old mid P
      → LeavesOnly moment since mid new P → LeavesOnly moment since old new P
  joined old mid new P first second = record {
    later = omega (arith, first.later, second.later);
    each = λ c left. ⊎_elim (first.each c) (λ has. has) (second.earlier (moment old) c first.later left);
    earlier = λ t c le left. ⊎_elim (first.earlier t c le) (λ has. inr has)
        (second.earlier t c (omega (arith, le, first.later)) left);
  }
