-- A chain that can't be taken back for want of room would keep more rows than there is room for.
use Rattle.std.proofs.Common.{◌≡◌, inl, inr, ◌<◌, ◌≤◌, ◌+◌, ◌-◌, ℕ, suc, length, Option, Some, None}
use Rattle.std.proofs.Common.{sym, subst, arith}
use Rattle.rb_base.specs.declared.ids.Xid.{Xid}
use Rattle.law_read.specs.Chains.{applied, fits}
use Rattle.law_read.specs.Keeping.{kept_room, Kept, keep, kept_one, kept_go, kept_after}
use Rattle.law_home.specs.Kinds.{Undo}
use Rattle.law_home.specs.Walk.{Home, Env, entry_at, back}
use Rattle.law_read.proofs.Keeping.{kept_grows, bools}

one_grows : (env : Env) (mine : Option Xid) (upto n i : ℕ) (xid : Xid) (b : Home) (kept : Kept)
    → length (kept_one mine upto i xid b (env.store (entry_at b i).newest) kept) ≤ length (kept_after env mine upto (suc n) i xid b kept)
one_grows env mine upto n i xid b kept = by_store (env.store (entry_at b i).newest)
  where
    by_store : (o : Option Undo) → length (kept_one mine upto i xid b o kept) ≤ length (kept_go (applied i xid b o) (λ b2. kept_after env mine upto n i xid b2 (kept_one mine upto i xid b o kept)) kept)
    by_store None = omega arith
    by_store (Some r) = elim (bools (fits i xid b r)) [
      | inl yes_fits ↦ rw yes_fits (kept_grows env mine upto n i xid (back r b) (keep mine upto r b kept))
      | inr no_fit ↦ rw no_fit (omega arith)
    ]

pub room_fails : (env : Env) (mine : Option Xid) (upto n k i : ℕ) (xid : Xid) (b : Home) (kept : Kept) → k < n
    → kept_room < length (kept_one mine upto i xid b (env.store (entry_at b i).newest) kept) → kept_room < length (kept_after env mine upto (n - k) i xid b kept)
room_fails env mine upto n k i xid b kept lt full =
    let grown : length (kept_one mine upto i xid b (env.store (entry_at b i).newest) kept) ≤ length (kept_after env mine upto (suc (n - (k + 1))) i xid b kept) = one_grows env mine upto (n - (k + 1)) i xid b kept in
    subst (λ (z : ℕ). kept_room < length (kept_after env mine upto z i xid b kept)) (sym e) (omega (arith, full, grown))
  where
    e : n - k ≡ suc (n - (k + 1))
    e = omega arith
