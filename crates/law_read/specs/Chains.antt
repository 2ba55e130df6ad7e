-- An entry's chain of records taken back, the newest first.
use Rattle.std.specs.Prelude.{◌≡◌, ◌⊎◌, ◌<◌, ◌==◌, ◌&&◌, ◌+◌, ℕ, zero, suc}
use Rattle.std.specs.Prelude.{if◌then◌else◌, nat_lt}
use Rattle.std.specs.Prelude.{List, [], ◌∷◌, length, Option, Some, None, Bool, true}
use Rattle.rb_base.specs.declared.ids.Xid.{Xid}
use Rattle.law_home.specs.Kinds.{Status, Free, Open, Exact, Bound, Entry, Undo}
use Rattle.law_home.specs.Walk.{Home, Env, entry_at, back}
use Rattle.law_home.specs.Writes.{is_open}

abbrev pub same_xid : Xid → Xid → Bool
same_xid a b = (a.seg == b.seg) && ((a.slot == b.slot) && (a.wrap == b.wrap))

-- the entry is this transaction's, which was still to commit
abbrev pub is_own : Xid → Entry → Bool
is_own xid e = is_open e.status && same_xid e.xid xid

-- where both say a number, the first one is lower
abbrev pub number_falls : Status → Status → Bool
number_falls (Exact k) (Exact c) = nat_lt k c
number_falls (Exact k) Free = true
number_falls (Exact k) Open = true
number_falls (Exact k) (Bound b) = true
number_falls Free status = true
number_falls Open status = true
number_falls (Bound b) status = true

-- The entry before is the transaction's own, with a chain shorter by one; or it is another's, below it, and then this
-- was the last record of the chain.
abbrev pub leads_back : Xid → Entry → Entry → Bool
leads_back xid e before =
    if is_own xid before then before.chain + 1 == e.chain else e.chain == 1 && number_falls before.status e.status

-- a record names this entry, this transaction, this block and a cell that there is
abbrev pub names : ℕ → Xid → Home → Undo → Bool
names i xid b r =
    r.entry == i && (same_xid r.xid xid && (r.home == b.block && nat_lt r.cell (length b.cells)))

-- It does, and leads back. One that doesn't is of a place that was used again.
abbrev pub fits : ℕ → Xid → Home → Undo → Bool
fits i xid b r = names i xid b r && leads_back xid (entry_at b i) r.entry_before

abbrev pub applied : ℕ → Xid → Home → Option Undo → Option Home
applied i xid b None = None
applied i xid b (Some r) = if fits i xid b r then Some (back r b) else None

-- the newest record of entry i's chain taken back, or none where it is gone
abbrev pub stepped : Env → ℕ → Xid → Home → Option Home
stepped env i xid b = applied i xid b (env.store (entry_at b i).newest)

abbrev pub and_then : Option Home → (Home → Option Home) → Option Home
and_then None go = None
and_then (Some b) go = go b

-- so many records of entry i's chain taken back, or none where one is gone
abbrev pub unwound : Env → ℕ → ℕ → Xid → Home → Option Home
unwound env zero i xid b = Some b
unwound env (suc n) i xid b = and_then (stepped env i xid b) (unwound env n i xid)

-- so many were, and the next one is gone
abbrev pub Stops : Env → ℕ → Xid → Home → ℕ → Type 0
Stops env i xid b k = (b2 : Home) × (unwound env k i xid b ≡ Some b2) × (stepped env i xid b2 ≡ None)

-- entry i's whole chain taken back
abbrev pub spent : Env → Home → ℕ → Option Home
spent env b i = unwound env (entry_at b i).chain i (entry_at b i).xid b

-- From home start and count first on, the whole chains of these entries were taken back, the last one of them first in
-- the list, and each record was counted. That left this home and this count.
abbrev pub Whole : Env → Home → ℕ → List ℕ → Home → ℕ → Type 0
Whole env start first [] b count = (b ≡ start) × (count ≡ first)
Whole env start first (i ∷ before) b count = (mid : Home) × (k : ℕ) × Whole env start first before mid k
    × (spent env mid i ≡ Some b) × (count ≡ k + (entry_at mid i).chain)

-- Whole chains were taken back and counted, and then the first k records of one more, whose next one is gone; or none.
abbrev pub Counted : Env → Home → ℕ → ℕ → Type 0
Counted env start first count = (entries : List ℕ) × (b : Home) × (so_far : ℕ)
    × Whole env start first entries b so_far
    × ((count ≡ so_far) ⊎ ((i : ℕ) × (k : ℕ) × (k < (entry_at b i).chain)
    × Stops env i (entry_at b i).xid b k × (count ≡ so_far + k)))
