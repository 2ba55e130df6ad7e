-- How an entry stands to a snapshot: above it by a number, above it by a bound, or not above it.
use Rattle.std.specs.Prelude.{◌≡◌, ◌<◌, ◌≤◌, ℕ}
use Rattle.rb_base.specs.declared.ids.Xid.{Xid}
use Rattle.rb_txntable.specs.declared.looks.Look.{Look}
use Rattle.rb_txntable.specs.declared.looks.Look.TheVariants.{Active, At, Before}
use Rattle.law_home.specs.Kinds.{Entry, Status, Free, Open, Exact, Bound}
use Rattle.law_home.specs.Walk.{Env}

-- the entry's transaction committed at c, as it says or its look
abbrev pub LookNumbered : Look → ℕ → Type 0
LookNumbered Active c = ⊥
LookNumbered (At k) c = k ≡ c
LookNumbered (Before b) c = ⊥

abbrev pub StatusNumbered : Env → Xid → Status → ℕ → Type 0
StatusNumbered env xid Free c = ⊥
StatusNumbered env xid Open c = LookNumbered (env.look xid) c
StatusNumbered env xid (Exact k) c = k ≡ c
StatusNumbered env xid (Bound b) c = ⊥

abbrev pub Numbered : Env → Entry → ℕ → Type 0
Numbered env e c = StatusNumbered env e.xid e.status c

-- no bound above n, no number above c, and nothing active
abbrev pub LookAtMost : ℕ → ℕ → Look → Type 0
LookAtMost n c Active = ⊥
LookAtMost n c (At k) = k ≤ c
LookAtMost n c (Before b) = b ≤ n

abbrev pub StatusAtMost : Env → ℕ → ℕ → Xid → Status → Type 0
StatusAtMost env n c xid Free = Unit {0}
StatusAtMost env n c xid Open = LookAtMost n c (env.look xid)
StatusAtMost env n c xid (Exact k) = k ≤ c
StatusAtMost env n c xid (Bound b) = b ≤ n

abbrev pub AtMost : Env → ℕ → ℕ → Entry → Type 0
AtMost env n c e = StatusAtMost env n c e.xid e.status

-- a bound above n, or active
abbrev pub LookOver : ℕ → Look → Type 0
LookOver n Active = Unit {0}
LookOver n (At k) = ⊥
LookOver n (Before b) = n < b

abbrev pub StatusOver : Env → ℕ → Xid → Status → Type 0
StatusOver env n xid Free = ⊥
StatusOver env n xid Open = LookOver n (env.look xid)
StatusOver env n xid (Exact k) = ⊥
StatusOver env n xid (Bound b) = n < b

abbrev pub Over : Env → ℕ → Entry → Type 0
Over env n e = StatusOver env n e.xid e.status

-- above n by a bound, its own or its look's
abbrev pub LookBeyond : ℕ → Look → Type 0
LookBeyond n Active = ⊥
LookBeyond n (At k) = ⊥
LookBeyond n (Before b) = n < b

abbrev pub StatusBeyond : Env → ℕ → Xid → Status → Type 0
StatusBeyond env n xid Free = ⊥
StatusBeyond env n xid Open = LookBeyond n (env.look xid)
StatusBeyond env n xid (Exact k) = ⊥
StatusBeyond env n xid (Bound b) = n < b

abbrev pub Beyond : Env → ℕ → Entry → Type 0
Beyond env n e = StatusBeyond env n e.xid e.status

-- a bound of its own above n
abbrev pub Late : ℕ → Status → Type 0
Late n Free = ⊥
Late n Open = ⊥
Late n (Exact c) = ⊥
Late n (Bound b) = n < b

-- the same of an entry whose transaction is of this segment
abbrev pub BeyondIn : Env → ℕ → ℕ → Entry → Type 0
BeyondIn env n seg e = Beyond env n e × (e.xid.seg ≡ seg)

abbrev pub LateIn : ℕ → ℕ → Entry → Type 0
LateIn n seg e = Late n e.status × (e.xid.seg ≡ seg)
