-- What a transaction reads and may write in each mode.
use Rattle.std.specs.Prelude.{ℕ, Bool, true, false}
use Rattle.rb_model.specs.declared.mode.Isolation.{Isolation}
use Rattle.rb_model.specs.declared.mode.Isolation.TheVariants as isolation
use Rattle.rb_model.specs.declared.mode.Mode.{Mode}
use Rattle.rb_model.specs.declared.mode.Mode.TheVariants as mode

-- of a transaction that asks for a mode when the last commit has that number
abbrev pub isolation_at : ℕ → Mode → Isolation
isolation_at now mode.ReadCommitted = isolation.ReadCommitted
isolation_at now mode.ReadOnly = isolation.ReadOnly now
isolation_at now mode.Serializable = isolation.Serializable now

-- the snapshot of a query that is opened when the last commit has that number
abbrev pub snapshot_at : ℕ → Isolation → ℕ
snapshot_at now isolation.ReadCommitted = now
snapshot_at now (isolation.ReadOnly snapshot) = snapshot
snapshot_at now (isolation.Serializable snapshot) = snapshot

abbrev pub is_read_committed : Isolation → Bool
is_read_committed isolation.ReadCommitted = true
is_read_committed (isolation.ReadOnly snapshot) = false
is_read_committed (isolation.Serializable snapshot) = false

abbrev pub is_read_only : Isolation → Bool
is_read_only isolation.ReadCommitted = false
is_read_only (isolation.ReadOnly snapshot) = true
is_read_only (isolation.Serializable snapshot) = false

-- the mode that a transaction has asked for
abbrev pub mode_of : Isolation → Mode
mode_of isolation.ReadCommitted = mode.ReadCommitted
mode_of (isolation.ReadOnly snapshot) = mode.ReadOnly
mode_of (isolation.Serializable snapshot) = mode.Serializable
