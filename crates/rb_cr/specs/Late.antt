-- What a watch tells once records were taken back, of decoded homes.
use Rattle.std.specs.Prelude.{◌≡◌, ◌||◌, ◌-◌, ◌^◌, ℕ, Bool, true, List, Some, None, Result, OnOk}
use Rattle.rb_base.specs.declared.ids.Xid.{Xid}
use Rattle.rb_cr.specs.Calls.{Said}
use Rattle.rb_cr.specs.Scratches.{scratch_home}
use Rattle.rb_cr.specs.declared.faults.CrFault.{CrFault}
use Rattle.rb_cr.specs.declared.scratch.Scratch.{Scratch}
use Rattle.rb_cr.specs.declared.watch.Watch.{Watch}
use Rattle.law_read.specs.Late.{late_above, touched, touched_after, touches}
use Rattle.law_read.specs.Turns.{Starts}
use Rattle.law_home.specs.Walk.{Commit, Rows, entry_at}

-- the watch is on this key, and no commit that changes it was taken back
abbrev pub IsFresh : Watch → ℕ → Type 0
IsFresh watch key = (watch.key ≡ Some key) × (watch.first ≡ None)

-- one record was taken back
abbrev pub SeesStep : Said → ℕ → Scratch → Scratch → Bool → Type 0
SeesStep said i old new whole = (key : ℕ) → old.watch.key ≡ Some key → whole ≡ true → new.watch.seen
    ≡ old.watch.seen || touches key (said.env.store (entry_at (scratch_home said.shape old) i).newest)

-- so many were
abbrev pub SeesAll : Said → ℕ → ℕ → Xid → Scratch → Scratch → Bool → Type 0
SeesAll said n i xid old new whole = (key : ℕ) → old.watch.key ≡ Some key → whole ≡ true → new.watch.seen
    ≡ old.watch.seen || touched_after said.env key n i xid (scratch_home said.shape old)

-- an entry's whole chain was
abbrev pub SeesChain : Said → ℕ → Scratch → Result (Unit {0}) CrFault → Scratch → Type 0
SeesChain said i old result new = (key : ℕ) → old.watch.key ≡ Some key
    → OnOk result (new.watch.seen ≡ touched said.env key (scratch_home said.shape old) i)

-- the commits above n were
abbrev pub SeesFirst : Said → ℕ → Scratch → Result (Unit {0}) CrFault → Scratch → Type 0
SeesFirst said n old result new = (key base : ℕ) (rows : Rows) (list : List Commit) → IsFresh old.watch key
    → Starts said.env base rows n (2 ^ 64 - 1) list (scratch_home said.shape old)
    → OnOk result (new.watch.first ≡ late_above n key list)
