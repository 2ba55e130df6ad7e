-- What a rebuild promises of a block of a store.
use Rattle.std.specs.Prelude.{ℕ, List}
use Rattle.rb_base.specs.declared.shape.Shape.{Shape}
use Rattle.rb_cr.specs.Faults.{Because}
use Rattle.rb_cr.specs.declared.faults.CrFault.{CrFault}
use Rattle.rb_cr.specs.declared.scratch.Snapshot.{Snapshot}
use Rattle.law_read.specs.Reading.{History, Reading, Worn}
use Rattle.law_blocks.specs.Standing.{env_of, homes_of}

-- the home of a block stands for a history, by what the segments of the same blocks say, and may be read at a snapshot
abbrev pub IsHomeRead : Shape → List (List ℕ) → ℕ → History → Snapshot → Type 0
IsHomeRead shape blocks which h snap =
    Reading (env_of shape blocks) h snap.own snap.upto snap.scn (homes_of shape blocks which)

-- A failed call; or the snapshot, and what a segment lost above it, for which that home is worn.
abbrev pub IsHomeOld : Shape → List (List ℕ) → ℕ → History → Snapshot → CrFault → Type 0
IsHomeOld shape blocks which h snap =
    Because (env_of shape blocks) snap.scn (Worn (env_of shape blocks) h snap.scn (homes_of shape blocks which))
