-- A write of session 1 in a new file, with all that is asked of it.
use Rattle.std.specs.Prelude.{◌≡◌, ◌≤◌, ℕ, List, [], length}
use Rattle.rb_base.specs.Blocks.{IsShape}
use Rattle.rb_base.specs.declared.ids.Uba.{Uba}
use Rattle.rb_base.specs.declared.shape.Shape.{Shape}
use Rattle.rb_model.specs.Change.{Change, Kind}
use Rattle.rb_model.specs.State.{Session, session_own}
use Rattle.rb_segment.specs.Header.{Segment}
use Rattle.law_blocks.specs.Fresh.{IsFresh, fresh_state}
use Rattle.law_blocks.specs.NextStates.{Takes, SameChange}
use Rattle.law_blocks.specs.Says.{says}
use Rattle.law_blocks.specs.States.{lives_of}
use Rattle.law_blocks.specs.Writes.{Written}
use Rattle.rb_undoblock.specs.declared.record.UndoRecord.{UndoRecord}
use Rattle.law_home.specs.Walk.{Home}

-- The first change of a session in the first table slot of a new file.
pub record FirstWrite : Type 0 where
  pub shape : Shape
  pub in_range : IsShape shape
  pub segments : ℕ → Segment
  pub after : ℕ → Segment
  pub homes : ℕ → Home
  pub homes2 : ℕ → Home
  pub fresh : IsFresh shape segments homes
  pub sessions : List Session
  pub idle : (s : ℕ) → session_own (fresh_state shape sessions) s ≡ []
  pub some : 1 ≤ length sessions
  pub takes : Takes (fresh_state shape sessions) segments 1 0
  pub change : Change
  pub kind : Kind
  pub address : Uba
  pub undo : UndoRecord
  pub is_written : Written shape 0 segments after homes homes2
      (lives_of (fresh_state shape sessions) (says shape segments)) 0 kind address undo
  pub same : SameChange shape change kind address undo
