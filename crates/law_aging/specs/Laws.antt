-- What each kind of group makes of segments as they grow older, and of homes that are kept at a number meanwhile.
use Rattle.std.specs.Prelude.{◌≡◌, ◌<◌, ◌≤◌, ◌*◌, ◌+◌, ◌++◌, ℕ, List, [], ◌∷◌}
use Rattle.law_aging.specs.Kept.{IsKept, SegmentsAge}
use Rattle.rb_base.specs.declared.ids.Uba.{Uba}
use Rattle.rb_base.specs.declared.ids.Xid.{Xid}
use Rattle.rb_base.specs.declared.shape.Shape.{Shape}
use Rattle.rb_base.specs.declared.sizes.TheConstants.{ACTIVE}
use Rattle.rb_model.specs.Change.{Kind}
use Rattle.rb_model.specs.NextState.{committed}
use Rattle.rb_model.specs.State.{State}
use Rattle.rb_segment.specs.Header.{Segment}
use Rattle.law_blocks.specs.StandingLaws.{RunningAs}
use Rattle.law_blocks.specs.States.{BlocksStandAs}
use Rattle.law_blocks.specs.Values.{Past, StandingAs, slot_of}
use Rattle.law_blocks.specs.Writes.{Written, PutBack, committed_segments, ended_segments}
use Rattle.rb_undoblock.specs.declared.record.UndoRecord.{UndoRecord}
use Rattle.law_home.specs.Walk.{Change, Home}

-- A write leaves the segments older,
abbrev pub WriteAges : Type 0
WriteAges = (shape : Shape) (commit logged t : ℕ) (segments after : ℕ → Segment) (homes homes2 : ℕ → Home)
    (past : Past) (lives : List (List Change)) (kind : Kind) (address : Uba) (u : UndoRecord)
    → t < 16 * shape.segments → RunningAs shape commit logged segments homes past lives
    → Written shape commit segments after homes homes2 lives t kind address u → SegmentsAge segments after

-- and so does a put back,
abbrev pub BackAges : Type 0
BackAges = (shape : Shape) (commit logged t : ℕ) (segments after : ℕ → Segment) (homes homes2 : ℕ → Home)
    (past : Past) (lives : List (List Change)) (u : UndoRecord)
    → t < 16 * shape.segments → StandingAs shape commit logged segments homes past lives
    → PutBack shape segments after homes homes2 t u → SegmentsAge segments after

-- a commit at a greater number,
abbrev pub CommitAges : Type 0
CommitAges = (shape : Shape) (commit logged t c : ℕ) (segments : ℕ → Segment)
    (homes : ℕ → Home) (past : Past) (lives : List (List Change)) → t < 16 * shape.segments
    → RunningAs shape commit logged segments homes past lives → (slot_of segments t).state ≡ ACTIVE
    → commit < c → c ≤ logged + 1 → SegmentsAge segments (committed_segments c t segments)

-- and the end of a slot.
abbrev pub EndAges : Type 0
EndAges = (shape : Shape) (commit logged t : ℕ) (segments : ℕ → Segment) (homes : ℕ → Home) (past : Past)
    (lives : List (List Change)) → t < 16 * shape.segments
    → StandingAs shape commit logged segments homes past lives → (slot_of segments t).state ≡ ACTIVE
    → SegmentsAge segments (ended_segments t segments)

-- Segments may stay as they are,
abbrev pub AgesSame : Type 0
AgesSame = (a : ℕ → Segment) → SegmentsAge a a

-- and one group may follow another.
abbrev pub AgesJoin : Type 0
AgesJoin = (a b c : ℕ → Segment) → SegmentsAge a b → SegmentsAge b c → SegmentsAge a c

-- A kept home stands for what it stood for as the segments grow older and the commits stay, whatever becomes of its
-- block,
abbrev pub AgesKeepCopy : Type 0
AgesKeepCopy = (h h2 : State) (xids : List Xid) (commit logged : ℕ) (segments after : ℕ → Segment)
    (homes : ℕ → Home) (b n : ℕ) (home : Home)
    → BlocksStandAs h xids commit logged segments homes → h2.shape ≡ h.shape → h2.commits ≡ h.commits
    → SegmentsAge segments after → IsKept h xids segments b n home → IsKept h2 xids after b n home

-- and as session s commits, whatever else its commit changes.
abbrev pub CommitKeepsCopy : Type 0
CommitKeepsCopy = (h h2 : State) (xids : List Xid) (x : Xid) (commit logged s : ℕ) (segments after : ℕ → Segment)
    (homes : ℕ → Home) (b n : ℕ) (home : Home)
    → BlocksStandAs h xids commit logged segments homes → h2.shape ≡ h.shape
    → h2.commits ≡ (committed h s x.seg x.slot).commits
    → SegmentsAge segments after → IsKept h xids segments b n home → IsKept h2 (xids ++ x ∷ []) after b n home
