-- A source and a sink in memory.
use Rattle.std.specs.Prelude.{ℕ, ◌+◌, ◌<◌, ◌⊎◌, List, length}
use Rattle.rb_stream.specs.FaultPlan.{Plan, IsFailing}

-- the bytes that are left, and the calls
pub record SourceState : Type 0 where
  pub left : List ℕ
  pub plan : Plan

-- the bytes that it holds, how many it has room for in all, and the calls
pub record SinkState : Type 0 where
  pub held : List ℕ
  pub room : ℕ
  pub plan : Plan

-- a put of n bytes fails: its number is listed, or it passes the room
abbrev pub Refuses : SinkState → ℕ → Type 0
Refuses sink n = IsFailing sink.plan ⊎ (sink.room < length sink.held + n)
