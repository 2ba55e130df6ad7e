use Rattle.std.proofs.Common.{◌≡◌, ◌≤◌, ◌<◌, ℕ, List, false, length, take}
use Rattle.rb_model.specs.Out.{Logged, outside_by}
use Rattle.rb_lines.specs.Ran.{Did}
use Rattle.rb_lines.proofs.Parts.{Part}
use Rattle.rb_lines.proofs.lines.run_lines.Given as goal

abbrev pub invariant-loop-room : goal.invariant-loop-room
invariant-loop-room g l = record {
  buffer : length l.buffer ≡ length l.initial.buffer;
  some : 0 < length l.buffer;
  room : l.room ≤ 1000000000;
  part : g.S.Source.tells → Part g.M.LineRunner.stands g.M.LineRunner.since l.initial.runner l.runner (outside_by g.M.LineRunner.worn g.M.LineRunner.back g.M.LineRunner.makes) g.K.Sink.tells (g.K.Sink.held l.initial.sink) (g.K.Sink.held l.sink) (g.S.Source.left l.initial.source) (g.S.Source.left l.source) l.partial.items l.room;
  -- whatever the source tells: some line is under way, and the runner has come to some state
  line : List ℕ;
  held : l.partial.items ≡ take 513 line;
  passed : (m : Logged) → g.M.LineRunner.stands l.initial.runner m → m.state.stopped ≡ false
      → Did g.M.LineRunner.stands g.M.LineRunner.since l.initial.runner l.runner m (λ now. now.state.stopped ≡ false);
  source : g.S.Source.faults l.source ≡ g.S.Source.faults l.initial.source;
  disk : g.M.LineRunner.faults l.runner ≡ g.M.LineRunner.faults l.initial.runner;
  sink : g.K.Sink.faults l.sink ≡ g.K.Sink.faults l.initial.sink;
}

abbrev pub decreases-loop-room : goal.decreases-loop-room
decreases-loop-room g l = l.room
