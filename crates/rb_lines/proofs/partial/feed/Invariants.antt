use Rattle.std.proofs.Common.{◌≡◌, ℕ, false, List, ◌++◌, length, take, Ok}
use Rattle.rb_model.specs.Out.{Logged, outside_by}
use Rattle.rb_lines.specs.Ran.{Did, RanAs}
use Rattle.rb_lines.specs.Pieces.{lines_from, rest_from}
use Rattle.rb_lines.proofs.partial.feed.Given as goal

-- which bytes were fed, those before what is left, and what was done with them
abbrev pub invariant-loop-size : goal.invariant-loop-size
invariant-loop-size g l = record {
  fed : (taken : List ℕ) × (l.bytes ≡ taken ++ l.rest)
      × ((m : Logged) (line : List ℕ) → g.M.LineRunner.stands l.initial.runner m → m.state.stopped ≡ false → l.initial.partial.items ≡ take 513 line
      → Did g.M.LineRunner.stands g.M.LineRunner.since l.initial.runner l.runner m
      (λ now. RanAs (outside_by g.M.LineRunner.worn g.M.LineRunner.back g.M.LineRunner.makes) m now (lines_from line taken) g.K.Sink.tells (g.K.Sink.held l.initial.sink) (g.K.Sink.held l.sink) (Ok tt)))
      × ((line : List ℕ) → l.initial.partial.items ≡ take 513 line → l.partial.items ≡ take 513 (rest_from line taken));
  disk : g.M.LineRunner.faults l.runner ≡ g.M.LineRunner.faults l.initial.runner;
  sink : g.K.Sink.faults l.sink ≡ g.K.Sink.faults l.initial.sink;
}

abbrev pub decreases-loop-size : goal.decreases-loop-size
decreases-loop-size g l = length l.rest
