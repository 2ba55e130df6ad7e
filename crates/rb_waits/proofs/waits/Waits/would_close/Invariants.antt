use Rattle.std.proofs.Common.{◌≡◌, ◌-◌, length}
use Rattle.rb_model.specs.Queue.{closes, leads}
use Rattle.rb_waits.proofs.waits.Waits.would_close.Given as goal

abbrev pub invariant-loop-step : goal.invariant-loop-step
invariant-loop-step l = closes l.self l.s l.u ≡ leads (length l.queue - l._step) l.self l.s l.at
