use Rattle.std.specs.Io.KnownBytes.{Keeps}
use Rattle.rb_stream.proofs.standard.flush_once.Given as goal

-- the calls so far were interrupted, and wrote nothing
abbrev pub invariant-loop : goal.invariant-loop
invariant-loop g l = Keeps (g.W.Write.contents l.initial.writer) (g.W.Write.contents l.writer)
