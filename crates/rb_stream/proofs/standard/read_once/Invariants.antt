use Rattle.std.specs.Io.KnownBytes.{Keeps}
use Rattle.rb_stream.proofs.standard.read_once.Given as goal

-- the calls so far were interrupted, and took nothing
abbrev pub invariant-loop : goal.invariant-loop
invariant-loop g l = Keeps (g.R.Read.remaining l.initial.reader) (g.R.Read.remaining l.reader)
