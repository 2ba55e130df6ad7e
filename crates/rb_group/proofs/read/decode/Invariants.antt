use Rattle.rb_group.proofs.Reading.{IsRead}
use Rattle.rb_group.proofs.read.decode.Given as goal

abbrev pub invariant-loop : goal.invariant-loop
invariant-loop l = IsRead l.count l.fn.bytes l.counter l.group l.rest
