use Rattle.rb_cr.specs.Scratches.{scratch_home}
use Rattle.rb_cr.proofs.Away.{is_here}
use Rattle.rb_cr.proofs.copies.is_away.Goals as goal

pub returns-then-has_entry-clause-here : goal.returns-then-has_entry-clause-here
returns-then-has_entry-clause-here g c = λ told no away.
    let said = g.S.Segments.says c.args.segments.now in
    let one = c.has_entry.ensures.some c.if-has_entry.true said.shape in
    is_here said.env (scratch_home said.shape c.args.scratch.now) c.args.xid one.0 one.1 away
