use Rattle.std.proofs.Common.{◌≡◌, ◌+◌, refl, sym, ◌∙◌, arith}
use Rattle.rb_segment.proofs.Parts.{ring_read}
use Rattle.rb_segment.proofs.take.claimed_slot.Goals as goal

pub returns-clause-slot : goal.returns-clause-slot
returns-clause-slot c young =
    let writes = c.writes.ensures ∙ sym (ring_read c.args.header.now).2 in
    let wrap : c.saturating_add.result ≡ c.args.slot.wrap + 1 = omega (arith, young, c.saturating_add.ensures) in
    rw (writes, wrap) refl
