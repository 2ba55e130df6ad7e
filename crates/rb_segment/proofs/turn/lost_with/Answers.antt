use Rattle.std.proofs.Common.{◌==◌, max, ap, sym, ◌∙◌, arith}
use Rattle.std.proofs.lemmas.Bool.{cond-true, cond-false}
use Rattle.std.proofs.lemmas.Bool.Decides.{nat_tests}
use Rattle.rb_segment.proofs.Parts.{ring_read}
use Rattle.rb_segment.specs.Header.{header_of}
use Rattle.rb_segment.proofs.turn.lost_with.Goals as goal

pub returns-then-old-eq0 : goal.returns-then-old-eq0
returns-then-old-eq0 c =
    let h = header_of c.args.header.now in
    c.lost.ensures ∙ sym (ring_read c.args.header.now).3 ∙ sym (cond-true (c.args.old.ord == 0) h.lost (max h.lost c.args.old.newest) (grind (arith, nat_tests, c.if-old-eq0.true)))

pub returns-else-old-eq0 : goal.returns-else-old-eq0
returns-else-old-eq0 c =
    let h = header_of c.args.header.now in
    let lost = c.lost-else-old-eq0.ensures ∙ sym (ring_read c.args.header.now).3 in
    c.max.ensures ∙ ap (λ n. max n c.args.old.newest) lost ∙ sym (cond-false (c.args.old.ord == 0) h.lost (max h.lost c.args.old.newest) (grind (arith, nat_tests, c.if-old-eq0.false)))
