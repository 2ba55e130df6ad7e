use Rattle.std.proofs.Common.{◌≡◌, false, true, arith}
use Rattle.std.proofs.lemmas.Bool.{false≢true}
use Rattle.rb_segment.proofs.Parts.{ring_read}
use Rattle.rb_sound.proofs.active.has_begun.Goals.{then-slot-eq0-via-then-slot-eq0, then-slot-eq0-via-else-slot-eq0+then-slot-writes}
use Rattle.rb_sound.proofs.active.has_begun.Goals as goal

pub returns-then-slot-eq0 : goal.returns-then-slot-eq0
returns-then-slot-eq0 c =
    let read = ring_read c.args.header.now in (
      λ (e : false ≡ true). absurd (false≢true e),
      λ begun. elim c.then-slot-eq0.branch [
        | then-slot-eq0-via-then-slot-eq0 w ↦ absurd (omega (arith, begun.some, w.if-slot-eq0.true))
        | then-slot-eq0-via-else-slot-eq0+then-slot-writes w ↦ absurd (omega (arith, begun.start, read.2, w.writes.ensures, w.if-slot-writes.true))
      ],
    )

pub returns : goal.returns
returns c =
    let read = ring_read c.args.header.now in (
      λ is. record {
        some = omega (arith, c.if-slot-eq0.false);
        first = c.has_turn.ensures.0 is;
        start = omega (arith, c.if-slot-writes.false, c.writes.ensures, read.2);
      },
      λ begun. c.has_turn.ensures.1 begun.first,
    )
