use Rattle.std.proofs.Common.{refl}
use Rattle.rb_cr.proofs.Sharing.{found_is}
use Rattle.rb_cr.proofs.nexts.next_kept.Goals as goal

pub returns-in-Some-clause-some : goal.returns-in-Some-clause-some
returns-in-Some-clause-some c =
    let kept = c.args.copies.now.kept in (
      c.in-Some.home.now,
      found_is kept kept c.args.key c.peek.result c.in-Some.home refl c.peek.ensures.copy c.in-Some.is,
      c.if-home-number.true,
      record { given = c.begin.ensures.given; none = c.begin.ensures.none; kept = c.begin.ensures.kept },
    )
