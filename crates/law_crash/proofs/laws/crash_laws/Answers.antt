use Rattle.law_crash.proofs.Crashes.{stands_at_end, survives_on, whole_after}
use Rattle.law_crash.proofs.laws.crash_laws.Goals as goal

pub returns : goal.returns
returns g c = record {
  whole = λ slots fault h i going end. stands_at_end g.S.Store.opens slots fault h i going end;
  other = λ slots fault h i commit write end. whole_after g.S.Store.opens slots fault h i commit write end;
  joined = λ slots first fault h m h2 old mid new going a b. survives_on g.S.Store slots h m h2 old mid new going a b;
}
