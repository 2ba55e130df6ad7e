use Rattle.law_redo.proofs.Rolling.{no_lower, rolled_high, after_high}
use Rattle.law_redo.proofs.laws.rolling_numbers.Goals as goal

pub returns : goal.returns
returns c = record {
  no_lower = λ which n gs x few. no_lower which n gs x few;
  no_higher = λ which n gs x most few le low. rolled_high which n gs x most few le low;
  below = λ which n gs x few low. after_high which n gs x few low;
}
