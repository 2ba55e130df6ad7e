use Rattle.law_redo.proofs.Rolling.{rolled_again, rolled_joined, rolled_prefix, rolled_above}
use Rattle.law_redo.proofs.laws.rolling_again.Goals as goal

pub returns : goal.returns
returns c = record {
  again = λ which n gs x few. rolled_again which n gs x few;
  joined = λ which n gs more x. rolled_joined which n gs more x;
  front = λ which n gs more x few. rolled_prefix which n gs more x few;
  above = λ which n gs x few low. rolled_above which n gs x few low;
}
