use Rattle.law_redo.proofs.Heads.{after_head, rolled_head}
use Rattle.law_redo.proofs.laws.heads_stay.Goals as goal

pub returns : goal.returns
returns c = record {
  after = λ which n gs x long valid. after_head which n gs x long valid;
  rolled = λ which n gs x long valid. rolled_head which n gs x long valid;
}
