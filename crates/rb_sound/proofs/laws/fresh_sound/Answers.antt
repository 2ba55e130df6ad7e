use Rattle.rb_sound.proofs.Fresh.{active_fresh, segments_fresh, homes_fresh}
use Rattle.rb_sound.proofs.laws.fresh_sound.Goals as goal

pub returns : goal.returns
returns c shape = record {
  segments = λ g lt. segments_fresh shape _ g lt;
  homes = λ which lt. homes_fresh shape _ _ _ which lt;
  active = active_fresh _ shape;
}
