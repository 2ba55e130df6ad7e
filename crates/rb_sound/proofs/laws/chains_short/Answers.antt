use Rattle.rb_sound.proofs.Short.{short}
use Rattle.rb_sound.specs.Active.{CouldStand}
use Rattle.rb_sound.proofs.laws.chains_short.Goals as goal

pub returns : goal.returns
returns c shape commit wrap_of = short (CouldStand shape commit wrap_of) shape
