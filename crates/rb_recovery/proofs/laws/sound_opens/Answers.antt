use Rattle.rb_recovery.proofs.Sound.{sound_as}
use Rattle.rb_recovery.proofs.laws.sound_opens.Goals as goal

pub returns : goal.returns
returns c = sound_as
