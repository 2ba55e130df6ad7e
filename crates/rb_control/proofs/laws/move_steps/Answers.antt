use Rattle.std.proofs.Common.{refl}
use Rattle.rb_control.specs.Heads.{other_copy}
use Rattle.rb_control.specs.HeadLaws.{other_torn, chooser_torn, moved_head}
use Rattle.rb_control.proofs.laws.move_steps.Goals as goal

pub returns : goal.returns
returns c = record {
  one = λ f g torn. other_torn f g (other_copy f) refl torn;
  two = λ f g torn. chooser_torn f g torn;
  both = λ f head fits slot number. moved_head f head fits slot number;
}
