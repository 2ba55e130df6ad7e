use Rattle.rb_shell.proofs.NewFile.{new_file}
use Rattle.rb_shell.proofs.laws.new_file_sound.Goals as goal

pub returns : goal.returns
returns c = λ l. new_file l
