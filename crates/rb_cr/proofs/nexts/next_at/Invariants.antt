use Rattle.rb_cr.proofs.nexts.next_at.Given as goal

abbrev pub ghosts-next_rebuilt : goal.ghosts-next_rebuilt
ghosts-next_rebuilt g a = record { name = a.blank.name; parts = a.blank.parts }
