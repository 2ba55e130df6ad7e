use Rattle.rb_cr.proofs.late.changed_after.Given as goal

abbrev pub ghosts-first_rebuilt : goal.ghosts-first_rebuilt
ghosts-first_rebuilt g a = record { name = a.blank.name; parts = a.blank.parts }
