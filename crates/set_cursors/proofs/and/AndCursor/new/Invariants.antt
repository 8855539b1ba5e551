use Rattle.set_cursors.proofs.and.AndCursor.new.Given as goal

abbrev pub ghosts-new_over : goal.ghosts-new_over
ghosts-new_over g a = record { name = a.blank.name; parts = a.blank.parts }
