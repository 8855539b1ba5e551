use Rattle.set_cursors.proofs.and.AndCursorDocCursor.seek.Given as goal

abbrev pub ghosts-seek_over : goal.ghosts-seek_over
ghosts-seek_over g a = record { name = a.blank.name; parts = a.blank.parts }
