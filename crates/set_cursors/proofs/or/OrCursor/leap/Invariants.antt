use Rattle.set_cursors.proofs.or.OrCursor.leap.Given as goal

abbrev pub ghosts-leap_over : goal.ghosts-leap_over
ghosts-leap_over g a = record { name = a.blank.name; parts = a.blank.parts }
