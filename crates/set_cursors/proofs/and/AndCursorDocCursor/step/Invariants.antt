use Rattle.set_cursors.proofs.and.AndCursorDocCursor.step.Given as goal

abbrev pub ghosts-step_over : goal.ghosts-step_over
ghosts-step_over g a = record { name = a.blank.name; parts = a.blank.parts }
