use Rattle.prefix_terms.proofs.cursor.prefix_cursor.Given as goal

abbrev pub ghosts-words_over : goal.ghosts-words_over
ghosts-words_over a = record { name = a.blank.name; parts = a.blank.parts }
