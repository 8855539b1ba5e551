use Rattle.posting_lists.proofs.cursor.ListCursorDocCursor.seek.Given as goal

abbrev pub ghosts-seek_over : goal.ghosts-seek_over
ghosts-seek_over a = record { name = a.blank.name; parts = a.blank.parts }
