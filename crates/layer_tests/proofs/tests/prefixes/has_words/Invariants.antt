use Rattle.layer_tests.proofs.tests.prefixes.has_words.Given as goal

abbrev pub ghosts-words_of : goal.ghosts-words_of
ghosts-words_of a = record { name = a.blank.name; parts = a.blank.parts }
