use Rattle.layer_tests.proofs.tests.stacks.is_least.Given as goal

abbrev pub ghosts-least : goal.ghosts-least
ghosts-least a = record { name = a.blank.name; parts = a.blank.parts }
