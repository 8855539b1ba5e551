use Rattle.std.proofs.Common.{Some}
use Rattle.twin_list.proofs.list.TwinList.add.Given as goal

-- the entry that is added
abbrev pub ghosts-add_in : goal.ghosts-add_in
ghosts-add_in g a = record { said = Some a.entry.now }
