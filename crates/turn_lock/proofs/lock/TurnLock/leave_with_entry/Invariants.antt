use Rattle.std.proofs.Common.{Some}
use Rattle.turn_lock.proofs.lock.TurnLock.leave_with_entry.Given as goal

-- the entry that is added
abbrev pub ghosts-count : goal.ghosts-count
ghosts-count g a = record { said = Some a.entry.now }
