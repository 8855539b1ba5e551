-- Worked rounds, and the script that `bench` makes of two people.
use Rattle.std.proofs.Common.{refl}
use Rattle.std.specs.Fmt.{digits}
use Rattle.script_rounds.specs.Asks.{ask_entry}
use Rattle.script_rounds.specs.Roles.{role_of}
use Rattle.unicorn_round.specs.Example.{WorkedBench, WorkedRounds}

pub worked_rounds : WorkedRounds
unfolding digits
worked_rounds = record { compacted = refl; later = refl; tidied = refl; marked = refl }

-- the script is made, read and answered line by line, and its answers are counted
pub worked_bench : WorkedBench
unfolding digits role_of ask_entry
worked_bench = record { two_people = refl }
