-- What counting says of its text.
use Rattle.std.specs.Prelude.{ℕ, List, []}
use Rattle.std.proofs.Common.{refl}
use Rattle.script_rounds.specs.Entries.{Entry}
use Rattle.script_rounds.specs.Terms.{Terms}
use Rattle.unicorn_round.specs.Bench.{CounterStands, SaysNothing, counter_terms}
use Rattle.unicorn_round.specs.declared.counter.Counter.{Counter}

pub counter_says_nothing : (counter : Counter) (rounds : List (List Entry)) (text : List ℕ) → CounterStands counter rounds text → SaysNothing (counter_terms counter) rounds text
counter_says_nothing counter rounds text stands = stands.silent

pub nothing_said : (of : Terms) → SaysNothing of [] []
nothing_said of = refl
