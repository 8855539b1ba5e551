-- no session has an ask yet
use Rattle.std.proofs.Common.{◌≡◌, [], replicate}
use Rattle.unicorn_round.proofs.parts.Parts.new.Given as goal

abbrev pub invariant-loop : goal.invariant-loop
invariant-loop l = l.asks.items ≡ replicate l.counter []
