-- the sum so far
use Rattle.std.proofs.Common.{◌≡◌, ◌+◌, take}
use Rattle.unicorn_round.specs.Counts.{ids_of}
use Rattle.unicorn_round.proofs.counts.with_ids.Given as goal

abbrev pub invariant-loop-hit : goal.invariant-loop-hit
invariant-loop-hit l = l.ids ≡ l.fn.before + ids_of (take l.hit-index l.hits)
