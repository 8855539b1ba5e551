use Rattle.std.proofs.Common.{◌≡◌, ◌++◌, replicate}
use Rattle.version_catalog.proofs.stacks.add_shares.Given as goal

abbrev pub invariant-loop : goal.invariant-loop
invariant-loop l = l.shares.items ≡ l.initial.shares.items ++ replicate l.counter l.layer
