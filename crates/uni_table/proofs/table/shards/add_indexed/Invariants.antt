use Rattle.std.proofs.Common.{filter, take}
use Rattle.uni_table.specs.Added.{Adds}
use Rattle.uni_table.specs.Shards.{is_indexed}
use Rattle.uni_table.proofs.table.shards.add_indexed.Given as goal

abbrev pub invariant-loop-edge : goal.invariant-loop-edge
invariant-loop-edge l = Adds l.fn.held.items l.held.items (filter (is_indexed l.schema) (take l.edge-index l.edges))
