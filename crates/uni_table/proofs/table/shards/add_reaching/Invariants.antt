use Rattle.std.proofs.Common.{map, filter, take}
use Rattle.uni_table.specs.Added.{Adds}
use Rattle.uni_table.specs.Lists.{held_of}
use Rattle.uni_table.specs.Shards.{reaches_any}
use Rattle.uni_table.proofs.table.shards.add_reaching.Given as goal

abbrev pub invariant-loop-doc : goal.invariant-loop-doc
invariant-loop-doc l = Adds l.fn.held.items l.held.items (map held_of (filter (λ e. reaches_any (take l.doc-index l.docs) e.0) l.graph.contents.edges))
