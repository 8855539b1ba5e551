use Rattle.std.proofs.Common.{map, filter, take}
use Rattle.uni_table.specs.Added.{Adds}
use Rattle.uni_table.specs.Lists.{held_of}
use Rattle.uni_table.specs.Shards.{leaves_any_forward}
use Rattle.uni_table.proofs.table.shards.add_forward.Given as goal

abbrev pub invariant-loop-doc : goal.invariant-loop-doc
invariant-loop-doc l = Adds l.fn.held.items l.held.items (map held_of (filter (λ e. leaves_any_forward l.schema l.vertical (take l.doc-index l.docs) e.0) l.graph.contents.edges))
