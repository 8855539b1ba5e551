use Rattle.std.proofs.Common.{map, filter}
use Rattle.uni_table.specs.Added.{Adds}
use Rattle.uni_table.specs.Contents.{leaves_below}
use Rattle.uni_table.specs.Lists.{held_of}
use Rattle.uni_table.proofs.table.lists.add_leaving.Given as goal

abbrev pub invariant-loop-type_no : goal.invariant-loop-type_no
invariant-loop-type_no l = Adds l.fn.held.items l.held.items (map held_of (filter (λ e. leaves_below l.type_no l.id e.0) l.graph.contents.edges))
