use Rattle.std.proofs.Common.{map, filter, nat_lt, ◌&&◌}
use Rattle.uni_table.specs.Added.{Adds}
use Rattle.uni_table.specs.Lists.{held_of}
use Rattle.uni_table.specs.Shards.{leaves_forward}
use Rattle.uni_table.proofs.table.shards.add_forward_of.Given as goal

abbrev pub invariant-loop-type_no : goal.invariant-loop-type_no
invariant-loop-type_no l = Adds l.fn.held.items l.held.items (map held_of (filter (λ e. leaves_forward l.schema l.vertical l.id e.0 && nat_lt e.0.type_no l.type_no) l.graph.contents.edges))
