use Rattle.std.proofs.Common.{◌≡◌, ◌++◌}
use Rattle.std.specs.List.{filter_map}
use Rattle.uni_table.specs.GraphRows.{member_of, node_named}
use Rattle.uni_table.proofs.graph.rows.Rows.members.Given as goal

abbrev pub invariant-loop-id : goal.invariant-loop-id
invariant-loop-id l = l.docs.items ++ filter_map (λ e. member_of l.schema l.vertical l.shard (node_named e)) l.id-iterator ≡ filter_map (λ e. member_of l.schema l.vertical l.shard (node_named e)) l.self.ids.entries
