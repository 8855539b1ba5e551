use Rattle.std.proofs.Common.{◌≡◌}
use Rattle.std.specs.List.{filter_map, range_with_len}
use Rattle.uni_table.specs.GraphSources.{last_from}
use Rattle.uni_table.proofs.graph.rows.Rows.edge_sources.Given as goal

abbrev pub invariant-loop-number : goal.invariant-loop-number
invariant-loop-number l = l.lasts.items ≡ filter_map (last_from l.self l.types) (range_with_len 0 l.number)
