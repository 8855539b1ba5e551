use Rattle.std.proofs.Common.{◌≡◌}
use Rattle.std.specs.List.{filter_map, range_with_len}
use Rattle.uni_table.specs.GraphChanges.{put_at}
use Rattle.uni_table.proofs.graph.rows.Rows.all_entities.Given as goal

abbrev pub invariant-loop-number : goal.invariant-loop-number
invariant-loop-number l = l.changes.items ≡ filter_map (put_at l.self) (range_with_len 0 l.number)
