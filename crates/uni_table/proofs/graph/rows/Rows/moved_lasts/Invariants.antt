use Rattle.std.proofs.Common.{◌≡◌, take}
use Rattle.std.specs.List.{filter_map}
use Rattle.uni_table.specs.GraphChanges.{moved_last_at}
use Rattle.uni_table.proofs.graph.rows.Rows.moved_lasts.Given as goal

abbrev pub invariant-loop-number : goal.invariant-loop-number
invariant-loop-number l = l.places.items ≡ filter_map (moved_last_at l.self) (take l.number-index l.number-items)
