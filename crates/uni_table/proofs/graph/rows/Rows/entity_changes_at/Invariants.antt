use Rattle.std.proofs.Common.{◌≡◌, take}
use Rattle.std.specs.List.{filter_map}
use Rattle.uni_table.specs.GraphChanges.{entity_change_at}
use Rattle.uni_table.proofs.graph.rows.Rows.entity_changes_at.Given as goal

abbrev pub invariant-loop-place : goal.invariant-loop-place
invariant-loop-place l = l.changes.items ≡ filter_map (entity_change_at l.self) (take l.place-index l.places)
