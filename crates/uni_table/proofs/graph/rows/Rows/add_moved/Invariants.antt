use Rattle.std.proofs.Common.{◌≡◌, ◌++◌, ℕ, nat_eq, drop, take}
use Rattle.std.specs.List.{Contains, IsDistinct, filter_map}
use Rattle.uni_table.specs.GraphChanges.{earlier_at, moved_last_at}
use Rattle.uni_table.specs.GraphOrder.{untouched_edge_at}
use Rattle.uni_table.proofs.SideBySide.{weight}
use Rattle.uni_table.proofs.WalkedOnce.{IsReached}
use Rattle.uni_table.proofs.graph.rows.Rows.add_moved.Given as goal

abbrev pub invariant-loop-at : goal.invariant-loop-at
invariant-loop-at l =
    record {
      walked : l.walk.items ≡ filter_map (moved_last_at l.self) l.self.touched_ids.items ++ filter_map (earlier_at l.self) (take l.at l.walk.items);
      apart : IsDistinct nat_eq l.walk.items;
      reached : (p : ℕ) → Contains l.walk.items p → IsReached l.self p;
      added : l.edges.items ≡ l.fn.edges.items ++ filter_map (untouched_edge_at l.self) (take l.at l.walk.items);
    }

abbrev pub decreases-loop-at : goal.decreases-loop-at
decreases-loop-at l = weight (drop l.at l.walk.items)
