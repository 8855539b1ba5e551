-- the edges so far, and the rest of them
use Rattle.std.proofs.Common.{◌≡◌, ◌++◌, drop}
use Rattle.reply_text.specs.Printed.{edges_text}
use Rattle.reply_text.proofs.edge.add_edges.Given as goal

abbrev pub invariant-loop-edge : goal.invariant-loop-edge
invariant-loop-edge l = l.text ++ edges_text l.schema (drop l.edge-index l.edges) ≡ l.fn.text ++ edges_text l.schema l.edges
