use Rattle.std.proofs.Common.{◌≡◌, drop}
use Rattle.std.specs.List.{list_any}
use Rattle.uni_table.specs.Contents.{has_edge}
use Rattle.uni_meaning.specs.Hits.{edge_to}
use Rattle.uni_meaning.proofs.view.View.any_reaches.Given as goal

abbrev pub invariant-loop-type_no : goal.invariant-loop-type_no
invariant-loop-type_no l =
    list_any (λ number. has_edge l.self.contents (edge_to number l.key l.self.viewer)) l.types
    ≡ list_any (λ number. has_edge l.self.contents (edge_to number l.key l.self.viewer)) (drop l.type_no-index l.types)
