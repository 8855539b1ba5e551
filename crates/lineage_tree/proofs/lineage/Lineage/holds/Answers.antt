use Rattle.std.proofs.Common.{Bool, List, ◌∙◌, ap}
use Rattle.lineage_tree.specs.Holding.{holds_by}
use Rattle.lineage_tree.specs.Tree.{tree_of}
use Rattle.lineage_tree.proofs.AcceptedLemmas.{holds_by-lists}
use Rattle.lineage_tree.proofs.lineage.Lineage.holds.Goals as goal

pub returns : goal.returns
returns g c = λ accepts book judges given.
    c.holds.ensures accepts judges ∙ ap (λ (vs : List Bool). holds_by accepts vs (tree_of c.args.self.now)) given ∙ holds_by-lists accepts book (tree_of c.args.self.now)
