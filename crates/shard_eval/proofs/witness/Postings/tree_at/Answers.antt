use Rattle.std.proofs.Common.{◌≡◌, IfOk, Option, ap, subst, sym, ◌∙◌}
use Rattle.std.specs.Option.{option_map}
use Rattle.lineage_tree.specs.Tree.{Tree, tree_of}
use Rattle.shard_eval.specs.Found.{first_at, KeepsLater}
use Rattle.shard_eval.specs.Witnesses.{found_postings}
use Rattle.shard_eval.proofs.FoundLists.{keeps_from, tree_here}
use Rattle.shard_eval.proofs.witness.Postings.tree_at.Goals as goal

pub returns-clause-tree : goal.returns-clause-tree
returns-clause-tree c =
    let key = c.args.key in
    let olds = found_postings c.args.self.now in
    subst (λ (t : Option Tree). IfOk c.tree_here.result (λ tree. option_map tree_of tree ≡ t))
    (ap (first_at key) c.pass_before.ensures.rest ∙ sym (tree_here olds key c.pass_before.ensures.ranked)) c.tree_here.ensures

pub returns-clause-rest : goal.returns-clause-rest
returns-clause-rest c =
    let key = c.args.key in
    let olds = found_postings c.args.self.now in
    subst (KeepsLater key olds) (sym c.pass_before.ensures.rest) (keeps_from key olds c.pass_before.ensures.ranked)
