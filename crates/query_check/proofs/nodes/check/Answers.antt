use Rattle.query_tree.specs.Tree.{tree_of}
use Rattle.query_check.proofs.Declares.{answer_is}
use Rattle.query_check.proofs.nodes.check.Goals as goal

pub returns-clause-declared : goal.returns-clause-declared
returns-clause-declared c =
    answer_is c.args.schema.now c.args.limits.now.joins 0 (tree_of c.args.query.now) c.check_node.result c.check_node.ensures.typed
