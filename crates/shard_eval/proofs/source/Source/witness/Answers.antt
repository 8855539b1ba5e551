use Rattle.std.proofs.Common.{ap, sym, ◌∙◌}
use Rattle.layer_base.specs.Layers.{stack_table}
use Rattle.shard_eval.specs.Sources.{found_by}
use Rattle.shard_eval.specs.Witnesses.{found_words_left}
use Rattle.shard_eval.proofs.PrefixTrees.{prefix_left}
use Rattle.shard_eval.proofs.source.Source.witness.Goals as goal

pub returns-in_ok-cursor-in-Prefix : goal.returns-in_ok-cursor-in-Prefix
returns-in_ok-cursor-in-Prefix c =
    let table = stack_table c.args.stack.now.0 in let number = c.in-Prefix.type_no in
    ap (found_words_left number) (c.in_ok-cursor-in-Prefix.ensures {u = tt}) ∙ prefix_left table number c.in-Prefix.from ∙ ap (found_by table) (sym c.in-Prefix.is)
