use Rattle.std.proofs.Common.{◌++◌, All, List, ap, subst, sym, ◌∙◌}
use Rattle.query_tree.specs.declared.query.Mark.{Mark}
use Rattle.shard_eval.specs.declared.operand.Operand.{Operand}
use Rattle.shard_eval.specs.Kept.{IsShare}
use Rattle.shard_eval.specs.Operands.{marks_in}
use Rattle.shard_eval.proofs.OperandMarks.{share_at}
use Rattle.shard_eval.proofs.kept.weak_operands.Goals as goal

pub weak_mark-requires : goal.weak_mark-requires
weak_mark-requires c =
    let all = ap (λ (os : List (Operand × Mark)). c.loop-operand.yielded ++ os) (sym (c.in-Some.ensures {u = tt}).steps.0) ∙ c.loop-operand.invariant.all in
    share_at c.loop-operand.yielded (c.in-Some.operand, c.in-Some.mark) _ (subst (λ os. All IsShare (marks_in os)) (sym all) c.requires)
