-- Marks of operands that are gone through.
use Rattle.std.proofs.Common.{All, List, [], ◌∷◌, ◌++◌}
use Rattle.std.proofs.lemmas.List.Elements.{All-cons, All-head, All-nil, All-tail}
use Rattle.query_tree.specs.declared.query.Mark.{Mark}
use Rattle.query_tree.specs.declared.query.Mark.TheVariants.{Plain}
use Rattle.shard_eval.specs.declared.operand.Operand.{Operand}
use Rattle.shard_eval.specs.Kept.{IsShare}
use Rattle.shard_eval.specs.Operands.{marks_in}

-- each one is a share where all are
pub share_at : (past : List (Operand × Mark)) (o : Operand × Mark) (rest : List (Operand × Mark)) → All IsShare (marks_in (past ++ o ∷ rest)) → IsShare o.1
share_at [] o rest all = All-head IsShare o.1 (marks_in rest) all
share_at (p ∷ past) o rest all = share_at past o rest (All-tail IsShare p.1 (marks_in (past ++ o ∷ rest)) all)

-- one more without a mark
pub one_plain : (marks : List Mark) → All IsShare marks → All IsShare (marks ++ Plain ∷ [])
one_plain [] all = All-cons IsShare Plain [] tt (All-nil IsShare)
one_plain (mark ∷ marks) all = All-cons IsShare mark (marks ++ Plain ∷ []) (All-head IsShare mark marks all) (one_plain marks (All-tail IsShare mark marks all))
