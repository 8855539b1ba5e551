use Rattle.std.proofs.Common.{◌≡◌, ap, ◌∙◌, sym, subst}
use Rattle.std.specs.Result.{IfOk}
use Rattle.layer_base.specs.Layers.{stack_table}
use Rattle.layer_stack.specs.Postings.{postings_of}
use Rattle.shard_index.proofs.IndexParts.{parts_of}
use Rattle.shard_index.proofs.StackLaws.{postings_of-stack}
use Rattle.shard_index.proofs.index.ShardIndex.term_cursor.Goals as goal

pub returns : goal.returns
returns c =
    let parts = parts_of c.self.inside.entities c.self.inside.postings c.self.inside.forward c.args.self.now c.self.invariant c.self.view_is in
    let table = ap stack_table (sym parts.postings) ∙ sym (postings_of-stack c.args.self.now.0) in
    subst (λ t. IfOk c.cursor.result (λ cursor. cursor ≡ postings_of c.args.term.now t)) table c.cursor.ensures
