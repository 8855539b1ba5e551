use Rattle.std.proofs.Common.{rules, ◌≡◌, subst, sym}
use Rattle.std.specs.Arc.{arc_value}
use Rattle.uni_schema.specs.Schema.{Declarations}
use Rattle.shard_index.specs.Versions.{AreStacks, layers_of}
use Rattle.shard_index.proofs.Standing.{are_stacks}
use Rattle.shard_index.proofs.version.Version.of_table.Goals as goal

pub invariant_of-result : goal.invariant_of-result
invariant_of-result c =
    let table = c.args.table.now in
    let same : arc_value c.in_ok-schema.schema ≡ table.schema = search rules in
    subst (λ (schema : Declarations). AreStacks schema (layers_of c.in_ok-stacks.stacks.items)) (sym same) (are_stacks table.schema table.contents (layers_of c.in_ok-stacks.stacks.items) (c.in_ok-stacks.ensures {u = tt}))
