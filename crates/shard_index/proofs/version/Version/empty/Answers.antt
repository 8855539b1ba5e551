use Rattle.std.proofs.Common.{rules, ◌≡◌, ◌++◌, ◌∷◌, [], replicate, map, ap, ◌∙◌}
use Rattle.std.specs.Arc.{arc_value}
use Rattle.uni_table.specs.Contents.{empty}
use Rattle.shard_index.specs.Places.{stack_count}
use Rattle.shard_index.specs.Rows.{empty_layer, stack_rows}
use Rattle.shard_index.specs.Versions.{layers_of}
use Rattle.shard_index.proofs.Standing.{are_stacks, empty_stands}
use Rattle.shard_index.proofs.version.Version.empty.Goals as goal

pub invariant_of-result : goal.invariant_of-result
invariant_of-result c =
    let schema = arc_value c.args.schema in
    let base : c.in_ok-base.base ≡ empty_layer = search rules in
    let count : c.stack_count-count.result ≡ stack_count schema = search rules in
    let is : layers_of c.add_stacks.new.stacks.items ≡ replicate (stack_count schema) (empty_layer ∷ []) =
    c.in_ok-add_stacks.ensures {u = tt} ∙ ap (λ items. layers_of items ++ replicate c.stack_count-count.result (c.in_ok-base.base ∷ [])) c.new-stacks.ensures.items ∙ (λ i. replicate (count i) (base i ∷ [])) in
    are_stacks schema empty (layers_of c.add_stacks.new.stacks.items) (ap (map stack_rows) is ∙ empty_stands schema)

pub returns-clause-stands : goal.returns-clause-stands
returns-clause-stands c =
    let schema = arc_value c.args.schema in
    let base : c.in_ok-base.base ≡ empty_layer = search rules in
    let count : c.stack_count-count.result ≡ stack_count schema = search rules in
    let is : layers_of c.add_stacks.new.stacks.items ≡ replicate (stack_count schema) (empty_layer ∷ []) =
    c.in_ok-add_stacks.ensures {u = tt} ∙ ap (λ items. layers_of items ++ replicate c.stack_count-count.result (c.in_ok-base.base ∷ [])) c.new-stacks.ensures.items ∙ (λ i. replicate (count i) (base i ∷ [])) in
    record { rows = ap (map stack_rows) is ∙ empty_stands schema }
