use Rattle.std.proofs.Common.{◌≡◌, Some, ap, arith, length, slice_get, sym, ◌∙◌}
use Rattle.uni_base.specs.declared.edge.Key.{Key}
use Rattle.uni_schema.specs.Schema.{Declarations}
use Rattle.uni_table.specs.Contents.{has_edge}
use Rattle.shard_index.specs.Laws.{edge_to}
use Rattle.viewer_policy.proofs.Edges.{none_undeclared, none_from_word}
use Rattle.viewer_policy.proofs.lookup.reaches.Goals as goal

pub returns-then-type_no-types : goal.returns-then-type_no-types
returns-then-type_no-types c limits table stands =
    let count = ap (λ (s : Declarations). length s.types) c.schema-schema.ensures in
    none_undeclared c.args.version.now limits table stands c.args.type_no c.args.target c.args.key.now (omega (arith, c.if-type_no-types.true, c.types.ensures.count, count))

pub returns-in_default-key : goal.returns-in_default-key
returns-in_default-key c limits table stands =
    let number = c.args.type_no in let version = c.args.version.now in
    let at : slice_get version.schema.types number ≡ Some c.type_def-type_def.result.now = ap (λ (s : Declarations). slice_get s.types number) (sym c.schema-schema.ensures) ∙ c.type_def-type_def.ensures.at in
    none_from_word version limits table stands number c.args.target c.type_def-type_def.result.now c.in-Vertical.vertical c.in_default-key.field-0 at c.in-Vertical.is
    ∙ ap (λ (key : Key). has_edge table (edge_to number key c.args.target)) (sym c.in_default-key.is)

pub returns-in-Id : goal.returns-in-Id
returns-in-Id c limits table stands =
    c.is_recorded.ensures limits table stands ∙ ap (λ (key : Key). has_edge table (edge_to c.args.type_no key c.args.target)) (sym c.in-Id.is)
