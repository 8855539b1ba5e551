use Rattle.std.proofs.Common.{◌≡◌, Some, ap, slice_get, sym, ◌∙◌, arith, length}
use Rattle.uni_schema.specs.Schema.{Declarations}
use Rattle.viewer_policy.proofs.Denials.{leads, denied_here, passed_here, passed_by, none_left}
use Rattle.viewer_policy.proofs.denies.Goals.{else-type_def-via-then-type_def+else-reaches, else-type_def-via-else-type_def}
use Rattle.viewer_policy.proofs.denies.Goals as goal

pub returns-then-reaches : goal.returns-then-reaches
returns-then-reaches c limits table stands =
    let types = c.args.version.now.schema.types in
    let n = c.loop-type_no.type_no in
    let at : slice_get types n ≡ Some c.type_def.result.now = ap (λ (s : Declarations). slice_get s.types n) (sym c.schema-schema.ensures) ∙ c.type_def.ensures.at in
    sym (c.loop-type_no.invariant limits table stands
    ∙ denied_here (leads table c.args.viewer c.args.owner) types n c.type_def.result.now at c.if-type_def.true (sym (c.reaches.ensures limits table stands) ∙ c.if-reaches.true))

pub loop-type_no-preserved : goal.loop-type_no-preserved
loop-type_no-preserved c limits table stands =
    let types = c.args.version.now.schema.types in
    let n = c.loop-type_no.type_no in
    let f = leads table c.args.viewer c.args.owner in
    let at : slice_get types n ≡ Some c.type_def.result.now = ap (λ (s : Declarations). slice_get s.types n) (sym c.schema-schema.ensures) ∙ c.type_def.ensures.at in
    c.loop-type_no.invariant limits table stands
    ∙ elim c.else-type_def.branch [
      | else-type_def-via-then-type_def+else-reaches w ↦ passed_here f types n c.type_def.result.now at w.if-type_def.true (sym (w.reaches.ensures limits table stands) ∙ w.if-reaches.false)
      | else-type_def-via-else-type_def w ↦ passed_by f types n c.type_def.result.now at w.if-type_def.false
    ]

pub returns : goal.returns
returns c limits table stands =
    let types = c.args.version.now.schema.types in
    let n = c.loop-type_no.type_no in
    let out = ap (λ (s : Declarations). length s.types) c.schema-schema.ensures in
    sym (c.loop-type_no.invariant limits table stands
    ∙ none_left (leads table c.args.viewer c.args.owner) types n (omega (arith, c.loop-type_no-test.false, c.types-type_no-end.ensures.count, out)))
