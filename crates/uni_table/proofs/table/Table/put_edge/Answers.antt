use Rattle.std.proofs.Common.{◌≡◌, Some, subst}
use Rattle.uni_base.specs.declared.edge.EdgeRef.{EdgeRef}
use Rattle.uni_schema.specs.Schema.{Declarations, type_at}
use Rattle.uni_table.proofs.Kept.{put_kept}
use Rattle.uni_table.proofs.table.Table.put_edge.Goals as goal

pub invariant_of-self : goal.invariant_of-self
invariant_of-self c =
    let type_def = c.type_def-type_def.result.now in
    let edge : EdgeRef = record { type_no = c.args.type_no; key = c.in-Some.key; target = c.args.target } in
    let declared : type_at c.self.inside.schema.value c.args.type_no ≡ Some type_def =
    subst (λ (s : Declarations). type_at s c.args.type_no ≡ Some type_def) c.deref.ensures c.type_def-type_def.ensures.at in
    put_kept c.self.inside.schema.value c.self.inside.limits c.self.inside.graph c.put_edge.new.self c.self.invariant type_def edge declared c.audience_of-audience.result c.args.until c.put_edge.result
    c.put_edge.ensures.taken c.put_edge.ensures.ok c.put_edge.ensures.err
