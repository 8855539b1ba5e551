use Rattle.std.proofs.Common.{◌≡◌, ◌∙◌, ap, length, subst}
use Rattle.std.proofs.lemmas.Result.{IfOk-weaker}
use Rattle.uni_schema.specs.Schema.{Declarations}
use Rattle.uni_table.specs.Sources.{AreSources}
use Rattle.uni_table.specs.TableState.{TableState}
use Rattle.uni_table.proofs.table.Table.edge_sources.Goals as goal

pub returns : goal.returns
returns c =
    let types : c.types.result ≡ length c.self.inside.schema.value.types = c.types.ensures.count ∙ ap (λ (s : Declarations). length s.types) c.deref.ensures in
    IfOk-weaker c.edge_sources.result _ _
    (λ sources are. subst (λ (t : TableState). AreSources (length t.schema.types) t.contents sources) c.self.view_is (subst (λ n. AreSources n c.self.inside.graph.contents sources) types are)) c.edge_sources.ensures
