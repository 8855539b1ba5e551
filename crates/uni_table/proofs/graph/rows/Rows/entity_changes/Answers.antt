use Rattle.std.proofs.Common.{sym, subst, ◌∙◌, ap}
use Rattle.std.specs.List.{filter_map}
use Rattle.std.proofs.lemmas.Result.{IfOk-weaker}
use Rattle.uni_table.specs.GraphChanges.{entity_change_at}
use Rattle.uni_table.specs.Changes.{HasEntityChanges}
use Rattle.uni_table.specs.GraphRows.{contents_of, published_of}
use Rattle.uni_table.proofs.GraphChanged.{all-entities}
use Rattle.uni_table.proofs.graph.rows.Rows.entity_changes.Goals as goal

pub returns : goal.returns
returns c =
    let rows = c.args.self.now in
    IfOk-weaker c.entity_changes_at.result _ _
    (λ changes is. subst (HasEntityChanges (published_of rows) (contents_of rows)) (sym (is ∙ ap (filter_map (entity_change_at rows)) c.as_slice.ensures.value)) (all-entities rows c.requires)) c.entity_changes_at.ensures
