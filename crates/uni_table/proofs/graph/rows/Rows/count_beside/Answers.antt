use Rattle.std.proofs.Common.{sym, subst, ◌∙◌}
use Rattle.std.specs.Map.{keys_of}
use Rattle.uni_table.specs.Contents.{starts_at}
use Rattle.uni_table.specs.GraphKeys.{source_eq}
use Rattle.uni_table.specs.GraphRows.{has_at, IsIndexOf}
use Rattle.uni_table.specs.declared.graph.numbers.Side.TheVariants.{Source as From}
use Rattle.uni_table.proofs.GraphLists.{source-agrees, source-fails, held-count, none-pass}
use Rattle.uni_table.proofs.graph.rows.Rows.count_beside.Goals as goal

pub returns-in-Some : goal.returns-in-Some
returns-in-Some c =
    let rows = c.args.self.now in let edge = c.args.found.now.edge.now in
    let source = subst (IsIndexOf source_eq (keys_of rows.sources.entries) (record { type_no = edge.type_no; key = edge.key })) c.in-Some.is c.requires.found.source in
    c.count_at.ensures
    ∙ held-count rows c.requires.kept (has_at From c.in-Some.index) (starts_at edge.type_no edge.key) (source-agrees rows c.requires.kept edge.type_no edge.key c.in-Some.index source)

pub returns-in-None : goal.returns-in-None
returns-in-None c =
    let rows = c.args.self.now in let edge = c.args.found.now.edge.now in
    let source = subst (IsIndexOf source_eq (keys_of rows.sources.entries) (record { type_no = edge.type_no; key = edge.key })) c.in-None.is c.requires.found.source in
    sym (none-pass rows c.requires.kept (starts_at edge.type_no edge.key) (source-fails rows c.requires.kept edge.type_no edge.key source))
