use Rattle.std.proofs.Common.{sym, ap}
use Rattle.uni_table.specs.Contents.{starts_at}
use Rattle.uni_table.specs.GraphRows.{contents_of}
use Rattle.uni_table.specs.declared.graph.numbers.Side.TheVariants.{Source as From}
use Rattle.uni_table.proofs.GraphLists.{source-agrees, source-fails, walk-removed, none-gone}
use Rattle.uni_table.proofs.graph.rows.Rows.remove_from.Goals as goal

pub returns-in-Some-clause-removed : goal.returns-in-Some-clause-removed
returns-in-Some-clause-removed c =
    let rows = c.args.self.now in
    walk-removed rows c.requires c.remove_at.new.self From c.in-Some.index (starts_at c.args.type_no c.args.key.now) (source-agrees rows c.requires c.args.type_no c.args.key.now c.in-Some.index c.in-Some.ensures)
    c.remove_at.ensures.ids c.remove_at.ensures.sources c.remove_at.ensures.edges

pub returns-in_default-clause-removed : goal.returns-in_default-clause-removed
returns-in_default-clause-removed c =
    let rows = c.args.self.now in
    ap (λ es. record (contents_of rows) { edges = es })
    (sym (none-gone rows c.requires (starts_at c.args.type_no c.args.key.now) (source-fails rows c.requires c.args.type_no c.args.key.now c.in_default.ensures)))
