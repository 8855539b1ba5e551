use Rattle.std.proofs.Common.{sym, ap}
use Rattle.uni_table.specs.Contents.{reaches}
use Rattle.uni_table.specs.GraphRows.{contents_of}
use Rattle.uni_table.specs.declared.graph.numbers.Side.TheVariants.{Target}
use Rattle.uni_table.proofs.GraphLists.{target-agrees, target-fails, walk-removed, none-gone}
use Rattle.uni_table.proofs.graph.rows.Rows.remove_into.Goals as goal

pub returns-in-Some-clause-removed : goal.returns-in-Some-clause-removed
returns-in-Some-clause-removed c =
    let rows = c.args.self.now in
    walk-removed rows c.requires c.remove_at.new.self Target c.in-Some.index (reaches c.args.id) (target-agrees rows c.requires c.args.id c.in-Some.index c.in-Some.ensures)
    c.remove_at.ensures.ids c.remove_at.ensures.sources c.remove_at.ensures.edges

pub returns-in_default-clause-removed : goal.returns-in_default-clause-removed
returns-in_default-clause-removed c =
    let rows = c.args.self.now in
    ap (λ es. record (contents_of rows) { edges = es }) (sym (none-gone rows c.requires (reaches c.args.id) (target-fails rows c.requires c.args.id c.in_default.ensures)))
