use Rattle.std.proofs.lemmas.Result.{on_ok_weaker}
use Rattle.uni_table.specs.Contents.{starts_at}
use Rattle.uni_table.specs.declared.graph.numbers.Side.TheVariants.{Source as From}
use Rattle.uni_table.proofs.GraphLists.{source-agrees, source-fails, walk-added, none-added}
use Rattle.uni_table.proofs.graph.rows.Rows.add_from.Goals as goal

pub returns-in-Some : goal.returns-in-Some
returns-in-Some c =
    let rows = c.args.self.now in
    on_ok_weaker c.add_at.result
    (λ is. walk-added rows c.requires From c.in-Some.index (starts_at c.args.type_no c.args.key.now) (source-agrees rows c.requires c.args.type_no c.args.key.now c.in-Some.index c.in-Some.ensures)
    c.args.held.now.items c.add_at.new.held.items is)
    c.add_at.ensures

pub returns-in-None : goal.returns-in-None
returns-in-None c =
    let rows = c.args.self.now in
    none-added rows c.requires (starts_at c.args.type_no c.args.key.now) (source-fails rows c.requires c.args.type_no c.args.key.now c.in-None.ensures) c.args.held.now.items
