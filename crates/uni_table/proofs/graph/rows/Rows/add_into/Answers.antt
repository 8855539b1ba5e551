use Rattle.std.proofs.lemmas.Result.{on_ok_weaker}
use Rattle.uni_table.specs.Contents.{reaches}
use Rattle.uni_table.specs.declared.graph.numbers.Side.TheVariants.{Target}
use Rattle.uni_table.proofs.GraphLists.{target-agrees, target-fails, walk-added, none-added}
use Rattle.uni_table.proofs.graph.rows.Rows.add_into.Goals as goal

pub returns-in-Some : goal.returns-in-Some
returns-in-Some c =
    let rows = c.args.self.now in
    on_ok_weaker c.add_at.result
    (λ is. walk-added rows c.requires Target c.in-Some.index (reaches c.args.id) (target-agrees rows c.requires c.args.id c.in-Some.index c.in-Some.ensures) c.args.held.now.items c.add_at.new.held.items is)
    c.add_at.ensures

pub returns-in-None : goal.returns-in-None
returns-in-None c =
    let rows = c.args.self.now in
    none-added rows c.requires (reaches c.args.id) (target-fails rows c.requires c.args.id c.in-None.ensures) c.args.held.now.items
