use Rattle.std.proofs.Common.{List, map, filter, ap, ◌∙◌}
use Rattle.std.proofs.lemmas.List.{take_all}
use Rattle.std.proofs.lemmas.List.Sorted.{IsPermutation-trans}
use Rattle.std.specs.List.Sorted.{IsPermutation}
use Rattle.uni_base.specs.declared.edge.EdgeRef.{EdgeRef}
use Rattle.uni_table.specs.Contents.{has_ended}
use Rattle.uni_table.specs.Lists.{ending_of, ending}
use Rattle.uni_table.specs.TableState.{TableState}
use Rattle.uni_table.specs.declared.command.EdgeRow.{EdgeRow}
use Rattle.uni_table.specs.declared.graph.Ending.{Ending}
use Rattle.uni_table.proofs.Endings.{ended-is, edges-of}
use Rattle.uni_table.proofs.table.Table.ending.Goals as goal

pub returns : goal.returns
returns c =
    let graph = c.self.inside.graph.contents in
    let found : List Ending = c.sort_unstable.new.self.items in
    let all : List Ending = map ending_of (filter (λ (e : EdgeRef × EdgeRow). has_ended c.args.publish e.1) graph.edges) in
    let same : IsPermutation all found = IsPermutation-trans all c.in_ok-endings.endings.items found c.in_ok-endings.ensures c.sort_unstable.ensures.permutation in
    c.loop-ending.invariant
    ∙ ap (map (λ (x : Ending). x.edge)) (take_all c.loop-ending.ending-index c.deref-ending-items.result.now c.loop-ending-test.false ∙ c.deref-ending-items.ensures.value
    ∙ ended-is graph.edges c.self.invariant.contents.edges c.args.publish found same c.sort_unstable.ensures.sorted)
    ∙ edges-of graph 1 c.args.publish
    ∙ ap (λ (t : TableState). ending t.contents c.args.publish) c.self.view_is
