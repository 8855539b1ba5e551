use Rattle.std.proofs.Common.{map, filter, ap, subst, ◌∙◌}
use Rattle.std.proofs.lemmas.List.Sorted.{IsPermutation-trans}
use Rattle.std.specs.List.Sorted.{IsPermutation}
use Rattle.uni_schema.specs.Schema.{Declarations}
use Rattle.uni_table.specs.Ranked.{ranked, doc_of, is_of_shard}
use Rattle.uni_table.specs.TableState.{TableState}
use Rattle.uni_table.proofs.RankedIn.{docs_apart}
use Rattle.uni_table.proofs.Sharded.{in_order-is}
use Rattle.uni_table.proofs.table.Table.ranked.Goals as goal

pub returns : goal.returns
returns c =
    let schema = c.self.inside.schema.value in
    let graph = c.self.inside.graph.contents in
    let found : IsPermutation (map doc_of (filter (is_of_shard schema c.args.vertical c.args.shard) graph.entities)) c.in_ok-docs.docs.items =
    subst (λ (s : Declarations). IsPermutation (map doc_of (filter (is_of_shard s c.args.vertical c.args.shard) graph.entities)) c.in_ok-docs.docs.items) c.deref.ensures c.in_ok-docs.ensures in
    let sorted : IsPermutation (map doc_of (filter (is_of_shard schema c.args.vertical c.args.shard) graph.entities)) c.sort_unstable.new.self.items =
    IsPermutation-trans (map doc_of (filter (is_of_shard schema c.args.vertical c.args.shard) graph.entities)) c.in_ok-docs.docs.items c.sort_unstable.new.self.items found c.sort_unstable.ensures.permutation in
    c.from_vec.ensures
    ∙ in_order-is (map doc_of (filter (is_of_shard schema c.args.vertical c.args.shard) graph.entities)) c.sort_unstable.new.self.items
    (docs_apart (is_of_shard schema c.args.vertical c.args.shard) graph.entities c.self.invariant.contents.entities) sorted c.sort_unstable.ensures.sorted
    ∙ ap (λ (t : TableState). ranked t.schema t.contents c.args.vertical c.args.shard) c.self.view_is
