use Rattle.std.proofs.Common.{◌≡◌, ◌++◌, sym, ap, ◌∙◌, subst, filter, map}
use Rattle.std.specs.Cmp.{nat_cmp_total}
use Rattle.std.specs.List.{filter_map}
use Rattle.std.specs.List.Sorted.{IsPermutation}
use Rattle.std.proofs.lemmas.List.{append-nil}
use Rattle.std.proofs.lemmas.List.Sorted.{IsPermutation-sym}
use Rattle.chained_rows.proofs.Picked.{IsPermutation-picked}
use Rattle.uni_table.specs.GraphRows.{contents_of, member_of, node_named}
use Rattle.uni_table.specs.Ranked.{doc_of, is_of_shard}
use Rattle.uni_table.proofs.GraphEntities.{ids-distinct}
use Rattle.uni_table.proofs.graph.rows.Rows.members.Goals as goal

pub returns : goal.returns
returns c =
    let rows = c.args.self.now in
    let test = is_of_shard c.args.schema.now c.args.vertical c.args.shard in
    let all : c.loop-id.docs.items ≡ filter_map (λ e. member_of c.args.schema.now c.args.vertical c.args.shard (node_named e)) rows.ids.entries =
    sym (append-nil c.loop-id.docs.items)
    ∙ ap (λ es. c.loop-id.docs.items ++ filter_map (λ e. member_of c.args.schema.now c.args.vertical c.args.shard (node_named e)) es) (sym c.in-None.ensures.steps.0)
    ∙ c.loop-id.invariant in
    subst (IsPermutation (map doc_of (filter test (contents_of rows).entities))) (sym all)
    (IsPermutation-sym _ (map doc_of (filter test (contents_of rows).entities)) (IsPermutation-picked nat_cmp_total doc_of test node_named rows.ids.entries (ids-distinct rows.ids.entries c.requires.kept.ids)))
