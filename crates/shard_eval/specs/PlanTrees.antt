-- The tree of a hit's lineages over a table.
use Rattle.std.specs.Prelude.{ℕ, if◌then◌else◌, filter, map}
use Rattle.std.specs.Option.{option_map_or}
use Rattle.query_tree.specs.declared.kind.ListKind.TheVariants.{And, Or, Difference, WeakAnd, StrongOr}
use Rattle.query_check.specs.Plan.{Plan, Plans, term_plan, prefix_plan, list_plan, join_plan, no_plans, with_plan}
use Rattle.uni_base.specs.declared.edge.Key.{Key}
use Rattle.uni_base.specs.declared.edge.Key.TheVariants.{Id, Word}
use Rattle.uni_base.specs.declared.entity.DocKey.{DocKey}
use Rattle.uni_schema.specs.Schema.{Declarations}
use Rattle.uni_table.specs.Contents.{Contents, audience_at}
use Rattle.uni_meaning.specs.Hits.{cut, edge_to, is_hit, leads_to}
use Rattle.uni_meaning.specs.Prefixes.{prefix_keys}
use Rattle.lineage_tree.specs.Tree.{Tree, Forest, edge, all_of, any_of, no_members, with_member, forest_of}

-- the edge of a type and key to an entity, with the audience that it has
abbrev pub edge_tree : Contents → ℕ → Key → DocKey → Tree
edge_tree table number key x =
    option_map_or (λ audience. edge (record { edge = edge_to number key x.id; audience = audience })) (audience_at table (edge_to number key x.id)) (any_of no_members)

-- two trees, both of them
abbrev pub both_of : Tree → Tree → Tree
both_of first second = all_of (with_member first (with_member second no_members))

-- TreeOf: of a term, its edge, and of a prefix term any of those of its keys; of `and` all of the trees under
-- the operands, of `weak-and` all of those under the operands that have the entity, of `or` and `strong-or` any
-- of these, and of `difference` that under the first; of a join, by each entity of the cut with an edge to it in
-- their order, that edge and the tree of that entity
abbrev mutual
  pub plan_tree : Declarations → Contents → Plan → DocKey → Tree
  plan_tree schema table (term_plan number key) x = edge_tree table number key x
  plan_tree schema table (prefix_plan number from) x =
      any_of (forest_of (map (λ word. edge_tree table number (Word word) x) (filter (λ word. leads_to table number (Word word) x) (prefix_keys table number from))))
  plan_tree schema table (list_plan And plans) x = all_of (trees_each schema table plans x)
  plan_tree schema table (list_plan Or plans) x = any_of (trees_having schema table plans x)
  plan_tree schema table (list_plan Difference plans) x = tree_first schema table plans x
  plan_tree schema table (list_plan WeakAnd plans) x = all_of (trees_having schema table plans x)
  plan_tree schema table (list_plan StrongOr plans) x = any_of (trees_having schema table plans x)
  plan_tree schema table (join_plan kind number limit plan) x =
      any_of (forest_of (map (λ y. both_of (edge_tree table number (Id y.id) x) (plan_tree schema table plan y)) (filter (λ y. leads_to table number (Id y.id) x) (cut schema table plan limit))))

  pub trees_each : Declarations → Contents → Plans → DocKey → Forest
  trees_each schema table no_plans x = no_members
  trees_each schema table (with_plan plan mark others) x = with_member (plan_tree schema table plan x) (trees_each schema table others x)

  pub trees_having : Declarations → Contents → Plans → DocKey → Forest
  trees_having schema table no_plans x = no_members
  trees_having schema table (with_plan plan mark others) x =
      if is_hit schema table plan x then with_member (plan_tree schema table plan x) (trees_having schema table others x) else trees_having schema table others x

  pub tree_first : Declarations → Contents → Plans → DocKey → Tree
  tree_first schema table no_plans x = any_of no_members
  tree_first schema table (with_plan plan mark others) x = plan_tree schema table plan x
