-- A query whose joins are answered stands for a plan over a table.
use Rattle.std.specs.Prelude.{ℕ, ◌≡◌, All, List, map}
use Rattle.posting_lists.specs.declared.posting.Posting.{Posting}
use Rattle.lineage_tree.specs.Tree.{Forest, Tree, edge, all_of, any_of, entry, no_members, with_member}
use Rattle.std.specs.List.{filter_map}
use Rattle.query_tree.specs.declared.kind.JoinKind.TheVariants.{Apply, Extract}
use Rattle.query_check.specs.Plan.{Plan, Plans, term_plan, prefix_plan, list_plan, join_plan, no_plans, with_plan}
use Rattle.uni_base.specs.declared.edge.Key.TheVariants.{Id}
use Rattle.uni_base.specs.declared.entity.DocKey.{DocKey}
use Rattle.uni_schema.specs.Schema.{Declarations}
use Rattle.uni_table.specs.Contents.{Contents}
use Rattle.uni_table.specs.Ranked.{ranked}
use Rattle.uni_meaning.specs.Hits.{cut, hits, target_of}
use Rattle.shard_index.specs.Laws.{posting_to}
use Rattle.shard_eval.specs.declared.resolved.InnerHit.{InnerHit}
use Rattle.shard_eval.specs.Found.{Found}
use Rattle.shard_eval.specs.PlanTrees.{plan_tree}
use Rattle.shard_eval.specs.Resolution.{Resolution, Resolutions, term_node, prefix_node, list_node, joined_node, listed_node, no_nodes, with_node}

-- a tree with what entries name in their place
abbrev mutual
  pub filled : (ℕ → Tree) → Tree → Tree
  filled book (edge held) = edge held
  filled book (all_of members) = all_of (all_filled book members)
  filled book (any_of members) = any_of (all_filled book members)
  filled book (entry number) = book number

  pub all_filled : (ℕ → Tree) → Forest → Forest
  all_filled book no_members = no_members
  all_filled book (with_member tree members) = with_member (filled book tree) (all_filled book members)

-- inner hits are the cut of an inner plan, and what the book names for each is its tree
pub record AreOfCut (schema : Declarations) (table : Contents) (book : ℕ → Tree) (plan : Plan) (limit : ℕ) (inner : List InnerHit) : Type 0 where
  pub keys : map (λ hit. hit.key) inner ≡ cut schema table plan limit
  pub trees : All (λ hit. book hit.entry ≡ plan_tree schema table plan hit.key) inner

-- the edges of a type from an entity that lead into a shard
abbrev pub edges_into : Declarations → Contents → ℕ → ℕ → DocKey → List Posting
edges_into schema table number shard y = filter_map (posting_to table number (Id y.id)) (ranked schema table (target_of schema number) shard)

-- a resolved query stands for a plan in a shard: it is the same, but that joins have the cuts of their inner plans
abbrev mutual
  pub StandsFor : Declarations → Contents → (ℕ → Tree) → ℕ → Plan → Resolution → Type 0
  StandsFor schema table book shard (term_plan number key) (term_node own term_key) = (own ≡ number) × (term_key ≡ key)
  StandsFor schema table book shard (prefix_plan number from) (prefix_node own begin) = (own ≡ number) × (begin ≡ from)
  StandsFor schema table book shard (list_plan kind plans) (list_node own nodes) = (own ≡ kind) × AllStandFor schema table book shard plans nodes
  StandsFor schema table book shard (join_plan Apply number limit plan) (joined_node own inner) = (own ≡ number) × AreOfCut schema table book plan limit inner
  StandsFor schema table book shard (join_plan Extract number limit plan) (listed_node own inner) =
      (own ≡ number) × AreOfCut schema table book plan limit (map (λ listing. listing.hit) inner) × All (λ listing. listing.rows ≡ edges_into schema table number shard listing.hit.key) inner
  StandsFor schema table book shard plan node = ⊥

  pub AllStandFor : Declarations → Contents → (ℕ → Tree) → ℕ → Plans → Resolutions → Type 0
  AllStandFor schema table book shard no_plans no_nodes = Unit {0}
  AllStandFor schema table book shard (with_plan plan mark others) (with_node node own rest) =
      (own ≡ mark) × StandsFor schema table book shard plan node × AllStandFor schema table book shard others rest
  AllStandFor schema table book shard plans nodes = ⊥

-- what is found is what is meant: the hits of a plan in a shard, each with its tree once the entries are in place
abbrev pub seen_found : (ℕ → Tree) → Found → DocKey × Tree
seen_found book f = (f.key, filled book f.tree)

abbrev pub meant : Declarations → Contents → Plan → ℕ → List (DocKey × Tree)
meant schema table plan shard = map (λ k. (k, plan_tree schema table plan k)) (hits schema table plan shard)
