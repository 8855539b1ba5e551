-- What follows from the definitions.
use Rattle.std.specs.Prelude.{ℕ, ◌≡◌, All, List, [], map}
use Rattle.query_check.specs.Verticals.{IsOf}
use Rattle.uni_base.specs.declared.limits.Limits.{Limits}
use Rattle.uni_table.specs.TableState.{IsKept}
use Rattle.lineage_tree.specs.Tree.{Tree}
use Rattle.shard_index.specs.Shards.{shard_rows}
use Rattle.shard_eval.specs.Meant.{meant, seen_found, StandsFor}
use Rattle.layer_stack.specs.Postings.{PostingTable}
use Rattle.shard_eval.specs.declared.resolved.InnerHit.{InnerHit}
use Rattle.shard_eval.specs.Resolution.{Listing, Resolution, found, found_joined, found_listing, joined_node, listed_node}
use Rattle.shard_eval.specs.Sizes.{IsSmall}
use Rattle.query_check.specs.Plan.{Plan}
use Rattle.uni_base.specs.declared.entity.DocKey.{DocKey}
use Rattle.uni_schema.specs.Schema.{Declarations}
use Rattle.uni_table.specs.Contents.{Contents}
use Rattle.uni_meaning.specs.Lineages.{lineages}
use Rattle.lineage_tree.specs.Accepted.{edges_of}
use Rattle.lineage_tree.specs.Lists.{lists_of}
use Rattle.shard_eval.specs.PlanTrees.{plan_tree}

-- the tree of an entity under a plan stands for exactly its lineages, in their order
abbrev pub TreesAreExact : Type 0
TreesAreExact = (schema : Declarations) (table : Contents) (plan : Plan) (x : DocKey) → map edges_of (lists_of [] (plan_tree schema table plan x)) ≡ lineages schema table plan x

-- of a shard of a table that keeps what tables keep, a query whose joins are answered finds the hits of the plan
-- that it stands for, in their order, each with its tree once what entries name stands in their place
abbrev pub FindsWhatIsMeant : Type 0
FindsWhatIsMeant = (schema : Declarations) (limits : Limits) (table : Contents) (book : ℕ → Tree) (vertical shard : ℕ) (plan : Plan) (node : Resolution)
    → IsKept schema limits table → IsOf schema plan vertical → StandsFor schema table book shard plan node
    → map (seen_found book) (found (shard_rows schema table vertical shard).postings node) ≡ meant schema table plan shard

-- the tree of a joined hit has at most one node, and three for each edge that joins it, however large the trees
-- of the inner hits are
pub record JoinsAreSmall : Type 0 where
  pub joined : (table : PostingTable) (number : ℕ) (inner : List InnerHit) → All (IsSmall (found_joined table number inner)) (found table (joined_node number inner))
  pub listed : (table : PostingTable) (number : ℕ) (inner : List Listing) → All (IsSmall (map (found_listing number) inner)) (found table (listed_node number inner))
