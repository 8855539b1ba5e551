-- The hits of a plan over all shards, with their trees, and what stands for a plan.
use Rattle.std.specs.Prelude.{ℕ, ◌≡◌, ◌<◌, ◌+◌, ◌++◌, All, List, [], ◌∷◌, map}
use Rattle.uni_base.specs.declared.edge.Held.{Held}
use Rattle.uni_base.specs.declared.limits.Limits.{Limits}
use Rattle.uni_schema.specs.Schema.{Declarations}
use Rattle.uni_table.specs.Contents.{Contents}
use Rattle.query_tree.specs.declared.query.Mark.{Mark}
use Rattle.query_check.specs.Plan.{Plan, Plans}
use Rattle.uni_meaning.specs.Hits.{cut}
use Rattle.lineage_tree.specs.declared.lineage.RawHit.{RawHit}
use Rattle.lineage_tree.specs.Lists.{lists_of}
use Rattle.lineage_tree.specs.Tree.{Tree, tree_of}
use Rattle.rack_aggregate.specs.Merged.{keys_of}
use Rattle.shard_index.specs.Versions.{VersionState}
use Rattle.viewer_policy.specs.Judged.{StandsFor}
use Rattle.shard_eval.specs.declared.resolved.InnerHit.{InnerHit}
use Rattle.shard_eval.specs.Meant.{AllStandFor, AreOfCut, filled, StandsFor as IsMeant}
use Rattle.shard_eval.specs.PlanTrees.{plan_tree}
use Rattle.shard_eval.specs.Resolution.{Resolution, nodes_of}
use Rattle.apply_extract.specs.Answered.{in_place}
use Rattle.apply_extract.specs.Booked.{all_booked, booked, GainsTrees, WhereBooked}

-- a book, as the lists of each of its entries
abbrev pub Book : Type 0
Book = List (List (List Held))

-- of whatever table a version stands for
abbrev pub OfEachTable : VersionState → (Contents → Type 0) → Type 0
OfEachTable version says = (limits : Limits) (table : Contents) → StandsFor version limits table → says table

-- a query whose joins are answered stands for a plan in each shard, where the book has gained the trees of
-- its inner hits
pub record IsAnswered (schema : Declarations) (plan : Plan) (shards : ℕ) (old new : Book) (query : ℕ → Resolution) (table : Contents) : Type 0 where
  pub gains : GainsTrees old (booked schema table plan) new
  pub stands : (shard : ℕ) → shard < shards → WhereBooked old (booked schema table plan) (λ book. IsMeant schema table book shard plan (query shard))

-- the same of operands
pub record AreAnswered (schema : Declarations) (plans : Plans) (shards : ℕ) (old new : Book) (operands : List ((ℕ → Resolution) × Mark)) (table : Contents) : Type 0 where
  pub gains : GainsTrees old (all_booked schema table plans) new
  pub stands : (shard : ℕ) → shard < shards → WhereBooked old (all_booked schema table plans) (λ book. AllStandFor schema table book shard plans (nodes_of (map (in_place shard) operands)))

-- hits are the cut of a plan, each with its tree once the entries are in place
pub record AreCut (schema : Declarations) (plan : Plan) (limit : ℕ) (old new : Book) (hits : List RawHit) (table : Contents) : Type 0 where
  pub gains : GainsTrees old (booked schema table plan) new
  pub keys : keys_of hits ≡ cut schema table plan limit
  pub trees : WhereBooked old (booked schema table plan) (λ book. All (λ hit. filled book (tree_of hit.lineage) ≡ plan_tree schema table plan hit.key) hits)

-- the trees of a cut, after those of the joins in its plan
abbrev pub cut_booked : Declarations → Contents → Plan → ℕ → List Tree
cut_booked schema table plan limit = booked schema table plan ++ map (plan_tree schema table plan) (cut schema table plan limit)

-- inner hits are a cut whose trees the book has gained
pub record AreInner (schema : Declarations) (plan : Plan) (limit : ℕ) (old new : Book) (inner : List InnerHit) (table : Contents) : Type 0 where
  pub gains : GainsTrees old (cut_booked schema table plan limit) new
  pub cuts : WhereBooked old (cut_booked schema table plan limit) (λ book. AreOfCut schema table book plan limit inner)

-- hits by the numbers of their entries, from a number on
abbrev pub numbered : ℕ → List RawHit → List InnerHit
numbered number [] = []
numbered number (hit ∷ hits) = record { key = hit.key; entry = number } ∷ numbered (number + 1) hits

-- what a book gains by their trees
abbrev pub with_hits : Book → List RawHit → Book
with_hits book hits = book ++ map (λ hit. lists_of book (tree_of hit.lineage)) hits
