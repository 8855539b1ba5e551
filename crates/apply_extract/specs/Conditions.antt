-- What can be asked of a version.
use Rattle.std.specs.Prelude.{ℕ, List, [], ◌∷◌}
use Rattle.uni_base.specs.declared.limits.Limits.{Limits}
use Rattle.uni_schema.specs.Schema.{Declarations}
use Rattle.uni_table.specs.Contents.{Contents}
use Rattle.query_check.specs.Plan.{Plan, Plans, Seen, SeenOperand, SeenQuery, term_plan, prefix_plan, list_plan, join_plan, no_plans, with_plan}
use Rattle.query_check.specs.Verticals.{AreStated, IsOf}
use Rattle.shard_index.specs.Versions.{VersionState}
use Rattle.viewer_policy.specs.Judged.{StandsFor}
use Rattle.shard_eval.specs.Kept.{IsShare}

-- a version stands for some table that keeps what tables keep
abbrev pub IsStanding : VersionState → Type 0
IsStanding version = (limits : Limits) × ((table : Contents) × StandsFor version limits table)

-- weights in a plan are shares: above nothing, and at most the whole
abbrev mutual
  pub HasShares : Plan → Type 0
  HasShares (term_plan number key) = Unit {0}
  HasShares (prefix_plan number from) = Unit {0}
  HasShares (list_plan kind plans) = HaveShares plans
  HasShares (join_plan kind number limit plan) = HasShares plan

  pub HaveShares : Plans → Type 0
  HaveShares no_plans = Unit {0}
  HaveShares (with_plan plan mark others) = IsShare mark × HasShares plan × HaveShares others

-- a node that is typed under a schema, with hits in a vertical
pub record IsTyped (schema : Declarations) (vertical : ℕ) (node : Seen) : Type 0 where
  pub of : IsOf schema node.plan vertical
  pub inner : AreStated schema node.inner
  pub shares : HasShares node.plan

-- the node of a query
abbrev pub node_of : SeenQuery → Seen
node_of query = record { plan = query.stated.plan; inner = query.inner }

-- a query that is typed under a schema
abbrev pub IsAsked : Declarations → SeenQuery → Type 0
IsAsked schema query = IsTyped schema query.stated.vertical (node_of query)

-- operands of a list that are typed so
abbrev pub AreTyped : Declarations → ℕ → List SeenOperand → Type 0
AreTyped schema vertical [] = Unit {0}
AreTyped schema vertical (operand ∷ operands) = IsShare operand.mark × IsTyped schema vertical operand.node × AreTyped schema vertical operands
