-- What follows from the definitions.
use Rattle.std.specs.Prelude.{ℕ, ◌≡◌, ◌↔◌, ◌++◌, ◌+◌, ◌-◌, nat_lt, Bool, true, false, ◌&&◌, ◌||◌, if◌then◌else◌, List, [], ◌∷◌, Option, None, Some, map}
use Rattle.std.specs.Cmp.Lexicographic.{slice_cmp}
use Rattle.std.specs.List.{Contains, list_all, list_any}
use Rattle.std.specs.List.Sorted.{IsStrictlySortedBy}
use Rattle.std.specs.Ordering.{nat_cmp}
use Rattle.uni_base.specs.Walks.{Quota, Unmarked, Count, Weight, Walker, weak_walk}
use Rattle.uni_base.specs.declared.edge.EdgeRef.{EdgeRef}
use Rattle.uni_base.specs.declared.entity.DocKey.{DocKey}
use Rattle.uni_base.specs.declared.limits.Limits.{Limits}
use Rattle.uni_schema.specs.Schema.{Declarations, IsSchema, shard_of}
use Rattle.uni_schema.specs.declared.schema.VerticalDef.{VerticalDef}
use Rattle.uni_table.specs.Contents.{Contents, has_edge}
use Rattle.uni_table.specs.Ranked.{ranked}
use Rattle.uni_table.specs.TableState.{IsKept}
use Rattle.query_tree.specs.declared.kind.ListKind.TheVariants.{Or}
use Rattle.query_tree.specs.declared.query.Mark.TheVariants.{Plain}
use Rattle.query_check.specs.Verticals.{IsOf}
use Rattle.query_check.specs.Plan.{Plan, Plans, term_plan, prefix_plan, list_plan, join_plan, no_plans, with_plan}
use Rattle.uni_meaning.specs.Firsts.{first_given, first_shown}
use Rattle.uni_meaning.specs.Hits.{cut, hits, is_hit, target_of}
use Rattle.uni_meaning.specs.Lineages.{IsLineage, Shown, lineages}
use Rattle.uni_meaning.specs.Policy.{authorised}
use Rattle.uni_meaning.specs.Prefixes.{prefix_keys}
use Rattle.uni_meaning.specs.Replies.{reply_of}
use Rattle.uni_meaning.specs.SpelledOut.{IsSpelledOut, spelled_out, terms_of}
use Rattle.uni_meaning.specs.declared.reply.Hit.{Hit}

-- the first list of which every edge passes a test
abbrev pub first_whole : (EdgeRef → Bool) → List (List EdgeRef) → Option (List EdgeRef)
first_whole test lists = first_given (λ edges. if list_all test edges then Some edges else None) lists

-- what a viewer is shown of an entity is the first of its lineages whose edges are all authorised, if there
-- is one
pub record FirstIsFirst : Type 0 where
  pub first : (schema : Declarations) (table : Contents) (viewer : ℕ) (plan : Plan) (x : DocKey) → first_shown schema table viewer plan x ≡ first_whole (authorised schema table viewer) (lineages schema table plan x)

-- something is shown of a hit exactly where some one lineage of it has authorised edges alone, which is said of
-- hits alone
pub record FirstIsShown : Type 0 where
  pub exact : (schema : Declarations) (table : Contents) (viewer : ℕ) (plan : Plan) (x : DocKey) → is_hit schema table plan x ≡ true
      → ((edges : List EdgeRef) × (first_shown schema table viewer plan x ≡ Some edges)) ↔ Shown schema table viewer plan x
  pub of_hits : (schema : Declarations) (table : Contents) (viewer : ℕ) (plan : Plan) (x : DocKey) → Shown schema table viewer plan x → is_hit schema table plan x ≡ true

-- the list of lineages has exactly the lineages
pub record LineagesAreExact : Type 0 where
  pub exact : (schema : Declarations) (table : Contents) (plan : Plan) (x : DocKey) (edges : List EdgeRef) → Contains (lineages schema table plan x) edges ↔ IsLineage schema table plan x edges

-- every edge of a lineage is an edge of the table
pub record LineagesStand : Type 0 where
  pub stands : (schema : Declarations) (table : Contents) (plan : Plan) (x : DocKey) (edges : List EdgeRef) → IsLineage schema table plan x edges → list_all (has_edge table) edges ≡ true

-- every hit of a typed plan has a lineage, over a table that keeps what tables keep
pub record HitsHaveLineages : Type 0 where
  pub has : (schema : Declarations) (limits : Limits) (table : Contents) (plan : Plan) (vertical : ℕ) (x : DocKey) → IsKept schema limits table → IsOf schema plan vertical
      → is_hit schema table plan x ≡ true → (edges : List EdgeRef) × IsLineage schema table plan x edges

-- no operand of a plan has a quota
abbrev mutual
  pub HasNoQuota : Plan → Type 0
  HasNoQuota (term_plan number key) = Unit {0}
  HasNoQuota (prefix_plan number from) = Unit {0}
  HasNoQuota (list_plan kind plans) = HaveNoQuota plans
  HasNoQuota (join_plan kind number limit plan) = HasNoQuota plan

  pub HaveNoQuota : Plans → Type 0
  HaveNoQuota no_plans = Unit {0}
  HaveNoQuota (with_plan plan mark others) = (mark ≡ Plain) × HasNoQuota plan × HaveNoQuota others

-- replies to typed plans without quotas do not depend on the number of shards: they are the same under other
-- verticals, whatever the shards of each
pub record ShardsMakeNoDifference : Type 0 where
  pub same : (schema : Declarations) (verticals : List VerticalDef) (limits : Limits) (table : Contents) (plan : Plan) (vertical publishes viewer limit : ℕ) → IsSchema schema
      → IsSchema (record schema { verticals = verticals }) → IsKept schema limits table → IsOf schema plan vertical → HasNoQuota plan
      → reply_of (record schema { verticals = verticals }) table publishes plan viewer limit ≡ reply_of schema table publishes plan viewer limit

-- a reply at a limit begins the reply at any greater one
pub record RepliesBegin : Type 0 where
  pub begins : (schema : Declarations) (table : Contents) (publishes : ℕ) (plan : Plan) (viewer limit more : ℕ)
      → (rest : List Hit) × ((reply_of schema table publishes plan viewer (limit + more)).hits ≡ (reply_of schema table publishes plan viewer limit).hits ++ rest)

-- an operand of a walk that knows counts alone: how many entities may still be kept without it
pub record Counted (K : Type 0) : Type 0 where
  pub has : K → Bool
  pub left : ℕ

-- what a walk with counts alone keeps: an entity that some operand has, where the count of each operand
-- that lacks it is above 0; those counts are one lower then
abbrev pub count_walk : {K : Type 0} → List (Counted K) → List K → List K
count_walk operands [] = []
count_walk operands (x ∷ xs) = elim (list_any (λ o. o.has x) operands && list_all (λ o. o.has x || nat_lt 0 o.left) operands) [
  | true ↦ x ∷ count_walk (map (λ o. if o.has x then o else record o { left = o.left - 1 }) operands) xs
  | false ↦ count_walk operands xs
]

-- an operand's count: none is 0
abbrev pub left_of : Quota → ℕ
left_of Unmarked = 0
left_of (Count left) = left
left_of (Weight n d) = 0

abbrev pub counted : {K : Type 0} → Walker K → Counted K
counted o = record { has = o.has; left = left_of o.quota }

-- whether an operand has no weight
abbrev pub is_light : Quota → Bool
is_light Unmarked = true
is_light (Count left) = true
is_light (Weight n d) = false

-- for operands without a weight the weak walk is the one with counts alone, whatever was kept before
pub record LightWalk (K : Type 0) : Type 0 where
  pub light : (operands : List (Walker K)) (kept : ℕ) (xs : List K) → list_all (λ o. is_light o.quota) operands ≡ true → weak_walk kept operands xs ≡ count_walk (map counted operands) xs

-- a prefix term is the `or` of the terms of its keys: without a key it finds nothing, with some it finds the
-- same entities, and each entity of the vertical by the same lineages in the same order
pub record PrefixIsOr : Type 0 where
  pub nothing : (schema : Declarations) (table : Contents) (number shard : ℕ) (from : List ℕ) → prefix_keys table number from ≡ [] → hits schema table (prefix_plan number from) shard ≡ []
  pub found : (schema : Declarations) (table : Contents) (number shard : ℕ) (from first : List ℕ) (others : List (List ℕ)) → prefix_keys table number from ≡ first ∷ others
      → hits schema table (prefix_plan number from) shard ≡ hits schema table (list_plan Or (terms_of number (first ∷ others))) shard
  pub by_lineages : (schema : Declarations) (table : Contents) (number : ℕ) (from : List ℕ) (x : DocKey) → Contains (ranked schema table (target_of schema number) (shard_of schema (target_of schema number) x.id)) x
      → lineages schema table (prefix_plan number from) x ≡ lineages schema table (list_plan Or (terms_of number (prefix_keys table number from))) x

-- the keys of a prefix in a table that keeps what tables keep rise strictly by their bytes, so each is there once
pub record PrefixKeysRise : Type 0 where
  pub rise : (schema : Declarations) (limits : Limits) (table : Contents) → IsKept schema limits table → (number : ℕ) (from : List ℕ)
      → IsStrictlySortedBy (slice_cmp nat_cmp) (prefix_keys table number from)

-- A plan with its prefix terms spelled out, at any depth: no prefix term with a key is left in it, it is of each
-- vertical that the plan is of, and it means the same. It finds the same entities in every shard and has the
-- same cut at every limit; each hit has the same lineages in the same order, and what a viewer is shown of it is
-- the same; and so are the replies. Of an entity that is no hit the two may show different lists: a prefix term
-- asks for its edges alone, an `or` for operands that have the entity
pub record PrefixesSpelledOut : Type 0 where
  pub spelled : (table : Contents) (plan : Plan) → IsSpelledOut table (spelled_out table plan)
  pub typed : (schema : Declarations) (table : Contents) (plan : Plan) (vertical : ℕ) → IsOf schema plan vertical → IsOf schema (spelled_out table plan) vertical
  pub found : (schema : Declarations) (table : Contents) (plan : Plan) (shard : ℕ) → hits schema table (spelled_out table plan) shard ≡ hits schema table plan shard
  pub cuts : (schema : Declarations) (table : Contents) (plan : Plan) (limit : ℕ) → cut schema table (spelled_out table plan) limit ≡ cut schema table plan limit
  pub by_lineages : (schema : Declarations) (table : Contents) (plan : Plan) (x : DocKey) → is_hit schema table plan x ≡ true
      → lineages schema table (spelled_out table plan) x ≡ lineages schema table plan x
  pub shown : (schema : Declarations) (table : Contents) (viewer : ℕ) (plan : Plan) (x : DocKey) → is_hit schema table plan x ≡ true
      → first_shown schema table viewer (spelled_out table plan) x ≡ first_shown schema table viewer plan x
  pub replies : (schema : Declarations) (table : Contents) (publishes : ℕ) (plan : Plan) (viewer limit : ℕ)
      → reply_of schema table publishes (spelled_out table plan) viewer limit ≡ reply_of schema table publishes plan viewer limit
