-- Which entities a query finds.
use Rattle.std.specs.Prelude.{ℕ, Bool, false, not, ◌&&◌, List, [], ◌∷◌, filter, take}
use Rattle.std.specs.List.{flat_map, list_all, list_any, range_with_len}
use Rattle.std.specs.Option.{option_map_or}
use Rattle.std.specs.Ordering.{is_eq}
use Rattle.uni_base.specs.RankOrder.{doc_cmp}
use Rattle.uni_base.specs.Walks.{Quota, Unmarked, Count, Weight, Walker, weak_walk, strong_walk}
use Rattle.uni_base.specs.declared.edge.EdgeRef.{EdgeRef}
use Rattle.uni_base.specs.declared.edge.Key.{Key}
use Rattle.uni_base.specs.declared.edge.Key.TheVariants.{Id, Word}
use Rattle.uni_base.specs.declared.entity.DocKey.{DocKey}
use Rattle.uni_schema.specs.Schema.{Declarations, type_at, vertical_at, shard_of}
use Rattle.uni_table.specs.Contents.{Contents, has_edge}
use Rattle.uni_table.specs.Ranked.{ranked, in_rank_order}
use Rattle.query_tree.specs.declared.kind.ListKind.{ListKind}
use Rattle.query_tree.specs.declared.kind.ListKind.TheVariants.{And, Or, Difference, WeakAnd, StrongOr}
use Rattle.query_tree.specs.declared.query.Mark.{Mark}
use Rattle.query_tree.specs.declared.query.Mark.TheVariants as marks
use Rattle.query_check.specs.Plan.{Plan, Plans, term_plan, prefix_plan, list_plan, join_plan, no_plans, with_plan}
use Rattle.uni_meaning.specs.Prefixes.{prefix_keys}

-- the vertical that edges of a type lead to
abbrev pub target_of : Declarations → ℕ → ℕ
target_of schema number = option_map_or (λ type_def. type_def.target) (type_at schema number) 0

-- the vertical of a plan's hits: that of its type's targets, or of its first operand
abbrev mutual
  pub vertical_of : Declarations → Plan → ℕ
  vertical_of schema (term_plan number key) = target_of schema number
  vertical_of schema (prefix_plan number from) = target_of schema number
  vertical_of schema (list_plan kind plans) = first_vertical schema plans
  vertical_of schema (join_plan kind number limit plan) = target_of schema number

  pub first_vertical : Declarations → Plans → ℕ
  first_vertical schema no_plans = 0
  first_vertical schema (with_plan plan mark others) = vertical_of schema plan

-- the edge of a type and key to an entity, and whether the table has it
abbrev pub edge_to : ℕ → Key → ℕ → EdgeRef
edge_to number key id = record { type_no = number; key = key; target = id }

abbrev pub leads_to : Contents → ℕ → Key → DocKey → Bool
leads_to table number key k = has_edge table (edge_to number key k.id)

-- whether a key is among keys
abbrev pub is_among : List DocKey → DocKey → Bool
is_among ks k = list_any (λ x. is_eq (doc_cmp k x)) ks

-- how many shards a vertical has
abbrev pub shards_of : Declarations → ℕ → ℕ
shards_of schema vertical = option_map_or (λ v. v.shards) (vertical_at schema vertical) 0

-- the first of what the shards of a vertical have, in rank order over all of them
abbrev pub first_over : Declarations → ℕ → ℕ → (ℕ → List DocKey) → List DocKey
first_over schema vertical limit shard_list = take limit (in_rank_order (flat_map shard_list (range_with_len 0 (shards_of schema vertical))))

-- what an operand's mark lets a walk count
abbrev pub quota_of : Mark → Quota
quota_of marks.Plain = Unmarked
quota_of (marks.Hits left) = Count left
quota_of (marks.Weight n d) = Weight n d

-- of an operand's entities, as a walk begins with it
abbrev pub operand_over : List DocKey → Mark → Walker DocKey
operand_over own mark = record { has = is_among own; quota = quota_of mark; own = 0 }

-- whether the first operand has an entity and no other does
abbrev pub first_alone : List (Walker DocKey) → DocKey → Bool
first_alone [] k = false
first_alone (o ∷ others) k = o.has k && not (list_any (λ other. other.has k) others)

-- what an operator over operands finds of a list in rank order: what all operands have, what some has, what
-- the first has alone, or what a walk keeps
abbrev pub kept_by : ListKind → List (Walker DocKey) → List DocKey → List DocKey
kept_by And operands ks = filter (λ k. list_all (λ o. o.has k) operands) ks
kept_by Or operands ks = filter (λ k. list_any (λ o. o.has k) operands) ks
kept_by Difference operands ks = filter (first_alone operands) ks
kept_by WeakAnd operands ks = weak_walk 0 operands ks
kept_by StrongOr operands ks = strong_walk 0 operands ks

-- Hits: the entities of a shard that a plan finds, in rank order. A term finds those that its edge leads to,
-- a prefix term those that an edge of some of its keys leads to, a list what its operator finds by its
-- operands in the shard, and a join those that an edge of its type leads to from some of the first hits of
-- its inner plan, which are taken over all shards
abbrev mutual
  pub hits : Declarations → Contents → Plan → ℕ → List DocKey
  hits schema table (term_plan number key) shard = filter (leads_to table number key) (ranked schema table (target_of schema number) shard)
  hits schema table (prefix_plan number from) shard =
      let keys = prefix_keys table number from in
      filter (λ k. list_any (λ word. leads_to table number (Word word) k) keys) (ranked schema table (target_of schema number) shard)
  hits schema table (list_plan kind plans) shard = kept_by kind (operands schema table plans shard) (ranked schema table (first_vertical schema plans) shard)
  hits schema table (join_plan kind number limit plan) shard =
      let from = first_over schema (vertical_of schema plan) limit (hits schema table plan) in
      filter (λ k. list_any (λ y. leads_to table number (Id y.id) k) from) (ranked schema table (target_of schema number) shard)

  pub operands : Declarations → Contents → Plans → ℕ → List (Walker DocKey)
  operands schema table no_plans shard = []
  operands schema table (with_plan plan mark others) shard = operand_over (hits schema table plan shard) mark ∷ operands schema table others shard

-- Cut: the first hits of a plan in rank order over all shards of its vertical, as many as the limit says
abbrev pub cut : Declarations → Contents → Plan → ℕ → List DocKey
cut schema table plan limit = first_over schema (vertical_of schema plan) limit (hits schema table plan)

-- whether an entity is a hit: it is one in its own shard
abbrev pub is_hit : Declarations → Contents → Plan → DocKey → Bool
is_hit schema table plan k = is_among (hits schema table plan (shard_of schema (vertical_of schema plan) k.id)) k
