-- The trees of inner hits, as the book of a query has them.
use Rattle.std.specs.Prelude.{ℕ, ◌≡◌, List, [], ◌++◌, length, map, slice_index_or}
use Rattle.uni_base.specs.declared.edge.Held.{Held}
use Rattle.uni_schema.specs.Schema.{Declarations}
use Rattle.uni_table.specs.Contents.{Contents}
use Rattle.query_check.specs.Plan.{Plan, Plans, term_plan, prefix_plan, list_plan, join_plan, no_plans, with_plan}
use Rattle.uni_meaning.specs.Hits.{cut}
use Rattle.lineage_tree.specs.Lists.{lists_of}
use Rattle.lineage_tree.specs.Tree.{Tree, any_of, no_members}
use Rattle.shard_eval.specs.PlanTrees.{plan_tree}

-- the trees of the inner hits of all joins of a plan: operand by operand, those of inner joins first
abbrev mutual
  pub booked : Declarations → Contents → Plan → List Tree
  booked schema table (term_plan number key) = []
  booked schema table (prefix_plan number from) = []
  booked schema table (list_plan kind plans) = all_booked schema table plans
  booked schema table (join_plan kind number limit plan) = booked schema table plan ++ map (plan_tree schema table plan) (cut schema table plan limit)

  pub all_booked : Declarations → Contents → Plans → List Tree
  all_booked schema table no_plans = []
  all_booked schema table (with_plan plan mark others) = booked schema table plan ++ all_booked schema table others

-- the tree of an entry
abbrev pub tree_in : List Tree → ℕ → Tree
tree_in trees number = slice_index_or trees number (any_of no_members)

-- what trees that name no entry stand for
abbrev pub lists_each : List Tree → List (List (List Held))
lists_each trees = map (lists_of []) trees

-- a book has grown by some trees
abbrev pub GainsTrees : List (List (List Held)) → List Tree → List (List (List Held)) → Type 0
GainsTrees old trees new = new ≡ old ++ lists_each trees

-- a statement on a book that has some trees after the entries of another one, and maybe more after them
abbrev pub WhereBooked : List (List (List Held)) → List Tree → ((ℕ → Tree) → Type 0) → Type 0
WhereBooked old trees says = (before after : List Tree) → length before ≡ length old → says (tree_in (before ++ (trees ++ after)))
