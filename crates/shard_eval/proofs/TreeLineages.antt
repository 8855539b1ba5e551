-- The tree of an entity stands for its lineages.
use Rattle.std.proofs.Common.{◌≡◌, ℕ, Bool, true, false, cond, if◌then◌else◌, List, [], ◌∷◌, ◌++◌, Option, None, Some, is_some, append-nil, filter, map, refl, ◌∙◌, ap}
use Rattle.std.proofs.lemmas.List.{map-append}
use Rattle.std.specs.List.{flat_map}
use Rattle.std.specs.Option.{option_map, option_map_or}
use Rattle.query_tree.specs.declared.kind.ListKind.TheVariants.{And, Or, Difference, WeakAnd, StrongOr}
use Rattle.query_check.specs.Plan.{Plan, Plans, term_plan, prefix_plan, list_plan, join_plan, no_plans, with_plan}
use Rattle.uni_base.specs.declared.edge.EdgeRef.{EdgeRef}
use Rattle.uni_base.specs.declared.edge.Held.{Held}
use Rattle.uni_base.specs.declared.edge.Key.{Key}
use Rattle.uni_base.specs.declared.edge.Key.TheVariants.{Id, Word}
use Rattle.uni_base.specs.declared.entity.DocKey.{DocKey}
use Rattle.uni_schema.specs.Schema.{Declarations}
use Rattle.uni_table.specs.Contents.{Contents, edge_at}
use Rattle.uni_table.specs.declared.command.EdgeRow.{EdgeRow}
use Rattle.uni_meaning.specs.Hits.{cut, edge_to, is_hit, leads_to}
use Rattle.uni_meaning.specs.Lineages.{choices, lineages, under_each, under_first, under_having, under_one}
use Rattle.uni_meaning.specs.Prefixes.{prefix_keys}
use Rattle.lineage_tree.specs.Accepted.{edges_of}
use Rattle.lineage_tree.specs.Lists.{choices_of, joined, lists_of, members_lists}
use Rattle.lineage_tree.specs.Tree.{Tree, Forest, edge, any_of, no_members, with_member, forest_of}
use Rattle.shard_eval.specs.PlanTrees.{both_of, edge_tree, plan_tree, tree_first, trees_each, trees_having}

-- the lists that a tree stands for, by their edges
abbrev told : Tree → List (List EdgeRef)
told tree = map edges_of (lists_of [] tree)

abbrev told_any : Forest → List (List EdgeRef)
told_any members = map edges_of (members_lists [] members)

abbrev told_all : Forest → List (List EdgeRef)
told_all members = map edges_of (choices_of [] members)

-- an edge, where the table has it
edge_told : (table : Contents) (number : ℕ) (key : Key) (x : DocKey) → told (edge_tree table number key x) ≡ (if leads_to table number key x then (edge_to number key x.id ∷ []) ∷ [] else [])
edge_told table number key x = over (edge_at table (edge_to number key x.id))
  where
    over : (row : Option EdgeRow)
        → told (option_map_or (λ audience. edge (record { edge = edge_to number key x.id; audience = audience })) (option_map (λ (r : EdgeRow). r.audience) row) (any_of no_members))
        ≡ (if is_some row then (edge_to number key x.id ∷ []) ∷ [] else [])
    over None = refl
    over (Some row) = refl

-- one list of each of two, joined
choices_told : (firsts seconds : List (List Held)) → map edges_of (joined firsts seconds) ≡ choices (map edges_of firsts) (map edges_of seconds)
choices_told [] seconds = refl
choices_told (own ∷ firsts) seconds =
    map-append edges_of (map (λ rest. own ++ rest) seconds) (joined firsts seconds)
    ∙ (λ i. with_own own seconds i ++ choices_told firsts seconds i)
  where
    with_own : (own : List Held) (seconds : List (List Held)) → map edges_of (map (λ rest. own ++ rest) seconds) ≡ map (λ rest. edges_of own ++ rest) (map edges_of seconds)
    with_own own [] = refl
    with_own own (rest ∷ seconds) = (λ i. map-append (λ (h : Held). h.edge) own rest i ∷ with_own own seconds i)

any_more : (tree : Tree) (members : Forest) → told_any (with_member tree members) ≡ told tree ++ told_any members
any_more tree members = map-append edges_of (lists_of [] tree) (members_lists [] members)

all_more : (tree : Tree) (members : Forest) → told_all (with_member tree members) ≡ choices (told tree) (told_all members)
all_more tree members = choices_told (lists_of [] tree) (choices_of [] members)

-- an edge and then a tree
both_told : (table : Contents) (number : ℕ) (key : Key) (x : DocKey) (tree : Tree) → leads_to table number key x ≡ true → told (both_of (edge_tree table number key x) tree) ≡ map (λ rest. edge_to number key x.id ∷ rest) (told tree)
both_told table number key x tree leads =
    let e = edge_to number key x.id in
    let here : told (edge_tree table number key x) ≡ (e ∷ []) ∷ [] = edge_told table number key x ∙ ap (λ b. if b then (e ∷ []) ∷ [] else []) leads in
    all_more (edge_tree table number key x) (with_member tree no_members)
    ∙ (λ i. choices (here i) ((all_more tree no_members ∙ with_nothing (told tree)) i)) ∙ append-nil (map (λ rest. e ∷ rest) (told tree))
  where
    with_nothing : (lists : List (List EdgeRef)) → choices lists ([] ∷ []) ≡ lists
    with_nothing [] = refl
    with_nothing (list ∷ lists) = (λ i. append-nil list i ∷ with_nothing lists i)

-- the edges of the words that lead to an entity
words_told : (table : Contents) (number : ℕ) (x : DocKey) (words : List (List ℕ))
    → told_any (forest_of (map (λ word. edge_tree table number (Word word) x) (filter (λ word. leads_to table number (Word word) x) words)))
    ≡ map (λ word. edge_to number (Word word) x.id ∷ []) (filter (λ word. leads_to table number (Word word) x) words)
words_told table number x [] = refl
words_told table number x (word ∷ words) = over (words_told table number x words) (leads_to table number (Word word) x) refl
  where
    over : told_any (forest_of (map (λ w. edge_tree table number (Word w) x) (filter (λ w. leads_to table number (Word w) x) words))) ≡ map (λ w. edge_to number (Word w) x.id ∷ []) (filter (λ w. leads_to table number (Word w) x) words)
        → (b : Bool) → leads_to table number (Word word) x ≡ b
        → told_any (forest_of (map (λ w. edge_tree table number (Word w) x) (cond b (word ∷ filter (λ w. leads_to table number (Word w) x) words) (filter (λ w. leads_to table number (Word w) x) words))))
        ≡ map (λ w. edge_to number (Word w) x.id ∷ []) (cond b (word ∷ filter (λ w. leads_to table number (Word w) x) words) (filter (λ w. leads_to table number (Word w) x) words))
    over rest true leads =
        any_more (edge_tree table number (Word word) x) (forest_of (map (λ w. edge_tree table number (Word w) x) (filter (λ w. leads_to table number (Word w) x) words)))
        ∙ (λ i. (edge_told table number (Word word) x ∙ ap (λ b. if b then (edge_to number (Word word) x.id ∷ []) ∷ [] else []) leads) i ++ rest i)
    over rest false leads = rest

-- with the tree under one operand more, where it has the entity
having_step : (b : Bool) (tree : Tree) (trees : Forest) (own rest : List (List EdgeRef)) → told tree ≡ own → told_all trees ≡ rest → told_all (if b then with_member tree trees else trees) ≡ (if b then choices own rest else rest)
having_step true tree trees own rest one others = all_more tree trees ∙ (λ i. choices (one i) (others i))
having_step false tree trees own rest one others = others

one_step : (b : Bool) (tree : Tree) (trees : Forest) (own rest : List (List EdgeRef)) → told tree ≡ own → told_any trees ≡ rest → told_any (if b then with_member tree trees else trees) ≡ (if b then own ++ rest else rest)
one_step true tree trees own rest one others = any_more tree trees ∙ (λ i. one i ++ others i)
one_step false tree trees own rest one others = others

-- by each entity of a cut
join_told : (schema : Declarations) (table : Contents) (number : ℕ) (plan : Plan) (x : DocKey) → ((y : DocKey) → told (plan_tree schema table plan y) ≡ lineages schema table plan y) → (ys : List DocKey)
    → told_any (forest_of (map (λ y. both_of (edge_tree table number (Id y.id) x) (plan_tree schema table plan y)) (filter (λ y. leads_to table number (Id y.id) x) ys)))
    ≡ flat_map (λ y. if leads_to table number (Id y.id) x then map (λ rest. edge_to number (Id y.id) x.id ∷ rest) (lineages schema table plan y) else []) ys
join_told schema table number plan x each [] = refl
join_told schema table number plan x each (y ∷ ys) = over (join_told schema table number plan x each ys) (leads_to table number (Id y.id) x) refl
  where
    over : told_any (forest_of (map (λ z. both_of (edge_tree table number (Id z.id) x) (plan_tree schema table plan z)) (filter (λ z. leads_to table number (Id z.id) x) ys)))
        ≡ flat_map (λ z. if leads_to table number (Id z.id) x then map (λ rest. edge_to number (Id z.id) x.id ∷ rest) (lineages schema table plan z) else []) ys
        → (b : Bool) → leads_to table number (Id y.id) x ≡ b
        → told_any (forest_of (map (λ z. both_of (edge_tree table number (Id z.id) x) (plan_tree schema table plan z)) (cond b (y ∷ filter (λ z. leads_to table number (Id z.id) x) ys) (filter (λ z. leads_to table number (Id z.id) x) ys))))
        ≡ (if b then map (λ rest. edge_to number (Id y.id) x.id ∷ rest) (lineages schema table plan y) else [])
        ++ flat_map (λ z. if leads_to table number (Id z.id) x then map (λ rest. edge_to number (Id z.id) x.id ∷ rest) (lineages schema table plan z) else []) ys
    over more true leads =
        any_more (both_of (edge_tree table number (Id y.id) x) (plan_tree schema table plan y)) (forest_of (map (λ z. both_of (edge_tree table number (Id z.id) x) (plan_tree schema table plan z)) (filter (λ z. leads_to table number (Id z.id) x) ys)))
        ∙ (λ i. (both_told table number (Id y.id) x (plan_tree schema table plan y) leads ∙ ap (map (λ rest. edge_to number (Id y.id) x.id ∷ rest)) (each y)) i ++ more i)
    over more false leads = more

mutual
  pub tree_told : (schema : Declarations) (table : Contents) (plan : Plan) (x : DocKey) → told (plan_tree schema table plan x) ≡ lineages schema table plan x
  tree_told schema table (term_plan number key) x = edge_told table number key x
  tree_told schema table (prefix_plan number from) x = words_told table number x (prefix_keys table number from)
  tree_told schema table (list_plan And plans) x = each_told schema table plans x
  tree_told schema table (list_plan Or plans) x = one_told schema table plans x
  tree_told schema table (list_plan Difference plans) x = first_told schema table plans x
  tree_told schema table (list_plan WeakAnd plans) x = having_told schema table plans x
  tree_told schema table (list_plan StrongOr plans) x = one_told schema table plans x
  tree_told schema table (join_plan kind number limit plan) x = join_told schema table number plan x (tree_told schema table plan) (cut schema table plan limit)

  each_told : (schema : Declarations) (table : Contents) (plans : Plans) (x : DocKey) → told_all (trees_each schema table plans x) ≡ under_each schema table plans x
  each_told schema table no_plans x = refl
  each_told schema table (with_plan plan mark others) x =
      all_more (plan_tree schema table plan x) (trees_each schema table others x) ∙ (λ i. choices (tree_told schema table plan x i) (each_told schema table others x i))

  having_told : (schema : Declarations) (table : Contents) (plans : Plans) (x : DocKey) → told_all (trees_having schema table plans x) ≡ under_having schema table plans x
  having_told schema table no_plans x = refl
  having_told schema table (with_plan plan mark others) x =
      having_step (is_hit schema table plan x) (plan_tree schema table plan x) (trees_having schema table others x) (lineages schema table plan x) (under_having schema table others x)
      (tree_told schema table plan x) (having_told schema table others x)

  one_told : (schema : Declarations) (table : Contents) (plans : Plans) (x : DocKey) → told_any (trees_having schema table plans x) ≡ under_one schema table plans x
  one_told schema table no_plans x = refl
  one_told schema table (with_plan plan mark others) x =
      one_step (is_hit schema table plan x) (plan_tree schema table plan x) (trees_having schema table others x) (lineages schema table plan x) (under_one schema table others x)
      (tree_told schema table plan x) (one_told schema table others x)

  first_told : (schema : Declarations) (table : Contents) (plans : Plans) (x : DocKey) → told (tree_first schema table plans x) ≡ under_first schema table plans x
  first_told schema table no_plans x = refl
  first_told schema table (with_plan plan mark others) x = tree_told schema table plan x
