-- An operator over operands that find what is meant finds what is meant.
use Rattle.std.proofs.Common.{◌≡◌, ℕ, Bool, true, false, ◌||◌, ◌&&◌, if◌then◌else◌, true≢false, All, List, [], ◌∷◌, Option, None, Some, map, refl, sym, ◌∙◌, ap, subst}
use Rattle.std.proofs.lemmas.List.Elements.{All-cons, All-nil}
use Rattle.std.specs.List.{cons_option, list_all}
use Rattle.std.specs.Option.{option_map}
use Rattle.std.specs.Ordering.{is_eq}
use Rattle.query_check.specs.Plan.{Plan, Plans, term_plan, prefix_plan, list_plan, join_plan, no_plans, with_plan}
use Rattle.query_check.specs.Verticals.{AreOf, IsOf}
use Rattle.query_tree.specs.declared.kind.ListKind.{ListKind}
use Rattle.query_tree.specs.declared.kind.ListKind.TheVariants.{And, Or, Difference, WeakAnd, StrongOr}
use Rattle.query_tree.specs.declared.query.Mark.{Mark}
use Rattle.lineage_tree.specs.Tree.{Forest, Tree, all_of, any_of, forest_of, with_member}
use Rattle.layer_stack.specs.Postings.{PostingTable}
use Rattle.uni_base.specs.declared.entity.DocKey.{DocKey}
use Rattle.uni_base.specs.Cursors.{IsRanked}
use Rattle.uni_base.specs.KeySets.{has_key}
use Rattle.uni_base.specs.RankOrder.{doc_cmp}
use Rattle.uni_base.specs.Walks.{Walker}
use Rattle.uni_base.proofs.RankedLemmas.{has_key-filter, is_eq_self}
use Rattle.uni_schema.specs.Schema.{Declarations, shard_of}
use Rattle.uni_table.specs.Contents.{Contents}
use Rattle.uni_table.specs.Ranked.{ranked}
use Rattle.uni_meaning.specs.Hits.{first_alone, first_vertical, hits, is_among, is_hit, kept_by, operand_over, operands, target_of, vertical_of}
use Rattle.shard_eval.specs.Found.{Found, found_keys, tree_at, trees_at}
use Rattle.shard_eval.specs.Kept.{first_tree, found_at, found_list, kept, tree_by}
use Rattle.shard_eval.specs.Meant.{all_filled, filled, meant, seen_found}
use Rattle.shard_eval.specs.PlanTrees.{plan_tree, tree_first, trees_each, trees_having}
use Rattle.shard_eval.specs.Resolution.{Resolutions, all_found, found, marks_of, no_nodes, with_node}
use Rattle.shard_eval.proofs.HitsWithin.{IsPartOf, filter_part, first_true, kept_part, later_true, second_true}
use Rattle.shard_eval.proofs.KeptMeant.{among_has, keys_in, kept_meant, marks_in, over_all}
use Rattle.shard_eval.proofs.MeantLists.{keys_meant, paired, tree_meant}

-- trees with what entries name in their place, one by one
pub filled_forest : (book : ℕ → Tree) (trees : List Tree) → all_filled book (forest_of trees) ≡ forest_of (map (filled book) trees)
filled_forest book [] = refl
filled_forest book (tree ∷ trees) = ap (λ (f : Forest). with_member (filled book tree) f) (filled_forest book trees)

-- a tree that is meant where it is found
pub joined_tree : (book : ℕ → Tree) (one : Tree) (o : Option Tree) (trees : List Tree) (rest : Forest) (b : Bool) → option_map (filled book) o ≡ (if b then Some one else None) → forest_of (map (filled book) trees) ≡ rest
    → forest_of (map (filled book) (cons_option o trees)) ≡ (if b then with_member one rest else rest)
joined_tree book one None trees rest true e same = cc
joined_tree book one None trees rest false e same = same
joined_tree book one (Some tree) trees rest true e same = let is : filled book tree ≡ one = cc in (λ i. with_member (is i) (same i))
joined_tree book one (Some tree) trees rest false e same = cc

-- keys, each seen with its tree
pub each_seen : (book : ℕ → Tree) (at : DocKey → Found) (g : DocKey → Tree) (ks : List DocKey) → ((k : DocKey) → has_key ks k ≡ true → seen_found book (at k) ≡ (k, g k)) → map (seen_found book) (map at ks) ≡ paired g ks
each_seen book at g [] all = refl
each_seen book at g (k ∷ ks) all =
    (λ i. all k (ap (λ b. b || has_key ks k) (is_eq_self k)) i ∷ each_seen book at g ks (λ x there. all x (later_true (is_eq (doc_cmp k x)) (has_key ks x) there)) i)

both : (a b : Bool) → (a && b) ≡ true → (a ≡ true) × (b ≡ true)
both a b e = (first_true a b e, second_true a b e)

module _ (schema : Declarations) (table : Contents) where
  -- the hits of a plan in a shard are entities of its vertical there
  pub hits_in : (plan : Plan) (shard : ℕ) → IsPartOf (hits schema table plan shard) (ranked schema table (vertical_of schema plan) shard)
  hits_in (term_plan number key) shard = filter_part _ (ranked schema table (target_of schema number) shard)
  hits_in (prefix_plan number from) shard = filter_part _ (ranked schema table (target_of schema number) shard)
  hits_in (list_plan kind plans) shard = kept_part kind (operands schema table plans shard) (ranked schema table (first_vertical schema plans) shard)
  hits_in (join_plan kind number limit plan) shard = filter_part _ (ranked schema table (target_of schema number) shard)

  module _ (book : ℕ → Tree) (vertical shard : ℕ) (rank : IsRanked (ranked schema table vertical shard))
      (typed : (plan : Plan) → IsOf schema plan vertical → vertical_of schema plan ≡ vertical)
      (own_shard : (x : DocKey) → has_key (ranked schema table vertical shard) x ≡ true → shard_of schema vertical x.id ≡ shard) (postings : PostingTable) where
    abbrev entities : List DocKey
    entities = ranked schema table vertical shard

    -- operands of a plan
    abbrev pub plan_operands : Plans → List (List DocKey × Mark)
    plan_operands no_plans = []
    plan_operands (with_plan plan mark others) = (hits schema table plan shard, mark) ∷ plan_operands others

    over_plans : (plans : Plans) → over_all (plan_operands plans) ≡ operands schema table plans shard
    over_plans no_plans = refl
    over_plans (with_plan plan mark others) = ap (λ (ws : List (Walker DocKey)). operand_over (hits schema table plan shard) mark ∷ ws) (over_plans others)

    -- operands that find what is meant
    abbrev pub AllMeant : Plans → Resolutions → Type 0
    AllMeant no_plans no_nodes = Unit {0}
    AllMeant (with_plan plan mark others) (with_node node own rest) = (own ≡ mark) × (map (seen_found book) (found postings node) ≡ meant schema table plan shard) × AllMeant others rest
    AllMeant plans nodes = ⊥

    part_of : (plan : Plan) → IsOf schema plan vertical → IsPartOf (hits schema table plan shard) entities
    part_of plan is = subst (λ v. IsPartOf (hits schema table plan shard) (ranked schema table v shard)) (typed plan is) (hits_in plan shard)

    parts_of : (plans : Plans) → AreOf schema plans vertical → All (λ (o : List DocKey × Mark). IsPartOf o.0 entities) (plan_operands plans)
    parts_of no_plans are = All-nil (λ (o : List DocKey × Mark). IsPartOf o.0 entities)
    parts_of (with_plan plan mark others) are = All-cons (λ (o : List DocKey × Mark). IsPartOf o.0 entities) (hits schema table plan shard, mark) (plan_operands others) (part_of plan are.0) (parts_of others are.1)

    same_keys : (plans : Plans) (nodes : Resolutions) → AllMeant plans nodes → map found_keys (all_found postings nodes) ≡ keys_in (plan_operands plans)
    same_keys no_plans no_nodes all = refl
    same_keys no_plans (with_node node own rest) all = absurd all
    same_keys (with_plan plan mark others) no_nodes all = absurd all
    same_keys (with_plan plan mark others) (with_node node own rest) all =
        (λ i. keys_meant book (plan_tree schema table plan) (found postings node) (hits schema table plan shard) all.1 i ∷ same_keys others rest all.2 i)

    same_marks : (plans : Plans) (nodes : Resolutions) → AllMeant plans nodes → marks_of nodes ≡ marks_in (plan_operands plans)
    same_marks no_plans no_nodes all = refl
    same_marks no_plans (with_node node own rest) all = absurd all
    same_marks (with_plan plan mark others) no_nodes all = absurd all
    same_marks (with_plan plan mark others) (with_node node own rest) all = (λ i. all.0 i ∷ same_marks others rest all.2 i)

    -- an entity of the shard is a hit where it is one of the shard's
    hit_here : (plan : Plan) → IsOf schema plan vertical → (k : DocKey) → has_key entities k ≡ true → is_hit schema table plan k ≡ has_key (hits schema table plan shard) k
    hit_here plan is k there =
        ap (λ v. is_among (hits schema table plan (shard_of schema v k.id)) k) (typed plan is) ∙ ap (λ n. is_among (hits schema table plan n) k) (own_shard k there) ∙ among_has (hits schema table plan shard) k

    -- the trees at an entity of the shard
    trees_here : (plans : Plans) (nodes : Resolutions) → AreOf schema plans vertical → AllMeant plans nodes → (k : DocKey) → has_key entities k ≡ true
        → forest_of (map (filled book) (trees_at (all_found postings nodes) k)) ≡ trees_having schema table plans k
    trees_here no_plans no_nodes are all k there = refl
    trees_here no_plans (with_node node own rest) are all k there = absurd all
    trees_here (with_plan plan mark others) no_nodes are all k there = absurd all
    trees_here (with_plan plan mark others) (with_node node own rest) are all k there =
        joined_tree book (plan_tree schema table plan k) (tree_at (found postings node) k) (trees_at (all_found postings rest) k) (trees_having schema table others k) (is_hit schema table plan k)
        (tree_meant book (plan_tree schema table plan) (found postings node) (hits schema table plan shard) all.1 k
        ∙ ap {B = Option Tree} (λ b. if b then Some (plan_tree schema table plan k) else None) (sym (hit_here plan are.0 k there)))
        (trees_here others rest are.1 all.2 k there)

    -- where all operands have an entity
    each_having : (plans : Plans) → AreOf schema plans vertical → (k : DocKey) → has_key entities k ≡ true → list_all (λ (o : Walker DocKey). o.has k) (over_all (plan_operands plans)) ≡ true
        → trees_having schema table plans k ≡ trees_each schema table plans k
    each_having no_plans are k there e = refl
    each_having (with_plan plan mark others) are k there e =
        let parts = both (is_among (hits schema table plan shard) k) (list_all (λ (o : Walker DocKey). o.has k) (over_all (plan_operands others))) e in
        let rest = each_having others are.1 k there parts.1 in
        ap (λ b. if b then with_member (plan_tree schema table plan k) (trees_having schema table others k) else trees_having schema table others k)
        (hit_here plan are.0 k there ∙ sym (among_has (hits schema table plan shard) k) ∙ parts.0)
        ∙ ap (λ (f : Forest). with_member (plan_tree schema table plan k) f) rest

    -- where the first has it
    first_here : (plans : Plans) (nodes : Resolutions) → AllMeant plans nodes → (k : DocKey) → first_alone (over_all (plan_operands plans)) k ≡ true
        → filled book (first_tree (trees_at (all_found postings nodes) k)) ≡ tree_first schema table plans k
    first_here no_plans no_nodes all k e = absurd (true≢false (sym e))
    first_here no_plans (with_node node own rest) all k e = absurd all
    first_here (with_plan plan mark others) no_nodes all k e = absurd all
    first_here (with_plan plan mark others) (with_node node own rest) all k e =
        over (tree_at (found postings node) k)
        (tree_meant book (plan_tree schema table plan) (found postings node) (hits schema table plan shard) all.1 k
        ∙ ap {B = Option Tree} (λ b. if b then Some (plan_tree schema table plan k) else None) (sym (among_has (hits schema table plan shard) k) ∙ (both (is_among (hits schema table plan shard) k) _ e).0))
      where
        over : (o : Option Tree) → option_map (filled book) o ≡ Some (plan_tree schema table plan k) → filled book (first_tree (cons_option o (trees_at (all_found postings rest) k))) ≡ plan_tree schema table plan k
        over None same = cc
        over (Some tree) same = cc

    -- the tree of what an operator keeps
    kept_tree : (kind : ListKind) (plans : Plans) (nodes : Resolutions) → AreOf schema plans vertical → AllMeant plans nodes → (k : DocKey) → has_key (kept_by kind (over_all (plan_operands plans)) entities) k ≡ true
        → filled book (tree_by kind (trees_at (all_found postings nodes) k)) ≡ plan_tree schema table (list_plan kind plans) k
    kept_tree And plans nodes are all k there =
        let parts = both (has_key entities k) (list_all (λ (o : Walker DocKey). o.has k) (over_all (plan_operands plans))) (sym (has_key-filter (λ x. list_all (λ (o : Walker DocKey). o.has x) (over_all (plan_operands plans))) entities k) ∙ there) in
        ap all_of (filled_forest book (trees_at (all_found postings nodes) k) ∙ trees_here plans nodes are all k parts.0 ∙ each_having plans are k parts.0 parts.1)
    kept_tree Or plans nodes are all k there =
        ap any_of (filled_forest book (trees_at (all_found postings nodes) k) ∙ trees_here plans nodes are all k ((kept_part Or (over_all (plan_operands plans)) entities).within k there))
    kept_tree Difference plans nodes are all k there =
        first_here plans nodes all k (both (has_key entities k) (first_alone (over_all (plan_operands plans)) k) (sym (has_key-filter (first_alone (over_all (plan_operands plans))) entities k) ∙ there)).1
    kept_tree WeakAnd plans nodes are all k there =
        ap all_of (filled_forest book (trees_at (all_found postings nodes) k) ∙ trees_here plans nodes are all k ((kept_part WeakAnd (over_all (plan_operands plans)) entities).within k there))
    kept_tree StrongOr plans nodes are all k there =
        ap any_of (filled_forest book (trees_at (all_found postings nodes) k) ∙ trees_here plans nodes are all k ((kept_part StrongOr (over_all (plan_operands plans)) entities).within k there))

    -- what is kept of the operands' keys
    same_kept : (kind : ListKind) (plan : Plan) (mark : Mark) (others : Plans) (nodes : Resolutions) → AreOf schema (with_plan plan mark others) vertical → AllMeant (with_plan plan mark others) nodes
        → kept kind (marks_of nodes) (map found_keys (all_found postings nodes)) ≡ kept_by kind (over_all (plan_operands (with_plan plan mark others))) entities
    same_kept kind plan mark others nodes are all =
        (λ i. kept kind (same_marks (with_plan plan mark others) nodes all i) (same_keys (with_plan plan mark others) nodes all i))
        ∙ kept_meant entities kind (hits schema table plan shard, mark) (plan_operands others) rank (parts_of (with_plan plan mark others) are)

    -- what an operator finds
    pub list_meant : (kind : ListKind) (plans : Plans) (nodes : Resolutions) → IsOf schema (list_plan kind plans) vertical → AllMeant plans nodes
        → map (seen_found book) (found_list kind (marks_of nodes) (all_found postings nodes)) ≡ meant schema table (list_plan kind plans) shard
    list_meant kind no_plans nodes is all = absurd is
    list_meant kind (with_plan plan mark others) nodes is all =
        let plans = with_plan plan mark others in
        ap (λ (ks : List DocKey). map (seen_found book) (map (found_at kind (all_found postings nodes)) ks)) (same_kept kind plan mark others nodes is all)
        ∙ each_seen book (found_at kind (all_found postings nodes)) (plan_tree schema table (list_plan kind plans)) (kept_by kind (over_all (plan_operands plans)) entities)
        (λ k there. ap (λ (t : Tree). (k, t)) (kept_tree kind plans nodes is all k there))
        ∙ ap (λ (ks : List DocKey). paired (plan_tree schema table (list_plan kind plans)) ks)
        (λ i. kept_by kind (over_plans plans i) (ranked schema table (sym (typed (list_plan kind plans) is) i) shard))
