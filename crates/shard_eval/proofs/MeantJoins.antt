-- What some of several lists find, and what a join finds so.
use Rattle.std.proofs.Common.{◌≡◌, ℕ, Bool, true, false, ◌||◌, ◌&&◌, cond, if◌then◌else◌, is_some, All, List, [], ◌∷◌, Option, None, Some, map, filter, refl, sym, ◌∙◌, ap}
use Rattle.std.proofs.lemmas.List.Elements.{All-cons, All-head, All-nil, All-tail}
use Rattle.std.specs.List.{cons_option, filter_map, list_any}
use Rattle.std.specs.Option.{option_map, option_map_or}
use Rattle.std.specs.Ordering.{is_eq}
use Rattle.query_check.specs.Plan.{Plan, join_plan}
use Rattle.query_tree.specs.declared.kind.JoinKind.{JoinKind}
use Rattle.query_tree.specs.declared.kind.ListKind.TheVariants.{Or}
use Rattle.query_tree.specs.declared.query.Mark.{Mark}
use Rattle.query_tree.specs.declared.query.Mark.TheVariants.{Plain}
use Rattle.lineage_tree.specs.Tree.{Forest, Tree, edge, any_of, forest_of, no_members, with_member}
use Rattle.uni_base.specs.declared.edge.Key.TheVariants.{Id}
use Rattle.uni_base.specs.declared.entity.DocKey.{DocKey}
use Rattle.uni_base.specs.Cursors.{IsRanked}
use Rattle.uni_base.specs.KeySets.{has_key, united}
use Rattle.uni_base.specs.RankOrder.{doc_cmp}
use Rattle.uni_base.specs.Walks.{Walker}
use Rattle.uni_base.proofs.RankedLemmas.{has_key-filter, is_eq_self}
use Rattle.uni_schema.specs.Schema.{Declarations}
use Rattle.uni_table.specs.Contents.{Contents, edge_at}
use Rattle.uni_table.specs.Ranked.{ranked}
use Rattle.uni_table.specs.declared.command.EdgeRow.{EdgeRow}
use Rattle.uni_meaning.specs.Hits.{cut, edge_to, leads_to, target_of}
use Rattle.shard_index.specs.Laws.{posting_to}
use Rattle.shard_eval.specs.declared.resolved.InnerHit.{InnerHit}
use Rattle.shard_eval.specs.Found.{Found, found_keys, found_posting, tree_at, trees_at}
use Rattle.shard_eval.specs.Kept.{found_at, found_list}
use Rattle.shard_eval.specs.Meant.{filled, meant, seen_found, AreOfCut}
use Rattle.shard_eval.specs.PlanTrees.{both_of, edge_tree, plan_tree}
use Rattle.shard_eval.specs.Resolution.{leaf_from}
use Rattle.shard_eval.proofs.HitsWithin.{IsPartOf, filter_part, first_true, later_true}
use Rattle.shard_eval.proofs.KeptMeant.{among_has, keys_in, or_meant, over_all}
use Rattle.shard_eval.proofs.MeantLists.{keys_meant, paired, tree_meant}
use Rattle.shard_eval.proofs.MeantNodes.{each_seen, filled_forest, joined_tree}

here_alone : (a b : Bool) → a ≡ true → (a && b) ≡ b
here_alone true b e = refl
here_alone false b e = cc

-- filters by tests that agree on a list's keys
pub filter_same : (p q : DocKey → Bool) (ks : List DocKey) → ((k : DocKey) → has_key ks k ≡ true → p k ≡ q k) → filter p ks ≡ filter q ks
filter_same p q [] same = refl
filter_same p q (k ∷ ks) same =
    (λ i. cond (same k (ap (λ b. b || has_key ks k) (is_eq_self k)) i) (k ∷ filter_same p q ks (λ x there. same x (later_true (is_eq (doc_cmp k x)) (has_key ks x) there)) i)
    (filter_same p q ks (λ x there. same x (later_true (is_eq (doc_cmp k x)) (has_key ks x) there)) i))

-- and trees that agree there
pub paired_same : (f g : DocKey → Tree) (ks : List DocKey) → ((k : DocKey) → has_key ks k ≡ true → f k ≡ g k) → paired f ks ≡ paired g ks
paired_same f g [] same = refl
paired_same f g (k ∷ ks) same =
    (λ i. (k, same k (ap (λ b. b || has_key ks k) (is_eq_self k)) i) ∷ paired_same f g ks (λ x there. same x (later_true (is_eq (doc_cmp k x)) (has_key ks x) there)) i)

-- an item's list finds the entities that pass its test, each with its tree
abbrev pub IsMeant : {A : Type 0} → (ℕ → Tree) → List DocKey → (A → List Found) → (A → DocKey → Bool) → (A → DocKey → Tree) → A → Type 0
IsMeant book rs fs p g a = map (seen_found book) (fs a) ≡ paired (g a) (filter (p a) rs)

module _ (book : ℕ → Tree) (rs : List DocKey) (rank : IsRanked rs) {A : Type 0} (fs : A → List Found) (p : A → DocKey → Bool) (g : A → DocKey → Tree) where
  abbrev operands_over : List A → List (List DocKey × Mark)
  operands_over [] = []
  operands_over (a ∷ items) = (filter (p a) rs, Plain) ∷ operands_over items

  parts : (items : List A) → All (λ (o : List DocKey × Mark). IsPartOf o.0 rs) (operands_over items)
  parts [] = All-nil (λ (o : List DocKey × Mark). IsPartOf o.0 rs)
  parts (a ∷ items) = All-cons (λ (o : List DocKey × Mark). IsPartOf o.0 rs) (filter (p a) rs, Plain) (operands_over items) (filter_part (p a) rs) (parts items)

  same_keys : (items : List A) → All (IsMeant book rs fs p g) items → map found_keys (map fs items) ≡ keys_in (operands_over items)
  same_keys [] all = refl
  same_keys (a ∷ items) all = (λ i. keys_meant book (g a) (fs a) (filter (p a) rs) (All-head (IsMeant book rs fs p g) a items all) i ∷ same_keys items (All-tail (IsMeant book rs fs p g) a items all) i)

  has_here : (a : A) (k : DocKey) → has_key rs k ≡ true → has_key (filter (p a) rs) k ≡ p a k
  has_here a k there = has_key-filter (p a) rs k ∙ here_alone (has_key rs k) (p a k) there

  any_here : (items : List A) (k : DocKey) → has_key rs k ≡ true → list_any (λ (o : Walker DocKey). o.has k) (over_all (operands_over items)) ≡ list_any (λ a. p a k) items
  any_here [] k there = refl
  any_here (a ∷ items) k there = (λ i. (among_has (filter (p a) rs) k ∙ has_here a k there) i || any_here items k there i)

  trees_some : (items : List A) → All (IsMeant book rs fs p g) items → (k : DocKey) → has_key rs k ≡ true
      → forest_of (map (filled book) (trees_at (map fs items) k)) ≡ forest_of (map (λ a. g a k) (filter (λ a. p a k) items))
  trees_some [] all k there = refl
  trees_some (a ∷ items) all k there =
      joined_tree book (g a k) (tree_at (fs a) k) (trees_at (map fs items) k) (forest_of (map (λ x. g x k) (filter (λ x. p x k) items))) (p a k)
      (tree_meant book (g a) (fs a) (filter (p a) rs) (All-head (IsMeant book rs fs p g) a items all) k ∙ ap {B = Option Tree} (λ b. if b then Some (g a k) else None) (has_here a k there))
      (trees_some items (All-tail (IsMeant book rs fs p g) a items all) k there)
      ∙ over (p a k)
    where
      over : (b : Bool) → (if b then with_member (g a k) (forest_of (map (λ x. g x k) (filter (λ x. p x k) items))) else forest_of (map (λ x. g x k) (filter (λ x. p x k) items)))
          ≡ forest_of (map (λ x. g x k) (cond b (a ∷ filter (λ x. p x k) items) (filter (λ x. p x k) items)))
      over true = refl
      over false = refl

  -- what some of the lists find
  pub some_meant : (items : List A) → All (IsMeant book rs fs p g) items
      → map (seen_found book) (found_list Or [] (map fs items)) ≡ paired (λ k. any_of (forest_of (map (λ a. g a k) (filter (λ a. p a k) items)))) (filter (λ k. list_any (λ a. p a k) items) rs)
  some_meant items all =
      ap (λ (ks : List DocKey). map (seen_found book) (map (found_at Or (map fs items)) ks))
      (ap united (same_keys items all) ∙ or_meant rs (operands_over items) rank (parts items) ∙ filter_same _ (λ k. list_any (λ a. p a k) items) rs (any_here items))
      ∙ each_seen book (found_at Or (map fs items)) (λ k. any_of (forest_of (map (λ a. g a k) (filter (λ a. p a k) items)))) (filter (λ k. list_any (λ a. p a k) items) rs)
      (λ k there. ap (λ (f : Forest). (k, any_of f))
      (filled_forest book (trees_at (map fs items) k) ∙ trees_some items all k (first_true (has_key rs k) (list_any (λ a. p a k) items) (sym (has_key-filter (λ x. list_any (λ a. p a x) items) rs k) ∙ there))))

-- the edges from an inner hit, each with what led there
abbrev pub led_tree : Contents → (ℕ → Tree) → ℕ → InnerHit → DocKey → Tree
led_tree table book number hit k = both_of (edge_tree table number (Id hit.key.id) k) (book hit.entry)

abbrev pub led_list : Contents → ℕ → List DocKey → InnerHit → List Found
led_list table number ks hit = map (found_posting (leaf_from number hit)) (filter_map (posting_to table number (Id hit.key.id)) ks)

led_meant : (table : Contents) (book : ℕ → Tree) (number : ℕ) (hit : InnerHit) (ks : List DocKey)
    → map (seen_found book) (led_list table number ks hit) ≡ paired (led_tree table book number hit) (filter (leads_to table number (Id hit.key.id)) ks)
led_meant table book number hit [] = refl
led_meant table book number hit (k ∷ ks) = over (led_meant table book number hit ks) (edge_at table (edge_to number (Id hit.key.id) k.id)) refl
  where
    over : map (seen_found book) (led_list table number ks hit) ≡ paired (led_tree table book number hit) (filter (leads_to table number (Id hit.key.id)) ks)
        → (row : Option EdgeRow) → edge_at table (edge_to number (Id hit.key.id) k.id) ≡ row
        → map (seen_found book) (map (found_posting (leaf_from number hit)) (cons_option (option_map (λ audience. record { key = k; audience = audience }) (option_map (λ (r : EdgeRow). r.audience) row)) (filter_map (posting_to table number (Id hit.key.id)) ks)))
        ≡ paired (led_tree table book number hit) (cond (is_some row) (k ∷ filter (leads_to table number (Id hit.key.id)) ks) (filter (leads_to table number (Id hit.key.id)) ks))
    over rest None e = rest
    over rest (Some row) e =
        let one : seen_found book (found_posting (leaf_from number hit) (record { key = k; audience = row.audience })) ≡ (k, led_tree table book number hit k) =
        ap (λ (o : Option EdgeRow). (k, both_of (option_map_or (λ audience. edge (record { edge = edge_to number (Id hit.key.id) k.id; audience = audience })) (option_map (λ (r : EdgeRow). r.audience) o) (any_of no_members)) (book hit.entry))) (sym e) in
        (λ i. one i ∷ rest i)

module _ (schema : Declarations) (table : Contents) (book : ℕ → Tree) where
  all_led : (number : ℕ) (ks : List DocKey) (inner : List InnerHit) → All (IsMeant book ks (led_list table number ks) (λ hit. leads_to table number (Id hit.key.id)) (led_tree table book number)) inner
  all_led number ks [] = All-nil (IsMeant book ks (led_list table number ks) (λ hit. leads_to table number (Id hit.key.id)) (led_tree table book number))
  all_led number ks (hit ∷ inner) =
      All-cons (IsMeant book ks (led_list table number ks) (λ h. leads_to table number (Id h.key.id)) (led_tree table book number)) hit inner (led_meant table book number hit ks) (all_led number ks inner)

  -- of the inner hits, those with an edge to an entity
  led_from : (number : ℕ) (plan : Plan) (inner : List InnerHit) (k : DocKey) → All (λ (hit : InnerHit). book hit.entry ≡ plan_tree schema table plan hit.key) inner
      → forest_of (map (λ (hit : InnerHit). led_tree table book number hit k) (filter (λ (hit : InnerHit). leads_to table number (Id hit.key.id) k) inner))
      ≡ forest_of (map (λ (y : DocKey). both_of (edge_tree table number (Id y.id) k) (plan_tree schema table plan y)) (filter (λ (y : DocKey). leads_to table number (Id y.id) k) (map (λ (hit : InnerHit). hit.key) inner)))
  led_from number plan [] k all = refl
  led_from number plan (hit ∷ inner) k all =
      over (All-head (λ (h : InnerHit). book h.entry ≡ plan_tree schema table plan h.key) hit inner all)
      (filter (λ (h : InnerHit). leads_to table number (Id h.key.id) k) inner) (filter (λ (y : DocKey). leads_to table number (Id y.id) k) (map (λ (h : InnerHit). h.key) inner))
      (led_from number plan inner k (All-tail (λ (h : InnerHit). book h.entry ≡ plan_tree schema table plan h.key) hit inner all)) (leads_to table number (Id hit.key.id) k)
    where
      over : book hit.entry ≡ plan_tree schema table plan hit.key → (own : List InnerHit) (theirs : List DocKey)
          → forest_of (map (λ (h : InnerHit). led_tree table book number h k) own) ≡ forest_of (map (λ (y : DocKey). both_of (edge_tree table number (Id y.id) k) (plan_tree schema table plan y)) theirs)
          → (b : Bool) → forest_of (map (λ (h : InnerHit). led_tree table book number h k) (cond b (hit ∷ own) own)) ≡ forest_of (map (λ (y : DocKey). both_of (edge_tree table number (Id y.id) k) (plan_tree schema table plan y)) (cond b (hit.key ∷ theirs) theirs))
      over one own theirs rest true = (λ i. with_member (both_of (edge_tree table number (Id hit.key.id) k) (one i)) (rest i))
      over one own theirs rest false = rest

  any_from : (number : ℕ) (inner : List InnerHit) (k : DocKey) → list_any (λ (hit : InnerHit). leads_to table number (Id hit.key.id) k) inner ≡ list_any (λ (y : DocKey). leads_to table number (Id y.id) k) (map (λ (hit : InnerHit). hit.key) inner)
  any_from number [] k = refl
  any_from number (hit ∷ inner) k = ap (λ b. leads_to table number (Id hit.key.id) k || b) (any_from number inner k)

  -- what a join finds whose inner hits are the cut of its inner plan
  pub join_meant : (kind : JoinKind) (number limit : ℕ) (plan : Plan) (shard : ℕ) (inner : List InnerHit) → IsRanked (ranked schema table (target_of schema number) shard) → AreOfCut schema table book plan limit inner
      → map (seen_found book) (found_list Or [] (map (led_list table number (ranked schema table (target_of schema number) shard)) inner)) ≡ meant schema table (join_plan kind number limit plan) shard
  join_meant kind number limit plan shard inner rank are =
      let rs = ranked schema table (target_of schema number) shard in
      some_meant book rs rank (led_list table number rs) (λ hit. leads_to table number (Id hit.key.id)) (led_tree table book number) inner (all_led number rs inner)
      ∙ ap (λ (ks : List DocKey). paired (λ k. any_of (forest_of (map (λ (hit : InnerHit). led_tree table book number hit k) (filter (λ (hit : InnerHit). leads_to table number (Id hit.key.id) k) inner)))) ks)
      (filter_same (λ k. list_any (λ (hit : InnerHit). leads_to table number (Id hit.key.id) k) inner) (λ k. list_any (λ (y : DocKey). leads_to table number (Id y.id) k) (cut schema table plan limit)) rs
      (λ k there. any_from number inner k ∙ ap (λ (ys : List DocKey). list_any (λ (y : DocKey). leads_to table number (Id y.id) k) ys) are.keys))
      ∙ paired_same _ (plan_tree schema table (join_plan kind number limit plan)) (filter (λ k. list_any (λ (y : DocKey). leads_to table number (Id y.id) k) (cut schema table plan limit)) rs)
      (λ k there. ap any_of (led_from number plan inner k are.trees
      ∙ ap (λ (ys : List DocKey). forest_of (map (λ (y : DocKey). both_of (edge_tree table number (Id y.id) k) (plan_tree schema table plan y)) (filter (λ (y : DocKey). leads_to table number (Id y.id) k) ys))) are.keys))
