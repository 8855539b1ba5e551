-- Records in the order of their targets, in which an edge is found by halving.
use Rattle.std.proofs.Common.{◌≡◌, ◌==◌, ◌&&◌, ◌||◌, ◌<◌, ℕ, Bool, true, false, cond, List, [], ◌∷◌, length, map, filter, get_or, refl, sym, ◌∙◌, ap, arith}
use Rattle.std.specs.BTreeMap.{is_at}
use Rattle.std.specs.Cmp.{nat_cmp_total, tied_itself}
use Rattle.std.specs.List.{AllByRecursion, list_any}
use Rattle.std.specs.List.Sorted.{IsNonDecreasingBy, IsPartitionPoint, IsStrictlySortedBy}
use Rattle.std.specs.Map.{keys_of}
use Rattle.std.specs.Ordering.{nat_cmp, is_eq, ordering_then, ordering_index}
use Rattle.std.specs.declared.cmp.Ordering.{Ordering}
use Rattle.std.specs.declared.cmp.Ordering.TheVariants.{Less, Equal, Greater}
use Rattle.std.proofs.lemmas.Bool.Decides.{nat_tests}
use Rattle.std.proofs.lemmas.List.{get_or-map, length-map}
use Rattle.std.proofs.lemmas.List.Folds.{list_any_at, list_any_none}
use Rattle.std.proofs.lemmas.Map.Keys.{Less-from_sorted}
use Rattle.std.proofs.lemmas.Map.Made.{is_some-lookup}
use Rattle.uni_base.specs.declared.edge.Audience.TheVariants.{Only}
use Rattle.uni_base.specs.declared.edge.EdgeRef.{EdgeRef}
use Rattle.uni_base.specs.declared.edge.Key.{Key}
use Rattle.uni_base.specs.EdgeOrder.{edge_cmp, key_cmp, key_cmp-total}
use Rattle.uni_table.specs.declared.command.EdgeRow.{EdgeRow}
use Rattle.uni_table.specs.Contents.{Contents, starts_at, has_edge}
use Rattle.uni_table.specs.Lists.{held_of}
use Rattle.layer_base.proofs.Sorted.{parted, rises_about}
use Rattle.forward_data.specs.declared.record.ForwardItem.{ForwardItem}
use Rattle.shard_index.specs.Laws.{edge_to}
use Rattle.shard_index.specs.Shards.{item_of}
use Rattle.shard_index.proofs.Squeezed.{Alike, alike_from}
use Rattle.viewer_policy.specs.Judged.{targets}

told : (a b : ℕ) → is_eq (nat_cmp a b) ≡ (a == b)
told a b = grind (arith, nat_tests)

told_back : (a b : ℕ) → is_eq (nat_cmp a b) ≡ (b == a)
told_back a b = grind (arith, nat_tests)

-- ---- a record, by halving

module _ (items : List ForwardItem) (sorted : IsStrictlySortedBy nat_cmp (targets items)) (target : ℕ) where
  rises : (i j : ℕ) (d : ForwardItem) → i < j → j < length items → nat_cmp (get_or items i d).target (get_or items j d).target ≡ Less
  rises i j d less fits =
      (λ k. nat_cmp (sym (get_or-map (λ (x : ForwardItem). x.target) items i d d.target (omega arith)) k) (sym (get_or-map (λ (x : ForwardItem). x.target) items j d d.target fits) k))
      ∙ Less-from_sorted nat_cmp (targets items) i j d.target sorted less (omega (arith, length-map items (λ (x : ForwardItem). x.target)))

  -- what a search by halving may rely on
  pub record_rises : IsNonDecreasingBy (λ (x : ForwardItem). ordering_index (nat_cmp x.target target)) items
  record_rises = rises_about nat_cmp nat_cmp_total (λ (x : ForwardItem). x.target) target items rises

pub item_found : (items : List ForwardItem) (target i : ℕ) (d : ForwardItem) → i < length items → nat_cmp (get_or items i d).target target ≡ Equal → list_any (λ item. item.target == target) items ≡ true
item_found items target i d fits same = list_any_at (λ (x : ForwardItem). x.target == target) items i d fits (sym (told (get_or items i d).target target) ∙ ap is_eq same)

pub item_missed : (items : List ForwardItem) (target i : ℕ) → IsPartitionPoint (λ (x : ForwardItem). nat_cmp x.target target ≡ Less) (λ x. nat_cmp x.target target ≡ Greater) items i → list_any (λ item. item.target == target) items ≡ false
item_missed items target i parts =
    list_any_none (λ (x : ForwardItem). x.target == target) items
    (λ k d fits. sym (told (get_or items k d).target target) ∙ parted nat_cmp nat_cmp_total (λ (x : ForwardItem). x.target) target items i parts k d fits)

-- ---- the record of a type and key among the edges of a table

module _ (number : ℕ) (key : Key) where
  abbrev starts : EdgeRef × EdgeRow → Bool
  starts e = starts_at number key e.0

  abbrev pub items_of : List (EdgeRef × EdgeRow) → List ForwardItem
  items_of es = map item_of (map held_of (filter (λ e. starts_at number key e.0) es))

  named : (edge : EdgeRef) → starts_at number key edge ≡ true → edge_to number key edge.target ≡ edge
  named edge t =
      let alike : Alike (record { edge = edge_to number key 0; audience = Only }) (record { edge = edge; audience = Only }) =
      alike_from (record { edge = edge_to number key 0; audience = Only }) (record { edge = edge; audience = Only }) t in
      λ i. record { type_no = alike.types i; key = alike.keys i; target = edge.target }

  -- edges of one type and key stand in the order of their targets
  by_target : (a b : EdgeRef) → starts_at number key a ≡ true → starts_at number key b ≡ true → nat_cmp a.target b.target ≡ edge_cmp a b
  by_target a b t u =
      (λ i. ordering_then (sym (tied_itself nat_cmp_total number) i) (ordering_then (sym (tied_itself key_cmp-total key) i) (nat_cmp a.target b.target)))
      ∙ (λ i. edge_cmp (named a t i) (named b u i))

  below : (e : EdgeRef × EdgeRow) (es : List (EdgeRef × EdgeRow)) → starts e ≡ true → AllByRecursion (λ x. edge_cmp e.0 x ≡ Less) (keys_of es) → AllByRecursion (λ x. nat_cmp e.0.target x ≡ Less) (targets (items_of es))
  below e [] t less = tt
  below e (f ∷ fs) t less = by (starts f) refl (below e fs t less.1)
    where
      by : (b : Bool) → starts f ≡ b → AllByRecursion (λ x. nat_cmp e.0.target x ≡ Less) (targets (items_of fs))
          → AllByRecursion (λ x. nat_cmp e.0.target x ≡ Less) (targets (map item_of (map held_of (cond b (f ∷ filter starts fs) (filter starts fs)))))
      by true u rest = (by_target e.0 f.0 t u ∙ less.0, rest)
      by false u rest = rest

  pub items_in_order : (es : List (EdgeRef × EdgeRow)) → IsStrictlySortedBy edge_cmp (keys_of es) → IsStrictlySortedBy nat_cmp (targets (items_of es))
  unfolding IsStrictlySortedBy
  items_in_order [] sorted = tt
  items_in_order (e ∷ es) sorted = by (starts e) refl (items_in_order es sorted.1)
    where
      by : (b : Bool) → starts e ≡ b → IsStrictlySortedBy nat_cmp (targets (items_of es)) → IsStrictlySortedBy nat_cmp (targets (map item_of (map held_of (cond b (e ∷ filter starts es) (filter starts es)))))
      by true t rest = (below e es t sorted.0, rest)
      by false t rest = rest

  -- an item leads to an entity exactly where the table has the edge
  module _ (target : ℕ) where
    same_edge : (edge : EdgeRef) → (starts_at number key edge && (edge.target == target)) ≡ is_eq (edge_cmp (edge_to number key target) edge)
    same_edge edge =
        (λ i. (sym (told number edge.type_no) i && is_eq (key_cmp key edge.key)) && sym (told_back target edge.target) i)
        ∙ by (nat_cmp number edge.type_no) (key_cmp key edge.key)
      where
        by : (a b : Ordering) → ((is_eq a && is_eq b) && is_eq (nat_cmp target edge.target)) ≡ is_eq (ordering_then a (ordering_then b (nat_cmp target edge.target)))
        by Less b = refl
        by Greater b = refl
        by Equal Less = refl
        by Equal Greater = refl
        by Equal Equal = refl

    items_are : (es : List (EdgeRef × EdgeRow)) → list_any (λ item. item.target == target) (items_of es) ≡ list_any (is_at (edge_cmp (edge_to number key target))) (keys_of es)
    items_are [] = refl
    items_are (e ∷ es) = by (starts e) refl (items_are es)
      where
        by : (b : Bool) → starts e ≡ b → list_any (λ item. item.target == target) (items_of es) ≡ list_any (is_at (edge_cmp (edge_to number key target))) (keys_of es)
            → list_any (λ (item : ForwardItem). item.target == target) (map item_of (map held_of (cond b (e ∷ filter starts es) (filter starts es))))
            ≡ (is_eq (edge_cmp (edge_to number key target) e.0) || list_any (is_at (edge_cmp (edge_to number key target))) (keys_of es))
        by true t rest = let same = ap (λ b. b && (e.0.target == target)) (sym t) ∙ same_edge e.0 in λ i. same i || rest i
        by false t rest = let none = ap (λ b. b && (e.0.target == target)) (sym t) ∙ same_edge e.0 in λ i. none i || rest i

    pub item_is_edge : (table : Contents) → list_any (λ item. item.target == target) (items_of table.edges) ≡ has_edge table (edge_to number key target)
    item_is_edge table = items_are table.edges ∙ sym (is_some-lookup (is_at (edge_cmp (edge_to number key target))) table.edges)
