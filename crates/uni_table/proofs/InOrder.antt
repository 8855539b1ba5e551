-- Items with keys of their own, which stand in one order alone.
use Rattle.std.proofs.Common.{◌≡◌, ◌↔◌, ◌+◌, ◌<◌, List, [], ◌∷◌, Some, refl, sym, ◌∙◌, ap, subst, arith, length, map, get_or}
use Rattle.std.proofs.lemmas.List.{get_or-map, length-map}
use Rattle.std.proofs.lemmas.List.Elements.{All-head, All-tail, All-map, All-weaker, All-contains_itself}
use Rattle.std.proofs.lemmas.List.Sorted.{Contains-permutation, IsPermutation-sym, IsPermutation-map, All-permutation, list_any-IsPermutation}
use Rattle.std.proofs.lemmas.Map.Keys.{IsDistinct-from_sorted, IsDistinct-IsPermutation}
use Rattle.std.proofs.lemmas.Map.Lookups.{btree_set_from_contains, CmpEqualImpliesEq}
use Rattle.std.proofs.lemmas.Map.Views.{lookup-from_Contains}
use Rattle.std.specs.Cmp.{IsTotalOrder, eq_by_cmp_equiv}
use Rattle.std.specs.declared.cmp.Ordering.{Ordering}
use Rattle.std.specs.declared.cmp.Ordering.TheVariants.{Less, Equal, Greater}
use Rattle.std.specs.List.{All, Contains, IsDistinct}
use Rattle.std.specs.List.Sorted.{IsPermutation, IsSorted, IsSortedByKey, IsStrictlySortedBy}
use Rattle.std.specs.Map.{keys_of, lookup}
use Rattle.std.specs.Option.{option_map, unwrap_or}
use Rattle.std.specs.Ordering.{is_eq, is_lt, eq_by_cmp, ordering_reverse}
use Rattle.std.specs.BTreeMap.{is_at}
use Rattle.uni_base.specs.declared.edge.Audience.TheVariants.{Only}
use Rattle.uni_base.specs.declared.edge.EdgeRef.{EdgeRef}
use Rattle.uni_base.specs.declared.edge.Held.{Held}
use Rattle.uni_base.specs.EdgeOrder.{edge_cmp}
use Rattle.uni_table.specs.Lists.{held_of}
use Rattle.uni_table.specs.declared.command.EdgeRow.{EdgeRow}
use Rattle.uni_table.specs.GraphKeys.{exact_edges}
use Rattle.uni_table.proofs.Kept.{edge_total}
use Rattle.uni_table.proofs.Placed.{sorted_apart}

-- two keys tie in either order
pub ties_flip : {K : Type 0} {cmp : K → K → Ordering} (o : IsTotalOrder cmp) (x y : K) → eq_by_cmp cmp x y ≡ eq_by_cmp cmp y x
ties_flip {K} {cmp} o x y = ap is_eq (o.antisymm x y) ∙ turned (cmp y x)
  where
    turned : (r : Ordering) → is_eq (ordering_reverse r) ≡ is_eq r
    turned Less = refl
    turned Equal = refl
    turned Greater = refl

-- two lists in one order with the same keys, each once, are one
pub same_sets : {K : Type 0} {cmp : K → K → Ordering} (o : IsTotalOrder cmp) → CmpEqualImpliesEq cmp → (xs ys : List K) → IsStrictlySortedBy cmp xs → IsPermutation xs ys → IsSorted cmp ys → ys ≡ xs
same_sets {K} {cmp} o exact xs ys sorted same up =
    sym (btree_set_from_contains o (record { keys = xs }) (record { keys = ys }) sorted
    (sorted_apart o ys up (IsDistinct-IsPermutation (eq_by_cmp cmp) (ties_flip o) xs ys same (IsDistinct-from_sorted cmp xs sorted)))
    (λ q. list_any-IsPermutation (is_at (cmp q)) xs ys same) exact)

module _ {X K : Type 0} (key : X → K) {cmp : K → K → Ordering} (o : IsTotalOrder cmp) (exact : CmpEqualImpliesEq cmp) where
  -- items in the order of their keys have keys in order
  pub keys_sorted : (xs : List X) → IsSortedByKey key cmp xs → IsSorted cmp (map key xs)
  keys_sorted [] up = λ k d low high. absurd (omega (arith, high))
  keys_sorted (x ∷ xs) up = λ k d low high.
      let within : k + 1 < length (x ∷ xs) = omega (arith, high, length-map (x ∷ xs) key) in
      let here : get_or (map key (x ∷ xs)) k d ≡ key (get_or (x ∷ xs) k x) = get_or-map key (x ∷ xs) k x d (omega (arith, within)) in
      let next : get_or (map key (x ∷ xs)) (k + 1) d ≡ key (get_or (x ∷ xs) (k + 1) x) = get_or-map key (x ∷ xs) (k + 1) x d within in
      ap (λ (n : K). is_lt (cmp n (get_or (map key (x ∷ xs)) k d))) next ∙ ap (λ (h : K). is_lt (cmp (key (get_or (x ∷ xs) (k + 1) x)) h)) here ∙ up k x low within

  -- items that are listed exactly, with keys of their own, are so in the order of their keys too
  pub exact_in_order : (P : X → Type 0) (xs ys : List X) → ((x : X) → Contains xs x ↔ P x) → IsDistinct (eq_by_cmp cmp) (map key xs) → IsPermutation xs ys → IsSortedByKey key cmp ys
      → ((x : X) → Contains ys x ↔ P x) × IsStrictlySortedBy cmp (map key ys)
  exact_in_order P xs ys are apart same up = (
    (λ x. ((λ there. (are x).0 (Contains-permutation ys xs x (IsPermutation-sym xs ys same) there)), (λ is. Contains-permutation xs ys x same ((are x).1 is)))),
    sorted_apart o (map key ys) (keys_sorted ys up) (IsDistinct-IsPermutation (eq_by_cmp cmp) (ties_flip o) (map key xs) (map key ys) (IsPermutation-map key xs ys same) apart),
  )

  module _ (f : K → X) where
    -- items that their keys tell
    told : (xs : List X) → All (λ x. x ≡ f (key x)) xs → xs ≡ map f (map key xs)
    told [] all = refl
    told (x ∷ xs) all = λ i. All-head (λ (y : X). y ≡ f (key y)) x xs all i ∷ told xs (All-tail (λ (y : X). y ≡ f (key y)) x xs all) i

    -- stand in the order of their keys in one way alone
    pub same_order : (xs ys : List X) → All (λ x. x ≡ f (key x)) xs → IsStrictlySortedBy cmp (map key xs) → IsPermutation xs ys → IsSortedByKey key cmp ys → ys ≡ xs
    same_order xs ys all sorted same up =
        let keys : map key ys ≡ map key xs = same_sets o exact (map key xs) (map key ys) sorted (IsPermutation-map key xs ys same) (keys_sorted ys up) in
        told ys (All-permutation (λ (y : X). y ≡ f (key y)) xs ys same all) ∙ ap (map f) keys ∙ sym (told xs all)

module _ (es : List (EdgeRef × EdgeRow)) (sorted : IsStrictlySortedBy edge_cmp (keys_of es)) where
  -- an edge with the audience that it has among these
  abbrev held_among : EdgeRef → Held
  held_among edge = record { edge = edge; audience = unwrap_or (option_map (λ (row : EdgeRow). row.audience) (lookup (is_at (edge_cmp edge)) es)) Only }

  -- the edges of rows as they are listed
  pub keys_are : (fs : List (EdgeRef × EdgeRow)) → map (λ (h : Held). h.edge) (map held_of fs) ≡ keys_of fs
  keys_are [] = refl
  keys_are (f ∷ fs) = ap (λ (ks : List EdgeRef). f.0 ∷ ks) (keys_are fs)

  -- edges in the table's order, with their audiences
  pub edges_in_order : (hs : List Held) → IsPermutation (map held_of es) hs → IsSortedByKey (λ h. h.edge) edge_cmp hs → hs ≡ map held_of es
  edges_in_order hs same up =
      same_order (λ (h : Held). h.edge) edge_total exact_edges held_among (map held_of es) hs
      (All-map (λ (h : Held). h ≡ held_among h.edge) held_of es
      (All-weaker (λ (e : EdgeRef × EdgeRow). lookup (is_at (edge_cmp e.0)) es ≡ Some e.1) (λ (e : EdgeRef × EdgeRow). held_of e ≡ held_among e.0)
      (λ e found. λ i. record { edge = e.0; audience = unwrap_or (option_map (λ (row : EdgeRow). row.audience) (sym found i)) Only }) es
      (All-weaker (Contains es) (λ (e : EdgeRef × EdgeRow). lookup (is_at (edge_cmp e.0)) es ≡ Some e.1)
      (λ e there. lookup-from_Contains (eq_by_cmp_equiv edge_total) e.0 e.1 es (IsDistinct-from_sorted edge_cmp (keys_of es) sorted) there) es (All-contains_itself es))))
      (subst (IsStrictlySortedBy edge_cmp) (sym (keys_are es)) sorted) same up
