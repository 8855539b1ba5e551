-- The edges that end, by end and then by edge.
use Rattle.std.proofs.Common.{◌≡◌, ◌+◌, ◌≤◌, ◌++◌, ℕ, ◌==◌, ◌&&◌, ◌||◌, not, Bool, true, false, List, [], ◌∷◌, refl, sym, ◌∙◌, ap, subst, map, filter, nat_le, nat_lt, arith, rules, zero, suc, cond}
use Rattle.std.proofs.lemmas.Bool.{and_parts, eqb-true}
use Rattle.std.proofs.lemmas.Bool.Decides.{nat_tests}
use Rattle.std.proofs.lemmas.List.{map-append}
use Rattle.std.proofs.lemmas.List.Sorted.{IsPermutation-refl, IsPermutation-sym, IsPermutation-trans, IsPermutation-append_right, IsPermutation-map}
use Rattle.std.proofs.lemmas.Map.Keys.{sorted_head, sorted_tail}
use Rattle.std.specs.Cmp.{IsTotalOrder}
use Rattle.std.specs.Cmp.Rules.{comparing}
use Rattle.std.specs.declared.cmp.Ordering.{Ordering}
use Rattle.std.specs.declared.cmp.Ordering.TheVariants.{Less, Equal}
use Rattle.std.specs.List.{AllByRecursion, flat_map, range_with_len}
use Rattle.std.specs.List.Sorted.{IsPermutation, IsSorted, IsStrictlySortedBy}
use Rattle.std.specs.Map.{keys_of}
use Rattle.std.specs.Ordering.{nat_cmp, is_eq, on, then_cmp, ordering_then}
use Rattle.uni_base.specs.declared.edge.EdgeRef.{EdgeRef}
use Rattle.uni_base.specs.EdgeOrder.{edge_cmp}
use Rattle.uni_table.specs.Contents.{Contents, has_ended}
use Rattle.uni_table.specs.Lists.{ending_of, ending_at}
use Rattle.uni_table.specs.declared.command.EdgeRow.{EdgeRow}
use Rattle.uni_table.specs.declared.graph.Ending.{Ending}
use Rattle.uni_table.proofs.Additions.{either-apart, filter-same, filter-none}
use Rattle.uni_table.proofs.Compared.{is_eq-then, same_number, equal_from}
use Rattle.uni_table.proofs.Entries.{sorted-filter}
use Rattle.uni_table.proofs.InOrder.{same_sets}
use Rattle.uni_table.specs.GraphKeys.{exact_edges}
use Rattle.uni_table.proofs.Kept.{edge_total}
use Rattle.uni_table.proofs.Placed.{sorted_nil, sorted_cons, all_wider}

-- by end, and then by edge
abbrev pub ending_cmp : Ending → Ending → Ordering
ending_cmp a b = ordering_then (nat_cmp a.end b.end) (edge_cmp a.edge b.edge)

ending_total : IsTotalOrder ending_cmp
ending_total =
    let is : IsTotalOrder (then_cmp (on (λ (e : Ending). e.end) nat_cmp) (on (λ (e : Ending). e.edge) edge_cmp)) = search (comparing, rules, edge_total) in
    is

exact_endings : (a b : Ending) → ending_cmp a b ≡ Equal → a ≡ b
exact_endings a b same =
    let both = and_parts (is_eq (nat_cmp a.end b.end)) (is_eq (edge_cmp a.edge b.edge)) (sym (is_eq-then (nat_cmp a.end b.end) (edge_cmp a.edge b.edge)) ∙ ap is_eq same) in
    let ends : a.end ≡ b.end = same_number a.end b.end both.0 in
    let edges : a.edge ≡ b.edge = exact_edges a.edge b.edge (equal_from (edge_cmp a.edge b.edge) both.1) in
    λ i. record { end = ends i; edge = edges i }

-- items in order before items in order, each of the first below each of the others
module _ {K : Type 0} (cmp : K → K → Ordering) where
  all-append : (P : K → Type 0) (xs ys : List K) → AllByRecursion P xs → AllByRecursion P ys → AllByRecursion P (xs ++ ys)
  all-append P [] ys first second = second
  all-append P (x ∷ xs) ys first second = (first.0, all-append P xs ys first.1 second)

  sorted-append : (xs ys : List K) → IsStrictlySortedBy cmp xs → IsStrictlySortedBy cmp ys → AllByRecursion (λ x. AllByRecursion (λ y. cmp x y ≡ Less) ys) xs → IsStrictlySortedBy cmp (xs ++ ys)
  sorted-append [] ys first second below = second
  sorted-append (x ∷ xs) ys first second below =
      sorted_cons cmp x (xs ++ ys) (all-append (λ y. cmp x y ≡ Less) xs ys (sorted_head cmp x xs first) below.0) (sorted-append xs ys (sorted_tail cmp x xs first) second below.1)

module _ (es : List (EdgeRef × EdgeRow)) where
  -- the edges whose end is a number
  abbrev ends_at : ℕ → List (EdgeRef × EdgeRow)
  ends_at n = filter (λ e. e.1.end == n) es

  -- those whose end is among so many numbers from one on
  abbrev ends_among : ℕ → ℕ → EdgeRef × EdgeRow → Bool
  ends_among from count e = nat_le from e.1.end && nat_lt e.1.end (from + count)

  -- are those of each of the numbers
  among-is : (from count : ℕ) → IsPermutation (filter (ends_among from count) es) (flat_map ends_at (range_with_len from count))
  among-is from zero = subst (λ (xs : List (EdgeRef × EdgeRow)). IsPermutation xs []) (sym (filter-none (ends_among from 0) (λ e. none e.1.end) es)) (IsPermutation-refl [])
    where
      none : (n : ℕ) → (nat_le from n && nat_lt n (from + 0)) ≡ false
      none n = grind (arith, nat_tests)
  among-is from (suc count) =
      IsPermutation-trans (filter (ends_among from (suc count)) es) (ends_at from ++ filter (ends_among (from + 1) count) es) (flat_map ends_at (range_with_len from (suc count)))
      (either-apart (λ (e : EdgeRef × EdgeRow). e.1.end == from) (ends_among (from + 1) count) (ends_among from (suc count)) (λ e. apart e.1.end) (λ e. both e.1.end) es)
      (IsPermutation-append_right (ends_at from) (filter (ends_among (from + 1) count) es) (flat_map ends_at (range_with_len (from + 1) count)) (among-is (from + 1) count))
    where
      apart : (n : ℕ) → (n == from) ≡ true → (nat_le (from + 1) n && nat_lt n (from + 1 + count)) ≡ false
      apart n e = grind (arith, nat_tests)

      both : (n : ℕ) → (nat_le from n && nat_lt n (from + suc count)) ≡ ((n == from) || (nat_le (from + 1) n && nat_lt n (from + 1 + count)))
      both n = grind (arith, nat_tests)

  -- the endings of these edges, number by number
  abbrev endings_among : ℕ → ℕ → List Ending
  endings_among from count = map ending_of (flat_map ends_at (range_with_len from count))

  -- each has its number
  at_number : (n : ℕ) (fs : List (EdgeRef × EdgeRow)) → AllByRecursion (λ (x : Ending). x.end ≡ n) (map ending_of (filter (λ (e : EdgeRef × EdgeRow). e.1.end == n) fs))
  at_number n [] = tt
  at_number n (f ∷ fs) = by (f.1.end == n) refl (at_number n fs)
    where
      rest : List (EdgeRef × EdgeRow)
      rest = filter (λ (e : EdgeRef × EdgeRow). e.1.end == n) fs

      by : (b : Bool) → (f.1.end == n) ≡ b → AllByRecursion (λ (x : Ending). x.end ≡ n) (map ending_of rest) → AllByRecursion (λ (x : Ending). x.end ≡ n) (map ending_of (cond b (f ∷ rest) rest))
      by true is later = (eqb-true f.1.end n is, later)
      by false is later = later

  -- none below the first number
  from_number : (from count : ℕ) → AllByRecursion (λ (x : Ending). from ≤ x.end) (endings_among from count)
  from_number from zero = tt
  from_number from (suc count) =
      subst (AllByRecursion (λ (x : Ending). from ≤ x.end)) (sym (map-append ending_of (ends_at from) (flat_map ends_at (range_with_len (from + 1) count))))
      (all-append ending_cmp (λ (x : Ending). from ≤ x.end) (map ending_of (ends_at from)) (endings_among (from + 1) count)
      (all_wider (λ (x : Ending). x.end ≡ from) (λ (x : Ending). from ≤ x.end) (λ x is. omega (arith, is)) (map ending_of (ends_at from)) (at_number from es))
      (all_wider (λ (x : Ending). from + 1 ≤ x.end) (λ (x : Ending). from ≤ x.end) (λ x is. omega (arith, is)) (endings_among (from + 1) count) (from_number (from + 1) count)))

  module _ (sorted : IsStrictlySortedBy edge_cmp (keys_of es)) where
    -- those of one number are in order
    one_number : (n : ℕ) (fs : List (EdgeRef × EdgeRow)) → AllByRecursion (λ (x : Ending). x.end ≡ n) (map ending_of fs) → IsStrictlySortedBy edge_cmp (keys_of fs) → IsStrictlySortedBy ending_cmp (map ending_of fs)
    one_number n [] at up = sorted_nil ending_cmp
    one_number n (f ∷ fs) at up =
        sorted_cons ending_cmp (ending_of f) (map ending_of fs) (below fs at.1 (sorted_head edge_cmp f.0 (keys_of fs) up)) (one_number n fs at.1 (sorted_tail edge_cmp f.0 (keys_of fs) up))
      where
        same : (a b : ℕ) → a ≡ n → b ≡ n → nat_cmp a b ≡ Equal
        same a b p q = grind (arith, nat_tests)

        below : (gs : List (EdgeRef × EdgeRow)) → AllByRecursion (λ (x : Ending). x.end ≡ n) (map ending_of gs) → AllByRecursion (λ y. edge_cmp f.0 y ≡ Less) (keys_of gs) → AllByRecursion (λ x. ending_cmp (ending_of f) x ≡ Less) (map ending_of gs)
        below [] ends all = tt
        below (g ∷ gs) ends all = (rw (same f.1.end g.1.end at.0 ends.0) all.0, below gs ends.1 all.1)

    in_order : (from count : ℕ) → IsStrictlySortedBy ending_cmp (endings_among from count)
    in_order from zero = sorted_nil ending_cmp
    in_order from (suc count) =
        subst (IsStrictlySortedBy ending_cmp) (sym (map-append ending_of (ends_at from) (flat_map ends_at (range_with_len (from + 1) count))))
        (sorted-append ending_cmp (map ending_of (ends_at from)) (endings_among (from + 1) count)
        (one_number from (ends_at from) (at_number from es) (sorted-filter edge_cmp (λ (e : EdgeRef × EdgeRow). e.1.end == from) es sorted)) (in_order (from + 1) count)
        (all_wider (λ (x : Ending). x.end ≡ from) (λ (x : Ending). AllByRecursion (λ y. ending_cmp x y ≡ Less) (endings_among (from + 1) count))
        (λ x is. all_wider (λ (y : Ending). from + 1 ≤ y.end) (λ (y : Ending). ending_cmp x y ≡ Less) (λ y up. later x y is up) (endings_among (from + 1) count) (from_number (from + 1) count))
        (map ending_of (ends_at from)) (at_number from es)))
      where
        before : (a b : ℕ) → a ≡ from → from + 1 ≤ b → nat_cmp a b ≡ Less
        before a b p q = grind (arith, nat_tests)

        later : (x y : Ending) → x.end ≡ from → from + 1 ≤ y.end → ending_cmp x y ≡ Less
        later x y is up = rw (before x.end y.end is up) refl

    -- so the edges that have ended, by end and then by edge, are the list of the ends from 1 on
    pub ended-is : (publish : ℕ) (found : List Ending) → IsPermutation (map ending_of (filter (λ e. has_ended publish e.1) es)) found → IsSorted ending_cmp found → found ≡ endings_among 1 publish
    ended-is publish found same up =
        same_sets ending_total exact_endings (endings_among 1 publish) found (in_order 1 publish)
        (IsPermutation-trans (endings_among 1 publish) (map ending_of (filter (λ (e : EdgeRef × EdgeRow). has_ended publish e.1) es)) found
        (IsPermutation-map ending_of (flat_map ends_at (range_with_len 1 publish)) (filter (λ (e : EdgeRef × EdgeRow). has_ended publish e.1) es)
        (IsPermutation-sym (filter (λ (e : EdgeRef × EdgeRow). has_ended publish e.1) es) (flat_map ends_at (range_with_len 1 publish))
        (subst (λ (fs : List (EdgeRef × EdgeRow)). IsPermutation fs (flat_map ends_at (range_with_len 1 publish)))
        (filter-same (ends_among 1 publish) (λ (e : EdgeRef × EdgeRow). has_ended publish e.1) (λ e. within e.1.end) es) (among-is 1 publish)))) same) up
      where
        within : (n : ℕ) → (nat_le 1 n && nat_lt n (1 + publish)) ≡ (not (n == 0) && nat_le n publish)
        within n = grind (arith, nat_tests)

-- their edges
pub edges-of : (table : Contents) (from count : ℕ) → map (λ (x : Ending). x.edge) (endings_among table.edges from count) ≡ flat_map (ending_at table) (range_with_len from count)
edges-of table from zero = refl
edges-of table from (suc count) =
    ap (map (λ (x : Ending). x.edge)) (map-append ending_of (ends_at table.edges from) (flat_map (ends_at table.edges) (range_with_len (from + 1) count)))
    ∙ map-append (λ (x : Ending). x.edge) (map ending_of (ends_at table.edges from)) (endings_among table.edges (from + 1) count)
    ∙ (λ i. keys (ends_at table.edges from) i ++ edges-of table (from + 1) count i)
  where
    keys : (fs : List (EdgeRef × EdgeRow)) → map (λ (x : Ending). x.edge) (map ending_of fs) ≡ map (λ (f : EdgeRef × EdgeRow). f.0) fs
    keys [] = refl
    keys (f ∷ fs) = ap (λ (es : List EdgeRef). f.0 ∷ es) (keys fs)
