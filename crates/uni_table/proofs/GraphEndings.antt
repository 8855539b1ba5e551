-- The list of the edges that end is that of the entries among the ends which count.
use Rattle.std.proofs.Common.{◌≡◌, ◌≤◌, ◌<◌, ◌+◌, ◌==◌, ◌&&◌, ◌||◌, ℕ, zero, suc, Bool, true, false, not, nat_le, List, [], ◌∷◌, Option, None, Some, cond, refl, sym, ◌∙◌, ap, subst, map, filter, slice_get, nat_eq, if◌then◌else◌, arith, true≢false}
use Rattle.std.specs.BTreeSet.{contains}
use Rattle.std.specs.declared.cmp.Ordering.{Ordering}
use Rattle.std.specs.declared.cmp.Ordering.TheVariants.{Less, Equal, Greater}
use Rattle.std.specs.List.{IsDistinct, AllByRecursion, filter_map, cons_option, list_any}
use Rattle.std.specs.List.Sorted.{IsPermutation, IsStrictlySortedBy}
use Rattle.std.specs.Map.{keys_of, lookup}
use Rattle.std.specs.BTreeMap.{is_at}
use Rattle.std.specs.Option.{option_map, option_and_then}
use Rattle.std.specs.Ordering.{nat_cmp, ordering_then, eq_by_cmp, is_eq, is_lt}
use Rattle.std.proofs.lemmas.Bool.Decides.{nat_tests}
use Rattle.std.proofs.lemmas.List.Sorted.{IsPermutation-trans, IsPermutation-sym, IsPermutation-map}
use Rattle.std.proofs.lemmas.Map.{NonePasses, lookup-none}
use Rattle.std.proofs.lemmas.Map.Keys.{IsDistinct-from_sorted, IsDistinct-cons}
use Rattle.std.proofs.lemmas.Option.{slice_get_within}
use Rattle.chained_rows.specs.Ordered.{ordered, kept_if, living}
use Rattle.chained_rows.proofs.Compared.{equal_from, is_eq-nat_cmp}
use Rattle.chained_rows.proofs.Ordered.{lookup-ordered, same_entries, sorted-ordered, joined}
use Rattle.chained_rows.proofs.Picked.{IsPermutation-picked, IsPermutation-ordered, picked}
use Rattle.uni_base.specs.declared.edge.Audience.{Audience}
use Rattle.uni_base.specs.declared.edge.EdgeRef.{EdgeRef}
use Rattle.uni_table.specs.Contents.{has_ended}
use Rattle.uni_table.specs.GraphKeys.{edge_total}
use Rattle.uni_table.specs.GraphRows.{IsRows, contents_of, edge_named, slot_named, row_of, is_live, is_ended, row_no, ending_by, ending_no, end_cmp}
use Rattle.uni_table.specs.Lists.{ending_of}
use Rattle.uni_table.specs.declared.graph.Ending.{Ending}
use Rattle.uni_table.specs.declared.graph.numbers.EdgeNo.{EdgeNo}
use Rattle.uni_table.specs.declared.graph.numbers.Slot.{Slot}
use Rattle.uni_table.specs.declared.graph.numbers.SlotState.{SlotState}
use Rattle.uni_table.specs.declared.graph.numbers.SlotState.TheVariants.{Gone, Public, Only, Circle}
use Rattle.uni_table.specs.declared.graph.rows.Rows.{Rows}
use Rattle.uni_table.proofs.GraphEnds.{end_total, exact_ends, ended-parts}
use Rattle.uni_table.proofs.GraphLists.{filter_map-agree}
use Rattle.uni_table.proofs.GraphPlaces.{same-number}

distinct_nil : {B : Type 0} (d : B → B → Bool) → IsDistinct d []
unfolding IsDistinct
distinct_nil d = tt

-- keys with what g makes of them
paired : {Y : Type 0} → (ℕ × ℕ → Option Y) → List (ℕ × ℕ) → List ((ℕ × ℕ) × Option Y)
paired g [] = []
paired g (k ∷ ks) = (k, g k) ∷ paired g ks

module _ {Y : Type 0} (g : ℕ × ℕ → Option Y) where
  lookup-paired : (ks : List (ℕ × ℕ)) (q : ℕ × ℕ) → lookup (is_at (end_cmp q)) (paired g ks) ≡ (if list_any (is_at (end_cmp q)) ks then Some (g q) else None)
  unfolding paired
  lookup-paired [] q = refl
  lookup-paired (k ∷ ks) q = by (is_at (end_cmp q) k) refl (lookup-paired ks q)
    where
      by : (b : Bool) → is_at (end_cmp q) k ≡ b → lookup (is_at (end_cmp q)) (paired g ks) ≡ (if list_any (is_at (end_cmp q)) ks then Some (g q) else None)
          → cond b (Some (g k)) (lookup (is_at (end_cmp q)) (paired g ks)) ≡ (if b || list_any (is_at (end_cmp q)) ks then Some (g q) else None)
      by true at h = ap (λ x. Some (g x)) (sym (exact_ends q k (equal_from (end_cmp q k) at)))
      by false at h = h

  keys-paired : (ks : List (ℕ × ℕ)) → keys_of (paired g ks) ≡ ks
  unfolding paired
  keys-paired [] = refl
  keys-paired (k ∷ ks) = ap (λ xs. k ∷ xs) (keys-paired ks)

  values-paired : (ks : List (ℕ × ℕ)) → map (λ e. e.1) (filter_map living (paired g ks)) ≡ filter_map g ks
  unfolding paired
  values-paired [] = refl
  values-paired (k ∷ ks) = by (g k) ∙ ap (cons_option (g k)) (values-paired ks)
    where
      by : (r : Option Y) → map (λ e. e.1) (cons_option (option_map (λ x. (k, x)) r) (filter_map living (paired g ks))) ≡ cons_option r (map (λ e. e.1) (filter_map living (paired g ks)))
      by None = refl
      by (Some x) = refl

-- edges, each at its end and number, with what f makes of them
module _ {Y : Type 0} (f : EdgeNo × Slot → Option Y) where
  keyed : ℕ → List (EdgeNo × Slot) → List ((ℕ × ℕ) × Option Y)
  keyed n [] = []
  keyed n (e ∷ es) = ((e.1.end, suc n), f e) ∷ keyed (suc n) es

  apart-number : (o : Ordering) (a b : ℕ) → a < b → is_eq (ordering_then o (nat_cmp a b)) ≡ false
  apart-number Less a b h = refl
  apart-number Equal a b h = is_eq-nat_cmp a b ∙ (let fails : (a == b) ≡ false = grind (arith, nat_tests) in fails)
  apart-number Greater a b h = refl

  -- all later numbers are greater
  later : (n m x : ℕ) (es : List (EdgeNo × Slot)) → m ≤ n → AllByRecursion (λ y. eq_by_cmp end_cmp (x, m) y ≡ false) (keys_of (keyed n es))
  unfolding keyed
  later n m x [] h = tt
  later n m x (e ∷ es) h = (apart-number (nat_cmp x e.1.end) m (suc n) (omega arith), later (suc n) m x es (omega arith))

  distinct-keyed : (n : ℕ) (es : List (EdgeNo × Slot)) → IsDistinct (eq_by_cmp end_cmp) (keys_of (keyed n es))
  unfolding keyed
  distinct-keyed n [] = distinct_nil (eq_by_cmp end_cmp)
  distinct-keyed n (e ∷ es) = IsDistinct-cons (eq_by_cmp end_cmp) (e.1.end, suc n) (keys_of (keyed (suc n) es)) (later (suc n) (suc n) e.1.end es (omega arith)) (distinct-keyed (suc n) es)

  none-keyed : (q : ℕ × ℕ) (ks : List ((ℕ × ℕ) × Option Y)) → AllByRecursion (λ y. eq_by_cmp end_cmp q y ≡ false) (keys_of ks) → NonePasses (is_at (end_cmp q)) ks
  none-keyed q [] h = tt
  none-keyed q (k ∷ ks) h = (h.0, none-keyed q ks h.1)

  missing-keyed : (n m x : ℕ) (es : List (EdgeNo × Slot)) → m ≤ n → lookup (is_at (end_cmp (x, m))) (keyed n es) ≡ None
  missing-keyed n m x es h = lookup-none (is_at (end_cmp (x, m))) (keyed n es) (none-keyed (x, m) (keyed n es) (later n m x es h))

  head-test : (x y n : ℕ) → is_at (end_cmp (x, n)) (y, n) ≡ nat_eq y x
  head-test x y n = by (nat_cmp x y) refl
    where
      by : (o : Ordering) → nat_cmp x y ≡ o → is_eq (ordering_then o (nat_cmp n n)) ≡ nat_eq y x
      by Less at = grind (arith, nat_tests)
      by Equal at = is_eq-nat_cmp n n ∙ (let both : (n == n) ≡ nat_eq y x = grind (arith, nat_tests) in both)
      by Greater at = grind (arith, nat_tests)

  -- a look-up by an end and a number finds the edge of the number, if it has the end
  lookup-keyed : (n : ℕ) (es : List (EdgeNo × Slot)) (x number i : ℕ) → number ≡ n + 1 + i
      → joined (lookup (is_at (end_cmp (x, number))) (keyed n es)) ≡ option_and_then (λ e. if nat_eq e.1.end x then f e else None) (slice_get es i)
  unfolding keyed
  lookup-keyed n [] x number i is = refl
  lookup-keyed n (e ∷ es) x number zero is =
      ap (λ m. joined (lookup (is_at (end_cmp (x, m))) (keyed n (e ∷ es)))) (let same : number ≡ suc n = omega (arith, is) in same)
      ∙ ap (λ b. joined (cond b (Some (f e)) (lookup (is_at (end_cmp (x, suc n))) (keyed (suc n) es)))) (head-test x e.1.end (suc n))
      ∙ by (nat_eq e.1.end x)
    where
      by : (b : Bool) → joined (cond b (Some (f e)) (lookup (is_at (end_cmp (x, suc n))) (keyed (suc n) es))) ≡ (if b then f e else None)
      by true = refl
      by false = ap joined (missing-keyed (suc n) (suc n) x es (omega arith))
  lookup-keyed n (e ∷ es) x number (suc i) is =
      ap (λ b. joined (cond b (Some (f e)) (lookup (is_at (end_cmp (x, number))) (keyed (suc n) es)))) (apart (nat_cmp x e.1.end))
      ∙ lookup-keyed (suc n) es x number i (omega (arith, is))
    where
      apart : (o : Ordering) → is_eq (ordering_then o (nat_cmp number (suc n))) ≡ false
      apart Less = refl
      apart Equal = is_eq-nat_cmp number (suc n) ∙ (let fails : (number == suc n) ≡ false = grind (arith, nat_tests) in fails)
      apart Greater = refl

  values-keyed : (n : ℕ) (es : List (EdgeNo × Slot)) → map (λ e. e.1) (filter_map living (keyed n es)) ≡ filter_map f es
  unfolding keyed
  values-keyed n [] = refl
  values-keyed n (e ∷ es) = by (f e) ∙ ap (cons_option (f e)) (values-keyed (suc n) es)
    where
      by : (r : Option Y) → map (λ e. e.1) (cons_option (option_map (λ x. ((e.1.end, suc n), x)) r) (filter_map living (keyed (suc n) es))) ≡ cons_option r (map (λ e. e.1) (filter_map living (keyed (suc n) es)))
      by None = refl
      by (Some x) = refl

module _ (rows : Rows) (kept : IsRows rows) (publish : ℕ) where
  abbrev both : Bool → Bool → EdgeNo × Slot → Option Ending
  both a b e = if a then (if b then Some (record { end = e.1.end; edge = edge_named (keys_of rows.sources.entries) (keys_of rows.ids.entries) e.0 }) else None) else None

  -- an entry that stands for an edge is among the ends
  counted : (x i : ℕ) → contains end_cmp rows.ends (x, suc i) ≡ false → ending_no rows publish (x, suc i) ≡ None
  counted x i none = by (slice_get rows.edges.entries i) refl
    where
      by : (o : Option (EdgeNo × Slot)) → slice_get rows.edges.entries i ≡ o → option_and_then (λ e. if nat_eq e.1.end x then ending_by rows publish e else None) o ≡ None
      by None at = refl
      by (Some e) at = ends (nat_eq e.1.end x) (is_ended publish e.1) refl refl
        where
          ends : (a b : Bool) → nat_eq e.1.end x ≡ a → is_ended publish e.1 ≡ b
              → both a b e ≡ None
          ends false b f g = refl
          ends true false f g = refl
          ends true true f g =
              let p = ended-parts publish e.1 g in
              let same : (e.1.end, i + 1) ≡ (x, suc i) = (λ j. (same-number e.1.end x f j, (let one : i + 1 ≡ suc i = omega arith in one) j)) in
              absurd (true≢false (sym (kept.ended i e at p.0 p.1) ∙ ap (contains end_cmp rows.ends) same ∙ none))

  same-lookups : (q : ℕ × ℕ) → joined (lookup (is_at (end_cmp q)) (paired (ending_no rows publish) rows.ends.keys)) ≡ joined (lookup (is_at (end_cmp q)) (keyed (ending_by rows publish) 0 rows.edges.entries))
  same-lookups q = ap joined (lookup-paired (ending_no rows publish) rows.ends.keys q) ∙ by q.1 refl
    where
      over : (b : Bool) (o : Option Ending) → (b ≡ false → o ≡ None) → joined (if b then Some o else None) ≡ o
      over true o none = refl
      over false o none = sym (none refl)

      never : (b : Bool) → joined {X = Ending} (if b then Some None else None) ≡ None
      never true = refl
      never false = refl

      by : (number : ℕ) → q.1 ≡ number → joined (if list_any (is_at (end_cmp q)) rows.ends.keys then Some (ending_no rows publish q) else None)
          ≡ joined (lookup (is_at (end_cmp q)) (keyed (ending_by rows publish) 0 rows.edges.entries))
      by zero is =
          let at : q ≡ (q.0, zero) = (λ j. (q.0, is j)) in
          ap (λ r. joined (if list_any (is_at (end_cmp r)) rows.ends.keys then Some (ending_no rows publish r) else None)) at
          ∙ never (list_any (is_at (end_cmp (q.0, zero))) rows.ends.keys)
          ∙ sym (ap joined (missing-keyed (ending_by rows publish) 0 0 q.0 rows.edges.entries (omega arith)))
          ∙ ap (λ r. joined (lookup (is_at (end_cmp r)) (keyed (ending_by rows publish) 0 rows.edges.entries))) (sym at)
      by (suc i) is =
          let at : q ≡ (q.0, suc i) = (λ j. (q.0, is j)) in
          ap (λ r. joined (if list_any (is_at (end_cmp r)) rows.ends.keys then Some (ending_no rows publish r) else None)) at
          ∙ over (list_any (is_at (end_cmp (q.0, suc i))) rows.ends.keys) (ending_no rows publish (q.0, suc i)) (counted q.0 i)
          ∙ sym (lookup-keyed (ending_by rows publish) 0 rows.edges.entries q.0 (suc i) i (omega arith))
          ∙ ap (λ r. joined (lookup (is_at (end_cmp r)) (keyed (ending_by rows publish) 0 rows.edges.entries))) (sym at)

  module _ (sorted : IsStrictlySortedBy end_cmp rows.ends.keys) where
    distinct-paired : IsDistinct (eq_by_cmp end_cmp) (keys_of (paired (ending_no rows publish) rows.ends.keys))
    distinct-paired = subst (IsDistinct (eq_by_cmp end_cmp)) (sym (keys-paired (ending_no rows publish) rows.ends.keys)) (IsDistinct-from_sorted end_cmp rows.ends.keys sorted)

    same-ordered : ordered end_cmp (paired (ending_no rows publish) rows.ends.keys) ≡ ordered end_cmp (keyed (ending_by rows publish) 0 rows.edges.entries)
    same-ordered =
        same_entries end_total exact_ends (ordered end_cmp (paired (ending_no rows publish) rows.ends.keys)) (ordered end_cmp (keyed (ending_by rows publish) 0 rows.edges.entries))
        (sorted-ordered end_total (paired (ending_no rows publish) rows.ends.keys)) (sorted-ordered end_total (keyed (ending_by rows publish) 0 rows.edges.entries))
        (λ q. lookup-ordered end_total q (paired (ending_no rows publish) rows.ends.keys) distinct-paired ∙ same-lookups q
        ∙ sym (lookup-ordered end_total q (keyed (ending_by rows publish) 0 rows.edges.entries) (distinct-keyed (ending_by rows publish) 0 rows.edges.entries)))

    -- the entries that count stand for the edges that end
    by-number : IsPermutation (filter_map (ending_by rows publish) rows.edges.entries) (filter_map (ending_no rows publish) rows.ends.keys)
    by-number =
        let ks = paired (ending_no rows publish) rows.ends.keys in
        let es = keyed (ending_by rows publish) 0 rows.edges.entries in
        subst (λ xs. IsPermutation xs (filter_map (ending_no rows publish) rows.ends.keys)) (values-keyed (ending_by rows publish) 0 rows.edges.entries)
        (subst (IsPermutation (map (λ e. e.1) (filter_map living es))) (values-paired (ending_no rows publish) rows.ends.keys)
        (IsPermutation-map (λ e. e.1) (filter_map living es) (filter_map living ks)
        (IsPermutation-trans (filter_map living es) (ordered end_cmp es) (filter_map living ks)
        (IsPermutation-ordered end_total es (distinct-keyed (ending_by rows publish) 0 rows.edges.entries))
        (subst (λ xs. IsPermutation xs (filter_map living ks)) same-ordered (IsPermutation-sym (filter_map living ks) (ordered end_cmp ks) (IsPermutation-ordered end_total ks distinct-paired))))))

    pick-ended : (e : EdgeNo × Slot) → ending_by rows publish e ≡ picked edge_total ending_of (λ x. has_ended publish x.1) (slot_named (keys_of rows.sources.entries) (keys_of rows.ids.entries)) e
    pick-ended e = by e.1.state
      where
        name : EdgeRef
        name = edge_named (keys_of rows.sources.entries) (keys_of rows.ids.entries) e.0

        over : (b : Bool) (a : Audience) → (if b then Some (record { end = e.1.end; edge = edge_named (keys_of rows.sources.entries) (keys_of rows.ids.entries) e.0 }) else None)
            ≡ option_map ending_of (option_map (λ x. (edge_named (keys_of rows.sources.entries) (keys_of rows.ids.entries) e.0, x)) (if b then Some (record { audience = a; end = e.1.end }) else None))
        over true a = refl
        over false a = refl

        by : (state : SlotState)
            → (if is_live state && (not (e.1.end == 0) && nat_le e.1.end publish) then Some (record { end = e.1.end; edge = edge_named (keys_of rows.sources.entries) (keys_of rows.ids.entries) e.0 }) else None)
            ≡ option_map ending_of (living (kept_if (λ x. has_ended publish x.1) (edge_named (keys_of rows.sources.entries) (keys_of rows.ids.entries) e.0, row_of (keys_of rows.sources.entries) state e.1.end)))
        by Gone = refl
        by Public = over (not (e.1.end == 0) && nat_le e.1.end publish) _
        by Only = over (not (e.1.end == 0) && nat_le e.1.end publish) _
        by (Circle n) = over (not (e.1.end == 0) && nat_le e.1.end publish) _

    -- they are the edges of the contents that end, in some order
    pub endings-permutation : IsPermutation (map ending_of (filter (λ e. has_ended publish e.1) (contents_of rows).edges)) (filter_map (ending_no rows publish) rows.ends.keys)
    endings-permutation =
        IsPermutation-trans (map ending_of (filter (λ e. has_ended publish e.1) (contents_of rows).edges)) (filter_map (ending_by rows publish) rows.edges.entries) (filter_map (ending_no rows publish) rows.ends.keys)
        (subst (IsPermutation (map ending_of (filter (λ e. has_ended publish e.1) (contents_of rows).edges)))
        (sym (filter_map-agree (ending_by rows publish) (picked edge_total ending_of (λ x. has_ended publish x.1) (slot_named (keys_of rows.sources.entries) (keys_of rows.ids.entries))) rows.edges.entries (λ i e at. pick-ended e)))
        (IsPermutation-sym _ (map ending_of (filter (λ e. has_ended publish e.1) (contents_of rows).edges))
        (IsPermutation-picked edge_total ending_of (λ e. has_ended publish e.1) (slot_named (keys_of rows.sources.entries) (keys_of rows.ids.entries)) rows.edges.entries kept.edges)))
        by-number

  -- an entry past the publish stands for nothing
  past-none : (q : ℕ × ℕ) → is_lt (end_cmp (publish, 4294967295) q) ≡ true → ending_no rows publish q ≡ None
  past-none q past = by q.1 refl
    where
      by : (number : ℕ) → q.1 ≡ number → option_and_then (λ e. if nat_eq e.1.end q.0 then ending_by rows publish e else None) (row_no rows.edges.entries number) ≡ None
      by zero is = refl
      by (suc i) is = found (slice_get rows.edges.entries i) refl
        where
          found : (o : Option (EdgeNo × Slot)) → slice_get rows.edges.entries i ≡ o → option_and_then (λ e. if nat_eq e.1.end q.0 then ending_by rows publish e else None) o ≡ None
          found None at = refl
          found (Some e) at = ends (nat_eq e.1.end q.0) (is_ended publish e.1) refl refl
            where
              small : q.1 ≤ 4294967295
              small = omega (arith, is, slice_get_within rows.edges.entries i e at, kept.few_edges)

              after : (o r : Ordering) → nat_cmp publish q.0 ≡ o → nat_cmp 4294967295 q.1 ≡ r → is_lt (ordering_then o r) ≡ true → publish < q.0
              after Less r f g h = grind (arith, nat_tests)
              after Equal Less f g h = absurd (let below : 4294967295 < q.1 = grind (arith, nat_tests) in omega (arith, below, small))
              after Equal Equal f g h = cc
              after Equal Greater f g h = cc
              after Greater r f g h = cc

              ends : (a b : Bool) → nat_eq e.1.end q.0 ≡ a → is_ended publish e.1 ≡ b
                  → both a b e ≡ None
              ends false b f g = refl
              ends true false f g = refl
              ends true true f g =
                  let p = ended-parts publish e.1 g in
                  let same : e.1.end ≡ q.0 = same-number e.1.end q.0 f in
                  let beyond : publish < q.0 = after (nat_cmp publish q.0) (nat_cmp 4294967295 q.1) refl refl past in
                  absurd (omega (arith, p.2, same, beyond))

  -- so the entries up to the publish are enough
  pub endings-between : (ks : List (ℕ × ℕ)) → filter_map (ending_no rows publish) (filter (λ q. not (is_lt (end_cmp (publish, 4294967295) q))) ks) ≡ filter_map (ending_no rows publish) ks
  endings-between [] = refl
  endings-between (k ∷ ks) = by (is_lt (end_cmp (publish, 4294967295) k)) refl (endings-between ks)
    where
      rest : List (ℕ × ℕ)
      rest = filter (λ q. not (is_lt (end_cmp (publish, 4294967295) q))) ks

      by : (b : Bool) → is_lt (end_cmp (publish, 4294967295) k) ≡ b → filter_map (ending_no rows publish) (filter (λ q. not (is_lt (end_cmp (publish, 4294967295) q))) ks) ≡ filter_map (ending_no rows publish) ks
          → filter_map (ending_no rows publish) (if not b then k ∷ filter (λ q. not (is_lt (end_cmp (publish, 4294967295) q))) ks else filter (λ q. not (is_lt (end_cmp (publish, 4294967295) q))) ks)
          ≡ cons_option (ending_no rows publish k) (filter_map (ending_no rows publish) ks)
      by true at h = h ∙ ap (λ o. cons_option o (filter_map (ending_no rows publish) ks)) (sym (past-none k at))
      by false at h = ap (cons_option (ending_no rows publish k)) h
