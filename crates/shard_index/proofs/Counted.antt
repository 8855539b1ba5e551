-- How many keys a map has at most.
use Rattle.std.proofs.Common.{◌≡◌, ◌≤◌, ◌||◌, ◌&&◌, Bool, true, false, not, List, [], ◌∷◌, map, filter, length, refl, sym, ◌∙◌, ap, subst, arith}
use Rattle.std.proofs.lemmas.List.{length-map}
use Rattle.std.proofs.lemmas.List.Elements.{All-weaker, recursion_from_All}
use Rattle.std.proofs.lemmas.List.Folds.{list_any-append}
use Rattle.std.proofs.lemmas.Map.Keys.{IsDistinct-from_sorted}
use Rattle.std.proofs.lemmas.Map.Made.{All-is_member, is_member-filter, length-le_from_is_member}
use Rattle.std.specs.Prelude.{T}
use Rattle.std.specs.Cmp.{IsTotalOrder, eq_by_cmp_equiv}
use Rattle.std.specs.declared.cmp.Ordering.{Ordering}
use Rattle.std.specs.declared.cmp.Ordering.TheVariants.{Less}
use Rattle.std.specs.FinMap as finite
use Rattle.std.specs.FinMap.Entries.{is_sorted, below_all}
use Rattle.std.specs.List.{AllByRecursion, IsDistinct}
use Rattle.std.specs.List.Sorted.{IsStrictlySortedBy}
use Rattle.std.specs.Ordering.{eq_by_cmp, is_lt}
use Rattle.std.specs.Set.{is_member}
use Rattle.layer_base.specs.Layers.{TellsApart}
use Rattle.layer_base.proofs.Sorted.{first, second, less_from}
use Rattle.shard_index.specs.Touched.{either_keys}
use Rattle.shard_index.proofs.LoggedMaps.{equal_of}

module _ {K Y : Type 0} (R : K → K → Ordering) where
  below_keys : (k : K) (es : List (K × Y)) → T (below_all R k es) → AllByRecursion (λ y. R k y ≡ Less) (map (λ e. e.0) es)
  below_keys k [] t = tt
  below_keys k (e ∷ es) t = (less_from (R k e.0) (first (is_lt (R k e.0)) (below_all R k es) t), below_keys k es (second (is_lt (R k e.0)) (below_all R k es) t))

  keys_rise : (es : List (K × Y)) → T (is_sorted R es) → IsStrictlySortedBy R (map (λ e. e.0) es)
  unfolding IsStrictlySortedBy
  keys_rise [] t = tt
  keys_rise (e ∷ es) t = (below_keys e.0 es (first (below_all R e.0 es) (is_sorted R es) t), keys_rise es (second (below_all R e.0 es) (is_sorted R es) t))

-- each key is named by one of a list, and no two by the same
module _ {K Y J : Type 0} {R : K → K → Ordering} {S : J → J → Ordering} (o : IsTotalOrder R) (p : IsTotalOrder S) (apart : TellsApart S) (m : finite.FinMap R Y) (f : K → J) (names : List J)
    (named : (k : K) → finite.contains_key m k ≡ true → is_member (eq_by_cmp S) names (f k) ≡ true)
    (one : (j k : K) → finite.contains_key m j ≡ true → finite.contains_key m k ≡ true → eq_by_cmp S (f j) (f k) ≡ true → eq_by_cmp R j k ≡ true) where
  abbrev IsKey : K → Type 0
  IsKey k = finite.contains_key m k ≡ true

  all_keys : AllByRecursion IsKey (finite.keys m)
  all_keys = recursion_from_All IsKey (finite.keys m) (All-weaker (λ k. is_member (eq_by_cmp R) (finite.keys m) k ≡ true) IsKey (λ k t. finite.contains_key-keys m k ∙ t) (finite.keys m) (All-is_member (eq_by_cmp_equiv o) (finite.keys m)))

  far : (k : K) → IsKey k → (ks : List K) → AllByRecursion IsKey ks → AllByRecursion (λ x. eq_by_cmp R k x ≡ false) ks → AllByRecursion (λ j. eq_by_cmp S (f k) j ≡ false) (map f ks)
  far k is [] all other = tt
  far k is (x ∷ ks) all other = (by (eq_by_cmp S (f k) (f x)) refl, far k is ks all.1 other.1)
    where
      by : (b : Bool) → eq_by_cmp S (f k) (f x) ≡ b → eq_by_cmp S (f k) (f x) ≡ false
      by true t = let clash : true ≡ false = sym (one k x is all.0 t) ∙ other.0 in absurd cc
      by false t = t

  distinct : (ks : List K) → AllByRecursion IsKey ks → IsDistinct (eq_by_cmp R) ks → IsDistinct (eq_by_cmp S) (map f ks)
  unfolding IsDistinct
  distinct [] all d = tt
  distinct (k ∷ ks) all d = (far k all.0 ks all.1 d.0, distinct ks all.1 d.1)

  found : (ks : List K) (j : J) → AllByRecursion IsKey ks → is_member (eq_by_cmp S) (map f ks) j ≡ true → is_member (eq_by_cmp S) names j ≡ true
  found [] j all t = cc
  found (k ∷ ks) j all t = by (eq_by_cmp S j (f k)) refl t (λ later. found ks j all.1 later)
    where
      by : (b : Bool) → eq_by_cmp S j (f k) ≡ b → (b || is_member (eq_by_cmp S) (map f ks) j) ≡ true → (is_member (eq_by_cmp S) (map f ks) j ≡ true → is_member (eq_by_cmp S) names j ≡ true) → is_member (eq_by_cmp S) names j ≡ true
      by true e u rest = subst (λ (x : J). is_member (eq_by_cmp S) names x ≡ true) (sym (apart j (f k) (equal_of (S j (f k)) e))) (named k all.0)
      by false e u rest = rest u

  pub few_keys : finite.len m ≤ length names
  few_keys =
      let keys_apart = IsDistinct-from_sorted R (finite.keys m) (keys_rise R (finite.entries m) (finite.entries_sorted m)) in
      let most : length (map f (finite.keys m)) ≤ length names = length-le_from_is_member (eq_by_cmp_equiv p) (map f (finite.keys m)) names (distinct (finite.keys m) all_keys keys_apart) (λ j t. found (finite.keys m) j all_keys t) in
      omega (arith, most, length-map (finite.keys m) f, length-map (finite.entries m) (λ (e : K × Y). e.0), finite.len-entries m)

-- ---- keys of either list

module _ {K : Type 0} {R : K → K → Ordering} (o : IsTotalOrder R) (apart : TellsApart R) (test : K → Bool) (xs ys : List K) (q : K) (passes : test q ≡ true) where
  or_first : (a b : Bool) → a ≡ true → (a || b) ≡ true
  or_first true b t = refl
  or_first false b t = cc

  alike : (p : K → Bool) (x : K) → eq_by_cmp R q x ≡ true → p q ≡ p x
  alike p x t = ap p (apart q x (equal_of (R q x) t))

  kept : is_member (eq_by_cmp R) (either_keys R xs ys) q ≡ true → is_member (eq_by_cmp R) (filter test (either_keys R xs ys)) q ≡ true
  kept t = is_member-filter {eq = eq_by_cmp R} (eq_by_cmp_equiv o) test q (alike test) (either_keys R xs ys) ∙ (λ i. t i && passes i)

  pub of_first : is_member (eq_by_cmp R) xs q ≡ true → is_member (eq_by_cmp R) (filter test (either_keys R xs ys)) q ≡ true
  of_first t = kept (list_any-append (eq_by_cmp R q) xs (filter (λ k. not (is_member (eq_by_cmp R) xs k)) ys) ∙ or_first (is_member (eq_by_cmp R) xs q) (is_member (eq_by_cmp R) (filter (λ k. not (is_member (eq_by_cmp R) xs k)) ys) q) t)

  pub of_second : is_member (eq_by_cmp R) ys q ≡ true → is_member (eq_by_cmp R) (filter test (either_keys R xs ys)) q ≡ true
  of_second t = by (is_member (eq_by_cmp R) xs q) refl
    where
      by : (b : Bool) → is_member (eq_by_cmp R) xs q ≡ b → is_member (eq_by_cmp R) (filter test (either_keys R xs ys)) q ≡ true
      by true e = of_first e
      by false e =
          kept (list_any-append (eq_by_cmp R q) xs (filter (λ k. not (is_member (eq_by_cmp R) xs k)) ys)
          ∙ (λ i. e i || is_member-filter {eq = eq_by_cmp R} (eq_by_cmp_equiv o) (λ k. not (is_member (eq_by_cmp R) xs k)) q (alike (λ k. not (is_member (eq_by_cmp R) xs k))) ys i)
          ∙ (λ i. t i && not (e i)))
