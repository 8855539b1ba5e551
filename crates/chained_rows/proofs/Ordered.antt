-- The rows that live, in the order of their keys: look-ups, and what one change does.
use Rattle.std.proofs.Common.{◌≡◌, ℕ, Bool, true, false, List, [], ◌∷◌, ◌++◌, Option, None, Some, cond, refl, sym, ◌∙◌, ap, subst, slice_get, true≢false, is_some}
use Rattle.std.specs.Cmp.{IsTotalOrder}
use Rattle.std.specs.declared.cmp.Ordering.{Ordering}
use Rattle.std.specs.declared.cmp.Ordering.TheVariants.{Less, Equal, Greater}
use Rattle.std.specs.Ordering.{is_eq, eq_by_cmp}
use Rattle.std.specs.List.{AllByRecursion, IsDistinct}
use Rattle.std.specs.List.Sorted.{IsStrictlySortedBy}
use Rattle.std.specs.Map.{keys_of, lookup, remove_entry}
use Rattle.std.specs.BTreeMap.{insert_entry, is_at}
use Rattle.std.specs.Option.{option_map_or, option_and_then}
use Rattle.std.proofs.lemmas.Cmp.{eq_by_cmp_equiv, tied_itself}
use Rattle.std.proofs.lemmas.Map.{NonePasses, lookup-none, none_passes_from_lookup, lookup-remove_entry}
use Rattle.std.proofs.lemmas.Map.Entries.{none_past_head, none_below_head}
use Rattle.std.proofs.lemmas.Map.Keys.{sorted_tail, IsDistinct-from_sorted, IsDistinct-tail}
use Rattle.std.proofs.lemmas.Map.Lookups.{CmpEqualImpliesEq}
use Rattle.indexmap.specs.Layout.{set_value_at, hash_map}
use Rattle.indexmap.proofs.CallerLemmas.{updates-with_value_at}
use Rattle.chained_rows.specs.Ordered.{ordered}
use Rattle.chained_rows.proofs.Compared.{equal_from, flip, sorted_nil}
use Rattle.chained_rows.proofs.Inserted.{sorted-insert_entry, sorted-remove_entry, lookup-insert_entry}
use Rattle.chained_rows.proofs.Places.{keys-written}

some≢none : {X : Type 0} {x : X} {A : Type 0} → Some x ≡ None → A
some≢none e = absurd (true≢false (ap is_some e))

-- what a value that may itself be none comes to
abbrev pub joined : {X : Type 0} → Option (Option X) → Option X
joined o = option_and_then (λ x. x) o

joined-cond : {X : Type 0} (b : Bool) (x : Option X) (o : Option (Option X)) → joined (cond b (Some x) o) ≡ cond b x (joined o)
joined-cond true x o = refl
joined-cond false x o = refl

module _ {K X : Type 0} {cmp : K → K → Ordering} (o : IsTotalOrder cmp) where
  -- entries in order that are found alike are the same
  pub same_entries : CmpEqualImpliesEq cmp → (es fs : List (K × X)) → IsStrictlySortedBy cmp (keys_of es) → IsStrictlySortedBy cmp (keys_of fs)
      → ((q : K) → lookup (is_at (cmp q)) es ≡ lookup (is_at (cmp q)) fs) → es ≡ fs
  same_entries exact [] [] s t h = refl
  same_entries exact [] (f ∷ fs) s t h = some≢none (sym (h f.0 ∙ ap (λ r. cond (is_eq r) (Some f.1) (lookup (is_at (cmp f.0)) fs)) (tied_itself o f.0)))
  same_entries exact (e ∷ es) [] s t h = some≢none (sym (ap (λ r. cond (is_eq r) (Some e.1) (lookup (is_at (cmp e.0)) es)) (tied_itself o e.0)) ∙ h e.0)
  same_entries exact (e ∷ es) (f ∷ fs) s t h = by (cmp e.0 f.0) refl (same_entries exact es fs (sorted_tail cmp e.0 (keys_of es) s) (sorted_tail cmp f.0 (keys_of fs) t))
    where
      own : (g : K × X) (gs : List (K × X)) → lookup (is_at (cmp g.0)) (g ∷ gs) ≡ Some g.1
      own g gs = ap (λ r. cond (is_eq r) (Some g.1) (lookup (is_at (cmp g.0)) gs)) (tied_itself o g.0)

      none : (q : K) (g : K × X) (gs : List (K × X)) → IsStrictlySortedBy cmp (keys_of (g ∷ gs)) → is_at (cmp q) g.0 ≡ true → lookup (is_at (cmp q)) gs ≡ None
      none q g gs sorted at = lookup-none (is_at (cmp q)) gs (none_past_head (eq_by_cmp_equiv o) q g gs (IsDistinct-from_sorted cmp (keys_of (g ∷ gs)) sorted) at)

      rest : e.0 ≡ f.0 → (q : K) → lookup (is_at (cmp q)) es ≡ lookup (is_at (cmp q)) fs
      rest same q = past (is_at (cmp q) e.0) refl
        where
          past : (b : Bool) → is_at (cmp q) e.0 ≡ b → lookup (is_at (cmp q)) es ≡ lookup (is_at (cmp q)) fs
          past true at = none q e es s at ∙ sym (none q f fs t (ap (is_at (cmp q)) (sym same) ∙ at))
          past false at =
              sym (ap (λ b. cond b (Some e.1) (lookup (is_at (cmp q)) es)) at) ∙ h q
              ∙ ap (λ b. cond b (Some f.1) (lookup (is_at (cmp q)) fs)) (ap (is_at (cmp q)) (sym same) ∙ at)

      by : (r : Ordering) → cmp e.0 f.0 ≡ r → (((q : K) → lookup (is_at (cmp q)) es ≡ lookup (is_at (cmp q)) fs) → es ≡ fs) → e ∷ es ≡ f ∷ fs
      by Less at later = some≢none (sym (own e es) ∙ h e.0 ∙ lookup-none (is_at (cmp e.0)) (f ∷ fs) (none_below_head o e.0 f fs t at))
      by Equal at later =
          let same : e.0 ≡ f.0 = exact e.0 f.0 at in
          let found : Some e.1 ≡ Some f.1 = sym (own e es) ∙ h e.0 ∙ ap (λ k. lookup (is_at (cmp k)) (f ∷ fs)) same ∙ own f fs in
          let value : e.1 ≡ f.1 = cc in
          (λ j. (same j, value j) ∷ later (rest same) j)
      by Greater at later =
          some≢none (sym (own f fs) ∙ sym (h f.0) ∙ lookup-none (is_at (cmp f.0)) (e ∷ es) (none_below_head o f.0 e es s (o.antisymm f.0 e.0 ∙ ap Rattle.std.specs.Ordering.ordering_reverse at)))

  pub sorted-ordered : (es : List (K × Option X)) → IsStrictlySortedBy cmp (keys_of (ordered cmp es))
  sorted-ordered [] = sorted_nil cmp
  sorted-ordered (e ∷ es) = by e.1 (sorted-ordered es)
    where
      by : (r : Option X) → IsStrictlySortedBy cmp (keys_of (ordered cmp es)) → IsStrictlySortedBy cmp (keys_of (option_map_or (insert_entry cmp (ordered cmp es) e.0) r (ordered cmp es)))
      by None h = h
      by (Some x) h = sorted-insert_entry o e.0 x (ordered cmp es) h

  -- a look-up finds the row of the key, if it lives
  pub lookup-ordered : (q : K) (es : List (K × Option X)) → IsDistinct (eq_by_cmp cmp) (keys_of es) → lookup (is_at (cmp q)) (ordered cmp es) ≡ joined (lookup (is_at (cmp q)) es)
  lookup-ordered q [] d = refl
  lookup-ordered q (e ∷ es) d = by e.1 (is_at (cmp q) e.0) refl (lookup-ordered q es (IsDistinct-tail (eq_by_cmp cmp) e.0 (keys_of es) d))
    where
      none : is_at (cmp q) e.0 ≡ true → lookup (is_at (cmp q)) es ≡ None
      none at = lookup-none (is_at (cmp q)) es (none_past_head (eq_by_cmp_equiv o) q e es d at)

      by : (r : Option X) (b : Bool) → is_at (cmp q) e.0 ≡ b → lookup (is_at (cmp q)) (ordered cmp es) ≡ joined (lookup (is_at (cmp q)) es)
          → lookup (is_at (cmp q)) (option_map_or (insert_entry cmp (ordered cmp es) e.0) r (ordered cmp es)) ≡ joined (cond b (Some r) (lookup (is_at (cmp q)) es))
      by None true at h = h ∙ ap joined (none at)
      by None false at h = h
      by (Some x) true at h = lookup-insert_entry o e.0 x q (ordered cmp es) ∙ ap (λ b. cond b (Some x) (lookup (is_at (cmp q)) (ordered cmp es))) (flip o e.0 q ∙ at)
      by (Some x) false at h =
          lookup-insert_entry o e.0 x q (ordered cmp es) ∙ ap (λ b. cond b (Some x) (lookup (is_at (cmp q)) (ordered cmp es))) (flip o e.0 q ∙ at) ∙ h

  -- a key that no row has is not among those that live
  pub absent-ordered : (q : K) (es : List (K × Option X)) → IsDistinct (eq_by_cmp cmp) (keys_of es) → NonePasses (is_at (cmp q)) es → NonePasses (is_at (cmp q)) (ordered cmp es)
  absent-ordered q es d none = none_passes_from_lookup (is_at (cmp q)) (ordered cmp es) (lookup-ordered q es d ∙ ap joined (lookup-none (is_at (cmp q)) es none))

  -- a look-up after a write to the value at a place
  lookup-written : (q : K) (es : List (K × Option X)) (i : ℕ) (k : K) (v w : Option X) → IsDistinct (eq_by_cmp cmp) (keys_of es) → slice_get es i ≡ Some (k, v)
      → lookup (is_at (cmp q)) (set_value_at es i w) ≡ cond (is_at (cmp k) q) (Some w) (lookup (is_at (cmp q)) es)
  lookup-written q es i k v w d at = (updates-with_value_at {S = ℕ} (hash_map es 0 0) i w (eq_by_cmp_equiv o) d k v at).0 q

  lookup-push : (q : K) (es : List (K × Option X)) (k : K) (w : Option X) → NonePasses (is_at (cmp k)) es
      → lookup (is_at (cmp q)) (es ++ (k, w) ∷ []) ≡ cond (is_at (cmp k) q) (Some w) (lookup (is_at (cmp q)) es)
  lookup-push q [] k w none = ap (λ b. cond b (Some w) None) (flip o q k)
  lookup-push q (e ∷ es) k w none =
      ap (cond (is_at (cmp q) e.0) (Some e.1)) (lookup-push q es k w none.1) ∙ over (is_at (cmp q) e.0) (is_at (cmp k) q) refl refl
    where
      over : (a b : Bool) → is_at (cmp q) e.0 ≡ a → is_at (cmp k) q ≡ b → cond a (Some e.1) (cond b (Some w) (lookup (is_at (cmp q)) es)) ≡ cond b (Some w) (cond a (Some e.1) (lookup (is_at (cmp q)) es))
      over true true f g = absurd (true≢false (sym f ∙ ap is_eq (sym (o.congr k q e.0 (equal_from (cmp k q) g))) ∙ none.0))
      over true false f g = refl
      over false b f g = refl

  module _ (exact : CmpEqualImpliesEq cmp) where
    -- a row that lives from now on, or has another value
    pub ordered-put : (es : List (K × Option X)) (i : ℕ) (k : K) (v : Option X) (x : X) → IsDistinct (eq_by_cmp cmp) (keys_of es) → slice_get es i ≡ Some (k, v)
        → ordered cmp (set_value_at es i (Some x)) ≡ insert_entry cmp (ordered cmp es) k x
    ordered-put es i k v x d at =
        same_entries exact (ordered cmp (set_value_at es i (Some x))) (insert_entry cmp (ordered cmp es) k x)
        (sorted-ordered (set_value_at es i (Some x))) (sorted-insert_entry o k x (ordered cmp es) (sorted-ordered es))
        (λ q. lookup-ordered q (set_value_at es i (Some x)) (subst (IsDistinct (eq_by_cmp cmp)) (sym (keys-written es i (Some x))) d)
        ∙ ap joined (lookup-written q es i k v (Some x) d at) ∙ joined-cond (is_at (cmp k) q) (Some x) (lookup (is_at (cmp q)) es)
        ∙ ap (cond (is_at (cmp k) q) (Some x)) (sym (lookup-ordered q es d)) ∙ sym (lookup-insert_entry o k x q (ordered cmp es)))

    -- a row that is gone from now on
    pub ordered-hide : (es : List (K × Option X)) (i : ℕ) (k : K) (v : Option X) → IsDistinct (eq_by_cmp cmp) (keys_of es) → slice_get es i ≡ Some (k, v)
        → ordered cmp (set_value_at es i None) ≡ remove_entry (is_at (cmp k)) (ordered cmp es)
    ordered-hide es i k v d at =
        same_entries exact (ordered cmp (set_value_at es i None)) (remove_entry (is_at (cmp k)) (ordered cmp es))
        (sorted-ordered (set_value_at es i None)) (sorted-remove_entry cmp (is_at (cmp k)) (ordered cmp es) (sorted-ordered es))
        (λ q. lookup-ordered q (set_value_at es i None) (subst (IsDistinct (eq_by_cmp cmp)) (sym (keys-written es i None)) d)
        ∙ ap joined (lookup-written q es i k v None d at) ∙ joined-cond (is_at (cmp k) q) None (lookup (is_at (cmp q)) es)
        ∙ ap (cond (is_at (cmp k) q) None) (sym (lookup-ordered q es d))
        ∙ sym (lookup-remove_entry (eq_by_cmp_equiv o) (is_at (cmp k)) (λ x y same. (eq_by_cmp_equiv o).congr k x y same) q (ordered cmp es) (IsDistinct-from_sorted cmp (keys_of (ordered cmp es)) (sorted-ordered es))))

    -- one row more, which lives
    pub ordered-push : (es : List (K × Option X)) (k : K) (x : X) → IsDistinct (eq_by_cmp cmp) (keys_of (es ++ (k, Some x) ∷ [])) → IsDistinct (eq_by_cmp cmp) (keys_of es) → NonePasses (is_at (cmp k)) es
        → ordered cmp (es ++ (k, Some x) ∷ []) ≡ insert_entry cmp (ordered cmp es) k x
    ordered-push es k x more d none =
        same_entries exact (ordered cmp (es ++ (k, Some x) ∷ [])) (insert_entry cmp (ordered cmp es) k x)
        (sorted-ordered (es ++ (k, Some x) ∷ [])) (sorted-insert_entry o k x (ordered cmp es) (sorted-ordered es))
        (λ q. lookup-ordered q (es ++ (k, Some x) ∷ []) more
        ∙ ap joined (lookup-push q es k (Some x) none) ∙ joined-cond (is_at (cmp k) q) (Some x) (lookup (is_at (cmp q)) es)
        ∙ ap (cond (is_at (cmp k) q) (Some x)) (sym (lookup-ordered q es d)) ∙ sym (lookup-insert_entry o k x q (ordered cmp es)))

  -- one row more, which does not live
  pub ordered-push_none : (es : List (K × Option X)) (k : K) → ordered cmp (es ++ (k, None) ∷ []) ≡ ordered cmp es
  ordered-push_none [] k = refl
  ordered-push_none (e ∷ es) k = ap (λ fs. option_map_or (insert_entry cmp fs e.0) e.1 fs) (ordered-push_none es k)
