-- The rows that live and pass a test, in the order in which they came: those of the ordered entries.
use Rattle.std.proofs.Common.{◌≡◌, Bool, true, false, List, [], ◌∷◌, Option, None, Some, refl, sym, ◌∙◌, ap, subst, filter, map, if◌then◌else◌}
use Rattle.std.specs.Cmp.{IsTotalOrder}
use Rattle.std.specs.declared.cmp.Ordering.{Ordering}
use Rattle.std.specs.Ordering.{eq_by_cmp}
use Rattle.std.specs.List.{IsDistinct, filter_map, cons_option}
use Rattle.std.specs.List.Sorted.{IsPermutation}
use Rattle.std.specs.Map.{keys_of}
use Rattle.std.specs.BTreeMap.{insert_entry, is_at}
use Rattle.std.specs.Option.{option_map, option_map_or, option_and_then}
use Rattle.std.proofs.lemmas.List.Sorted.{IsPermutation-refl, IsPermutation-cons, IsPermutation-trans, IsPermutation-map}
use Rattle.std.proofs.lemmas.Map.{NonePasses}
use Rattle.std.proofs.lemmas.Map.Entries.{none_past_head}
use Rattle.std.proofs.lemmas.Map.Keys.{IsDistinct-tail}
use Rattle.std.proofs.lemmas.Cmp.{eq_by_cmp_equiv, tied_itself}
use Rattle.std.specs.Ordering.{is_eq}
use Rattle.chained_rows.specs.Ordered.{ordered, living, kept_if}
use Rattle.chained_rows.proofs.Inserted.{IsPermutation-insert_entry, filter-insert_entry}
use Rattle.chained_rows.proofs.Ordered.{absent-ordered, sorted-ordered}

module _ {K X : Type 0} {cmp : K → K → Ordering} (o : IsTotalOrder cmp) where
  absent_tail : (e : K × Option X) (es : List (K × Option X)) → IsDistinct (eq_by_cmp cmp) (keys_of (e ∷ es)) → NonePasses (is_at (cmp e.0)) (ordered cmp es)
  absent_tail e es d =
      absent-ordered o e.0 es (IsDistinct-tail (eq_by_cmp cmp) e.0 (keys_of es) d) (none_past_head (eq_by_cmp_equiv o) e.0 e es d (ap is_eq (tied_itself o e.0)))

  -- the ordered entries are the rows that live
  pub IsPermutation-ordered : (es : List (K × Option X)) → IsDistinct (eq_by_cmp cmp) (keys_of es) → IsPermutation (filter_map living es) (ordered cmp es)
  IsPermutation-ordered [] d = IsPermutation-refl []
  IsPermutation-ordered (e ∷ es) d = by e.1 (IsPermutation-ordered es (IsDistinct-tail (eq_by_cmp cmp) e.0 (keys_of es) d))
    where
      by : (r : Option X) → IsPermutation (filter_map living es) (ordered cmp es)
          → IsPermutation (cons_option (option_map (λ x. (e.0, x)) r) (filter_map living es)) (option_map_or (insert_entry cmp (ordered cmp es) e.0) r (ordered cmp es))
      by None h = h
      by (Some x) h =
          IsPermutation-trans ((e.0, x) ∷ filter_map living es) ((e.0, x) ∷ ordered cmp es) (insert_entry cmp (ordered cmp es) e.0 x)
          (IsPermutation-cons (e.0, x) (filter_map living es) (ordered cmp es) h) (IsPermutation-insert_entry o e.0 x (ordered cmp es) (absent_tail e es d))

  -- a filter of the ordered entries: the rows that fail are gone
  pub filter-ordered : (p : K × X → Bool) (es : List (K × Option X)) → IsDistinct (eq_by_cmp cmp) (keys_of es) → filter p (ordered cmp es) ≡ ordered cmp (map (kept_if p) es)
  filter-ordered p [] d = refl
  filter-ordered p (e ∷ es) d = by e.1 (filter-ordered p es (IsDistinct-tail (eq_by_cmp cmp) e.0 (keys_of es) d))
    where
      over : (b : Bool) (x : X) → (if b then insert_entry cmp (ordered cmp (map (kept_if p) es)) e.0 x else ordered cmp (map (kept_if p) es))
          ≡ option_map_or (insert_entry cmp (ordered cmp (map (kept_if p) es)) e.0) (if b then Some x else None) (ordered cmp (map (kept_if p) es))
      over true x = refl
      over false x = refl

      by : (r : Option X) → filter p (ordered cmp es) ≡ ordered cmp (map (kept_if p) es)
          → filter p (option_map_or (insert_entry cmp (ordered cmp es) e.0) r (ordered cmp es))
          ≡ option_map_or (insert_entry cmp (ordered cmp (map (kept_if p) es)) e.0) (option_and_then (λ x. if p (e.0, x) then Some x else None) r) (ordered cmp (map (kept_if p) es))
      by None h = h
      by (Some x) h =
          filter-insert_entry o e.0 x p (ordered cmp es) (sorted-ordered o es) (absent_tail e es d)
          ∙ ap (λ fs. if p (e.0, x) then insert_entry cmp fs e.0 x else fs) h ∙ over (p (e.0, x)) x

  keys-kept : (p : K × X → Bool) (es : List (K × Option X)) → keys_of (map (kept_if p) es) ≡ keys_of es
  keys-kept p [] = refl
  keys-kept p (e ∷ es) = ap (λ ks. e.0 ∷ ks) (keys-kept p es)

  module _ {E Y : Type 0} (f : K × X → Y) (p : K × X → Bool) (name : E → K × Option X) where
    -- what is picked of a row: what f makes of it, if it lives and passes
    abbrev pub picked : E → Option Y
    picked e = option_map f (living (kept_if p (name e)))

    picked_all : (es : List E) → map f (filter_map living (map (kept_if p) (map name es))) ≡ filter_map picked es
    picked_all [] = refl
    picked_all (e ∷ es) = by (living (kept_if p (name e))) ∙ ap (cons_option (picked e)) (picked_all es)
      where
        by : (r : Option (K × X)) → map f (cons_option r (filter_map living (map (kept_if p) (map name es)))) ≡ cons_option (option_map f r) (map f (filter_map living (map (kept_if p) (map name es))))
        by None = refl
        by (Some x) = refl

    -- what is picked of all rows is what f makes of the entries that pass, in some order
    pub IsPermutation-picked : (es : List E) → IsDistinct (eq_by_cmp cmp) (keys_of (map name es)) → IsPermutation (filter_map picked es) (map f (filter p (ordered cmp (map name es))))
    IsPermutation-picked es d =
        subst (λ ys. IsPermutation ys (map f (filter p (ordered cmp (map name es))))) (picked_all es)
        (subst (λ ys. IsPermutation (map f (filter_map living (map (kept_if p) (map name es)))) (map f ys)) (sym (filter-ordered p (map name es) d))
        (IsPermutation-map f (filter_map living (map (kept_if p) (map name es))) (ordered cmp (map (kept_if p) (map name es)))
        (IsPermutation-ordered (map (kept_if p) (map name es)) (subst (IsDistinct (eq_by_cmp cmp)) (sym (keys-kept p (map name es))) d))))
