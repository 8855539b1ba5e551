-- The rows of one term among rows that are laid out by terms.
use Rattle.std.proofs.Common.{◌≡◌, ℕ, ◌<◌, ◌≤◌, Bool, true, false, cond, List, [], ◌∷◌, ◌++◌, map, filter, length, Option, None, Some, IfSome, refl, sym, ◌∙◌, ap, subst, arith, All}
use Rattle.std.specs.Cmp.{Equal-is}
use Rattle.std.specs.Prelude.{T}
use Rattle.std.specs.FinMap as finite
use Rattle.std.specs.FinMap.Entries.{find, is_sorted, below_all, is_sorted-where_key}
use Rattle.std.specs.declared.cmp.Ordering.{Ordering}
use Rattle.std.specs.declared.cmp.Ordering.TheVariants.{Less, Equal, Greater}
use Rattle.std.specs.Ordering.{is_lt, is_eq, eq_by_cmp, ordering_then}
use Rattle.std.specs.Option.{unwrap_or}
use Rattle.std.proofs.lemmas.List.Elements.{All-head, All-tail, All-cons, All-nil, filter-append}
use Rattle.uni_base.specs.declared.entity.DocKey.{DocKey}
use Rattle.uni_base.specs.RankOrder.{doc_cmp}
use Rattle.uni_base.specs.Cursors.{is_before, is_less, IsRanked}
use Rattle.posting_lists.specs.declared.posting.Posting.{Posting}
use Rattle.posting_lists.specs.Postings.{keys_of}
use Rattle.layer_stack.specs.declared.directory.Span.{Span}
use Rattle.layer_stack.specs.declared.place.Place.{Place}
use Rattle.layer_stack.specs.declared.place.TermKey.{TermKey}
use Rattle.layer_stack.specs.Places.{term_cmp, place_cmp}
use Rattle.layer_stack.specs.Postings.{is_under, posting_of, key_of, place_of}
use Rattle.layer_stack.specs.Spans.{spanned, tagged, span_of, told, put_rows, delete_rows, AreLaid}
use Rattle.layer_stack.proofs.Order.{term_total, term_apart}
use Rattle.layer_base.proofs.Sorted.{first, second, then_lt, find_below}

module _ {X V : Type 0} (tag : TermKey → X → Place × V) (keeps : (t : TermKey) (x : X) → (tag t x).0.term ≡ t) where
  pub same_term : (t s : TermKey) (xs : List X) (b : Bool) → eq_by_cmp term_cmp t s ≡ b → filter (is_under t) (map (tag s) xs) ≡ cond b (map (tag s) xs) []
  same_term t s [] true e = refl
  same_term t s [] false e = refl
  same_term t s (x ∷ xs) true e =
      ap (λ c. cond c (tag s x ∷ filter (is_under t) (map (tag s) xs)) (filter (is_under t) (map (tag s) xs))) (ap (eq_by_cmp term_cmp t) (keeps s x) ∙ e)
      ∙ ap (λ ys. tag s x ∷ ys) (same_term t s xs true e)
  same_term t s (x ∷ xs) false e =
      ap (λ c. cond c (tag s x ∷ filter (is_under t) (map (tag s) xs)) (filter (is_under t) (map (tag s) xs))) (ap (eq_by_cmp term_cmp t) (keeps s x) ∙ e)
      ∙ same_term t s xs false e

  -- the rows under a term are those that its span tells
  pub rows_under : (t : TermKey) (spans : List (TermKey × Span)) (xs : List X) → T (is_sorted term_cmp spans) → filter (is_under t) (tagged tag spans xs) ≡ map (tag t) (told (span_of t spans) xs)
  rows_under t [] xs sorted = refl
  rows_under t (e ∷ spans) xs sorted =
      filter-append (is_under t) (map (tag e.0) (spanned e.1 xs)) (tagged tag spans xs)
      ∙ elim (eq_by_cmp term_cmp t e.0) as (λ b. eq_by_cmp term_cmp t e.0 ≡ b → filter (is_under t) (map (tag e.0) (spanned e.1 xs)) ++ filter (is_under t) (tagged tag spans xs) ≡ map (tag t) (told (cond b (Some e.1) (span_of t spans)) xs)) [
        | true ↦ λ b.
            let is : t ≡ e.0 = term_apart t e.0 ((Equal-is (term_cmp t e.0)).0 b) in
            let none : span_of t spans ≡ None = find_below term_cmp t spans (subst (λ (s : TermKey). T (below_all term_cmp s spans)) (sym is) (first _ _ sorted)) in
            (λ i. same_term t e.0 (spanned e.1 xs) true b i ++ (rows_under t spans xs (second _ _ sorted) ∙ ap (λ s. map (tag t) (told s xs)) none) i)
            ∙ append_nil_at (map (tag e.0) (spanned e.1 xs)) ∙ ap (λ (s : TermKey). map (tag s) (spanned e.1 xs)) (sym is)
        | false ↦ λ b. (λ i. same_term t e.0 (spanned e.1 xs) false b i ++ filter (is_under t) (tagged tag spans xs)) ∙ rows_under t spans xs (second _ _ sorted)
      ] refl
    where
      append_nil_at : (ys : List (Place × V)) → ys ++ [] ≡ ys
      append_nil_at [] = refl
      append_nil_at (y ∷ ys) = ap (λ zs. y ∷ zs) (append_nil_at ys)

-- ---- what a span tells is in rank order, and within the list

less_is : (o : Ordering) → T (is_lt o) → is_less o ≡ true
less_is Less p = refl
less_is Equal p = absurd p
less_is Greater p = absurd p

pub below_ranked : {V : Type 0} (k : DocKey) (es : List (DocKey × V)) → T (below_all doc_cmp k es) → All (λ x. is_before k x ≡ true) (map (λ e. e.0) es)
below_ranked k [] below = All-nil (λ x. is_before k x ≡ true)
below_ranked k (e ∷ es) below = All-cons (λ x. is_before k x ≡ true) e.0 (map (λ d. d.0) es) (less_is (doc_cmp k e.0) (first _ _ below)) (below_ranked k es (second _ _ below))

pub sorted_ranked : {V : Type 0} (es : List (DocKey × V)) → T (is_sorted doc_cmp es) → IsRanked (map (λ e. e.0) es)
sorted_ranked [] sorted = tt
sorted_ranked (e ∷ es) sorted = (below_ranked e.0 es (first _ _ sorted), sorted_ranked es (second _ _ sorted))

pub term_self : (t : TermKey) → term_cmp t t ≡ Equal
term_self t = by (term_cmp t t) (term_total.antisymm t t)
  where
    by : (o : Ordering) → o ≡ Rattle.std.specs.Ordering.ordering_reverse o → o ≡ Equal
    by Less e = cc
    by Equal e = refl
    by Greater e = cc

module _ {X V : Type 0} (tag : TermKey → X → Place × V) (key : X → DocKey) (keeps : (t : TermKey) (x : X) → (tag t x).0 ≡ place_of t (key x)) where
  below_tags : (t : TermKey) (k : DocKey) (xs : List X) → T (below_all place_cmp (place_of t k) (map (tag t) xs)) → All (λ y. is_before k y ≡ true) (map key xs)
  below_tags t k [] below = All-nil (λ y. is_before k y ≡ true)
  below_tags t k (x ∷ xs) below =
      let lt : T (is_lt (place_cmp (place_of t k) (place_of t (key x)))) = subst (λ (p : Place). T (is_lt (place_cmp (place_of t k) p))) (keeps t x) (first _ _ below) in
      All-cons (λ y. is_before k y ≡ true) (key x) (map key xs) (less_is (doc_cmp k (key x)) (then_lt (term_cmp t t) (doc_cmp k (key x)) (ap is_eq (term_self t)) lt)) (below_tags t k xs (second _ _ below))

  pub tags_ranked : (t : TermKey) (xs : List X) → T (is_sorted place_cmp (map (tag t) xs)) → IsRanked (map key xs)
  tags_ranked t [] sorted = tt
  tags_ranked t (x ∷ xs) sorted =
      (below_tags t (key x) xs (subst (λ (p : Place). T (below_all place_cmp p (map (tag t) xs))) (keeps t x) (first _ _ sorted)), tags_ranked t xs (second _ _ sorted))

pub found_holds : {X : Type 0} (Q : X → Type 0) (t : TermKey) (es : List (TermKey × X)) (x : X) → All (λ e. Q e.1) es → find term_cmp t es ≡ Some x → Q x
found_holds Q t [] x all e = cc
found_holds {X} Q t (d ∷ es) x all e =
    elim (eq_by_cmp term_cmp t d.0) as (λ b. cond b (Some d.1) (find term_cmp t es) ≡ Some x → Q x) [
      | true ↦ λ f. subst Q (ap (λ o. unwrap_or o x) f) (All-head (λ (y : TermKey × X). Q y.1) d es all)
      | false ↦ λ f. found_holds Q t es x (All-tail (λ (y : TermKey × X). Q y.1) d es all) f
    ] e

-- the span of a term is within the rows
pub span_inside : (rows : ℕ) (t : TermKey) (spans : List (TermKey × Span)) → All (λ e. (e.1.from < e.1.to) × (e.1.to ≤ rows)) spans → IfSome (span_of t spans) (λ s. (s.from < s.to) × (s.to ≤ rows))
span_inside rows t spans all = by (span_of t spans) refl
  where
    by : (o : Option Span) → span_of t spans ≡ o → IfSome o (λ s. (s.from < s.to) × (s.to ≤ rows))
    by None e = tt
    by (Some s) e = found_holds (λ x. (x.from < x.to) × (x.to ≤ rows)) t spans s all e

pub span_within : (rows : ℕ) (t : TermKey) (spans : List (TermKey × Span)) → All (λ e. (e.1.from < e.1.to) × (e.1.to ≤ rows)) spans → IfSome (span_of t spans) (λ s. (s.from ≤ s.to) × (s.to ≤ rows))
span_within rows t spans all = by (span_of t spans) (span_inside rows t spans all)
  where
    by : (o : Option Span) → IfSome o (λ s. (s.from < s.to) × (s.to ≤ rows)) → IfSome o (λ s. (s.from ≤ s.to) × (s.to ≤ rows))
    by None inside = tt
    by (Some s) inside = (omega (arith, inside.0), inside.1)

-- ---- what a layer has under a term

untag_put : (t : TermKey) (ps : List Posting) → map posting_of (map (λ (p : Posting). (place_of t p.key, p.audience)) ps) ≡ ps
untag_put t [] = refl
untag_put t (p ∷ ps) = ap (λ qs. p ∷ qs) (untag_put t ps)

abbrev pub deleted_row : TermKey → DocKey → Place × Unit {0}
deleted_row t k = (place_of t k, tt)

untag_delete : (t : TermKey) (ks : List DocKey) → map key_of (map (deleted_row t) ks) ≡ ks
untag_delete t [] = refl
untag_delete t (k ∷ ks) = ap (λ xs. k ∷ xs) (untag_delete t ks)

module _ (t : TermKey) (spans : List (TermKey × Span)) where
  pub postings_told : (ps : List Posting) → AreLaid (put_rows spans ps) spans (length ps)
      → map posting_of (filter (is_under t) (finite.entries (finite.from_sorted {R = place_cmp} (put_rows spans ps)))) ≡ told (span_of t spans) ps
  postings_told ps laid =
      ap (λ rows. map posting_of (filter (is_under t) rows)) (finite.entries-from_sorted place_cmp (put_rows spans ps) laid.sorted)
      ∙ ap (map posting_of) (rows_under (λ s (p : Posting). (place_of s p.key, p.audience)) (λ s p. refl) t spans ps laid.told.sorted) ∙ untag_put t (told (span_of t spans) ps)

  pub postings_ranked : (ps : List Posting) → AreLaid (put_rows spans ps) spans (length ps) → IsRanked (keys_of (told (span_of t spans) ps))
  postings_ranked ps laid =
      tags_ranked (λ s (p : Posting). (place_of s p.key, p.audience)) (λ p. p.key) (λ s p. refl) t (told (span_of t spans) ps)
      (subst (λ rows. T (is_sorted place_cmp rows)) (rows_under (λ s (p : Posting). (place_of s p.key, p.audience)) (λ s p. refl) t spans ps laid.told.sorted)
      (is_sorted-where_key place_cmp (λ p. eq_by_cmp term_cmp t p.term) (put_rows spans ps) laid.sorted))

  pub deletes_told : (ks : List DocKey) → AreLaid (delete_rows spans ks) spans (length ks)
      → map key_of (filter (is_under t) (finite.entries (finite.from_sorted {R = place_cmp} (delete_rows spans ks)))) ≡ told (span_of t spans) ks
  deletes_told ks laid =
      ap (λ rows. map key_of (filter (is_under t) rows)) (finite.entries-from_sorted place_cmp (delete_rows spans ks) laid.sorted)
      ∙ ap (map key_of) (rows_under deleted_row (λ s k. refl) t spans ks laid.told.sorted) ∙ untag_delete t (told (span_of t spans) ks)

  pub deletes_ranked : (ks : List DocKey) → AreLaid (delete_rows spans ks) spans (length ks) → IsRanked (told (span_of t spans) ks)
  deletes_ranked ks laid =
      subst IsRanked (plain (told (span_of t spans) ks))
      (tags_ranked deleted_row (λ k. k) (λ s k. refl) t (told (span_of t spans) ks)
      (subst (λ rows. T (is_sorted place_cmp rows)) (rows_under deleted_row (λ s k. refl) t spans ks laid.told.sorted)
      (is_sorted-where_key place_cmp (λ p. eq_by_cmp term_cmp t p.term) (delete_rows spans ks) laid.sorted)))
    where
      plain : (xs : List DocKey) → map (λ k. k) xs ≡ xs
      plain [] = refl
      plain (x ∷ xs) = ap (λ ys. x ∷ ys) (plain xs)
