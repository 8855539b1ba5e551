-- Runs in the order of their terms: what those of each term leave, one after another.
use Rattle.std.proofs.Common.{◌≡◌, ℕ, suc, ◌+◌, ◌-◌, ◌<◌, ◌≤◌, Bool, true, false, cond, ◌&&◌, List, [], ◌∷◌, ◌++◌, map, filter, take, drop, length, get_or, reverse, Option, None, Some, refl, sym, ◌∙◌, ap, subst, arith, All, append-nil, ◌⊎◌, inl, inr}
use Rattle.std.specs.Prelude.{T}
use Rattle.std.specs.FinMap as finite
use Rattle.std.specs.FinMap.Entries.{find, is_sorted, below_all, same_entries}
use Rattle.std.specs.Cmp.{Equal-is}
use Rattle.std.specs.declared.cmp.Ordering.{Ordering}
use Rattle.std.specs.declared.cmp.Ordering.TheVariants.{Less, Greater}
use Rattle.std.specs.Ordering.{is_lt, is_eq, eq_by_cmp, ordering_then, ordering_reverse}
use Rattle.std.proofs.lemmas.Grind.{flat_map-append}
use Rattle.indexmap.proofs.ReorderLemmas.{map-reverse}
use Rattle.std.proofs.lemmas.List.{reverse-append, length-append, length-reverse, length-map, map-append, get_or_read, take_all, drop_all, drop-append-le}
use Rattle.std.proofs.lemmas.Bool.{cases_lt}
use Rattle.std.specs.List.Sorted.{IsSortedByKey}
use Rattle.std.proofs.lemmas.List.Elements.{All-head, All-tail, All-nil, All-push, All-append, All-map, All-take, All-drop, All-weaker, filter-append}
use Rattle.uni_base.specs.declared.entity.DocKey.{DocKey}
use Rattle.uni_base.specs.RankOrder.{doc_cmp}
use Rattle.uni_base.proofs.RankedLemmas.{doc_total}
use Rattle.layer_base.specs.Layers.{from_log}
use Rattle.layer_base.specs.Lookups.{either}
use Rattle.layer_base.proofs.Changes.{find-append}
use Rattle.layer_base.proofs.Frozen.{take-add}
use Rattle.layer_base.proofs.LastWords.{after as comes_after}
use Rattle.layer_base.proofs.Rising.{log_sorted}
use Rattle.layer_base.proofs.Sorted.{both, first, second, is_eq-then, lt_from, sorted_push}
use Rattle.posting_lists.specs.Postings.{section}
use Rattle.posting_lists.proofs.Sections.{length-section, get_or-section}
use Rattle.layer_stack.specs.declared.directory.Span.{Span}
use Rattle.layer_stack.specs.declared.place.Place.{Place}
use Rattle.layer_stack.specs.declared.place.TermKey.{TermKey}
use Rattle.layer_stack.specs.Places.{term_cmp, place_cmp}
use Rattle.layer_stack.specs.Postings.{place_of, is_under}
use Rattle.layer_stack.specs.Spans.{spanned, tagged, IsSpans}
use Rattle.layer_stack.specs.Runs.{AreWithin, AreArranged, run_items, left_of, numbered, number_rows, span_at}
use Rattle.layer_stack.proofs.Order.{term_total, term_apart, place_total, place_apart}
use Rattle.layer_stack.proofs.Settled.{All-from_log, self_equal, numbered_within, length-numbered}
use Rattle.layer_stack.proofs.Terms.{find-under, keyed}
use Rattle.layer_stack.proofs.Told.{sorted_append, apart_below, tagged_push, tagged_behind}
use Rattle.layer_stack.proofs.Under.{term_self, same_term}

filter_turned : {X : Type 0} (p : X → Bool) (xs : List X) → filter p (reverse xs) ≡ reverse (filter p xs)
filter_turned p [] = refl
filter_turned {X} p (x ∷ xs) =
    ap (filter p) (reverse-append (x ∷ []) xs) ∙ filter-append p (reverse xs) (x ∷ []) ∙ ap (λ ys. ys ++ filter p (x ∷ [])) (filter_turned p xs) ∙ by (p x)
  where
    by : (b : Bool) → reverse (filter p xs) ++ cond b (x ∷ []) [] ≡ reverse (cond b (x ∷ filter p xs) (filter p xs))
    by true = sym (reverse-append (x ∷ []) (filter p xs))
    by false = append-nil (reverse (filter p xs))

module _ {V : Type 0} where
  abbrev pub under_row : TermKey → DocKey × V → Place × V
  under_row t e = (place_of t e.0, e.1)

  find-under_row : (q : Place) (t : TermKey) (es : List (DocKey × V)) → find place_cmp q (map (under_row t) es) ≡ cond (eq_by_cmp term_cmp q.term t) (find doc_cmp q.key es) None
  find-under_row q t [] = nothing (eq_by_cmp term_cmp q.term t) None
    where
      nothing : (b : Bool) (n : Option V) → n ≡ cond b n n
      nothing true n = refl
      nothing false n = refl
  find-under_row q t (e ∷ es) =
      ap (λ b. cond b (Some e.1) (find place_cmp q (map (under_row t) es))) (is_eq-then (term_cmp q.term t) (doc_cmp q.key e.0)) ∙ by (eq_by_cmp term_cmp q.term t) (find-under_row q t es)
    where
      by : (b : Bool) → find place_cmp q (map (under_row t) es) ≡ cond b (find doc_cmp q.key es) None
          → cond (b && is_eq (doc_cmp q.key e.0)) (Some e.1) (find place_cmp q (map (under_row t) es)) ≡ cond b (cond (is_eq (doc_cmp q.key e.0)) (Some e.1) (find doc_cmp q.key es)) None
      by true h = ap (cond (is_eq (doc_cmp q.key e.0)) (Some e.1)) h
      by false h = h

  below-under_row : (t : TermKey) (k : DocKey) (es : List (DocKey × V)) → T (below_all doc_cmp k es) → T (below_all place_cmp (place_of t k) (map (under_row t) es))
  below-under_row t k [] below = tt
  below-under_row t k (e ∷ es) below =
      both _ _ (subst (λ (o : Ordering). T (is_lt (ordering_then o (doc_cmp k e.0)))) (sym (term_self t)) (first _ _ below)) (below-under_row t k es (second _ _ below))

  sorted-under_row : (t : TermKey) (es : List (DocKey × V)) → T (is_sorted doc_cmp es) → T (is_sorted place_cmp (map (under_row t) es))
  sorted-under_row t [] sorted = tt
  sorted-under_row t (e ∷ es) sorted = both _ _ (below-under_row t e.0 es (first _ _ sorted)) (sorted-under_row t es (second _ _ sorted))

  none_before : (q : Place) (t : TermKey) (es : List (Place × V)) → eq_by_cmp term_cmp q.term t ≡ true → All (λ r. term_cmp r.0.term t ≡ Less) es → find place_cmp q es ≡ None
  none_before q t [] e all = refl
  none_before q t (r ∷ es) e all =
      let is : q.term ≡ t = term_apart q.term t ((Equal-is (term_cmp q.term t)).0 e) in
      let above : term_cmp q.term r.0.term ≡ Greater = ap (λ s. term_cmp s r.0.term) is ∙ term_total.antisymm t r.0.term ∙ ap ordering_reverse (All-head (λ (x : Place × V). term_cmp x.0.term t ≡ Less) r es all) in
      ap (λ o. cond (is_eq (ordering_then o (doc_cmp q.key r.0.key))) (Some r.1) (find place_cmp q es)) above
      ∙ none_before q t es e (All-tail (λ (x : Place × V). term_cmp x.0.term t ≡ Less) r es all)

  -- what a log leaves, and then what rows of a later term leave
  pub group_done : (t : TermKey) (before rows : List (Place × V)) (group : List (DocKey × V)) → rows ≡ finite.entries (from_log {R = place_cmp} before) → All (λ r. term_cmp r.0.term t ≡ Less) rows
      → rows ++ map (under_row t) (finite.entries (from_log {R = doc_cmp} group)) ≡ finite.entries (from_log {R = place_cmp} (before ++ map (under_row t) group))
  group_done t before rows group is all =
      same_entries place_cmp place_total place_apart (rows ++ news) (finite.entries (from_log {R = place_cmp} (before ++ map (under_row t) group))) sorted (finite.entries_sorted (from_log {R = place_cmp} (before ++ map (under_row t) group)))
      (λ q. find-append place_cmp q rows news ∙ (λ i. either (older q i) (newer q i)) ∙ turned q (eq_by_cmp term_cmp q.term t) refl
      ∙ sym (sym (finite.get-entries (from_log {R = place_cmp} (before ++ map (under_row t) group)) q) ∙ finite.get-from_entries place_total (reverse (before ++ map (under_row t) group)) q
      ∙ ap (find place_cmp q) (reverse-append before (map (under_row t) group)) ∙ find-append place_cmp q (reverse (map (under_row t) group)) (reverse before)))
    where
      left : List (DocKey × V)
      left = finite.entries (from_log {R = doc_cmp} group)

      news : List (Place × V)
      news = map (under_row t) left

      sorted : T (is_sorted place_cmp (rows ++ news))
      sorted =
          sorted_append place_cmp rows news (subst (λ rs. T (is_sorted place_cmp rs)) (sym is) (finite.entries_sorted (from_log {R = place_cmp} before)))
          (sorted-under_row t left (finite.entries_sorted (from_log {R = doc_cmp} group)))
          (All-weaker (λ (r : Place × V). term_cmp r.0.term t ≡ Less) (λ (r : Place × V). T (below_all place_cmp r.0 news)) (λ r less. apart_below under_row (λ (e : DocKey × V). e.0) (λ s e. refl) r.0 t left (lt_from _ less)) rows all)

      older : (q : Place) → find place_cmp q rows ≡ find place_cmp q (reverse before)
      older q = ap (find place_cmp q) is ∙ sym (finite.get-entries (from_log {R = place_cmp} before) q) ∙ finite.get-from_entries place_total (reverse before) q

      newer : (q : Place) → find place_cmp q news ≡ find place_cmp q (reverse (map (under_row t) group))
      newer q =
          find-under_row q t left ∙ ap (λ f. cond (eq_by_cmp term_cmp q.term t) f None) (sym (finite.get-entries (from_log {R = doc_cmp} group) q.key) ∙ finite.get-from_entries doc_total (reverse group) q.key)
          ∙ sym (find-under_row q t (reverse group)) ∙ ap (find place_cmp q) (map-reverse (under_row t) group)

      turned : (q : Place) (b : Bool) → eq_by_cmp term_cmp q.term t ≡ b
          → either (find place_cmp q (reverse before)) (find place_cmp q (reverse (map (under_row t) group))) ≡ either (find place_cmp q (reverse (map (under_row t) group))) (find place_cmp q (reverse before))
      turned q true e =
          let none : find place_cmp q (reverse before) ≡ None = sym (older q) ∙ none_before q t rows e all in
          ap (λ f. either f (find place_cmp q (reverse (map (under_row t) group)))) none ∙ sym (nothing_after (find place_cmp q (reverse (map (under_row t) group)))) ∙ ap (either (find place_cmp q (reverse (map (under_row t) group)))) (sym none)
        where
          nothing_after : (f : Option V) → either f None ≡ f
          nothing_after None = refl
          nothing_after (Some x) = refl
      turned q false e =
          let none : find place_cmp q (reverse (map (under_row t) group)) ≡ None = ap (find place_cmp q) (sym (map-reverse (under_row t) group)) ∙ find-under_row q t (reverse group) ∙ ap (λ b. cond b (find doc_cmp q.key (reverse group)) None) e in
          ap (either (find place_cmp q (reverse before))) none ∙ nothing_after (find place_cmp q (reverse before)) ∙ ap (λ f. either f (find place_cmp q (reverse before))) (sym none)
        where
          nothing_after : (f : Option V) → either f None ≡ f
          nothing_after None = refl
          nothing_after (Some x) = refl

  -- ---- runs in another order

  -- logs that say the same of each term leave the same
  pub same_left : (xs ys : List (Place × V)) → ((t : TermKey) → filter (is_under t) xs ≡ filter (is_under t) ys) → finite.entries (from_log {R = place_cmp} xs) ≡ finite.entries (from_log {R = place_cmp} ys)
  same_left xs ys same =
      same_entries place_cmp place_total place_apart (finite.entries (from_log {R = place_cmp} xs)) (finite.entries (from_log {R = place_cmp} ys)) (finite.entries_sorted (from_log {R = place_cmp} xs)) (finite.entries_sorted (from_log {R = place_cmp} ys))
      (λ q. found xs q ∙ ap (λ es. find doc_cmp q.key (map keyed (reverse es))) (same q.term) ∙ sym (found ys q))
    where
      found : (zs : List (Place × V)) (q : Place) → find place_cmp q (finite.entries (from_log {R = place_cmp} zs)) ≡ find doc_cmp q.key (map keyed (reverse (filter (is_under q.term) zs)))
      found zs q =
          sym (finite.get-entries (from_log {R = place_cmp} zs) q) ∙ finite.get-from_entries place_total (reverse zs) q ∙ find-under q.term q.key (reverse zs)
          ∙ ap (λ es. find doc_cmp q.key (map keyed es)) (filter_turned (is_under q.term) zs)

module _ {X V : Type 0} (tag : TermKey → X → Place × V) (keeps : (t : TermKey) (x : X) → (tag t x).0.term ≡ t) where
  filter_told : (t : TermKey) (runs : List (TermKey × Span)) (xs : List X) → filter (is_under t) (tagged tag runs xs) ≡ tagged tag (filter (λ e. eq_by_cmp term_cmp t e.0) runs) xs
  filter_told t [] xs = refl
  filter_told t (e ∷ runs) xs = filter-append (is_under t) (map (tag e.0) (spanned e.1 xs)) (tagged tag runs xs) ∙ by (eq_by_cmp term_cmp t e.0) refl (filter_told t runs xs)
    where
      by : (b : Bool) → eq_by_cmp term_cmp t e.0 ≡ b → filter (is_under t) (tagged tag runs xs) ≡ tagged tag (filter (λ d. eq_by_cmp term_cmp t d.0) runs) xs
          → filter (is_under t) (map (tag e.0) (spanned e.1 xs)) ++ filter (is_under t) (tagged tag runs xs) ≡ tagged tag (cond b (e ∷ filter (λ d. eq_by_cmp term_cmp t d.0) runs) (filter (λ d. eq_by_cmp term_cmp t d.0) runs)) xs
      by true same rest = λ i. same_term tag keeps t e.0 (spanned e.1 xs) true same i ++ rest i
      by false same rest = λ i. same_term tag keeps t e.0 (spanned e.1 xs) false same i ++ rest i

  -- runs in another order, those of each term as before
  pub left_alike : (runs others : List (TermKey × Span)) (xs : List X) → ((t : TermKey) → filter (λ e. eq_by_cmp term_cmp t e.0) runs ≡ filter (λ e. eq_by_cmp term_cmp t e.0) others)
      → finite.entries (from_log {R = place_cmp} (tagged tag runs xs)) ≡ finite.entries (from_log {R = place_cmp} (tagged tag others xs))
  left_alike runs others xs same = same_left (tagged tag runs xs) (tagged tag others xs) (λ t. filter_told t runs xs ∙ ap (λ rs. tagged tag rs xs) (same t) ∙ sym (filter_told t others xs))

-- ---- runs in the order of their terms, those of one term after another

module _ (runs : List (TermKey × Span)) where
  -- up to a run, all from a place on are of its term
  abbrev pub AreOne : ℕ → ℕ → Type 0
  AreOne from i = (k : ℕ) (d : TermKey × Span) → from ≤ k → k ≤ i → i < length runs → (get_or runs k d).0 ≡ (get_or runs i d).0

  -- terms that come before that of a run
  abbrev pub ComeBefore : ℕ → List (TermKey × Span) → Type 0
  ComeBefore from spans = (d : TermKey × Span) → from < length runs → All (λ e. term_cmp e.0 (get_or runs from d).0 ≡ Less) spans

  one_start : (i : ℕ) → AreOne i i
  one_start i k d low high fits = let is : k ≡ i = omega arith in ap (λ n. (get_or runs n d).0) is

  one_more : (from i : ℕ) (x y : TermKey × Span) → AreOne from i → i + 1 < length runs → x ≡ get_or runs i x → y ≡ get_or runs (i + 1) y → eq_by_cmp term_cmp y.0 x.0 ≡ true → AreOne from (i + 1)
  one_more from i x y one fits at next same k d low high within = by (cases_lt k (i + 1))
    where
      here : (get_or runs i d).0 ≡ (get_or runs (i + 1) d).0
      here = ap (λ (r : TermKey × Span). r.0) (sym (get_or_read runs i x (omega arith) at d)) ∙ sym (term_apart y.0 x.0 ((Equal-is (term_cmp y.0 x.0)).0 same))
          ∙ ap (λ (r : TermKey × Span). r.0) (get_or_read runs (i + 1) y fits next d)

      by : (k < i + 1) ⊎ (i + 1 ≤ k) → (get_or runs k d).0 ≡ (get_or runs (i + 1) d).0
      by (inl l) = one k d low (omega arith) (omega arith) ∙ here
      by (inr l) = let is : k ≡ i + 1 = omega arith in ap (λ n. (get_or runs n d).0) is

  -- the term of the next run, where it is another one, comes after those before
  pub before_next : (from i : ℕ) (x y : TermKey × Span) (spans : List (TermKey × Span)) (to : Span) → IsSortedByKey (λ (e : TermKey × Span). e.0) term_cmp runs → ComeBefore from spans → AreOne from i → from ≤ i → i + 1 < length runs
      → x ≡ get_or runs i x → y ≡ get_or runs (i + 1) y → eq_by_cmp term_cmp y.0 x.0 ≡ false → ComeBefore (i + 1) (spans ++ (x.0, to) ∷ [])
  before_next from i x y spans to sorted before one le fits at next apart d within =
      All-push (λ e. term_cmp e.0 (get_or runs (i + 1) d).0 ≡ Less) spans (x.0, to)
      (All-weaker (λ e. term_cmp e.0 (get_or runs from d).0 ≡ Less) (λ e. term_cmp e.0 (get_or runs (i + 1) d).0 ≡ Less)
      (λ e less. term_total.trans e.0 (get_or runs from d).0 (get_or runs (i + 1) d).0 less (subst (λ (t : TermKey). term_cmp t (get_or runs (i + 1) d).0 ≡ Less) (sym (one from d (omega arith) le (omega arith))) step)) spans (before d (omega arith)))
      (subst (λ (t : TermKey). term_cmp t (get_or runs (i + 1) d).0 ≡ Less) (sym at_term) step)
    where
      at_term : x.0 ≡ (get_or runs i d).0
      at_term = ap (λ (r : TermKey × Span). r.0) (get_or_read runs i x (omega arith) at d)

      next_term : y.0 ≡ (get_or runs (i + 1) d).0
      next_term = ap (λ (r : TermKey × Span). r.0) (get_or_read runs (i + 1) y fits next d)

      step : term_cmp (get_or runs i d).0 (get_or runs (i + 1) d).0 ≡ Less
      step = comes_after term_cmp term_total (get_or runs (i + 1) d).0 (get_or runs i d).0 (sorted i d (omega arith) (omega arith))
          (subst (λ (t : TermKey). eq_by_cmp term_cmp (get_or runs (i + 1) d).0 t ≡ false) at_term (subst (λ (t : TermKey). eq_by_cmp term_cmp t x.0 ≡ false) next_term apart))

-- what runs before a place leave, and the term that goes on there
pub record IsGrouped (runs : List (TermKey × Span)) (keys : List DocKey) (start i : ℕ) (spans : List (TermKey × Span)) (rows : List (DocKey × ℕ)) : Type 0 where
  pub from : start ≤ i
  pub one : AreOne runs start i
  pub before : ComeBefore runs start spans
  pub left : number_rows spans rows ≡ finite.entries (from_log {R = place_cmp} (number_rows (take start runs) (numbered keys)))
  pub told : IsSpans (length rows) spans
  pub count : length (number_rows spans rows) ≡ length rows
  pub within : All (λ e. e.1 < length keys) rows
  pub end : i ≡ length runs → start ≡ i

-- ---- what a term adds

one_term : (t : TermKey) (runs : List (TermKey × Span)) (xs : List (DocKey × ℕ)) → All (λ e. e.0 ≡ t) runs → number_rows runs xs ≡ map (under_row t) (run_items runs xs)
one_term t [] xs all = refl
one_term t (e ∷ runs) xs all =
    (λ i. map (under_row (All-head (λ (d : TermKey × Span). d.0 ≡ t) e runs all i)) (spanned e.1 xs) ++ one_term t runs xs (All-tail (λ (d : TermKey × Span). d.0 ≡ t) e runs all) i)
    ∙ sym (map-append (under_row t) (spanned e.1 xs) (run_items runs xs))

rows_before : (t : TermKey) (spans : List (TermKey × Span)) (xs : List (DocKey × ℕ)) → All (λ e. term_cmp e.0 t ≡ Less) spans → All (λ r. term_cmp r.0.term t ≡ Less) (number_rows spans xs)
rows_before t [] xs all = All-nil (λ r. term_cmp r.0.term t ≡ Less)
rows_before t (e ∷ spans) xs all =
    All-append (λ (r : Place × ℕ). term_cmp r.0.term t ≡ Less) (map (λ x. (place_of e.0 x.0, x.1)) (spanned e.1 xs)) (number_rows spans xs)
    (All-map (λ (r : Place × ℕ). term_cmp r.0.term t ≡ Less) (λ x. (place_of e.0 x.0, x.1)) (spanned e.1 xs) (λ k d low. All-head (λ (s : TermKey × Span). term_cmp s.0 t ≡ Less) e spans all))
    (rows_before t spans xs (All-tail (λ (s : TermKey × Span). term_cmp s.0 t ≡ Less) e spans all))

items_within : (n : ℕ) (runs : List (TermKey × Span)) (xs : List (DocKey × ℕ)) → All (λ e. e.1 < n) xs → All (λ e. e.1 < n) (run_items runs xs)
items_within n [] xs all = All-nil (λ e. e.1 < n)
items_within n (e ∷ runs) xs all =
    All-append (λ (x : DocKey × ℕ). x.1 < n) (spanned e.1 xs) (run_items runs xs) (All-take (λ x. x.1 < n) (e.1.to - e.1.from) (drop e.1.from xs) (All-drop (λ x. x.1 < n) e.1.from xs all)) (items_within n runs xs all)

-- a log that is not empty leaves something
some_left : (group : List (DocKey × ℕ)) → 0 < length group → 0 < length (finite.entries (from_log {R = doc_cmp} group))
some_left group some = by (reverse group) refl (finite.entries (from_log {R = doc_cmp} group)) refl
  where
    found : (k : DocKey) → find doc_cmp k (finite.entries (from_log {R = doc_cmp} group)) ≡ find doc_cmp k (reverse group)
    found k = sym (finite.get-entries (from_log {R = doc_cmp} group) k) ∙ finite.get-from_entries doc_total (reverse group) k

    by : (turned : List (DocKey × ℕ)) → turned ≡ reverse group → (es : List (DocKey × ℕ)) → es ≡ finite.entries (from_log {R = doc_cmp} group) → 0 < length (finite.entries (from_log {R = doc_cmp} group))
    by [] e es f = let none : length group ≡ 0 = sym (length-reverse group) ∙ ap length (sym e) in absurd (omega (arith, none))
    by (x ∷ turned) e [] f =
        let none : find doc_cmp x.0 (reverse group) ≡ None = sym (found x.0) ∙ ap (find doc_cmp x.0) (sym f) in
        let some : find doc_cmp x.0 (reverse group) ≡ Some x.1 = ap (find doc_cmp x.0) (sym e) ∙ ap (λ o. cond (is_eq o) (Some x.1) (find doc_cmp x.0 turned)) (self_equal doc_cmp doc_total x.0) in
        absurd (let none_some : None ≡ Some x.1 = sym none ∙ some in cc)
    by (x ∷ turned) e (d ∷ es) f = let long : suc (length es) ≡ length (finite.entries (from_log {R = doc_cmp} group)) = ap length f in omega (arith, long)

some_items : (n : ℕ) (runs : List (TermKey × Span)) (xs : List (DocKey × ℕ)) → length xs ≡ n → AreWithin n runs → 0 < length runs → 0 < length (run_items runs xs)
some_items n [] xs long within some = absurd (omega arith)
some_items n (e ∷ runs) xs long within some =
    let here = All-head (λ (r : TermKey × Span). (r.1.from < r.1.to) × (r.1.to ≤ n)) e runs within in
    let spread = length-section e.1.from e.1.to xs (omega (arith, here.0)) (omega (arith, here.1, long)) in
    omega (arith, here.0, spread, length-append (spanned e.1 xs) (run_items runs xs))

module _ (runs : List (TermKey × Span)) (keys : List DocKey) (within : AreWithin (length keys) runs) where
  pub group_on : (from i : ℕ) (spans : List (TermKey × Span)) (rows : List (DocKey × ℕ)) (x y : TermKey × Span) → IsGrouped runs keys from i spans rows → i + 1 < length runs → x ≡ get_or runs i x → y ≡ get_or runs (i + 1) y
      → eq_by_cmp term_cmp y.0 x.0 ≡ true → IsGrouped runs keys from (i + 1) spans rows
  group_on from i spans rows x y grouped fits at next same = record {
    from = omega (arith, grouped.from);
    one = one_more runs from i x y grouped.one fits at next same;
    before = grouped.before;
    left = grouped.left;
    told = grouped.told;
    count = grouped.count;
    within = grouped.within;
    end = λ e. absurd (omega (arith, e));
  }

  pub group_closed : (from i : ℕ) (spans told : List (TermKey × Span)) (rows news : List (DocKey × ℕ)) (x : TermKey × Span) → IsGrouped runs keys from i spans rows → i < length runs → x ≡ get_or runs i x
      → news ≡ rows ++ left_of (section from (i + 1) runs) keys → told ≡ spans ++ (x.0, span_at (length rows) (length news)) ∷ [] → ComeBefore runs (i + 1) told → IsGrouped runs keys (i + 1) (i + 1) told news
  group_closed from i spans told rows news x grouped fits at is are before = record {
    from = omega arith;
    one = one_start runs (i + 1);
    before = before;
    left = rows_are ∙ group_done x.0 (number_rows (take from runs) xs) (number_rows spans rows) items grouped.left (rows_before x.0 spans rows all)
        ∙ ap (λ log. finite.entries (from_log {R = place_cmp} log)) (sym log_is);
    told = subst (IsSpans (length news)) (sym are) (record {
      sorted = sorted_push term_cmp spans x.0 (span_at (length rows) (length news)) grouped.told.sorted all;
      within = All-push (λ e. (e.1.from < e.1.to) × (e.1.to ≤ length news)) spans (x.0, span_at (length rows) (length news))
          (All-weaker (λ e. (e.1.from < e.1.to) × (e.1.to ≤ length rows)) (λ e. (e.1.from < e.1.to) × (e.1.to ≤ length news)) (λ e h. (h.0, omega (arith, h.1, long))) spans grouped.told.within) (omega (arith, long, more), omega arith);
    });
    count = ap length rows_are ∙ length-append (number_rows spans rows) (map (under_row x.0) left) ∙ omega (arith, grouped.count, length-map-left, long);
    within = subst (All (λ e. e.1 < length keys)) (sym is) (All-append (λ e. e.1 < length keys) rows left grouped.within (All-from_log doc_cmp doc_total (λ n. n < length keys) items (items_within (length keys) group xs numbers)));
    end = λ e. refl;
  }
    where
      xs : List (DocKey × ℕ)
      xs = numbered keys

      group : List (TermKey × Span)
      group = section from (i + 1) runs

      items : List (DocKey × ℕ)
      items = run_items group xs

      left : List (DocKey × ℕ)
      left = left_of group keys

      numbers : All (λ e. e.1 < length keys) xs
      numbers = numbered_within keys

      long : length news ≡ length rows + length left
      long = ap length is ∙ length-append rows left

      length-map-left : length (map (under_row x.0) left) ≡ length left
      length-map-left = length-map left (under_row x.0)

      group_long : length group ≡ i + 1 - from
      group_long = length-section from (i + 1) runs (omega (arith, grouped.from)) (omega arith)

      more : 0 < length left
      more = some_left items (some_items (length keys) group xs (length-numbered 0 keys) (All-take (λ (r : TermKey × Span). (r.1.from < r.1.to) × (r.1.to ≤ length keys)) (i + 1 - from) (drop from runs) (All-drop (λ (r : TermKey × Span). (r.1.from < r.1.to) × (r.1.to ≤ length keys)) from runs within)) (omega (arith, group_long, grouped.from)))

      all : All (λ e. term_cmp e.0 x.0 ≡ Less) spans
      all = All-weaker (λ e. term_cmp e.0 (get_or runs from x).0 ≡ Less) (λ e. term_cmp e.0 x.0 ≡ Less)
          (λ e less. subst (λ (t : TermKey). term_cmp e.0 t ≡ Less) (grouped.one from x (omega arith) grouped.from fits ∙ ap (λ (r : TermKey × Span). r.0) (sym at)) less) spans (grouped.before x (omega (arith, grouped.from)))

      same : All (λ e. e.0 ≡ x.0) group
      same k d low =
          let inside : from + k < i + 1 = omega (arith, group_long, low) in
          ap (λ (r : TermKey × Span). r.0) (get_or-section from (i + 1) k runs d inside) ∙ grouped.one (from + k) d (omega arith) (omega arith) fits ∙ ap (λ (r : TermKey × Span). r.0) (sym (get_or_read runs i x fits at d))

      whole : from + (i + 1 - from) ≡ i + 1
      whole = omega (arith, grouped.from)

      log_is : number_rows (take (i + 1) runs) xs ≡ number_rows (take from runs) xs ++ map (under_row x.0) items
      log_is =
          ap (λ n. number_rows (take n runs) xs) (sym whole) ∙ ap (λ rs. number_rows rs xs) (take-add from (i + 1 - from) runs (omega (arith, grouped.from)))
          ∙ flat_map-append (λ e. map (λ y. (place_of e.0 y.0, y.1)) (spanned e.1 xs)) (take from runs) group ∙ ap (λ l. number_rows (take from runs) xs ++ l) (one_term x.0 group xs same)

      tail_is : spanned (span_at (length rows) (length news)) (rows ++ left) ≡ left
      tail_is =
          let count : length news - length rows ≡ length left = omega (arith, long) in
          ap (λ n. take n (drop (length rows) (rows ++ left))) count ∙ ap (take (length left)) (drop-append-le (length rows) rows left (omega arith) ∙ ap (λ l. l ++ left) (drop_all (length rows) rows (omega arith))) ∙ take_all (length left) left (omega arith)

      rows_are : number_rows told news ≡ number_rows spans rows ++ map (under_row x.0) left
      rows_are =
          (λ j. number_rows (are j) (is j)) ∙ tagged_push (λ t y. (place_of t y.0, y.1)) spans (x.0, span_at (length rows) (length news)) (rows ++ left)
          ∙ (λ j. tagged_behind rows left (λ t y. (place_of t y.0, y.1)) spans grouped.told.within j ++ map (under_row x.0) (tail_is j))

-- before the first run nothing is left
pub group_start : (runs : List (TermKey × Span)) (keys : List DocKey) (spans : List (TermKey × Span)) (rows : List (DocKey × ℕ)) → spans ≡ [] → rows ≡ [] → IsGrouped runs keys 0 0 spans rows
group_start runs keys spans rows none no_rows =
    subst (λ (ss : List (TermKey × Span)). IsGrouped runs keys 0 0 ss rows) (sym none) (subst (λ (rs : List (DocKey × ℕ)). IsGrouped runs keys 0 0 [] rs) (sym no_rows) (record {
      from = omega arith;
      one = one_start runs 0;
      before = λ d fits. All-nil (λ e. term_cmp e.0 (get_or runs 0 d).0 ≡ Less);
      left = nothing_left;
      told = record { sorted = tt; within = All-nil (λ e. (e.1.from < e.1.to) × (e.1.to ≤ 0)) };
      count = refl;
      within = All-nil (λ e. e.1 < length keys);
      end = λ e. refl;
    }))
  where
    nothing_left : [] ≡ finite.entries (from_log {X = ℕ} {R = place_cmp} [])
    nothing_left = log_sorted place_cmp place_total place_apart [] tt

-- what all runs leave, which are those of another list in another order
pub all_grouped : (sorted runs : List (TermKey × Span)) (keys : List DocKey) (from i : ℕ) (spans : List (TermKey × Span)) (rows : List (DocKey × ℕ)) → IsGrouped sorted keys from i spans rows → i ≡ length sorted
    → ((t : TermKey) → filter (λ e. eq_by_cmp term_cmp t e.0) sorted ≡ filter (λ e. eq_by_cmp term_cmp t e.0) runs) → AreArranged runs keys spans rows
all_grouped sorted runs keys from i spans rows grouped ends alike = record {
  settled = record {
    last = grouped.left ∙ ap (λ rs. finite.entries (from_log {R = place_cmp} (number_rows rs (numbered keys)))) (take_all from sorted (omega (arith, grouped.end ends, ends)))
        ∙ left_alike (λ t (e : DocKey × ℕ). (place_of t e.0, e.1)) (λ t e. refl) sorted runs (numbered keys) alike;
    told = grouped.told;
    count = grouped.count;
  };
  within = grouped.within;
}
