-- What runs tell, as they gain rows, and where their rows stand in the order of places.
use Rattle.std.proofs.Common.{◌≡◌, ℕ, suc, ◌+◌, ◌-◌, ◌<◌, ◌≤◌, ◌==◌, ◌&&◌, Bool, true, false, zero, List, [], ◌∷◌, ◌++◌, map, take, drop, length, get_or, slice_get, slice_set, Some, refl, sym, ◌∙◌, ap, subst, arith, All, append_assoc, append-nil, length-drop, inl, inr}
use Rattle.std.specs.Prelude.{T, Result, Ok, Err, OnOk, OnErr}
use Rattle.std.specs.FinMap.Entries.{is_sorted, below_all}
use Rattle.std.specs.declared.cmp.Ordering.{Ordering}
use Rattle.std.specs.declared.cmp.Ordering.TheVariants.{Less, Equal, Greater}
use Rattle.std.specs.Ordering.{is_lt, ordering_then, eq_by_cmp}
use Rattle.std.specs.Cmp.{Equal-is}
use Rattle.std.proofs.lemmas.Bool.{eqb-true}
use Rattle.std.proofs.lemmas.Grind.{flat_map-append}
use Rattle.std.proofs.lemmas.List.{drop-append-le, take-append-le, take_all, take_more, length-append, length-map}
use Rattle.std.proofs.lemmas.List.Elements.{All-head, All-tail, All-push, All-weaker, All-cons, All-more}
use Rattle.uni_base.specs.declared.entity.DocKey.{DocKey}
use Rattle.uni_base.specs.Cursors.{is_before, is_less, IsRanked}
use Rattle.uni_base.specs.RankOrder.{doc_cmp}
use Rattle.uni_base.proofs.RankedLemmas.{is_before_trans}
use Rattle.posting_lists.proofs.Sections.{length-section, section_more}
use Rattle.layer_base.proofs.Sorted.{both, first, second, less_from}
use Rattle.layer_stack.specs.declared.directory.Span.{Span}
use Rattle.layer_stack.specs.declared.place.Place.{Place}
use Rattle.layer_stack.specs.declared.place.TermKey.{TermKey}
use Rattle.layer_stack.specs.Places.{term_cmp, place_cmp}
use Rattle.layer_stack.specs.Postings.{place_of}
use Rattle.layer_stack.specs.Runs.{span_at, Adds, AreWithin}
use Rattle.layer_stack.specs.Spans.{spanned, tagged, delete_rows}
use Rattle.layer_stack.proofs.Order.{term_apart}
use Rattle.layer_stack.proofs.Under.{term_self, deleted_row}

pub tagged_push : {X Y : Type 0} (tag : TermKey → X → Y) (runs : List (TermKey × Span)) (e : TermKey × Span) (xs : List X) → tagged tag (runs ++ e ∷ []) xs ≡ tagged tag runs xs ++ map (tag e.0) (spanned e.1 xs)
tagged_push tag runs e xs = flat_map-append (λ s. map (tag s.0) (spanned s.1 xs)) runs (e ∷ []) ∙ ap (λ l. tagged tag runs xs ++ l) (append-nil (map (tag e.0) (spanned e.1 xs)))

-- ---- more rows

module _ {X : Type 0} (xs ys : List X) where
  spanned_behind : (s : Span) → s.from ≤ s.to → s.to ≤ length xs → spanned s (xs ++ ys) ≡ spanned s xs
  spanned_behind s le fits =
      ap (take (s.to - s.from)) (drop-append-le s.from xs ys (omega arith)) ∙ take-append-le (s.to - s.from) (drop s.from xs) ys (omega (arith, length-drop s.from xs))

  -- runs tell no row beyond those that there were
  pub tagged_behind : {Y : Type 0} (tag : TermKey → X → Y) (runs : List (TermKey × Span)) → AreWithin (length xs) runs → tagged tag runs (xs ++ ys) ≡ tagged tag runs xs
  tagged_behind tag [] within = refl
  tagged_behind tag (e ∷ runs) within =
      let here = All-head (λ (r : TermKey × Span). (r.1.from < r.1.to) × (r.1.to ≤ length xs)) e runs within in
      λ i. map (tag e.0) (spanned_behind e.1 (omega (arith, here.0)) here.1 i) ++ tagged_behind tag runs (All-tail (λ (r : TermKey × Span). (r.1.from < r.1.to) × (r.1.to ≤ length xs)) e runs within) i

-- the rows of a run of all that was added
pub tagged_run : {X Y : Type 0} (tag : TermKey → X → Y) (runs : List (TermKey × Span)) (t : TermKey) (xs ys : List X) → AreWithin (length xs) runs
    → tagged tag (runs ++ (t, span_at (length xs) (length (xs ++ ys))) ∷ []) (xs ++ ys) ≡ tagged tag runs xs ++ map (tag t) ys
tagged_run tag runs t xs ys within =
    tagged_push tag runs (t, span_at (length xs) (length (xs ++ ys))) (xs ++ ys) ∙ (λ i. tagged_behind xs ys tag runs within i ++ map (tag t) (added xs ys i))
  where
    added : {X : Type 0} (xs ys : List X) → spanned (span_at (length xs) (length (xs ++ ys))) (xs ++ ys) ≡ ys
    added [] ys = take_all (length ys - 0) ys (omega arith)
    added (x ∷ xs) ys =
        let less : length (x ∷ xs ++ ys) - length (x ∷ xs) ≡ length (xs ++ ys) - length xs = omega arith in
        ap (λ n. take n (drop (length xs) (xs ++ ys))) less ∙ added xs ys

-- ---- one row more

module _ {X : Type 0} (xs : List X) (x : X) where
  at_end : (ys : List X) → slice_get (ys ++ x ∷ []) (length ys) ≡ Some x
  at_end [] = refl
  at_end (y ∷ ys) = at_end ys

  spanned_last : (from : ℕ) → from ≤ length xs → spanned (span_at from (length xs + 1)) (xs ++ x ∷ []) ≡ spanned (span_at from (length xs)) xs ++ x ∷ []
  spanned_last from le =
      section_more from (length xs) (xs ++ x ∷ []) x le (at_end xs) ∙ ap (λ l. l ++ x ∷ []) (spanned_behind xs (x ∷ []) (span_at from (length xs)) le (omega arith))

  spanned_one : spanned (span_at (length xs) (length xs + 1)) (xs ++ x ∷ []) ≡ x ∷ []
  spanned_one =
      let none : length xs - length xs ≡ 0 = omega arith in
      spanned_last (length xs) (omega arith) ∙ ap (λ n. take n (drop (length xs) xs) ++ x ∷ []) none

  module _ {Y : Type 0} (tag : TermKey → X → Y) where
    pub tagged_kept : (runs : List (TermKey × Span)) → AreWithin (length xs) runs → tagged tag runs (xs ++ x ∷ []) ≡ tagged tag runs xs
    tagged_kept = tagged_behind xs (x ∷ []) tag

    -- the rows of runs that have gained one
    pub told_more : (old new : List (TermKey × Span)) (t : TermKey) → Adds old t (length xs) new → AreWithin (length xs) old → tagged tag new (xs ++ x ∷ []) ≡ tagged tag old xs ++ tag t x ∷ []
    told_more old new t (inl is) within =
        ap (λ runs. tagged tag runs (xs ++ x ∷ [])) is ∙ tagged_push tag old (t, span_at (length xs) (length xs + 1)) (xs ++ x ∷ [])
        ∙ (λ i. tagged_kept old within i ++ map (tag t) (spanned_one i))
    told_more old new t (inr (rest, from, was, is)) within =
        let all : AreWithin (length xs) (rest ++ (t, span_at from (length xs)) ∷ []) = subst (AreWithin (length xs)) was within in
        let last = All-last rest (t, span_at from (length xs)) all in
        ap (λ runs. tagged tag runs (xs ++ x ∷ [])) is ∙ tagged_push tag rest (t, span_at from (length xs + 1)) (xs ++ x ∷ [])
        ∙ (λ i. tagged_kept rest (All-init rest (t, span_at from (length xs)) all) i ++ (ap (map (tag t)) (spanned_last from (omega (arith, last.0))) ∙ map_push (tag t) (spanned (span_at from (length xs)) xs)) i)
        ∙ sym (append_assoc (tagged tag rest xs) (map (tag t) (spanned (span_at from (length xs)) xs)) (tag t x ∷ []))
        ∙ ap (λ l. l ++ tag t x ∷ []) (sym (tagged_push tag rest (t, span_at from (length xs)) xs) ∙ ap (λ runs. tagged tag runs xs) (sym was))
      where
        map_push : (f : X → Y) (ys : List X) → map f (ys ++ x ∷ []) ≡ map f ys ++ f x ∷ []
        map_push f [] = refl
        map_push f (y ∷ ys) = ap (λ zs. f y ∷ zs) (map_push f ys)

        All-init : (rest : List (TermKey × Span)) (e : TermKey × Span) → AreWithin (length xs) (rest ++ e ∷ []) → AreWithin (length xs) rest
        All-init [] e all = λ k d low. absurd (omega arith)
        All-init (r ∷ rest) e all = All-cons (λ (r : TermKey × Span). (r.1.from < r.1.to) × (r.1.to ≤ length xs)) r rest
            (All-head (λ (r : TermKey × Span). (r.1.from < r.1.to) × (r.1.to ≤ length xs)) r (rest ++ e ∷ []) all) (All-init rest e (All-tail (λ (r : TermKey × Span). (r.1.from < r.1.to) × (r.1.to ≤ length xs)) r (rest ++ e ∷ []) all))

        All-last : (rest : List (TermKey × Span)) (e : TermKey × Span) → AreWithin (length xs) (rest ++ e ∷ []) → (e.1.from < e.1.to) × (e.1.to ≤ length xs)
        All-last [] e all = All-head (λ (r : TermKey × Span). (r.1.from < r.1.to) × (r.1.to ≤ length xs)) e [] all
        All-last (r ∷ rest) e all = All-last rest e (All-tail (λ (r : TermKey × Span). (r.1.from < r.1.to) × (r.1.to ≤ length xs)) r (rest ++ e ∷ []) all)

pub within_more : (n : ℕ) (runs : List (TermKey × Span)) → AreWithin n runs → AreWithin (n + 1) runs
within_more n runs = All-weaker (λ (r : TermKey × Span). (r.1.from < r.1.to) × (r.1.to ≤ n)) (λ (r : TermKey × Span). (r.1.from < r.1.to) × (r.1.to ≤ n + 1)) (λ r h. (h.0, omega (arith, h.1))) runs

pub within_added : (n : ℕ) (old new : List (TermKey × Span)) (t : TermKey) → Adds old t n new → AreWithin n old → AreWithin (n + 1) new
within_added n old new t (inl is) within =
    subst (AreWithin (n + 1)) (sym is) (All-push (λ (r : TermKey × Span). (r.1.from < r.1.to) × (r.1.to ≤ n + 1)) old (t, span_at n (n + 1)) (within_more n old within) (omega arith, omega arith))
within_added n old new t (inr (rest, from, was, is)) within =
    subst (AreWithin (n + 1)) (sym is) (grown rest (subst (AreWithin n) was within))
  where
    grown : (rest : List (TermKey × Span)) → AreWithin n (rest ++ (t, span_at from n) ∷ []) → AreWithin (n + 1) (rest ++ (t, span_at from (n + 1)) ∷ [])
    grown [] all =
        let here = All-head (λ (r : TermKey × Span). (r.1.from < r.1.to) × (r.1.to ≤ n)) (t, span_at from n) [] all in
        All-push (λ (r : TermKey × Span). (r.1.from < r.1.to) × (r.1.to ≤ n + 1)) [] (t, span_at from (n + 1)) (λ k d low. absurd (omega arith)) (omega (arith, here.0), omega arith)
    grown (r ∷ rest) all =
        let here = All-head (λ (r : TermKey × Span). (r.1.from < r.1.to) × (r.1.to ≤ n)) r (rest ++ (t, span_at from n) ∷ []) all in
        All-cons (λ (r : TermKey × Span). (r.1.from < r.1.to) × (r.1.to ≤ n + 1)) r (rest ++ (t, span_at from (n + 1)) ∷ []) (here.0, omega (arith, here.1))
        (grown rest (All-tail (λ (r : TermKey × Span). (r.1.from < r.1.to) × (r.1.to ≤ n)) r (rest ++ (t, span_at from n) ∷ []) all))

-- ---- rows in order

pub below_append : {K V : Type 0} (R : K → K → Ordering) (k : K) (xs ys : List (K × V)) → T (below_all R k xs) → T (below_all R k ys) → T (below_all R k (xs ++ ys))
below_append R k [] ys below after = after
below_append R k (x ∷ xs) ys below after = both _ _ (first _ _ below) (below_append R k xs ys (second _ _ below) after)

pub sorted_append : {K V : Type 0} (R : K → K → Ordering) (xs ys : List (K × V)) → T (is_sorted R xs) → T (is_sorted R ys) → All (λ x. T (below_all R x.0 ys)) xs → T (is_sorted R (xs ++ ys))
sorted_append R [] ys sorted after below = after
sorted_append {K} {V} R (x ∷ xs) ys sorted after below =
    both _ _ (below_append R x.0 xs ys (first _ _ sorted) (All-head (λ (e : K × V). T (below_all R e.0 ys)) x xs below))
    (sorted_append R xs ys (second _ _ sorted) after (All-tail (λ (e : K × V). T (below_all R e.0 ys)) x xs below))

is_less_lt : (o : Ordering) → is_less o ≡ true → T (is_lt o)
is_less_lt Less e = tt
is_less_lt Equal e = cc
is_less_lt Greater e = cc

module _ {X V : Type 0} (tag : TermKey → X → Place × V) (key : X → DocKey) (keeps : (t : TermKey) (x : X) → (tag t x).0 ≡ place_of t (key x)) where
  ranked_below : (t : TermKey) (x : X) (xs : List X) → All (λ y. is_before (key x) y ≡ true) (map key xs) → T (below_all place_cmp (tag t x).0 (map (tag t) xs))
  ranked_below t x [] all = tt
  ranked_below t x (y ∷ ys) all =
      both _ _ (subst (λ (p : Place). T (is_lt (place_cmp p (tag t y).0))) (sym (keeps t x)) (subst (λ (p : Place). T (is_lt (place_cmp (place_of t (key x)) p))) (sym (keeps t y))
      (subst (λ (o : Ordering). T (is_lt (ordering_then o (doc_cmp (key x) (key y))))) (sym (term_self t)) (is_less_lt (doc_cmp (key x) (key y)) (All-head (λ y. is_before (key x) y ≡ true) (key y) (map key ys) all)))))
      (ranked_below t x ys (All-tail (λ y. is_before (key x) y ≡ true) (key y) (map key ys) all))

  ranked_tags : (t : TermKey) (xs : List X) → IsRanked (map key xs) → T (is_sorted place_cmp (map (tag t) xs))
  ranked_tags t [] ranked = tt
  ranked_tags t (x ∷ xs) ranked = both _ _ (ranked_below t x xs ranked.0) (ranked_tags t xs ranked.1)

  pub apart_below : (p : Place) (t : TermKey) (xs : List X) → T (is_lt (term_cmp p.term t)) → T (below_all place_cmp p (map (tag t) xs))
  apart_below p t [] lt = tt
  apart_below p t (x ∷ xs) lt =
      both _ _ (subst (λ (q : Place). T (is_lt (place_cmp p q))) (sym (keeps t x)) (subst (λ (o : Ordering). T (is_lt (ordering_then o (doc_cmp p.key (key x))))) (sym (less_from _ lt)) tt)) (apart_below p t xs lt)

  told_below : (p : Place) (runs : List (TermKey × Span)) (xs : List X) → T (below_all term_cmp p.term runs) → T (below_all place_cmp p (tagged tag runs xs))
  told_below p [] xs below = tt
  told_below p (e ∷ runs) xs below =
      below_append place_cmp p (map (tag e.0) (spanned e.1 xs)) (tagged tag runs xs) (apart_below p e.0 (spanned e.1 xs) (first _ _ below)) (told_below p runs xs (second _ _ below))

  each_below : (t : TermKey) (xs : List X) (rows : List (Place × V)) → ((x : X) → T (below_all place_cmp (tag t x).0 rows)) → All (λ r. T (below_all place_cmp r.0 rows)) (map (tag t) xs)
  each_below t [] rows below = λ k d low. absurd (omega arith)
  each_below t (x ∷ xs) rows below = All-cons (λ (r : Place × V). T (below_all place_cmp r.0 rows)) (tag t x) (map (tag t) xs) (below x) (each_below t xs rows below)

  -- the rows of runs whose terms rise, and whose keys are ranked, rise
  pub told_sorted : (runs : List (TermKey × Span)) (xs : List X) → T (is_sorted term_cmp runs) → All (λ e. IsRanked (map key (spanned e.1 xs))) runs → T (is_sorted place_cmp (tagged tag runs xs))
  told_sorted [] xs sorted ranked = tt
  told_sorted (e ∷ runs) xs sorted ranked =
      sorted_append place_cmp (map (tag e.0) (spanned e.1 xs)) (tagged tag runs xs)
      (ranked_tags e.0 (spanned e.1 xs) (All-head (λ (r : TermKey × Span). IsRanked (map key (spanned r.1 xs))) e runs ranked))
      (told_sorted runs xs (second _ _ sorted) (All-tail (λ (r : TermKey × Span). IsRanked (map key (spanned r.1 xs))) e runs ranked))
      (each_below e.0 (spanned e.1 xs) (tagged tag runs xs) (λ x. told_below (tag e.0 x).0 runs xs (subst (λ (p : Place). T (below_all term_cmp p.term runs)) (sym (keeps e.0 x)) (first _ _ sorted))))

-- keys each of which comes before the next are ranked
pub adjacent_ranked : (keys : List DocKey) → ((j : ℕ) (d : DocKey) → j + 1 < length keys → is_before (get_or keys j d) (get_or keys (j + 1) d) ≡ true) → IsRanked keys
adjacent_ranked [] rises = tt
adjacent_ranked (k ∷ []) rises = (λ n d low. absurd (omega arith), tt)
adjacent_ranked (k ∷ x ∷ keys) rises =
    let step : is_before k x ≡ true = rises 0 k (omega arith) in
    let rest : IsRanked (x ∷ keys) = adjacent_ranked (x ∷ keys) later in
    (All-cons (λ y. is_before k y ≡ true) x keys step (All-weaker (λ y. is_before x y ≡ true) (λ y. is_before k y ≡ true) (λ y e. is_before_trans k x y step e) keys rest.0), rest)
  where
    later : (j : ℕ) (d : DocKey) → j + 1 < length (x ∷ keys) → is_before (get_or (x ∷ keys) j d) (get_or (x ∷ keys) (j + 1) d) ≡ true
    later j d fits = let next : suc (j + 1) ≡ suc j + 1 = omega arith in ap (λ n. is_before (get_or (x ∷ keys) j d) (get_or (k ∷ x ∷ keys) n d)) next ∙ rises (suc j) d (omega arith)

-- one run more of runs that tell all rows in turn
pub ranked_more : (runs : List (TermKey × Span)) (keys : List DocKey) (i : ℕ) (d : TermKey × Span) → i < length runs → All (λ e. IsRanked (spanned e.1 keys)) (take i runs) → IsRanked (spanned (get_or runs i d).1 keys) → All (λ e. IsRanked (spanned e.1 keys)) (take (i + 1) runs)
ranked_more runs keys i d fits all here = All-more (λ (e : TermKey × Span). IsRanked (spanned e.1 keys)) runs i d fits all here

pub count_more : (runs : List (TermKey × Span)) (keys : List DocKey) (i : ℕ) (e : TermKey × Span) (at : ℕ) → i < length runs → get_or runs i e ≡ e → length (delete_rows (take i runs) keys) ≡ at → e.1.from ≡ at → e.1.from ≤ e.1.to → e.1.to ≤ length keys
    → length (delete_rows (take (i + 1) runs) keys) ≡ e.1.to
count_more runs keys i e at fits is so_far starts le within =
    ap (λ rs. length (delete_rows rs keys)) (take_more-at runs i e fits is) ∙ ap length (tagged_push deleted_row (take i runs) e keys)
    ∙ length-append (delete_rows (take i runs) keys) (map (deleted_row e.0) (spanned e.1 keys))
    ∙ omega (arith, so_far, starts, as_long, length-section e.1.from e.1.to keys le within)
  where
    as_long : length (map (deleted_row e.0) (spanned e.1 keys)) ≡ length (spanned e.1 keys)
    as_long = length-map (spanned e.1 keys) (deleted_row e.0)

    take_more-at : (rs : List (TermKey × Span)) (n : ℕ) (x : TermKey × Span) → n < length rs → get_or rs n x ≡ x → take (n + 1) rs ≡ take n rs ++ x ∷ []
    take_more-at rs n x low same = take_more rs n x low ∙ ap (λ y. take n rs ++ y ∷ []) same

-- ---- the last run

pub last_split : {X : Type 0} (n : ℕ) (xs : List X) (x : X) → length xs ≡ suc n → get_or xs n x ≡ x → xs ≡ take n xs ++ x ∷ []
last_split zero [] x long is = absurd (omega (arith, long))
last_split zero (y ∷ []) x long is = ap (λ z. z ∷ []) is
last_split zero (y ∷ z ∷ xs) x long is = absurd (omega (arith, long))
last_split (suc n) [] x long is = absurd (omega (arith, long))
last_split (suc n) (y ∷ xs) x long is = ap (λ l. y ∷ l) (last_split n xs x (omega (arith, long)) is)

pub last_set : {X : Type 0} (n : ℕ) (xs : List X) (x : X) → length xs ≡ suc n → slice_set xs n x ≡ take n xs ++ x ∷ []
last_set zero [] x long = absurd (omega (arith, long))
last_set zero (y ∷ []) x long = refl
last_set zero (y ∷ z ∷ xs) x long = absurd (omega (arith, long))
last_set (suc n) [] x long = absurd (omega (arith, long))
last_set (suc n) (y ∷ xs) x long = ap (λ l. y ∷ l) (last_set n xs x (omega (arith, long)))

both_true : (a b : Bool) → (a && b) ≡ true → (a ≡ true) × (b ≡ true)
both_true true b e = (refl, e)
both_true false b e = cc

-- the last run goes on
pub goes_on : (old : List (TermKey × Span)) (t : TermKey) (at n : ℕ) (e : TermKey × Span) → length old ≡ suc n → get_or old n e ≡ e → ((e.1.to == at) && eq_by_cmp term_cmp e.0 t) ≡ true
    → Adds old t at (slice_set old n (e.0, record { from = e.1.from; to = at + 1 }))
goes_on old t at n e long is tests =
    let parts = both_true (e.1.to == at) (eq_by_cmp term_cmp e.0 t) tests in
    let ends : e.1.to ≡ at = eqb-true e.1.to at parts.0 in
    let term : e.0 ≡ t = term_apart e.0 t ((Equal-is (term_cmp e.0 t)).0 parts.1) in
    inr (
      take n old,
      e.1.from,
      last_split n old e long is ∙ (λ i. take n old ++ (term i, span_at e.1.from (ends i)) ∷ []),
      last_set n old (e.0, span_at e.1.from (at + 1)) long ∙ (λ i. take n old ++ (term i, span_at e.1.from (at + 1)) ∷ []),
    )

-- runs to which a row was to be added
pub within_noted : {A E : Type 0} (r : Result A E) (n : ℕ) (old new : List (TermKey × Span)) (t : TermKey) → OnOk r (Adds old t n new) → OnErr r (new ≡ old) → AreWithin n old → AreWithin (n + 1) new
within_noted (Ok a) n old new t adds same within = within_added n old new t adds within
within_noted (Err e) n old new t adds same within = subst (AreWithin (n + 1)) (sym same) (within_more n old within)
