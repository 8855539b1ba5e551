-- Rows that a log leaves, by the numbers of its keys.
use Rattle.std.proofs.Common.{◌≡◌, ℕ, zero, suc, ◌+◌, ◌<◌, ◌≤◌, ◌^◌, true, false, cond, List, [], ◌∷◌, ◌++◌, map, drop, length, get_or, slice_get, reverse, Some, refl, sym, ◌∙◌, ap, subst, arith, All}
use Rattle.std.specs.Prelude.{T}
use Rattle.std.specs.Option.{option_map}
use Rattle.std.specs.FinMap as finite
use Rattle.std.specs.FinMap.Entries.{find, is_sorted, below_all, same_entries}
use Rattle.std.specs.Cmp.{IsTotalOrder}
use Rattle.std.specs.declared.cmp.Ordering.{Ordering}
use Rattle.std.specs.declared.cmp.Ordering.TheVariants.{Less, Equal, Greater}
use Rattle.std.specs.Ordering.{eq_by_cmp, ordering_reverse}
use Rattle.std.proofs.lemmas.List.{length-map, length-append, map-append}
use Rattle.indexmap.proofs.ReorderLemmas.{map-reverse}
use Rattle.std.proofs.lemmas.List.Elements.{All-head, All-tail, All-cons, All-nil, All-push, All-weaker}
use Rattle.std.proofs.lemmas.List.{reverse-append}
use Rattle.uni_base.specs.declared.edge.Audience.{Audience}
use Rattle.uni_base.specs.declared.entity.DocKey.{DocKey}
use Rattle.posting_lists.specs.declared.posting.Posting.{Posting}
use Rattle.posting_lists.specs.Postings.{keys_of}
use Rattle.layer_base.specs.Layers.{from_log, TellsApart}
use Rattle.layer_base.proofs.Sorted.{both, first, second, find_at}
use Rattle.layer_stack.specs.declared.directory.Span.{Span}
use Rattle.layer_stack.specs.declared.place.Place.{Place}
use Rattle.layer_stack.specs.declared.place.TermKey.{TermKey}
use Rattle.layer_stack.specs.Places.{term_cmp, place_cmp}
use Rattle.layer_stack.specs.Postings.{place_of}
use Rattle.layer_stack.specs.Runs.{AreWithin, AreInTurn, numbered, numbered_from, number_rows, audience_at, posting_from, AreSettled, AreArranged}
use Rattle.layer_stack.specs.Spans.{spanned, tagged, AreLaid, put_rows, delete_rows, IsSpans}
use Rattle.layer_stack.proofs.Order.{place_total, place_apart}
use Rattle.layer_stack.proofs.Laid.{map-after, spanned-map, tagged-map}
use Rattle.layer_stack.proofs.Told.{told_sorted}
use Rattle.layer_stack.proofs.Under.{deleted_row}
use Rattle.layer_base.proofs.Rising.{log_sorted}
use Rattle.layer_base.proofs.Tables.{from_sorted-entries}
use Rattle.uni_base.specs.Cursors.{IsRanked}

-- ---- the values of a log, changed

module _ {K X Y : Type 0} (R : K → K → Ordering) (o : IsTotalOrder R) (apart : TellsApart R) (f : X → Y) where
  abbrev pub valued : K × X → K × Y
  valued e = (e.0, f e.1)

  find-valued : (q : K) (es : List (K × X)) → find R q (map valued es) ≡ option_map f (find R q es)
  find-valued q [] = refl
  find-valued q (e ∷ es) =
      elim (eq_by_cmp R q e.0) as (λ b. cond b (Some (f e.1)) (find R q (map valued es)) ≡ option_map f (cond b (Some e.1) (find R q es))) [
        | true ↦ refl
        | false ↦ find-valued q es
      ]

  below-valued : (k : K) (es : List (K × X)) → T (below_all R k es) → T (below_all R k (map valued es))
  below-valued k [] below = tt
  below-valued k (e ∷ es) below = both _ _ (first _ _ below) (below-valued k es (second _ _ below))

  sorted-valued : (es : List (K × X)) → T (is_sorted R es) → T (is_sorted R (map valued es))
  sorted-valued [] sorted = tt
  sorted-valued (e ∷ es) sorted = both _ _ (below-valued e.0 es (first _ _ sorted)) (sorted-valued es (second _ _ sorted))

  pub log-valued : (log : List (K × X)) → map valued (finite.entries (from_log {R = R} log)) ≡ finite.entries (from_log {R = R} (map valued log))
  log-valued log =
      same_entries R o apart (map valued (finite.entries (from_log {R = R} log))) (finite.entries (from_log {R = R} (map valued log)))
      (sorted-valued (finite.entries (from_log {R = R} log)) (finite.entries_sorted (from_log {R = R} log))) (finite.entries_sorted (from_log {R = R} (map valued log)))
      (λ q. find-valued q (finite.entries (from_log {R = R} log)) ∙ ap (option_map f) (sym (finite.get-entries (from_log {R = R} log) q) ∙ finite.get-from_entries o (reverse log) q)
      ∙ sym (find-valued q (reverse log)) ∙ ap (find R q) (map-reverse valued log)
      ∙ sym (finite.get-from_entries o (reverse (map valued log)) q) ∙ finite.get-entries (from_log {R = R} (map valued log)) q)

-- ---- what is so of each value of a log

pub self_equal : {K : Type 0} (R : K → K → Ordering) → IsTotalOrder R → (k : K) → R k k ≡ Equal
self_equal R o k = by (R k k) (o.antisymm k k)
  where
    by : (r : Ordering) → r ≡ ordering_reverse r → r ≡ Equal
    by Less e = cc
    by Equal e = refl
    by Greater e = cc

module _ {K X : Type 0} (R : K → K → Ordering) (o : IsTotalOrder R) (P : X → Type 0) where
  found_is : (q : K) (es : List (K × X)) (x : X) → All (λ e. P e.1) es → find R q es ≡ Some x → P x
  found_is q [] x all is = cc
  found_is q (e ∷ es) x all is =
      elim (eq_by_cmp R q e.0) as (λ b. cond b (Some e.1) (find R q es) ≡ Some x → P x) [
        | true ↦ λ t. subst P (let same : e.1 ≡ x = cc in same) (All-head (λ (d : K × X). P d.1) e es all)
        | false ↦ λ t. found_is q es x (All-tail (λ (d : K × X). P d.1) e es all) t
      ] is

  All-turned : (es : List (K × X)) → All (λ e. P e.1) es → All (λ e. P e.1) (reverse es)
  All-turned [] all = All-nil (λ (e : K × X). P e.1)
  All-turned (e ∷ es) all =
      subst (All (λ (d : K × X). P d.1)) (sym (reverse-append (e ∷ []) es))
      (All-push (λ (d : K × X). P d.1) (reverse es) e (All-turned es (All-tail (λ (d : K × X). P d.1) e es all)) (All-head (λ (d : K × X). P d.1) e es all))

  pub All-from_log : (log : List (K × X)) → All (λ e. P e.1) log → All (λ e. P e.1) (finite.entries (from_log {R = R} log))
  All-from_log log all i d fits =
      let es = finite.entries (from_log {R = R} log) in
      let k = (get_or es i d).0 in
      found_is k (reverse log) (get_or es i d).1 (All-turned log all)
      (sym (finite.get-from_entries o (reverse log) k) ∙ finite.get-entries (from_log {R = R} log) k ∙ find_at R o k es i d (finite.entries_sorted (from_log {R = R} log)) fits (self_equal R o k))

-- ---- numbered keys

pub numbered_at : (n : ℕ) (keys : List DocKey) (i : ℕ) (k : DocKey) → slice_get keys i ≡ Some k → slice_get (numbered_from n keys) i ≡ Some (k, n + i)
numbered_at n [] i k at = cc
numbered_at n (x ∷ keys) zero k at = let is : x ≡ k = cc in let same : n ≡ n + 0 = omega arith in λ j. Some (is j, same j)
numbered_at n (x ∷ keys) (suc i) k at = let same : n + 1 + i ≡ n + suc i = omega arith in numbered_at (n + 1) keys i k at ∙ ap (λ m. Some (k, m)) same

pub length-numbered : (n : ℕ) (keys : List DocKey) → length (numbered_from n keys) ≡ length keys
length-numbered n [] = refl
length-numbered n (k ∷ keys) = ap suc (length-numbered (n + 1) keys)

numbers_within : (n : ℕ) (keys : List DocKey) → All (λ e. e.1 < n + length keys) (numbered_from n keys)
numbers_within n [] = All-nil (λ e. e.1 < n + 0)
numbers_within n (k ∷ keys) =
    let same : n + 1 + length keys ≡ n + suc (length keys) = omega arith in
    All-cons (λ e. e.1 < n + suc (length keys)) (k, n) (numbered_from (n + 1) keys) (omega arith) (subst (λ (m : ℕ). All (λ e. e.1 < m) (numbered_from (n + 1) keys)) same (numbers_within (n + 1) keys))

pub numbered_within : (keys : List DocKey) → All (λ e. e.1 < length keys) (numbered keys)
numbered_within keys = subst (λ (n : ℕ). All (λ e. e.1 < n) (numbered keys)) none_more (numbers_within 0 keys)
  where
    none_more : 0 + length keys ≡ length keys
    none_more = omega arith

-- ---- what is picked by numbers

module _ {X V : Type 0} (tag : TermKey → X → Place × V) (pick : DocKey × ℕ → X) (f : ℕ → V) (picks : (t : TermKey) (e : DocKey × ℕ) → tag t (pick e) ≡ (place_of t e.0, f e.1)) where
  picked_rows : (spans : List (TermKey × Span)) (rows : List (DocKey × ℕ)) → tagged tag spans (map pick rows) ≡ map (valued place_cmp place_total place_apart f) (number_rows spans rows)
  picked_rows spans rows = tagged-map tag pick spans rows ∙ (λ i. tagged (λ t e. picks t e i) spans rows) ∙ sym (map-tagged spans)
    where
      map-tagged : (es : List (TermKey × Span)) → map (valued place_cmp place_total place_apart f) (number_rows es rows) ≡ tagged (λ t e. (place_of t e.0, f e.1)) es rows
      map-tagged [] = refl
      map-tagged (e ∷ es) =
          map-append (valued place_cmp place_total place_apart f) (map (λ x. (place_of e.0 x.0, x.1)) (spanned e.1 rows)) (number_rows es rows)
          ∙ (λ i. map-after (valued place_cmp place_total place_apart f) (λ x. (place_of e.0 x.0, x.1)) (spanned e.1 rows) i ++ map-tagged es i)

  pub settled_by : (runs : List (TermKey × Span)) (keys : List DocKey) (xs : List X) (spans : List (TermKey × Span)) (rows : List (DocKey × ℕ)) → map pick (numbered keys) ≡ xs → AreArranged runs keys spans rows
      → AreSettled (tagged tag runs xs) (tagged tag spans (map pick rows)) spans (length (map pick rows))
  settled_by runs keys xs spans rows all arranged = record {
    last = picked_rows spans rows ∙ ap (map (valued place_cmp place_total place_apart f)) arranged.settled.last
        ∙ log-valued place_cmp place_total place_apart f (number_rows runs (numbered keys))
        ∙ ap (λ (log : List (Place × V)). finite.entries (from_log {R = place_cmp} log)) (sym (picked_rows runs (numbered keys)) ∙ ap (tagged tag runs) all);
    told = subst (λ (n : ℕ). IsSpans n spans) (sym (length-map rows pick)) arranged.settled.told;
    count = ap length (picked_rows spans rows) ∙ length-map (number_rows spans rows) (valued place_cmp place_total place_apart f) ∙ arranged.settled.count ∙ sym (length-map rows pick);
  }

audience_there : (ps : List Posting) (n : ℕ) (p : Posting) (rest : List Posting) → drop n ps ≡ p ∷ rest → audience_at ps n ≡ p.audience
audience_there [] zero p rest is = cc
audience_there [] (suc n) p rest is = cc
audience_there (q ∷ ps) zero p rest is = let same : q ≡ p = cc in ap (λ (x : Posting). x.audience) same
audience_there (q ∷ ps) (suc n) p rest is = audience_there ps n p rest is

drop_next : (ps : List Posting) (n : ℕ) (p : Posting) (rest : List Posting) → drop n ps ≡ p ∷ rest → drop (n + 1) ps ≡ rest
drop_next [] zero p rest is = cc
drop_next [] (suc n) p rest is = cc
drop_next (q ∷ ps) zero p rest is = let one : 0 + 1 ≡ 1 = omega arith in ap (λ m. drop m (q ∷ ps)) one ∙ (let same : ps ≡ rest = cc in same)
drop_next (q ∷ ps) (suc n) p rest is = let next : suc n + 1 ≡ suc (n + 1) = omega arith in ap (λ m. drop m (q ∷ ps)) next ∙ drop_next ps n p rest is

picked_all : (all : List Posting) (n : ℕ) (ps : List Posting) → drop n all ≡ ps → map (posting_from all) (numbered_from n (keys_of ps)) ≡ ps
picked_all all n [] is = refl
picked_all all n (p ∷ ps) is = λ i. record { key = p.key; audience = audience_there all n p ps is i } ∷ picked_all all (n + 1) ps (drop_next all n p ps is) i

keys_all : (n : ℕ) (keys : List DocKey) → map (λ (e : DocKey × ℕ). e.0) (numbered_from n keys) ≡ keys
keys_all n [] = refl
keys_all n (k ∷ keys) = ap (λ ks. k ∷ ks) (keys_all (n + 1) keys)

pub length-keys : (ps : List Posting) → length (keys_of ps) ≡ length ps
length-keys ps = length-map ps (λ (p : Posting). p.key)

pub postings_settled : (runs : List (TermKey × Span)) (ps : List Posting) (spans : List (TermKey × Span)) (rows : List (DocKey × ℕ)) → AreArranged runs (keys_of ps) spans rows
    → AreSettled (put_rows runs ps) (put_rows spans (map (posting_from ps) rows)) spans (length (map (posting_from ps) rows))
postings_settled runs ps spans rows = settled_by (λ t p. (place_of t p.key, p.audience)) (posting_from ps) (audience_at ps) (λ t e. refl) runs (keys_of ps) ps spans rows (picked_all ps 0 ps refl)

pub keys_settled : (runs : List (TermKey × Span)) (keys : List DocKey) (spans : List (TermKey × Span)) (rows : List (DocKey × ℕ)) → AreArranged runs keys spans rows
    → AreSettled (delete_rows runs keys) (delete_rows spans (map (λ (e : DocKey × ℕ). e.0) rows)) spans (length (map (λ (e : DocKey × ℕ). e.0) rows))
keys_settled runs keys spans rows = settled_by (λ t k. (place_of t k, tt)) (λ (e : DocKey × ℕ). e.0) (λ n. tt) (λ t e. refl) runs keys keys spans rows (keys_all 0 keys)

pub audience_read : (ps : List Posting) (n : ℕ) (p : Posting) → slice_get ps n ≡ Some p → audience_at ps n ≡ p.audience
audience_read [] n p at = cc
audience_read (q ∷ ps) zero p at = let same : q ≡ p = cc in ap (λ (x : Posting). x.audience) same
audience_read (q ∷ ps) (suc n) p at = audience_read ps n p at

-- ---- rows that came in in order

same_lengths : {X Y Z : Type 0} (tag : TermKey → X → Y) (other : TermKey → X → Z) (runs : List (TermKey × Span)) (xs : List X) → length (tagged tag runs xs) ≡ length (tagged other runs xs)
same_lengths tag other [] xs = refl
same_lengths tag other (e ∷ runs) xs =
    let one : length (map (tag e.0) (spanned e.1 xs)) ≡ length (spanned e.1 xs) = length-map (spanned e.1 xs) (tag e.0) in
    let two : length (map (other e.0) (spanned e.1 xs)) ≡ length (spanned e.1 xs) = length-map (spanned e.1 xs) (other e.0) in
    length-append (map (tag e.0) (spanned e.1 xs)) (tagged tag runs xs) ∙ omega (arith, one, two, same_lengths tag other runs xs) ∙ sym (length-append (map (other e.0) (spanned e.1 xs)) (tagged other runs xs))

abbrev put_row : TermKey → Posting → Place × Audience
put_row t p = (place_of t p.key, p.audience)

pub postings_kept : (runs : List (TermKey × Span)) (ps : List Posting) → T (is_sorted term_cmp runs) → AreWithin (length ps) runs → AreInTurn runs (keys_of ps) → AreSettled (put_rows runs ps) (put_rows runs ps) runs (length ps)
postings_kept runs ps sorted within turn = record {
  last = log_sorted place_cmp place_total place_apart (put_rows runs ps) (told_sorted put_row (λ (p : Posting). p.key) (λ t p. refl) runs ps sorted ranked);
  told = record { sorted = sorted; within = within };
  count = same_lengths put_row (λ t (p : Posting). deleted_row t p.key) runs ps ∙ ap length (sym (tagged-map deleted_row (λ (p : Posting). p.key) runs ps)) ∙ turn.count ∙ length-map ps (λ (p : Posting). p.key);
}
  where
    ranked : All (λ e. IsRanked (keys_of (spanned e.1 ps))) runs
    ranked = All-weaker (λ (e : TermKey × Span). IsRanked (spanned e.1 (keys_of ps))) (λ (e : TermKey × Span). IsRanked (keys_of (spanned e.1 ps))) (λ e r. subst IsRanked (spanned-map (λ (p : Posting). p.key) e.1 ps) r) runs turn.ranked

pub keys_kept : (runs : List (TermKey × Span)) (keys : List DocKey) → T (is_sorted term_cmp runs) → AreWithin (length keys) runs → AreInTurn runs keys → AreSettled (delete_rows runs keys) (delete_rows runs keys) runs (length keys)
keys_kept runs keys sorted within turn = record {
  last = log_sorted place_cmp place_total place_apart (delete_rows runs keys) (told_sorted deleted_row (λ (k : DocKey). k) (λ t k. refl) runs keys sorted ranked);
  told = record { sorted = sorted; within = within };
  count = turn.count;
}
  where
    plain : (ks : List DocKey) → map (λ (k : DocKey). k) ks ≡ ks
    plain [] = refl
    plain (k ∷ ks) = ap (λ xs. k ∷ xs) (plain ks)

    ranked : All (λ e. IsRanked (map (λ (k : DocKey). k) (spanned e.1 keys))) runs
    ranked = All-weaker (λ (e : TermKey × Span). IsRanked (spanned e.1 keys)) (λ (e : TermKey × Span). IsRanked (map (λ (k : DocKey). k) (spanned e.1 keys))) (λ e r. subst IsRanked (sym (plain (spanned e.1 keys))) r) runs turn.ranked

-- ---- a layer of settled rows

pub settled_laid : {V : Type 0} (log rows : List (Place × V)) (spans : List (TermKey × Span)) (items : ℕ) → AreSettled log rows spans items → items ≤ 2 ^ 61 → AreLaid rows spans items
settled_laid log rows spans items settled few = record {
  sorted = subst (λ rs. T (is_sorted place_cmp rs)) (sym settled.last) (finite.entries_sorted (from_log {R = place_cmp} log));
  told = settled.told;
  count = settled.count;
  few = few;
}

pub settled_map : {V : Type 0} (log rows : List (Place × V)) (spans : List (TermKey × Span)) (items : ℕ) → AreSettled log rows spans items → finite.from_sorted {R = place_cmp} rows ≡ from_log {R = place_cmp} log
settled_map log rows spans items settled = ap (finite.from_sorted {R = place_cmp}) settled.last ∙ from_sorted-entries (from_log {R = place_cmp} log)

-- spans within fewer rows than there may be at most
pub spans_fit : (rows most : ℕ) (spans : List (TermKey × Span)) → IsSpans rows spans → rows ≤ most → IsSpans most spans
spans_fit rows most spans told few = record {
  sorted = told.sorted;
  within = All-weaker (λ (e : TermKey × Span). (e.1.from < e.1.to) × (e.1.to ≤ rows)) (λ (e : TermKey × Span). (e.1.from < e.1.to) × (e.1.to ≤ most)) (λ e within. (within.0, omega (arith, within.1, few))) spans told.within;
}
