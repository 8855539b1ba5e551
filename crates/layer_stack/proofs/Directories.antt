-- Directories: what they tell of a term, and how the spans of puts and of deletes go into one in the order of their terms.
use Rattle.std.proofs.Common.{◌≡◌, ℕ, ◌+◌, ◌<◌, ◌≤◌, Bool, true, false, cond, ◌||◌, if◌then◌else◌, List, [], ◌∷◌, ◌++◌, take, length, get_or, slice_get, Option, None, Some, IfSome, is_some, refl, sym, ◌∙◌, ap, subst, arith, All, option_map, lt-ltb, append-nil}
use Rattle.std.specs.Prelude.{T}
use Rattle.std.specs.List.{cons_option}
use Rattle.std.specs.Cmp.{Equal-is}
use Rattle.indexmap.specs.IndexMap.{insert_entry}
use Rattle.std.specs.declared.cmp.Ordering.TheVariants.{Less, Greater}
use Rattle.std.specs.Ordering.{is_eq, eq_by_cmp, ordering_reverse}
use Rattle.std.specs.FinMap.Entries.{is_sorted, below_all, find}
use Rattle.std.proofs.lemmas.List.{take_more, take_all}
use Rattle.std.proofs.lemmas.List.Elements.{All-head, All-tail, All-push, All-weaker, filter_map-append}
use Rattle.std.proofs.lemmas.Option.{get_or_from_slice_get, slice_get_within}
use Rattle.layer_base.proofs.Placed.{none_past}
use Rattle.layer_base.proofs.Sorted.{both, first, second, find_below, find_at, sorted_at, sorted_push}
use Rattle.layer_stack.specs.declared.directory.Span.{Span}
use Rattle.layer_stack.specs.declared.place.TermKey.{TermKey}
use Rattle.layer_stack.specs.declared.term_spans.TermSpans.{TermSpans}
use Rattle.layer_stack.specs.Directories.{narrowed, widened, puts_in, deletes_in, spans_by, put_spans, delete_spans, has_rows, has_spans, IsDirectory, IsNext}
use Rattle.layer_stack.specs.Places.{term_cmp}
use Rattle.layer_stack.specs.Spans.{span_of, IsSpans}
use Rattle.layer_stack.proofs.Order.{term_total, term_apart}
use Rattle.layer_stack.proofs.Under.{term_self, found_holds}

-- ---- what a directory tells of a term

module _ (kind : Option TermSpans → Option Span) where
  -- spans of one kind come after a term that all entries come after
  below_by : (t : TermKey) (es : List (TermKey × TermSpans)) → T (below_all term_cmp t es) → T (below_all term_cmp t (spans_by kind es))
  below_by t [] below = tt
  below_by t (e ∷ es) below =
      elim (kind (Some e.1)) as (λ o. T (below_all term_cmp t (cons_option (option_map (λ (s : Span). (e.0, s)) o) (spans_by kind es)))) [
        | None ↦ below_by t es (second _ _ below)
        | Some s ↦ both _ _ (first _ _ below) (below_by t es (second _ _ below))
      ]

  -- the span of a term is the one of its entry
  pub found_by : kind None ≡ None → (t : TermKey) (es : List (TermKey × TermSpans)) → T (is_sorted term_cmp es) → kind (find term_cmp t es) ≡ span_of t (spans_by kind es)
  found_by none t [] sorted = none
  found_by none t (e ∷ es) sorted = by (eq_by_cmp term_cmp t e.0) refl (kind (Some e.1)) refl (found_by none t es (second _ _ sorted))
    where
      by : (b : Bool) → eq_by_cmp term_cmp t e.0 ≡ b → (o : Option Span) → kind (Some e.1) ≡ o → kind (find term_cmp t es) ≡ span_of t (spans_by kind es)
          → kind (cond b (Some e.1) (find term_cmp t es)) ≡ span_of t (cons_option (option_map (λ (s : Span). (e.0, s)) o) (spans_by kind es))
      by true eq None is rest =
          let at : t ≡ e.0 = term_apart t e.0 ((Equal-is (term_cmp t e.0)).0 eq) in
          is ∙ sym (find_below term_cmp t (spans_by kind es) (subst (λ (s : TermKey). T (below_all term_cmp s (spans_by kind es))) (sym at) (below_by e.0 es (first _ _ sorted))))
      by true eq (Some s) is rest = is ∙ ap (λ b. cond b (Some s) (span_of t (spans_by kind es))) (sym eq)
      by false eq None is rest = rest
      by false eq (Some s) is rest = rest ∙ ap (λ b. cond b (Some s) (span_of t (spans_by kind es))) (sym eq)

  -- the same, where the entry is an answer of a directory
  pub answer_by : kind None ≡ None → (t : TermKey) (es seen : List (TermKey × TermSpans)) → IsDirectory es → es ≡ seen → (answer : Option TermSpans) → answer ≡ find term_cmp t seen → kind answer ≡ span_of t (spans_by kind seen)
  answer_by none t es seen is same answer found = ap kind (found ∙ ap (find term_cmp t) (sym same)) ∙ found_by none t es is.sorted ∙ ap (λ xs. span_of t (spans_by kind xs)) same

  -- the same of the entry at a place
  pub found_at : kind None ≡ None → (es : List (TermKey × TermSpans)) (i : ℕ) (e : TermKey × TermSpans) → T (is_sorted term_cmp es) → i < length es → e ≡ get_or es i e → kind (Some e.1) ≡ span_of e.0 (spans_by kind es)
  found_at none es i e sorted fits is =
      ap kind (sym (find_at term_cmp term_total e.0 es i e sorted fits (ap (λ (x : TermKey × TermSpans). term_cmp x.0 e.0) (sym is) ∙ term_self e.0) ∙ ap (λ (x : TermKey × TermSpans). Some x.1) (sym is)))
      ∙ found_by none e.0 es sorted

-- a directory has exactly the terms that delete or put
pub has_found : (t : TermKey) (es : List (TermKey × TermSpans)) → IsDirectory es → is_some (find term_cmp t es) ≡ has_spans t es
has_found t es is = by (find term_cmp t es) refl ∙ (λ i. is_some (found_by deletes_in refl t es is.sorted i) || is_some (found_by puts_in refl t es is.sorted i))
  where
    by : (o : Option TermSpans) → find term_cmp t es ≡ o → is_some o ≡ (is_some (deletes_in o) || is_some (puts_in o))
    by None e = refl
    by (Some s) e = sym (found_holds (λ x. has_rows x ≡ true) t es s is.each e)

-- ---- spans that go into a directory in the order of their terms

-- an entry above all others goes to the end
pub insert_last : {X : Type 0} (es : List (TermKey × X)) (t : TermKey) (x : X) → All (λ e. term_cmp e.0 t ≡ Less) es → insert_entry (eq_by_cmp term_cmp) es t x ≡ es ++ (t, x) ∷ []
insert_last [] t x all = refl
insert_last {X} (e ∷ es) t x all =
    let above : term_cmp t e.0 ≡ Greater = term_total.antisymm t e.0 ∙ ap ordering_reverse (All-head (λ (y : TermKey × X). term_cmp y.0 t ≡ Less) e es all) in
    ap (λ r. if is_eq r then (e.0, x) ∷ es else e ∷ insert_entry (eq_by_cmp term_cmp) es t x) above
    ∙ ap (λ rest. e ∷ rest) (insert_last es t x (All-tail (λ (y : TermKey × X). term_cmp y.0 t ≡ Less) e es all))

-- a span that is not empty is the same in less memory
widened-narrowed : (o : Option Span) → IfSome o (λ s. s.from < s.to) → widened (narrowed o) ≡ o
widened-narrowed None some = refl
widened-narrowed (Some s) some = ap (λ b. cond b (Some s) None) (lt-ltb s.from s.to some)

-- entries all of whose terms come before that of the next span of a list, if there is one
abbrev pub Precede : List (TermKey × TermSpans) → Option (TermKey × Span) → Type 0
Precede es there = IfSome there (λ x. All (λ e. term_cmp e.0 x.0 ≡ Less) es)

-- the place after one that a list has at a term, else the same
abbrev pub place_after : ℕ → Option Span → ℕ
place_after at o = cond (is_some o) (at + 1) at

module _ (xs : List (TermKey × Span)) (at : ℕ) (t : TermKey) where
  -- a span that is next is not empty, and within the rows
  next_within : (rows : ℕ) → IsSpans rows xs → (o : Option Span) → IsNext t o (slice_get xs at) → IfSome o (λ s. (s.from < s.to) × (s.to ≤ rows))
  next_within rows spans None next = tt
  next_within rows spans (Some s) next =
      subst (λ (x : TermKey × Span). (x.1.from < x.1.to) × (x.1.to ≤ rows)) (get_or_from_slice_get xs at (t, s) (t, s) next) (spans.within at (t, s) (slice_get_within xs at (t, s) next))

  -- what stands next has the term of a span that is there
  next_before : (es : List (TermKey × TermSpans)) (o : Option Span) → IsNext t o (slice_get xs at) → Precede es (slice_get xs at) → is_some o ≡ true → All (λ e. term_cmp e.0 t ≡ Less) es
  next_before es None next before some = cc
  next_before es (Some s) next before some = subst (Precede es) next before

  module _ (es : List (TermKey × TermSpans)) (ts : TermSpans) (o : Option Span) where
    -- the spans of one kind, with those of one entry more
    taken : (kind : Option TermSpans → Option Span) → kind (Some ts) ≡ o → IsNext t o (slice_get xs at) → spans_by kind es ≡ take at xs → spans_by kind (es ++ (t, ts) ∷ []) ≡ take (place_after at o) xs
    taken kind is next so_far = filter_map-append (λ e. option_map (λ (s : Span). (e.0, s)) (kind (Some e.1))) es ((t, ts) ∷ []) ∙ (λ i. so_far i ++ cons_option (option_map (λ (s : Span). (t, s)) (is i)) []) ∙ by o next
      where
        by : (p : Option Span) → IsNext t p (slice_get xs at) → take at xs ++ cons_option (option_map (λ (s : Span). (t, s)) p) [] ≡ take (place_after at p) xs
        by None e = append-nil (take at xs)
        by (Some s) e = sym (take_more xs at (t, s) (slice_get_within xs at (t, s) e) ∙ ap (λ x. take at xs ++ x ∷ []) (get_or_from_slice_get xs at (t, s) (t, s) e))

    -- all of them come before what stands next then
    still_before : T (is_sorted term_cmp xs) → IsNext t o (slice_get xs at) → All (λ e. term_cmp e.0 t ≡ Less) es → Precede (es ++ (t, ts) ∷ []) (slice_get xs (place_after at o))
    still_before sorted next all = by o next
      where
        further : (there : Option (TermKey × Span)) → IfSome there (λ x. term_cmp t x.0 ≡ Less) → Precede (es ++ (t, ts) ∷ []) there
        further None less = tt
        further (Some x) less =
            All-push (λ (e : TermKey × TermSpans). term_cmp e.0 x.0 ≡ Less) es (t, ts)
            (All-weaker (λ (e : TermKey × TermSpans). term_cmp e.0 t ≡ Less) (λ (e : TermKey × TermSpans). term_cmp e.0 x.0 ≡ Less) (λ e under. term_total.trans e.0 t x.0 under less) es all) less

        by : (p : Option Span) → IsNext t p (slice_get xs at) → Precede (es ++ (t, ts) ∷ []) (slice_get xs (place_after at p))
        by None e = further (slice_get xs at) e
        by (Some s) e = further (slice_get xs (at + 1)) (later (slice_get xs (at + 1)) refl)
          where
            later : (there : Option (TermKey × Span)) → slice_get xs (at + 1) ≡ there → IfSome there (λ x. term_cmp t x.0 ≡ Less)
            later None f = tt
            later (Some x) f =
                let here : get_or xs at x ≡ (t, s) = get_or_from_slice_get xs at (t, s) x e in
                let there : get_or xs (at + 1) x ≡ x = get_or_from_slice_get xs (at + 1) x x f in
                (λ i. term_cmp (sym here i).0 (sym there i).0) ∙ sorted_at term_cmp xs at (at + 1) x sorted (omega arith) (slice_get_within xs (at + 1) x f)

-- a directory of the first spans of puts and of deletes, which all come before the rest
pub record IsJoined (es : List (TermKey × TermSpans)) (puts : List (TermKey × Span)) (put : ℕ) (deletes : List (TermKey × Span)) (deleted : ℕ) : Type 0 where
  pub first_puts : put_spans es ≡ take put puts
  pub first_deletes : delete_spans es ≡ take deleted deletes
  pub directory : IsDirectory es
  pub before_puts : Precede es (slice_get puts put)
  pub before_deletes : Precede es (slice_get deletes deleted)

pub joined_start : (puts deletes : List (TermKey × Span)) → IsJoined [] puts 0 deletes 0
joined_start puts deletes = record {
  first_puts = refl;
  first_deletes = refl;
  directory = record { sorted = tt; each = λ k d low. absurd (omega arith) };
  before_puts = none (slice_get puts 0);
  before_deletes = none (slice_get deletes 0);
}
  where
    none : (there : Option (TermKey × Span)) → Precede [] there
    none None = tt
    none (Some x) = λ k d low. absurd (omega arith)

-- once nothing stands next in a list, all of it is there
pub joined_all : {es : List (TermKey × Span)} (xs : List (TermKey × Span)) (at : ℕ) → es ≡ take at xs → slice_get xs at ≡ None → es ≡ xs
joined_all xs at is none = is ∙ take_all at xs (none_past xs at none)

module _ (puts deletes : List (TermKey × Span)) (put deleted rows : ℕ) (put_told : IsSpans rows puts) (delete_told : IsSpans rows deletes) where
  -- one entry more
  pub joined_more : (es : List (TermKey × TermSpans)) (t : TermKey) (p d : Option Span) → IsJoined es puts put deletes deleted → IsNext t p (slice_get puts put) → IsNext t d (slice_get deletes deleted) → (is_some d || is_some p) ≡ true
      → IsJoined (insert_entry (eq_by_cmp term_cmp) es t (record { puts = narrowed p; deletes = narrowed d })) puts (place_after put p) deletes (place_after deleted d)
  joined_more es t p d joined next_put next_deleted some =
      subst (λ (new : List (TermKey × TermSpans)). IsJoined new puts (place_after put p) deletes (place_after deleted d)) (sym (insert_last es t ts all)) record {
        first_puts = taken puts put t es ts p puts_in back_put next_put joined.first_puts;
        first_deletes = taken deletes deleted t es ts d deletes_in back_deleted next_deleted joined.first_deletes;
        directory = record {
          sorted = sorted_push term_cmp es t ts joined.directory.sorted all;
          each = All-push (λ (e : TermKey × TermSpans). has_rows e.1 ≡ true) es (t, ts) joined.directory.each ((λ i. is_some (back_deleted i) || is_some (back_put i)) ∙ some);
        };
        before_puts = still_before puts put t es ts p put_told.sorted next_put all;
        before_deletes = still_before deletes deleted t es ts d delete_told.sorted next_deleted all;
      }
    where
      ts : TermSpans
      ts = record { puts = narrowed p; deletes = narrowed d }

      filled : (o : Option Span) → IfSome o (λ s. (s.from < s.to) × (s.to ≤ rows)) → IfSome o (λ s. s.from < s.to)
      filled None within = tt
      filled (Some s) within = within.0

      back_put : widened (narrowed p) ≡ p
      back_put = widened-narrowed p (filled p (next_within puts put t rows put_told p next_put))

      back_deleted : widened (narrowed d) ≡ d
      back_deleted = widened-narrowed d (filled d (next_within deletes deleted t rows delete_told d next_deleted))

      all : All (λ e. term_cmp e.0 t ≡ Less) es
      all = by (is_some d) refl some
        where
          by : (b : Bool) → is_some d ≡ b → (b || is_some p) ≡ true → All (λ e. term_cmp e.0 t ≡ Less) es
          by true e or = next_before deletes deleted t es d next_deleted joined.before_deletes e
          by false e or = next_before puts put t es p next_put joined.before_puts or
