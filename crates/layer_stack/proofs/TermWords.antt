-- The words at which the terms of a layer start.
use Rattle.std.proofs.Common.{◌≡◌, ℕ, zero, suc, ◌<◌, ◌≤◌, Bool, true, false, cond, not, ◌==◌, ◌||◌, List, [], ◌∷◌, ◌++◌, map, length, get_or, Option, None, Some, refl, sym, ◌∙◌, ap, subst, arith, All, is_some, eq-eqb, ◌⊎◌, inl, inr}
use Rattle.std.specs.Cmp.{Equal-is}
use Rattle.std.specs.Prelude.{T}
use Rattle.std.specs.FinMap as finite
use Rattle.uni_base.specs.declared.entity.DocKey.{DocKey}
use Rattle.posting_lists.specs.declared.posting.Posting.{Posting}
use Rattle.std.specs.List.{list_any, slice_get}
use Rattle.std.specs.List.Sorted.{IsPartitionedBy, IsPartitionPoint}
use Rattle.std.specs.declared.cmp.Ordering.{Ordering}
use Rattle.std.specs.declared.cmp.Ordering.TheVariants.{Less, Equal, Greater}
use Rattle.std.specs.Ordering.{is_lt, is_eq, eq_by_cmp, nat_cmp, ordering_then, ordering_reverse, match_ordering}
use Rattle.std.specs.Cmp.{tied_itself, nat_cmp_total}
use Rattle.std.specs.Cmp.Lexicographic.{slice_cmp, nat_list_cmp_total}
use Rattle.std.proofs.lemmas.Map.Lookups.{exact_unsigned, exact_bytes}
use Rattle.std.specs.FinMap.Entries.{find, is_sorted}
use Rattle.std.proofs.lemmas.Bool.{cases_lt}
use Rattle.std.proofs.lemmas.List.Elements.{All-head, All-tail}
use Rattle.std.proofs.lemmas.Option.{get_or_from_slice_get, slice_get_within}
use Rattle.std.specs.Option.{unwrap_or}
use Rattle.std.proofs.lemmas.Bool.{eqb-true}
use Rattle.posting_lists.proofs.Sections.{length-section}
use Rattle.uni_base.specs.EdgeOrder.{key_cmp}
use Rattle.uni_base.specs.declared.edge.Key.{Key}
use Rattle.uni_base.specs.declared.edge.Key.TheVariants.{Id, Word}
use Rattle.layer_base.proofs.Placed.{none_past}
use Rattle.layer_base.proofs.Sorted.{sorted_at, less_from}
use Rattle.layer_stack.specs.declared.directory.Span.{Span}
use Rattle.layer_stack.specs.declared.place.Place.{Place}
use Rattle.layer_stack.specs.declared.place.TermKey.{TermKey}
use Rattle.layer_stack.specs.declared.term_spans.TermSpans.{TermSpans}
use Rattle.layer_stack.specs.Directories.{narrowed, put_spans, delete_spans, has_spans}
use Rattle.layer_stack.specs.Places.{term_cmp, place_cmp, term_of}
use Rattle.layer_stack.specs.Postings.{changes_of, is_under, place_of}
use Rattle.layer_stack.specs.Spans.{spanned, tagged, span_of, is_passed, word_of, word_at, earlier, put_rows, delete_rows, AreLaid}
use Rattle.layer_stack.specs.Words.{is_word_before, is_word_from, IsWordFrom, has_term}
use Rattle.layer_stack.proofs.Order.{term_total, term_apart}

-- ---- the order of the terms of one type that start at words

pub term_cmp-words : (type_no : ℕ) (u v : List ℕ) → term_cmp (term_of type_no (Word u)) (term_of type_no (Word v)) ≡ slice_cmp nat_cmp u v
term_cmp-words type_no u v = ap (λ o. ordering_then o (slice_cmp nat_cmp u v)) (tied_itself nat_cmp_total type_no)

reversed : (a b : TermKey) → term_cmp a b ≡ ordering_reverse (term_cmp b a)
reversed a b = term_total.antisymm a b

-- a word passes exactly where its term is not passed
passed_words : (type_no : ℕ) (from : List ℕ) (strict : Bool) (word : List ℕ) → is_passed strict (term_of type_no (Word from)) (term_of type_no (Word word)) ≡ not (is_word_from strict from word)
passed_words type_no from strict word =
    ap (λ o. match_ordering o true strict false) (term_cmp-words type_no word from) ∙ by strict (slice_cmp nat_cmp word from) (nat_list_cmp_total.antisymm from word)
  where
    by : (also : Bool) (o : Ordering) → slice_cmp nat_cmp from word ≡ ordering_reverse o → match_ordering o true also false ≡ not (cond also (is_word_before from word) (not (is_lt o)))
    by true Less e = ap (λ r. not (is_lt r)) (sym e)
    by true Equal e = ap (λ r. not (is_lt r)) (sym e)
    by true Greater e = ap (λ r. not (is_lt r)) (sym e)
    by false Less e = refl
    by false Equal e = refl
    by false Greater e = refl

-- what comes before a term that is passed is passed
passed_back : (also : Bool) (from a b : TermKey) → term_cmp a b ≡ Less → is_passed also from b ≡ true → is_passed also from a ≡ true
passed_back also from a b less passed = ap (λ o. match_ordering o true also false) (by (term_cmp b from) refl passed)
  where
    by : (o : Ordering) → term_cmp b from ≡ o → match_ordering o true also false ≡ true → term_cmp a from ≡ Less
    by Less e p = term_total.trans a b from less e
    by Equal e p = subst (λ (t : TermKey). term_cmp a t ≡ Less) (term_apart b from e) less
    by Greater e p = cc

-- ---- terms in order

module _ (es : List (TermKey × TermSpans)) (sorted : T (is_sorted term_cmp es)) where
  pub partitioned : (strict : Bool) (from : TermKey) → IsPartitionedBy (λ e. is_passed strict from e.0) es
  partitioned strict from i j d le fits passed = by (cases_lt i j)
    where
      by : (i < j) ⊎ (j ≤ i) → is_passed strict from (get_or es i d).0 ≡ true
      by (inl less) = passed_back strict from (get_or es i d).0 (get_or es j d).0 (sorted_at term_cmp es i j d sorted less fits) passed
      by (inr more) = let same : j ≡ i = omega arith in subst (λ (n : ℕ). is_passed strict from (get_or es n d).0 ≡ true) same passed

at_index : (t : TermKey) (es : List (TermKey × TermSpans)) → is_some (find term_cmp t es) ≡ true → (j : ℕ) × (j < length es) × ((d : TermKey × TermSpans) → (get_or es j d).0 ≡ t)
at_index t [] e = cc
at_index t (s ∷ es) e = by (eq_by_cmp term_cmp t s.0) refl e (at_index t es)
  where
    by : (b : Bool) → eq_by_cmp term_cmp t s.0 ≡ b → is_some (cond b (Some s.1) (find term_cmp t es)) ≡ true
        → (is_some (find term_cmp t es) ≡ true → (j : ℕ) × (j < length es) × ((d : TermKey × TermSpans) → (get_or es j d).0 ≡ t)) → (j : ℕ) × (j < length (s ∷ es)) × ((d : TermKey × TermSpans) → (get_or (s ∷ es) j d).0 ≡ t)
    by true q e rest = (0, omega arith, λ d. sym (term_apart t s.0 ((Equal-is (term_cmp t s.0)).0 q)))
    by false q e rest = let r = rest e in (suc r.0, omega (arith, r.1), λ d. r.2 d)

has_at : (es : List (TermKey × TermSpans)) (n : ℕ) (e : TermKey × TermSpans) → slice_get es n ≡ Some e → is_some (find term_cmp e.0 es) ≡ true
has_at [] n e at = cc
has_at (s ∷ es) zero e at =
    let is : s ≡ e = cc in
    ap (λ (k : TermKey). is_some (cond (eq_by_cmp term_cmp e.0 k) (Some s.1) (find term_cmp e.0 es))) (ap (λ (x : TermKey × TermSpans). x.0) is) ∙ ap (λ b. is_some (cond b (Some s.1) (find term_cmp e.0 es))) (ap is_eq (tied_itself term_total e.0))
has_at (s ∷ es) (suc n) e at = by (eq_by_cmp term_cmp e.0 s.0) (has_at es n e at)
  where
    by : (b : Bool) → is_some (find term_cmp e.0 es) ≡ true → is_some (cond b (Some s.1) (find term_cmp e.0 es)) ≡ true
    by true h = refl
    by false h = h

not_true : (b : Bool) → not b ≡ true → b ≡ false
not_true true e = cc
not_true false e = refl

not_false : (b : Bool) → not b ≡ false → b ≡ true
not_false true e = refl
not_false false e = cc

-- a term from one word of a type to another starts at a word of that type
kept_type : (also : Bool) (type_no : ℕ) (from word : List ℕ) (t : TermKey) → is_passed also (term_of type_no (Word from)) t ≡ false → is_lt (term_cmp (term_of type_no (Word word)) t) ≡ false → word_at type_no t ≡ None → ⊥
kept_type also type_no from word t after before none = by (nat_cmp t.type_no type_no) refl (not_less (term_cmp t (term_of type_no (Word from))) after) before
  where
    not_less : (o : Ordering) → match_ordering o true also false ≡ false → is_lt o ≡ false
    not_less Less e = cc
    not_less Equal e = refl
    not_less Greater e = refl

    of_key : (k : Key) → is_lt (key_cmp k (Word from)) ≡ false → word_of k ≡ None → ⊥
    of_key (Id n) e h = absurd cc
    of_key (Word w) e h = absurd cc

    by : (o : Ordering) → nat_cmp t.type_no type_no ≡ o → is_lt (ordering_then o (key_cmp t.key (Word from))) ≡ false → is_lt (ordering_then (nat_cmp type_no t.type_no) (key_cmp (Word word) t.key)) ≡ false → ⊥
    by Less e p q = absurd cc
    by Equal e p q =
        let same : (t.type_no == type_no) ≡ true = let is = exact_unsigned t.type_no type_no e in subst (λ (n : ℕ). (t.type_no == n) ≡ true) is (eq-eqb t.type_no t.type_no refl) in
        of_key t.key p (ap (λ b. cond b (word_of t.key) None) (sym same) ∙ none)
    by Greater e p q =
        let turned : nat_cmp type_no t.type_no ≡ Less = nat_cmp_total.antisymm type_no t.type_no ∙ ap ordering_reverse e in
        let less : is_lt (ordering_then (nat_cmp type_no t.type_no) (key_cmp (Word word) t.key)) ≡ true = ap (λ o. is_lt (ordering_then o (key_cmp (Word word) t.key))) turned in
        absurd cc

-- the term that starts at a word
term_is : (type_no : ℕ) (t : TermKey) (word : List ℕ) → word_at type_no t ≡ Some word → t ≡ term_of type_no (Word word)
term_is type_no t word e = by (t.type_no == type_no) refl e
  where
    of_key : (k : Key) → word_of k ≡ Some word → k ≡ Word word
    of_key (Id n) h = cc
    of_key (Word w) h = ap Word (ap (λ o. unwrap_or o word) h)

    by : (b : Bool) → (t.type_no == type_no) ≡ b → cond b (word_of t.key) None ≡ Some word → t ≡ term_of type_no (Word word)
    by true s h = let types = eqb-true t.type_no type_no s in let keys = of_key t.key h in λ i. record { type_no = types i; key = keys i }
    by false s h = cc

module _ (type_no : ℕ) (from : List ℕ) (strict : Bool) (es : List (TermKey × TermSpans)) (sorted : T (is_sorted term_cmp es)) (n : ℕ) where
  abbrev target : TermKey
  target = term_of type_no (Word from)

  abbrev Parts : Type 0
  Parts = IsPartitionPoint (λ e. is_passed strict target e.0 ≡ true) (λ e. is_passed strict target e.0 ≡ false) es n

  abbrev at_word : List ℕ → TermKey × TermSpans
  at_word word = (term_of type_no (Word word), record { puts = narrowed None; deletes = narrowed None })

  -- words of terms before the point do not pass
  before_point : Parts → (word : List ℕ) (j : ℕ) → ((d : TermKey × TermSpans) → (get_or es j d).0 ≡ term_of type_no (Word word)) → j < n → is_word_from strict from word ≡ false
  before_point parts word j is less =
      not_true (is_word_from strict from word) (sym (passed_words type_no from strict word) ∙ subst (λ (t : TermKey). is_passed strict target t ≡ true) (is (at_word word)) (parts.0 j (at_word word) (omega arith) less))

  pub none_found : Parts → slice_get es n ≡ None → IsWordFrom (λ t. is_some (find term_cmp t es)) type_no from strict None
  none_found parts none word has =
      let at = at_index (term_of type_no (Word word)) es has in
      before_point parts word at.0 at.2 (omega (arith, at.1, none_past es n none))

  pub some_found : Parts → (e : TermKey × TermSpans) → slice_get es n ≡ Some e → IsWordFrom (λ t. is_some (find term_cmp t es)) type_no from strict (word_at type_no e.0)
  some_found parts e found = by (word_at type_no e.0) refl
    where
      fits : n < length es
      fits = slice_get_within es n e found

      read : (d : TermKey × TermSpans) → get_or es n d ≡ e
      read d = get_or_from_slice_get es n e d found

      left : is_passed strict target e.0 ≡ false
      left = subst (λ (x : TermKey × TermSpans). is_passed strict target x.0 ≡ false) (read e) (parts.1 n e (omega arith) fits)

      -- no word that passes comes before the term at the point
      not_before : (word : List ℕ) → is_some (find term_cmp (term_of type_no (Word word)) es) ≡ true → is_word_from strict from word ≡ true → is_lt (term_cmp (term_of type_no (Word word)) e.0) ≡ false
      not_before word has passes = placed (cases_lt at.0 n)
        where
          at : (j : ℕ) × (j < length es) × ((d : TermKey × TermSpans) → (get_or es j d).0 ≡ term_of type_no (Word word))
          at = at_index (term_of type_no (Word word)) es has

          placed : (at.0 < n) ⊎ (n ≤ at.0) → is_lt (term_cmp (term_of type_no (Word word)) e.0) ≡ false
          placed (inl less) = let no = before_point parts word at.0 at.2 less in absurd cc
          placed (inr more) = further (cases_lt n at.0)
            where
              further : (n < at.0) ⊎ (at.0 ≤ n) → is_lt (term_cmp (term_of type_no (Word word)) e.0) ≡ false
              further (inl less) =
                  let rises : term_cmp e.0 (term_of type_no (Word word)) ≡ Less = subst (λ (t : TermKey). term_cmp e.0 t ≡ Less) (at.2 e) (subst (λ (x : TermKey × TermSpans). term_cmp x.0 (get_or es at.0 e).0 ≡ Less) (read e) (sorted_at term_cmp es n at.0 e sorted less at.1)) in
                  ap is_lt (reversed (term_of type_no (Word word)) e.0 ∙ ap ordering_reverse rises)
              further (inr less) =
                  let same : at.0 ≡ n = omega arith in
                  let is : e.0 ≡ term_of type_no (Word word) = ap (λ (x : TermKey × TermSpans). x.0) (sym (read e)) ∙ ap (λ k. (get_or es k e).0) (sym same) ∙ at.2 e in
                  subst (λ (t : TermKey). is_lt (term_cmp t e.0) ≡ false) is (ap is_lt (tied_itself term_total e.0))

      by : (found_word : Option (List ℕ)) → word_at type_no e.0 ≡ found_word → IsWordFrom (λ t. is_some (find term_cmp t es)) type_no from strict found_word
      by None w = λ word has. settled word has (is_word_from strict from word) refl
        where
          settled : (word : List ℕ) → is_some (find term_cmp (term_of type_no (Word word)) es) ≡ true → (b : Bool) → is_word_from strict from word ≡ b → b ≡ false
          settled word has true p = absurd (kept_type strict type_no from word e.0 left (not_before word has p) w)
          settled word has false p = refl
      by (Some word) w =
          let is : e.0 ≡ term_of type_no (Word word) = term_is type_no e.0 word w in
          record {
            there = subst (λ (t : TermKey). is_some (find term_cmp t es) ≡ true) is (has_at es n e found);
            passes = not_false (is_word_from strict from word) (sym (passed_words type_no from strict word) ∙ subst (λ (t : TermKey). is_passed strict target t ≡ false) is left);
            least = λ other has passes. ap is_lt (sym (term_cmp-words type_no other word)) ∙ subst (λ (t : TermKey). is_lt (term_cmp (term_of type_no (Word other)) t) ≡ false) is (not_before other has passes);
          }

-- ---- of two words

either_has : (a b : Bool) → (a || b) ≡ true → (a ≡ true) ⊎ (b ≡ true)
either_has true b e = inl refl
either_has false b e = inr e

first_has : (a b : Bool) → a ≡ true → (a || b) ≡ true
first_has true b e = refl
first_has false b e = cc

second_has : (a b : Bool) → b ≡ true → (a || b) ≡ true
second_has true b e = refl
second_has false b e = e

is_less : (o : Ordering) → is_lt o ≡ true → o ≡ Less
is_less o e = less_from o (subst T (sym e) tt)

module _ (type_no : ℕ) (from : List ℕ) (strict : Bool) (has other_has : TermKey → Bool) where
  abbrev term_at : List ℕ → TermKey
  term_at word = term_of type_no (Word word)

  abbrev any_has : TermKey → Bool
  any_has t = has t || other_has t

  less_too : (o x y : List ℕ) → is_word_before y x ≡ true → is_word_before o x ≡ false → is_word_before o y ≡ false
  less_too o x y less not = by (slice_cmp nat_cmp o y) refl
    where
      by : (r : Ordering) → slice_cmp nat_cmp o y ≡ r → is_lt r ≡ false
      by Less e = let low : is_word_before o x ≡ true = ap is_lt (nat_list_cmp_total.trans o y x e (is_less (slice_cmp nat_cmp y x) less)) in absurd cc
      by Equal e = refl
      by Greater e = refl

  least_too : (o x y : List ℕ) → is_word_before y x ≡ false → is_word_before o y ≡ false → is_word_before o x ≡ false
  least_too o x y not_less not = by (slice_cmp nat_cmp o x) refl
    where
      by : (r : Ordering) → slice_cmp nat_cmp o x ≡ r → is_lt r ≡ false
      by Less e = of_other (slice_cmp nat_cmp x y) refl (nat_list_cmp_total.antisymm y x)
        where
          of_other : (s : Ordering) → slice_cmp nat_cmp x y ≡ s → slice_cmp nat_cmp y x ≡ ordering_reverse (slice_cmp nat_cmp x y) → true ≡ false
          of_other Less f t = ap is_lt (sym (nat_list_cmp_total.trans o x y e f)) ∙ not
          of_other Equal f t = ap is_lt (sym (ap (λ (w : List ℕ). slice_cmp nat_cmp o w) (sym (exact_bytes x y f)) ∙ e)) ∙ not
          of_other Greater f t = ap is_lt (sym (t ∙ ap ordering_reverse f)) ∙ not_less
      by Equal e = refl
      by Greater e = refl

  pub earlier_is : (a b : Option (List ℕ)) → IsWordFrom has type_no from strict a → IsWordFrom other_has type_no from strict b → IsWordFrom any_has type_no from strict (earlier a b)
  earlier_is None None p q = λ word h. by word (either_has (has (term_at word)) (other_has (term_at word)) h)
    where
      by : (word : List ℕ) → (has (term_at word) ≡ true) ⊎ (other_has (term_at word) ≡ true) → is_word_from strict from word ≡ false
      by word (inl h) = p word h
      by word (inr h) = q word h
  earlier_is None (Some y) p q = record {
    there = second_has (has (term_at y)) (other_has (term_at y)) q.there;
    passes = q.passes;
    least = λ word h f. by word f (either_has (has (term_at word)) (other_has (term_at word)) h);
  }
    where
      by : (word : List ℕ) → is_word_from strict from word ≡ true → (has (term_at word) ≡ true) ⊎ (other_has (term_at word) ≡ true) → is_word_before word y ≡ false
      by word f (inl h) = let no = p word h in absurd cc
      by word f (inr h) = q.least word h f
  earlier_is (Some x) None p q = record {
    there = first_has (has (term_at x)) (other_has (term_at x)) p.there;
    passes = p.passes;
    least = λ word h f. by word f (either_has (has (term_at word)) (other_has (term_at word)) h);
  }
    where
      by : (word : List ℕ) → is_word_from strict from word ≡ true → (has (term_at word) ≡ true) ⊎ (other_has (term_at word) ≡ true) → is_word_before word x ≡ false
      by word f (inl h) = p.least word h f
      by word f (inr h) = let no = q word h in absurd cc
  earlier_is (Some x) (Some y) p q = by (is_word_before y x) refl
    where
      by : (b : Bool) → is_word_before y x ≡ b → IsWordFrom any_has type_no from strict (cond b (Some y) (Some x))
      by true e = record {
        there = second_has (has (term_at y)) (other_has (term_at y)) q.there;
        passes = q.passes;
        least = λ word h f. of word f (either_has (has (term_at word)) (other_has (term_at word)) h);
      }
        where
          of : (word : List ℕ) → is_word_from strict from word ≡ true → (has (term_at word) ≡ true) ⊎ (other_has (term_at word) ≡ true) → is_word_before word y ≡ false
          of word f (inl h) = less_too word x y e (p.least word h f)
          of word f (inr h) = q.least word h f
      by false e = record {
        there = first_has (has (term_at x)) (other_has (term_at x)) p.there;
        passes = p.passes;
        least = λ word h f. of word f (either_has (has (term_at word)) (other_has (term_at word)) h);
      }
        where
          of : (word : List ℕ) → is_word_from strict from word ≡ true → (has (term_at word) ≡ true) ⊎ (other_has (term_at word) ≡ true) → is_word_before word x ≡ false
          of word f (inl h) = p.least word h f
          of word f (inr h) = least_too word x y e (q.least word h f)

-- ---- the terms of rows

any_append : {X : Type 0} (p : X → Bool) (xs ys : List X) → list_any p (xs ++ ys) ≡ (list_any p xs || list_any p ys)
any_append p [] ys = refl
any_append p (x ∷ xs) ys =
    elim (p x) as (λ b. (b || list_any p (xs ++ ys)) ≡ ((b || list_any p xs) || list_any p ys)) [ true ↦ refl | false ↦ any_append p xs ys ]

module _ {X V : Type 0} (tag : TermKey → X → Place × V) (keeps : (t : TermKey) (x : X) → (tag t x).0.term ≡ t) where
  any_map : (t s : TermKey) (xs : List X) → 0 < length xs → list_any (is_under t) (map (tag s) xs) ≡ eq_by_cmp term_cmp t s
  any_map t s [] some = absurd (omega arith)
  any_map t s (x ∷ []) some = by (eq_by_cmp term_cmp t s) (ap (eq_by_cmp term_cmp t) (keeps s x))
    where
      by : (b : Bool) → is_under t (tag s x) ≡ b → (is_under t (tag s x) || false) ≡ b
      by b e = or_false (is_under t (tag s x)) ∙ e
        where
          or_false : (c : Bool) → (c || false) ≡ c
          or_false true = refl
          or_false false = refl
  any_map t s (x ∷ y ∷ xs) some = (λ i. ap (eq_by_cmp term_cmp t) (keeps s x) i || any_map t s (y ∷ xs) (omega arith) i) ∙ twice (eq_by_cmp term_cmp t s)
    where
      twice : (b : Bool) → (b || b) ≡ b
      twice true = refl
      twice false = refl

  pub any_told : (t : TermKey) (spans : List (TermKey × Span)) (xs : List X) → All (λ e. (e.1.from < e.1.to) × (e.1.to ≤ length xs)) spans → list_any (is_under t) (tagged tag spans xs) ≡ is_some (span_of t spans)
  any_told t [] xs within = refl
  any_told t (e ∷ spans) xs within =
      any_append (is_under t) (map (tag e.0) (spanned e.1 xs)) (tagged tag spans xs)
      ∙ (λ i. any_map t e.0 (spanned e.1 xs) some i || any_told t spans xs (All-tail (λ (s : TermKey × Span). (s.1.from < s.1.to) × (s.1.to ≤ length xs)) e spans within) i)
      ∙ by (eq_by_cmp term_cmp t e.0)
    where
      here : (e.1.from < e.1.to) × (e.1.to ≤ length xs)
      here = All-head (λ (s : TermKey × Span). (s.1.from < s.1.to) × (s.1.to ≤ length xs)) e spans within

      some : 0 < length (spanned e.1 xs)
      some = omega (arith, here.0, length-section e.1.from e.1.to xs (omega (arith, here.0)) here.1)

      by : (b : Bool) → (b || is_some (span_of t spans)) ≡ is_some (cond b (Some e.1) (span_of t spans))
      by true = refl
      by false = refl

-- a layer has exactly the terms that its directory has
pub terms_laid : (t : TermKey) (es : List (TermKey × TermSpans)) (ks : List DocKey) (ps : List Posting) → AreLaid (delete_rows (delete_spans es) ks) (delete_spans es) (length ks) → AreLaid (put_rows (put_spans es) ps) (put_spans es) (length ps)
    → has_spans t es ≡ has_term t (changes_of (finite.from_sorted (delete_rows (delete_spans es) ks)) (finite.from_sorted (put_rows (put_spans es) ps)))
terms_laid t es ks ps deleted put =
    λ i. sym (ap (list_any (is_under t)) (finite.entries-from_sorted place_cmp (delete_rows (delete_spans es) ks) deleted.sorted) ∙ any_told (λ s k. (place_of s k, tt)) (λ s k. refl) t (delete_spans es) ks deleted.told.within) i
    || sym (ap (list_any (is_under t)) (finite.entries-from_sorted place_cmp (put_rows (put_spans es) ps) put.sorted) ∙ any_told (λ s p. (place_of s p.key, p.audience)) (λ s p. refl) t (put_spans es) ps put.told.within) i
