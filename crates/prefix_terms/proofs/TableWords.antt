-- The words of a prefix term in a table.
use Rattle.std.proofs.Common.{◌≡◌, ℕ, zero, suc, ◌+◌, Bool, true, false, ◌==◌, ◌&&◌, ◌||◌, if◌then◌else◌, List, [], ◌∷◌, get_or, Option, None, Some, refl, sym, ◌∙◌, ap, subst, arith, All}
use Rattle.std.specs.Prelude.{T}
use Rattle.std.specs.List.{cons_option, Contains, dedup, filter_map, list_any}
use Rattle.std.specs.List.Sorted.{IsSorted, IsStrictlySortedBy}
use Rattle.std.specs.FinMap as finite
use Rattle.std.specs.FinMap.Entries.{is_sorted, below_all}
use Rattle.std.specs.declared.cmp.Ordering.{Ordering}
use Rattle.std.specs.declared.cmp.Ordering.TheVariants.{Less, Equal, Greater}
use Rattle.std.specs.Ordering.{is_lt, is_eq, eq_by_cmp, nat_cmp, ordering_then, ordering_reverse}
use Rattle.std.specs.Option.{unwrap_or}
use Rattle.std.specs.Cmp.{Equal-is}
use Rattle.std.specs.Cmp.Lexicographic.{slice_cmp, nat_list_cmp_total, texts_ties}
use Rattle.std.proofs.lemmas.Bool.{eqb-true}
use Rattle.std.proofs.lemmas.Bool.Decides.{nat_tests}
use Rattle.std.proofs.lemmas.Cmp.{eq_by_cmp_equiv, nat_list_eq_equiv}
use Rattle.std.proofs.lemmas.List.Elements.{All-nil, All-cons, All-head, Contains-get_or}
use Rattle.std.proofs.lemmas.List.Filters.{All-dedup}
use Rattle.std.proofs.lemmas.List.Kept.{Contains-dedup, Contains-from_dedup, IsStrictlySortedBy-dedup}
use Rattle.std.proofs.lemmas.Map.Views.{list_any-from_Contains, Contains-from_any}
use Rattle.uni_base.specs.declared.edge.Key.{Key}
use Rattle.uni_base.specs.declared.edge.Key.TheVariants.{Id, Word}
use Rattle.uni_base.specs.Fields.{same}
use Rattle.uni_base.specs.RankOrder.{doc_cmp}
use Rattle.layer_base.proofs.Sorted.{first, second, less_from}
use Rattle.layer_stack.specs.declared.place.Place.{Place}
use Rattle.layer_stack.specs.declared.place.TermKey.{TermKey}
use Rattle.layer_stack.specs.Places.{term_cmp, place_cmp, term_of}
use Rattle.layer_stack.specs.Postings.{PostingTable, is_under}
use Rattle.layer_stack.specs.Words.{is_word_before}
use Rattle.layer_stack.proofs.Order.{term_apart}
use Rattle.layer_stack.proofs.TermWords.{term_cmp-words}
use Rattle.uni_meaning.specs.Prefixes.{begins_with, word_of}
use Rattle.prefix_terms.specs.PrefixWords.{prefix_words, has_posting}
use Rattle.prefix_terms.proofs.Parted.{is_word_at, is_word_at-same}

itself : (n : ℕ) → (n == n) ≡ true
itself n = grind (arith, nat_tests)

-- the words of rows that begin so
abbrev pub words_in : {V : Type 0} → ℕ → List ℕ → List (Place × V) → List (List ℕ)
words_in number from = filter_map (λ e. word_of number from e.0.term.type_no e.0.term.key)

-- a word that is read tells the term
record IsTold (number : ℕ) (from word : List ℕ) (type_no : ℕ) (key : Key) : Type 0 where
  type : type_no ≡ number
  at : key ≡ Word word
  begins : begins_with from word ≡ true

told : (number : ℕ) (from word : List ℕ) (type_no : ℕ) (key : Key) → word_of number from type_no key ≡ Some word → IsTold number from word type_no key
told number from word type_no (Id n) e = cc
told number from word type_no (Word text) e = by (number == type_no) refl (begins_with from text) refl e
  where
    by : (b : Bool) → (number == type_no) ≡ b → (c : Bool) → begins_with from text ≡ c → (if b && c then Some text else None) ≡ Some word → IsTold number from word type_no (Word text)
    by true p true q h =
        let is : text ≡ word = ap (λ o. unwrap_or o word) h in
        record { type = sym (eqb-true number type_no p); at = ap Word is; begins = ap (begins_with from) (sym is) ∙ q }
    by true p false q h = cc
    by false p c q h = cc

module _ (number : ℕ) (from : List ℕ) where
  abbrev term : List ℕ → TermKey
  term word = term_of number (Word word)

  abbrev read : {V : Type 0} → Place × V → Option (List ℕ)
  read e = word_of number from e.0.term.type_no e.0.term.key

  term_told : (t : TermKey) (word : List ℕ) → word_of number from t.type_no t.key ≡ Some word → t ≡ term word
  term_told t word e = let is = told number from word t.type_no t.key e in λ i. record { type_no = is.type i; key = is.at i }

  -- ---- a word is read exactly where its term has a row

  pub any_read : {V : Type 0} (word : List ℕ) → begins_with from word ≡ true → (es : List (Place × V)) → list_any (is_word_at word) (words_in number from es) ≡ list_any (is_under (term word)) es
  any_read word begins [] = refl
  any_read {V} word begins (e ∷ es) = by (read e) refl (any_read word begins es)
    where
      reads : word_of number from number (Word word) ≡ Some word
      reads = λ i. if itself number i && begins i then Some word else None

      by : (o : Option (List ℕ)) → read e ≡ o → list_any (is_word_at word) (words_in number from es) ≡ list_any (is_under (term word)) es
          → list_any (is_word_at word) (cons_option o (words_in number from es)) ≡ (is_under (term word) e || list_any (is_under (term word)) es)
      by None f rest = rest ∙ ap (λ b. b || list_any (is_under (term word)) es) (sym (other (is_under (term word) e) refl))
        where
          other : (b : Bool) → is_under (term word) e ≡ b → b ≡ false
          other true u =
              let is : term word ≡ e.0.term = term_apart (term word) e.0.term ((Equal-is (term_cmp (term word) e.0.term)).0 u) in
              let no : Some word ≡ None = sym reads ∙ ap (λ (t : TermKey). word_of number from t.type_no t.key) is ∙ f in absurd cc
          other false u = refl
      by (Some v) f rest =
          (λ i. (sym (ap is_eq (term_cmp-words number word v)) ∙ ap (λ (t : TermKey). is_eq (term_cmp (term word) t)) (sym (term_told e.0.term v f))) i || rest i)

  -- ---- the words that are read are in the order of their bytes

  all_begin : {V : Type 0} (es : List (Place × V)) → All (λ word. begins_with from word ≡ true) (words_in number from es)
  all_begin [] = All-nil (λ word. begins_with from word ≡ true)
  all_begin {V} (e ∷ es) = by (read e) refl (all_begin es)
    where
      by : (o : Option (List ℕ)) → read e ≡ o → All (λ word. begins_with from word ≡ true) (words_in number from es) → All (λ word. begins_with from word ≡ true) (cons_option o (words_in number from es))
      by None f rest = rest
      by (Some v) f rest = let is = told number from v e.0.term.type_no e.0.term.key f in All-cons (λ word. begins_with from word ≡ true) v (words_in number from es) is.begins rest

  not_before : {V : Type 0} (e d : Place × V) (u v : List ℕ) → read e ≡ Some u → read d ≡ Some v → place_cmp e.0 d.0 ≡ Less → is_word_before v u ≡ false
  not_before {V} e d u v f g less = by (slice_cmp nat_cmp u v) refl
    where
      terms : term_cmp e.0.term d.0.term ≡ slice_cmp nat_cmp u v
      terms = (λ i. term_cmp (term_told e.0.term u f i) (term_told d.0.term v g i)) ∙ term_cmp-words number u v

      by : (o : Ordering) → slice_cmp nat_cmp u v ≡ o → is_word_before v u ≡ false
      by Less h = ap is_lt (nat_list_cmp_total.antisymm v u ∙ ap ordering_reverse h)
      by Equal h = ap is_lt (nat_list_cmp_total.antisymm v u ∙ ap ordering_reverse h)
      by Greater h = let no : Greater ≡ Less = ap (λ o. ordering_then o (doc_cmp e.0.key d.0.key)) (sym (terms ∙ h)) ∙ less in absurd cc

  abbrev NotBefore : List ℕ → List ℕ → Type 0
  NotBefore u v = is_word_before v u ≡ false

  later_not_before : {V : Type 0} (e : Place × V) (u : List ℕ) → read e ≡ Some u → (es : List (Place × V)) → T (below_all place_cmp e.0 es) → All (NotBefore u) (words_in number from es)
  later_not_before e u f [] below = All-nil (NotBefore u)
  later_not_before {V} e u f (d ∷ es) below = by (read d) refl (later_not_before e u f es (second _ _ below))
    where
      by : (o : Option (List ℕ)) → read d ≡ o → All (NotBefore u) (words_in number from es) → All (NotBefore u) (cons_option o (words_in number from es))
      by None g rest = rest
      by (Some v) g rest = All-cons (NotBefore u) v (words_in number from es) (not_before e d u v f g (less_from _ (first _ _ below))) rest

  sorted_cons : (u : List ℕ) (ws : List (List ℕ)) → All (NotBefore u) ws → IsSorted (slice_cmp nat_cmp) ws → IsSorted (slice_cmp nat_cmp) (u ∷ ws)
  sorted_cons u [] all sorted k d le fits = absurd (omega arith)
  sorted_cons u (w ∷ ws) all sorted zero d le fits = All-head (NotBefore u) w ws all
  sorted_cons u (w ∷ ws) all sorted (suc k) d le fits =
      let next : suc (k + 1) ≡ suc k + 1 = omega arith in
      subst (λ (n : ℕ). is_lt (slice_cmp nat_cmp (get_or (u ∷ w ∷ ws) n d) (get_or (w ∷ ws) k d)) ≡ false) next (sorted k d (omega arith) (omega arith))

  sorted_read : {V : Type 0} (es : List (Place × V)) → T (is_sorted place_cmp es) → IsSorted (slice_cmp nat_cmp) (words_in number from es)
  sorted_read [] sorted = λ k d le fits. absurd (omega arith)
  sorted_read {V} (e ∷ es) sorted = by (read e) refl (sorted_read es (second _ _ sorted))
    where
      by : (o : Option (List ℕ)) → read e ≡ o → IsSorted (slice_cmp nat_cmp) (words_in number from es) → IsSorted (slice_cmp nat_cmp) (cons_option o (words_in number from es))
      by None f rest = rest
      by (Some u) f rest = sorted_cons u (words_in number from es) (later_not_before e u f es (first _ _ sorted)) rest

-- ---- each word once

same_ties : (u v : List ℕ) → same u v ≡ eq_by_cmp (slice_cmp nat_cmp) u v
same_ties = texts_ties

same_exact : (u v : List ℕ) → same u v ≡ true → u ≡ v
same_exact u v e = is_word_at-same u v (sym (same_ties u v) ∙ e)

agree : (a b : Bool) → (a ≡ true → b ≡ true) → (b ≡ true → a ≡ true) → a ≡ b
agree true b to from = sym (to refl)
agree false true to from = from refl
agree false false to from = refl

-- whether a list has a word, as a test and as a fact
pub any_from_contains : (word : List ℕ) (ws : List (List ℕ)) → Contains ws word → list_any (is_word_at word) ws ≡ true
any_from_contains word ws = list_any-from_Contains (eq_by_cmp_equiv nat_list_cmp_total) word ws

pub contains_from_any : (word : List ℕ) (ws : List (List ℕ)) → list_any (is_word_at word) ws ≡ true → Contains ws word
contains_from_any word ws = Contains-from_any is_word_at-same word ws

any-dedup : (word : List ℕ) (ws : List (List ℕ)) → list_any (is_word_at word) (dedup same ws) ≡ list_any (is_word_at word) ws
any-dedup word ws =
    agree (list_any (is_word_at word) (dedup same ws)) (list_any (is_word_at word) ws)
    (λ e. any_from_contains word ws (Contains-from_dedup same ws word (contains_from_any word (dedup same ws) e)))
    (λ e. any_from_contains word (dedup same ws) (Contains-dedup nat_list_eq_equiv same_exact ws word (contains_from_any word ws e)))

module _ (number : ℕ) (from : List ℕ) (table : PostingTable) where
  pub prefix_words-sorted : IsStrictlySortedBy (slice_cmp nat_cmp) (prefix_words number from table)
  prefix_words-sorted =
      IsStrictlySortedBy-dedup nat_list_cmp_total same_ties (words_in number from (finite.entries table)) (sorted_read number from (finite.entries table) (finite.entries_sorted table))

  -- of the words that begin so, those are keys that have a posting
  pub any-prefix_words : (word : List ℕ) → begins_with from word ≡ true → list_any (is_word_at word) (prefix_words number from table) ≡ has_posting number table word
  any-prefix_words word begins = any-dedup word (words_in number from (finite.entries table)) ∙ any_read number from word begins (finite.entries table)

  pub prefix_words-begin : All (λ word. begins_with from word ≡ true) (prefix_words number from table)
  prefix_words-begin = All-dedup same (λ word. begins_with from word ≡ true) (words_in number from (finite.entries table)) (all_begin number from (finite.entries table))

  pub prefix_words-posted : All (λ word. has_posting number table word ≡ true) (prefix_words number from table)
  prefix_words-posted k d fits =
      let ws = prefix_words number from table in
      sym (any-prefix_words (get_or ws k d) (prefix_words-begin k d fits)) ∙ any_from_contains (get_or ws k d) ws (Contains-get_or ws k d fits)
