-- How far a search for the words of a prefix term has come.
use Rattle.std.proofs.Common.{◌≡◌, ℕ, ◌+◌, ◌*◌, ◌≤◌, Bool, true, false, not, ◌&&◌, ◌||◌, if◌then◌else◌, List, [], ◌∷◌, ◌++◌, length, get_or, filter, None, refl, sym, ◌∙◌, ap, subst, arith, All}
use Rattle.std.specs.List.{flat_map, list_any}
use Rattle.std.specs.FinMap as finite
use Rattle.std.specs.declared.cmp.Ordering.{Ordering}
use Rattle.std.specs.declared.cmp.Ordering.TheVariants.{Less, Equal, Greater}
use Rattle.std.specs.Ordering.{is_lt, nat_cmp, ordering_reverse}
use Rattle.std.specs.Cmp.Lexicographic.{slice_cmp, nat_list_cmp_total}
use Rattle.std.proofs.lemmas.Bool.{and_parts}
use Rattle.std.proofs.lemmas.List.Folds.{list_any-append}
use Rattle.std.proofs.Math.Nat.{mul-le-mul_right}
use Rattle.uni_base.specs.declared.edge.Key.TheVariants.{Word}
use Rattle.layer_base.specs.Layers.{stack_table}
use Rattle.layer_stack.specs.Places.{term_of}
use Rattle.layer_stack.specs.Postings.{PostingChanges}
use Rattle.layer_stack.specs.Words.{is_word_before, is_word_from, IsLeastWord, IsWordFrom}
use Rattle.uni_meaning.specs.Prefixes.{begins_with}
use Rattle.prefix_terms.specs.Occurring.{occurs_in, occurs_so, HasEachWord, AreFewSteps}
use Rattle.prefix_terms.specs.PrefixWords.{prefix_words, has_posting}
use Rattle.prefix_terms.proofs.Begins.{begun-not_before}
use Rattle.prefix_terms.proofs.Counts.{filter-fewer, filter-less}
use Rattle.prefix_terms.proofs.Occurs.{occurs_from_table}
use Rattle.prefix_terms.proofs.Parted.{is_word_at, is_word_at-same, before_itself, filter_alike, filter_every, filter_none, comes_before, is_not_after, up_to-with, up_to-without, passed_before}
use Rattle.prefix_terms.proofs.TableWords.{words_in, any_read, any_from_contains, any-prefix_words, prefix_words-begin, prefix_words-posted, prefix_words-sorted}

-- whether a search is past a word: it comes before the place that the search is at, or also stands there
abbrev pub is_past : Bool → List ℕ → List ℕ → Bool
is_past strict at word = not (is_word_from strict at word)

-- the words that are kept have been passed, and are all such; and each word that was passed has cost a
-- step for each layer
pub record IsSearched (number : ℕ) (from : List ℕ) (layers : List PostingChanges) (strict : Bool) (at : List ℕ) (words : List (List ℕ)) (before after : ℕ) : Type 0 where
  pub kept : words ≡ filter (is_past strict at) (prefix_words number from (stack_table layers))
  pub begun : is_word_before at from ≡ false
  pub few : (all : List (List ℕ)) → HasEachWord number from layers all → after ≤ before + length (filter (is_past strict at) all) * length layers

-- the words that begin so at which layers have something, as often as they have
abbrev pub occurring : ℕ → List ℕ → List PostingChanges → List (List ℕ)
occurring number from = flat_map (λ layer. words_in number from (finite.entries layer.deletes) ++ words_in number from (finite.entries layer.puts))

-- how many of them are left
abbrev pub count_left : ℕ → List ℕ → List PostingChanges → Bool → List ℕ → ℕ
count_left number from layers strict at = length (filter (is_word_from strict at) (occurring number from layers))

is_false : (b : Bool) → not b ≡ true → b ≡ false
is_false true e = cc
is_false false e = refl

is_true : (b : Bool) → not b ≡ false → b ≡ true
is_true true e = refl
is_true false e = cc

never : (a b : List ℕ) → is_word_before a b ≡ true → is_word_before b a ≡ true → ⊥
never a b e f = by (slice_cmp nat_cmp a b) refl (nat_list_cmp_total.antisymm b a)
  where
    by : (o : Ordering) → slice_cmp nat_cmp a b ≡ o → slice_cmp nat_cmp b a ≡ ordering_reverse (slice_cmp nat_cmp a b) → ⊥
    by Less g t = let no : true ≡ false = sym f ∙ ap is_lt (t ∙ ap ordering_reverse g) in absurd cc
    by Equal g t = let no : true ≡ false = sym e ∙ ap is_lt g in absurd cc
    by Greater g t = let no : true ≡ false = sym e ∙ ap is_lt g in absurd cc

module _ (number : ℕ) (from : List ℕ) where
  any_occurring : (word : List ℕ) → begins_with from word ≡ true → (layers : List PostingChanges) → list_any (is_word_at word) (occurring number from layers) ≡ occurs_in layers (term_of number (Word word))
  any_occurring word begins [] = refl
  any_occurring word begins (layer ∷ layers) =
      list_any-append (is_word_at word) (words_in number from (finite.entries layer.deletes) ++ words_in number from (finite.entries layer.puts)) (occurring number from layers)
      ∙ (λ i. (list_any-append (is_word_at word) (words_in number from (finite.entries layer.deletes)) (words_in number from (finite.entries layer.puts))
      ∙ (λ j. any_read number from word begins (finite.entries layer.deletes) j || any_read number from word begins (finite.entries layer.puts) j)) i || any_occurring word begins layers i)

module _ (strict : Bool) (at word : List ℕ) (passes : is_word_from strict at word ≡ true) where
  -- what was passed is passed, and the word itself is
  past_still : (other : List ℕ) → is_past strict at other ≡ true → is_past true word other ≡ true
  past_still other e = by (is_word_before word other) refl
    where
      less : is_word_before other word ≡ true
      less = passed_before strict at other word (is_false (is_word_from strict at other) e) passes

      by : (b : Bool) → is_word_before word other ≡ b → not b ≡ true
      by true f = absurd (never word other f less)
      by false f = refl

  left_still : (other : List ℕ) → is_word_from true word other ≡ true → is_word_from strict at other ≡ true
  left_still other e = by (is_word_from strict at other) refl
    where
      by : (b : Bool) → is_word_from strict at other ≡ b → b ≡ true
      by true f = refl
      by false f = absurd (never word other e (passed_before strict at other word f passes))

  not_past : (other : List ℕ) → is_word_at word other ≡ true → is_past strict at other ≡ false
  not_past other e = ap (λ w. not (is_word_from strict at w)) (sym (is_word_at-same word other e)) ∙ ap not passes

  past_now : (other : List ℕ) → is_word_at word other ≡ true → is_past true word other ≡ true
  past_now other e = ap (λ w. not (is_word_before word w)) (sym (is_word_at-same word other e)) ∙ ap not (before_itself word)

  not_left : (other : List ℕ) → is_word_at word other ≡ true → is_word_from true word other ≡ false
  not_left other e = ap (is_word_before word) (sym (is_word_at-same word other e)) ∙ before_itself word

  was_left : (other : List ℕ) → is_word_at word other ≡ true → is_word_from strict at other ≡ true
  was_left other e = ap (is_word_from strict at) (sym (is_word_at-same word other e)) ∙ passes

module _ (number : ℕ) (from : List ℕ) (layers : List PostingChanges) where
  abbrev found : List (List ℕ)
  found = prefix_words number from (stack_table layers)

  abbrev occurs : List ℕ → Bool
  occurs word = occurs_so from layers (term_of number (Word word))

  -- each key occurs
  found_occur : All (λ word. occurs word ≡ true) found
  found_occur k d fits = λ i. prefix_words-begin number from (stack_table layers) k d fits i && occurs_from_table (term_of number (Word _)) layers (prefix_words-posted number from (stack_table layers) k d fits) i

  pub search_begins : (n : ℕ) → IsSearched number from layers false from [] n n
  search_begins n = record {
    kept = sym (filter_alike (is_past false from) (λ word. false) found (λ k d fits. ap (λ b. not (not b)) (begun-not_before from _ (prefix_words-begin number from (stack_table layers) k d fits))) ∙ filter_none found);
    begun = before_itself from;
    few = λ all each. omega arith;
  }

  module _ (strict : Bool) (at : List ℕ) (words : List (List ℕ)) (before after : ℕ) (so_far : IsSearched number from layers strict at words before after) where
    -- a search that has asked each layer once more has taken few steps
    pub few_still : AreFewSteps before (after + length layers) number from layers
    few_still all each =
        let none_more : length (filter (is_past strict at) all) ≤ length all = subst (λ (ws : List (List ℕ)). length (filter (is_past strict at) all) ≤ length ws) (filter_every all) (filter-fewer (is_past strict at) (λ word. true) (λ w e. refl) all) in
        let times : length (filter (is_past strict at) all) * length layers ≤ length all * length layers = mul-le-mul_right (length layers) none_more in
        let one_more : (length all + 1) * length layers ≡ length all * length layers + length layers = omega arith in
        omega (arith, so_far.few all each)

    module _ (word : List ℕ) (next : IsLeastWord (occurs_so from layers) number at strict word) where
      begins : begins_with from word ≡ true
      begins = (and_parts (begins_with from word) (occurs_in layers (term_of number (Word word))) next.there).0

      occurs_now : occurs_in layers (term_of number (Word word)) ≡ true
      occurs_now = (and_parts (begins_with from word) (occurs_in layers (term_of number (Word word))) next.there).1

      -- of the keys, those that the search is past come before the word
      past_is : All (λ other. is_past strict at other ≡ is_word_before other word) found
      past_is k d fits = by (get_or found k d) (found_occur k d fits) (is_word_from strict at (get_or found k d)) refl
        where
          by : (other : List ℕ) → occurs other ≡ true → (b : Bool) → is_word_from strict at other ≡ b → not b ≡ is_word_before other word
          by other o true e = sym (next.least other o e)
          by other o false e = sym (passed_before strict at other word e next.passes)

      kept_now : (now : List (List ℕ)) → now ≡ (if has_posting number (stack_table layers) word then words ++ word ∷ [] else words) → now ≡ filter (is_past true word) found
      kept_now now is = is ∙ by (has_posting number (stack_table layers) word) refl
        where
          has : list_any (is_word_at word) found ≡ has_posting number (stack_table layers) word
          has = any-prefix_words number from (stack_table layers) word begins

          older : words ≡ filter (comes_before word) found
          older = so_far.kept ∙ filter_alike (is_past strict at) (comes_before word) found past_is

          by : (b : Bool) → has_posting number (stack_table layers) word ≡ b → (if b then words ++ word ∷ [] else words) ≡ filter (is_not_after word) found
          by true e = ap (λ ws. ws ++ word ∷ []) older ∙ sym (up_to-with word found (prefix_words-sorted number from (stack_table layers)) (has ∙ e))
          by false e = older ∙ sym (up_to-without word found (has ∙ e))

      few_now : (all : List (List ℕ)) → HasEachWord number from layers all → after + length layers ≤ before + length (filter (is_past true word) all) * length layers
      few_now all each =
          let more : length (filter (is_past strict at) all) + 1 ≤ length (filter (is_past true word) all) =
          filter-less (is_past strict at) (is_past true word) (past_still strict at word next.passes) (is_word_at word) (not_past strict at word next.passes) (past_now strict at word next.passes) all (any_from_contains word all (each word begins occurs_now)) in
          let times : (length (filter (is_past strict at) all) + 1) * length layers ≤ length (filter (is_past true word) all) * length layers = mul-le-mul_right (length layers) more in
          let one_more : (length (filter (is_past strict at) all) + 1) * length layers ≡ length (filter (is_past strict at) all) * length layers + length layers = omega arith in
          omega (arith, so_far.few all each)

      pub search_goes_on : (now : List (List ℕ)) → now ≡ (if has_posting number (stack_table layers) word then words ++ word ∷ [] else words) → IsSearched number from layers true word now before (after + length layers)
      search_goes_on now is = record { kept = kept_now now is; begun = begun-not_before from word begins; few = few_now }

      pub fewer_left : count_left number from layers true word + 1 ≤ count_left number from layers strict at
      fewer_left =
          filter-less (is_word_from true word) (is_word_from strict at) (left_still strict at word next.passes) (is_word_at word) (not_left strict at word next.passes) (was_left strict at word next.passes) (occurring number from layers)
          (any_occurring number from word begins layers ∙ occurs_now)

    -- where no word is left, all keys are found
    pub search_ends : IsWordFrom (occurs_so from layers) number at strict None → words ≡ found
    search_ends none = so_far.kept ∙ filter_alike (is_past strict at) (λ word. true) found (λ k d fits. ap not (none _ (found_occur k d fits))) ∙ filter_every found
