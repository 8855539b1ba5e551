-- Words at which terms start.
use Rattle.std.specs.Prelude.{◌≡◌, ℕ, Bool, true, false, not, ◌||◌, List, Option, None, Some, cond}
use Rattle.std.specs.List.{list_any}
use Rattle.std.specs.Ordering.{is_lt, nat_cmp}
use Rattle.std.specs.Cmp.Lexicographic.{slice_cmp}
use Rattle.std.specs.FinMap as finite
use Rattle.uni_base.specs.declared.edge.Key.TheVariants.{Word}
use Rattle.layer_stack.specs.declared.place.TermKey.{TermKey}
use Rattle.layer_stack.specs.Places.{term_of}
use Rattle.layer_stack.specs.Postings.{PostingChanges, is_under}

-- whether a layer deletes or puts under a term
abbrev pub has_term : TermKey → PostingChanges → Bool
has_term term layer = list_any (is_under term) (finite.entries layer.deletes) || list_any (is_under term) (finite.entries layer.puts)

-- whether a word comes before another, by their bytes
abbrev pub is_word_before : List ℕ → List ℕ → Bool
is_word_before a b = is_lt (slice_cmp nat_cmp a b)

-- whether a word comes at a given one or after it, and after it where strict
abbrev pub is_word_from : Bool → List ℕ → List ℕ → Bool
is_word_from strict from word = cond strict (is_word_before from word) (not (is_word_before word from))

-- a word under which a type has something is the least such one from a given word on
pub record IsLeastWord (has : TermKey → Bool) (type_no : ℕ) (from : List ℕ) (strict : Bool) (word : List ℕ) : Type 0 where
  pub there : has (term_of type_no (Word word)) ≡ true
  pub passes : is_word_from strict from word ≡ true
  pub least : (other : List ℕ) → has (term_of type_no (Word other)) ≡ true → is_word_from strict from other ≡ true → is_word_before other word ≡ false

-- the least word from a given one on under which a type has something, if there is one
abbrev pub IsWordFrom : (TermKey → Bool) → ℕ → List ℕ → Bool → Option (List ℕ) → Type 0
IsWordFrom has type_no from strict None = (word : List ℕ) → has (term_of type_no (Word word)) ≡ true → is_word_from strict from word ≡ false
IsWordFrom has type_no from strict (Some word) = IsLeastWord has type_no from strict word
