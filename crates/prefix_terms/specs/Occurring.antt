-- Words at which terms start in some layer of a stack.
use Rattle.std.specs.Prelude.{◌≡◌, ◌≤◌, ◌+◌, ◌*◌, ℕ, Bool, true, ◌&&◌, List, length}
use Rattle.std.specs.List.{list_any, Contains}
use Rattle.uni_base.specs.declared.edge.Key.TheVariants.{Word}
use Rattle.uni_meaning.specs.Prefixes.{begins_with}
use Rattle.uni_meaning.specs.Standings.{is_word_from as is_begun}
use Rattle.layer_stack.specs.declared.place.TermKey.{TermKey}
use Rattle.layer_stack.specs.Places.{term_of}
use Rattle.layer_stack.specs.Postings.{PostingChanges}
use Rattle.layer_stack.specs.Words.{has_term}

-- whether some layer deletes or puts under a term
abbrev pub occurs_in : List PostingChanges → TermKey → Bool
occurs_in layers term = list_any (has_term term) layers

-- whether some layer does, and the term starts at a word that begins so
abbrev pub occurs_so : List ℕ → List PostingChanges → TermKey → Bool
occurs_so from layers term = is_begun from term.key && occurs_in layers term

-- a list has each word that begins so under which some layer has something of the type
abbrev pub HasEachWord : ℕ → List ℕ → List PostingChanges → List (List ℕ) → Type 0
HasEachWord number from layers words = (word : List ℕ) → begins_with from word ≡ true → occurs_in layers (term_of number (Word word)) ≡ true → Contains words word

-- a count of steps rose by no more than one for each layer at each such word, and once more: whichever
-- list has all these words, it has no fewer
abbrev pub AreFewSteps : ℕ → ℕ → ℕ → List ℕ → List PostingChanges → Type 0
AreFewSteps before after number from layers = (words : List (List ℕ)) → HasEachWord number from layers words → after ≤ before + (length words + 1) * length layers
