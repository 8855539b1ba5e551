-- The marks of the terms of a directory.
use Rattle.std.specs.Prelude.{◌≡◌, ℕ, ◌+◌, ◌%◌, List, Bool, true, false, Option, None, Some, All, slice_get}
use Rattle.uni_base.specs.declared.edge.Key.{Key}
use Rattle.uni_base.specs.declared.edge.Key.TheVariants.{Id, Word}
use Rattle.layer_stack.specs.declared.place.TermKey.{TermKey}
use Rattle.layer_stack.specs.declared.term_spans.TermSpans.{TermSpans}

-- the number of the id at which a term starts, 0 for a word
abbrev pub start_no : Key → ℕ
start_no (Id id) = id
start_no (Word word) = 0

-- the place of the mark of a term
abbrev pub mark_of : TermKey → ℕ
mark_of term = (start_no term.key % 1021 + term.type_no % 1021) % 1021

-- whether there is a mark that is not set
abbrev pub is_unset : Option Bool → Bool
is_unset None = false
is_unset (Some true) = false
is_unset (Some false) = true

-- whether a term is surely none of those that have their marks
abbrev pub is_ruled_out : List Bool → TermKey → Bool
is_ruled_out marks term = is_unset (slice_get marks (mark_of term))

-- no term of a directory is ruled out
abbrev pub AreMarked : List Bool → List (TermKey × TermSpans) → Type 0
AreMarked marks entries = All (λ e. is_ruled_out marks e.0 ≡ false) entries
