-- What the oldest layers of a stack put together, term by term.
use Rattle.std.specs.Prelude.{◌≡◌, T, Bool, false, List, [], ◌∷◌}
use Rattle.std.specs.List.{list_any}
use Rattle.std.specs.FinMap.{is_sorted}
use Rattle.layer_base.specs.Among as among
use Rattle.posting_lists.specs.declared.posting.Posting.{Posting}
use Rattle.layer_stack.specs.declared.directory.Span.{Span}
use Rattle.layer_stack.specs.declared.place.TermKey.{TermKey}
use Rattle.layer_stack.specs.Places.{term_cmp}
use Rattle.layer_stack.specs.Postings.{PostingTable, PostingChanges, postings_of, putting_list}
use Rattle.layer_stack.specs.Spans.{span_of, told}
use Rattle.layer_stack.specs.Words.{has_term}

-- whether a term is among those of a list
abbrev pub is_among : {X : Type 0} → TermKey → List (TermKey × X) → Bool
is_among = among.is_among term_cmp

-- whether one of the layers deletes or puts under a term
abbrev pub is_changed : TermKey → List PostingChanges → Bool
is_changed term layers = list_any (has_term term) layers

-- terms in order, such that the layers delete and put under no other one
pub record AreChanged (layers : List PostingChanges) (terms : List (TermKey × Unit {0})) : Type 0 where
  pub sorted : T (is_sorted term_cmp terms)
  pub others : (term : TermKey) → is_among term terms ≡ false → is_changed term layers ≡ false

-- with the postings put that a table has under some terms
abbrev pub putting_terms : PostingTable → List (TermKey × Unit {0}) → PostingChanges → PostingChanges
putting_terms table [] changes = changes
putting_terms table (e ∷ es) changes = putting_terms table es (putting_list e.0 (postings_of e.0 table) changes)

-- what spans tell is what a table has, under each term that is not among the changed ones
abbrev pub StandsAlone : List (TermKey × Unit {0}) → List (TermKey × Span) → List Posting → PostingTable → Type 0
StandsAlone changed spans postings table = (t : TermKey) → is_among t changed ≡ false → told (span_of t spans) postings ≡ postings_of t table
