-- Layers whose rows lie over a base. Under a term that the rows have, they stand alone, and under any
-- other one the base does.
use Rattle.std.specs.Prelude.{◌≡◌, ◌≤◌, ◌+◌, ◌^◌, ℕ, Bool, true, false, not, Option, None, Some, List, [], ◌∷◌, length, cond, is_some}
use Rattle.std.specs.List.{list_any}
use Rattle.std.specs.FinMap as finite
use Rattle.layer_base.specs.Layers.{put_all}
use Rattle.layer_stack.specs.declared.place.Place.{Place}
use Rattle.layer_stack.specs.declared.place.TermKey.{TermKey}
use Rattle.layer_stack.specs.Combined.{is_among}
use Rattle.layer_stack.specs.Postings.{PostingTable, PostingChanges, is_under, postings_of, putting_all}
use Rattle.layer_stack.specs.Spans.{word_of}
use Rattle.layer_stack.specs.Words.{has_term}

-- whether a place is under a term that rows leave alone
abbrev pub is_left : PostingChanges → Place → Bool
is_left rows place = not (has_term place.term rows)

-- the postings of rows over those of a base
abbrev pub laid_over : PostingTable → PostingChanges → PostingTable
laid_over base rows = put_all (finite.entries rows.puts) (finite.retain_keys base (is_left rows))

-- what a layer changes by rows, over a base if there is one
abbrev pub layer_of : PostingChanges → Option PostingChanges → PostingChanges
layer_of rows None = rows
layer_of rows (Some base) = putting_all (laid_over base.puts rows)

-- whether a term starts at a word
abbrev pub is_word : TermKey → Bool
is_word term = is_some (word_of term.key)

-- whether a table has postings under a term
abbrev pub has_postings : TermKey → PostingTable → Bool
has_postings term table = list_any (is_under term) (finite.entries table)

-- rows over a base that deletes nothing, and so many postings with both. Where the rows have a term
-- that starts at a word, they have postings under it.
pub record IsBased (rows base : PostingChanges) (count : ℕ) : Type 0 where
  pub counted : count ≡ finite.len (laid_over base.puts rows)
  pub few : count ≤ 2 ^ 62
  pub deletes : base.deletes ≡ finite.empty
  pub words : (term : TermKey) → is_word term ≡ true → has_term term rows ≡ true → has_postings term rows.puts ≡ true

-- under each term that is not among the changed ones, rows put what a table has
abbrev pub ArePutAlone : List (TermKey × Unit {0}) → PostingChanges → PostingTable → Type 0
ArePutAlone changed rows table = (term : TermKey) → is_among term changed ≡ false → postings_of term rows.puts ≡ postings_of term table

-- how many postings a table has under some terms
abbrev pub count_under : PostingTable → List (TermKey × Unit {0}) → ℕ
count_under table [] = 0
count_under table (e ∷ terms) = length (postings_of e.0 table) + count_under table terms

-- changes that have exactly the changed terms, and put under them what a table has
pub record IsPatch (changed : List (TermKey × Unit {0})) (table : PostingTable) (patch : PostingChanges) : Type 0 where
  pub deletes : (term : TermKey) → list_any (is_under term) (finite.entries patch.deletes) ≡ is_among term changed
  pub puts : (place : Place) → finite.get patch.puts place ≡ cond (is_among place.term changed) (finite.get table place) None
