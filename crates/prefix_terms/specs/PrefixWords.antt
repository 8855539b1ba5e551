-- The keys of a prefix term in a table of postings.
use Rattle.std.specs.Prelude.{ℕ, Bool, List}
use Rattle.std.specs.List.{dedup, filter_map, list_any}
use Rattle.std.specs.FinMap as finite
use Rattle.uni_base.specs.Fields.{same}
use Rattle.uni_base.specs.declared.edge.Key.TheVariants.{Word}
use Rattle.layer_stack.specs.Places.{term_of}
use Rattle.layer_stack.specs.Postings.{PostingTable, is_under}
use Rattle.uni_meaning.specs.Prefixes.{word_of}

-- the keys of a prefix term: the words that begin so and under which the table has a posting of the
-- type, each once, in the order of their bytes. Postings stand in that order
abbrev pub prefix_words : ℕ → List ℕ → PostingTable → List (List ℕ)
prefix_words number from table = dedup same (filter_map (λ e. word_of number from e.0.term.type_no e.0.term.key) (finite.entries table))

-- whether a table has a posting of a type at a word
abbrev pub has_posting : ℕ → PostingTable → List ℕ → Bool
has_posting number table word = list_any (is_under (term_of number (Word word))) (finite.entries table)
