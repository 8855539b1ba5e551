-- The keys of a prefix term.
use Rattle.std.specs.Prelude.{ℕ, Bool, true, false, ◌==◌, ◌&&◌, if◌then◌else◌, List, [], ◌∷◌, Option, None, Some}
use Rattle.std.specs.List.{dedup, filter_map}
use Rattle.uni_base.specs.declared.edge.Key.{Key}
use Rattle.uni_base.specs.declared.edge.Key.TheVariants.{Id, Word}
use Rattle.uni_base.specs.Fields.{same}
use Rattle.uni_table.specs.Contents.{Contents}

-- whether a text begins with another
abbrev pub begins_with : List ℕ → List ℕ → Bool
begins_with [] text = true
begins_with (b ∷ bs) [] = false
begins_with (b ∷ bs) (c ∷ cs) = b == c && begins_with bs cs

-- the key of an edge, if it is a word that begins so and the edge is of the type
abbrev pub word_of : ℕ → List ℕ → ℕ → Key → Option (List ℕ)
word_of number from type_no (Id id) = None
word_of number from type_no (Word text) = if number == type_no && begins_with from text then Some text else None

-- the keys of a prefix term: the words that begin so and under which the table has an edge of the type,
-- each once, in the order of their bytes. Edges stand in that order
abbrev pub prefix_keys : Contents → ℕ → List ℕ → List (List ℕ)
prefix_keys table number from = dedup same (filter_map (λ e. word_of number from e.0.type_no e.0.key) table.edges)
