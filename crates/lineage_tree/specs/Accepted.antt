-- Lists of edges that are accepted whole.
use Rattle.std.specs.Prelude.{Bool, List, [], Option, map, find, unwrap_or}
use Rattle.std.specs.List.{list_any, list_all}
use Rattle.uni_base.specs.declared.edge.EdgeRef.{EdgeRef}
use Rattle.uni_base.specs.declared.edge.Held.{Held}

-- whether some list has only edges that are accepted
abbrev pub some_accepted : (Held → Bool) → List (List Held) → Bool
some_accepted accepts lists = list_any (λ list. list_all accepts list) lists

-- the first such list
abbrev pub first_accepted : (Held → Bool) → List (List Held) → Option (List Held)
first_accepted accepts lists = find (λ list. list_all accepts list) lists

-- one verdict for each entry of a book
abbrev pub verdicts_of : (Held → Bool) → List (List (List Held)) → List Bool
verdicts_of accepts book = map (some_accepted accepts) book

-- the first such list, or the empty one
abbrev pub first_or_none : (Held → Bool) → List (List Held) → List Held
first_or_none accepts lists = unwrap_or (first_accepted accepts lists) []

-- the edges of a list without their audiences
abbrev pub edges_of : List Held → List EdgeRef
edges_of list = map (λ held. held.edge) list
