-- What the keys of several lists make.
use Rattle.std.specs.Prelude.{List, filter, not}
use Rattle.std.specs.List.{list_all}
use Rattle.uni_base.specs.declared.entity.DocKey.{DocKey}
use Rattle.uni_base.specs.KeySets.{has_key, united}

-- the keys that all lists have, in rank order
abbrev pub common : List (List DocKey) → List DocKey
common lists = filter (λ k. list_all (λ keys. has_key keys k) lists) (united lists)

-- the keys of a list that another lacks
abbrev pub difference : List DocKey → List DocKey → List DocKey
difference firsts seconds = filter (λ k. not (has_key seconds k)) firsts
