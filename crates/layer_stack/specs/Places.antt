-- The order of terms and of the places of postings.
use Rattle.std.specs.Prelude.{ℕ}
use Rattle.uni_base.specs.declared.edge.Key.{Key}
use Rattle.std.specs.declared.cmp.Ordering.{Ordering}
use Rattle.std.specs.Ordering.{nat_cmp, ordering_then}
use Rattle.uni_base.specs.EdgeOrder.{key_cmp}
use Rattle.uni_base.specs.RankOrder.{doc_cmp}
use Rattle.layer_stack.specs.declared.place.TermKey.{TermKey}
use Rattle.layer_stack.specs.declared.place.Place.{Place}

-- the term of a type and a start
abbrev pub term_of : ℕ → Key → TermKey
term_of type_no start = record { type_no = type_no; key = start }

-- by type number, then by key
abbrev pub term_cmp : TermKey → TermKey → Ordering
term_cmp a b = ordering_then (nat_cmp a.type_no b.type_no) (key_cmp a.key b.key)

-- by term, then in rank order
abbrev pub place_cmp : Place → Place → Ordering
place_cmp a b = ordering_then (term_cmp a.term b.term) (doc_cmp a.key b.key)
