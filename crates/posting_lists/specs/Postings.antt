-- Postings as lists.
use Rattle.std.specs.Prelude.{ℕ, ◌-◌, not, List, [], ◌∷◌, map, filter, take, drop}
use Rattle.uni_base.specs.declared.edge.Audience.{Audience}
use Rattle.uni_base.specs.declared.entity.DocKey.{DocKey}
use Rattle.uni_base.specs.Cursors.{is_before}
use Rattle.posting_lists.specs.declared.posting.Posting.{Posting}

-- the keys of postings
abbrev pub keys_of : List Posting → List DocKey
keys_of = map (λ p. p.key)

-- the postings whose keys do not come before a given one
abbrev pub postings_from : DocKey → List Posting → List Posting
postings_from from = filter (λ p. not (is_before p.key from))

-- the part of a list from one place to another
abbrev pub section : {X : Type 0} → ℕ → ℕ → List X → List X
section from to xs = take (to - from) (drop from xs)

-- keys with their audiences
abbrev pub joined : List DocKey → List Audience → List Posting
joined [] audiences = []
joined (k ∷ keys) [] = []
joined (k ∷ keys) (a ∷ audiences) = record { key = k; audience = a } ∷ joined keys audiences
