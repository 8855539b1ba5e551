-- Tables of postings, and what changes them. A table has at most one posting at each place, and
-- is in the order of places.
use Rattle.std.specs.Prelude.{ℕ, ◌+◌, Bool, List, [], ◌∷◌, map, filter, reverse}
use Rattle.std.specs.Ordering.{eq_by_cmp}
use Rattle.std.specs.FinMap as finite
use Rattle.uni_base.specs.declared.edge.Audience.{Audience}
use Rattle.uni_base.specs.declared.entity.DocKey.{DocKey}
use Rattle.posting_lists.specs.declared.posting.Posting.{Posting}
use Rattle.layer_base.specs.Layers.{Changes, put_all}
use Rattle.layer_stack.specs.declared.place.TermKey.{TermKey}
use Rattle.layer_stack.specs.declared.place.Place.{Place}
use Rattle.layer_stack.specs.Places.{term_cmp, place_cmp}

-- a table of postings: the audience at each place that has a posting
abbrev pub PostingTable : Type 0
PostingTable = finite.FinMap place_cmp Audience

-- what a layer deletes and puts
abbrev pub PostingChanges : Type 0
PostingChanges = Changes place_cmp Audience

abbrev pub place_of : TermKey → DocKey → Place
place_of term key = record { term = term; key = key }

abbrev pub no_changes : PostingChanges
no_changes = record { deletes = finite.empty; puts = finite.empty }

-- what a layer deletes and what it puts
abbrev pub changes_of : finite.FinMap place_cmp (Unit {0}) → PostingTable → PostingChanges
changes_of deletes puts = record { deletes = deletes; puts = puts }

-- a layer that puts the postings of a table, and deletes nothing
abbrev pub putting_all : PostingTable → PostingChanges
putting_all = changes_of finite.empty

-- with one more place deleted
abbrev pub deleting : PostingChanges → Place → PostingChanges
deleting changes place = record { deletes = finite.insert changes.deletes place tt; puts = changes.puts }

-- with one more posting put
abbrev pub putting : PostingChanges → Place → Audience → PostingChanges
putting changes place audience = record { deletes = changes.deletes; puts = finite.insert changes.puts place audience }

-- changes, and later ones after them
abbrev pub joined : PostingChanges → PostingChanges → PostingChanges
joined old later = record { deletes = put_all (finite.entries later.deletes) old.deletes; puts = put_all (finite.entries later.puts) old.puts }

-- with rows deleted, one after another, and with rows put
abbrev pub deleting_rows : List (Place × Unit {0}) → PostingChanges → PostingChanges
deleting_rows rows changes = record { deletes = put_all (reverse rows) changes.deletes; puts = changes.puts }

abbrev pub putting_rows : List (Place × Audience) → PostingChanges → PostingChanges
putting_rows rows changes = record { deletes = changes.deletes; puts = put_all (reverse rows) changes.puts }

-- with postings put under a term, one after another
abbrev pub putting_list : TermKey → List Posting → PostingChanges → PostingChanges
putting_list term [] changes = changes
putting_list term (p ∷ ps) changes = putting_list term ps (putting changes (place_of term p.key) p.audience)

-- whether a row of a table is under a term
abbrev pub is_under : {V : Type 0} → TermKey → Place × V → Bool
is_under term row = eq_by_cmp term_cmp term row.0.term

-- the posting of a row
abbrev pub posting_of : Place × Audience → Posting
posting_of row = record { key = row.0.key; audience = row.1 }

-- the postings of a term in a table, in rank order
abbrev pub postings_of : TermKey → PostingTable → List Posting
postings_of term table = map posting_of (filter (is_under term) (finite.entries table))

-- the key of a row
abbrev pub key_of : {V : Type 0} → Place × V → DocKey
key_of row = row.0.key

-- the keys that a layer deletes under a term, in rank order
abbrev pub deletes_of : TermKey → PostingChanges → List DocKey
deletes_of term layer = map key_of (filter (is_under term) (finite.entries layer.deletes))

-- the number of deletes and puts
abbrev pub entries_of : PostingChanges → ℕ
entries_of layer = finite.len layer.deletes + finite.len layer.puts
