-- What a stack has under one term: the deleted keys and the postings of each layer that has the
-- term, the oldest first.
use Rattle.std.specs.Prelude.{◌≡◌, Bool, true, false, Option, None, Some, List, [], ◌∷◌, ◌++◌, ◌==◌, ◌&&◌, length, map, filter, All, cond}
use Rattle.std.specs.List.{slice_get}
use Rattle.std.specs.Ordering.{is_eq}
use Rattle.std.specs.FinMap as finite
use Rattle.uni_base.specs.declared.edge.Audience.{Audience}
use Rattle.uni_base.specs.declared.entity.DocKey.{DocKey}
use Rattle.uni_base.specs.Cursors.{is_before, IsRanked}
use Rattle.uni_base.specs.RankOrder.{doc_cmp}
use Rattle.posting_lists.specs.declared.posting.Posting.{Posting}
use Rattle.posting_lists.specs.Postings.{keys_of}
use Rattle.layer_base.specs.Layers.{Changes, stack_table}

-- what one layer has under the term: the keys that it deletes, and the postings that it puts
abbrev pub PartValue : Type 0
PartValue = List DocKey × List Posting

-- what older layers have, and then the newest, if there is one
abbrev pub and_newest : List PartValue → Option PartValue → List PartValue
and_newest older None = older
and_newest older (Some newest) = older ++ newest ∷ []

-- with what one more layer has, if it has anything
abbrev pub has_nothing : PartValue → Bool
has_nothing part = (length part.0 == 0) && (length part.1 == 0)

abbrev pub and_part : List PartValue → PartValue → List PartValue
and_part parts part = cond (has_nothing part) parts (parts ++ part ∷ [])

-- a posting as an entry at its key
abbrev pub entry_of : Posting → DocKey × Audience
entry_of p = (p.key, p.audience)

abbrev pub posting_at : DocKey × Audience → Posting
posting_at e = record { key = e.0; audience = e.1 }

-- a deleted key, with nothing at it
abbrev pub deleted_at : DocKey → DocKey × Unit {0}
deleted_at k = (k, tt)

-- what the layer deletes and puts under the term
abbrev pub part_changes : PartValue → Changes doc_cmp Audience
part_changes part = record { deletes = finite.from_entries (map deleted_at part.0); puts = finite.from_entries (map entry_of part.1) }

-- what the layers stand for under the term
abbrev pub part_table : List PartValue → finite.FinMap doc_cmp Audience
part_table parts = stack_table (map part_changes parts)

-- its postings, in rank order
abbrev pub remaining_of : List PartValue → List Posting
remaining_of parts = map posting_at (finite.entries (part_table parts))

-- a posting, if there is one, and then others
abbrev pub first_and : Option Posting → List Posting → List Posting
first_and None ps = ps
first_and (Some p) ps = p ∷ ps

-- whether the first posting comes before a key, or there is none
abbrev pub first_before : DocKey → List Posting → Bool
first_before key [] = true
first_before key (p ∷ ps) = is_before p.key key

-- a part whose postings are those that pass a test of their keys
abbrev pub part_where : (DocKey → Bool) → PartValue → PartValue
part_where p part = (part.0, filter (λ x. p x.key) part.1)

-- no posting of a part stands before a key
abbrev pub StandsFrom : DocKey → PartValue → Type 0
StandsFrom key part = All (λ x. is_before x.key key ≡ false) part.1

-- whether the first posting is at a key
abbrev pub stands_at : DocKey → List Posting → Bool
stands_at key [] = false
stands_at key (p ∷ ps) = is_eq (doc_cmp p.key key)

-- the key of the first posting
abbrev pub head_of : PartValue → Option DocKey
head_of part = slice_get (keys_of part.1) 0

-- the lesser of two keys that may be missing
abbrev pub lesser : Option DocKey → Option DocKey → Option DocKey
lesser None b = b
lesser (Some x) None = Some x
lesser (Some x) (Some y) = cond (is_before x y) (Some x) (Some y)

-- the least of a key and the keys of the first postings
abbrev pub least_from : Option DocKey → List PartValue → Option DocKey
least_from least [] = least
least_from least (part ∷ parts) = least_from (lesser least (head_of part)) parts

-- parts whose postings are in rank order, and the least key at which one of them stands
pub record StandAt (head : Option DocKey) (parts : List PartValue) : Type 0 where
  pub least : head ≡ least_from None parts
  pub ranked : All (λ part. IsRanked (keys_of part.1)) parts
