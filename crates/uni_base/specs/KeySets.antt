-- Lists of keys as sets.
use Rattle.std.specs.Prelude.{◌≡◌, Bool, true, false, not, List, [], ◌∷◌, length, filter, map}
use Rattle.std.specs.List.{list_any}
use Rattle.std.specs.Ordering.{is_eq, match_ordering}
use Rattle.uni_base.specs.declared.entity.DocKey.{DocKey}
use Rattle.uni_base.specs.RankOrder.{doc_cmp}

-- whether a list has a key
abbrev pub has_key : List DocKey → DocKey → Bool
has_key keys k = list_any (λ x. is_eq (doc_cmp x k)) keys

-- a key at its place among keys in rank order, where it does not stand there already
abbrev pub add_key : DocKey → List DocKey → List DocKey
add_key k [] = k ∷ []
add_key k (x ∷ xs) = match_ordering (doc_cmp k x) (k ∷ x ∷ xs) (x ∷ xs) (x ∷ add_key k xs)

abbrev pub add_keys : List DocKey → List DocKey → List DocKey
add_keys [] ys = ys
add_keys (x ∷ xs) ys = add_key x (add_keys xs ys)

-- the keys that some list has, in rank order, each once
abbrev pub united : List (List DocKey) → List DocKey
united [] = []
united (keys ∷ lists) = add_keys keys (united lists)

-- the keys of a list but one
abbrev pub without : DocKey → List DocKey → List DocKey
without k keys = filter (λ x. not (is_eq (doc_cmp k x))) keys

-- whether a list has the first key of another
abbrev pub has_first : List DocKey → List DocKey → Bool
has_first keys [] = false
has_first keys (k ∷ ks) = has_key keys k

-- which lists have a key
abbrev pub holders : DocKey → List (List DocKey) → List Bool
holders k lists = map (λ keys. has_key keys k) lists

-- lists as they were and as they are: there are as many, and of the keys that are left each has those
-- that it had
pub record KeepsKeys (left : List DocKey) (olds news : List (List DocKey)) : Type 0 where
  pub count : length news ≡ length olds
  pub holders_stay : (k : DocKey) → has_key left k ≡ true → holders k news ≡ holders k olds
