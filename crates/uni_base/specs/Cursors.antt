-- Lists of keys that are read from the front.
use Rattle.std.specs.Prelude.{◌≡◌, Bool, true, false, not, List, [], ◌∷◌, All, filter}
use Rattle.std.specs.declared.cmp.Ordering.{Ordering}
use Rattle.std.specs.declared.cmp.Ordering.TheVariants.{Less, Equal, Greater}
use Rattle.uni_base.specs.declared.entity.DocKey.{DocKey}
use Rattle.uni_base.specs.RankOrder.{doc_cmp}

-- whether a comparison says that the first comes before the second
abbrev pub is_less : Ordering → Bool
is_less Less = true
is_less Equal = false
is_less Greater = false

-- whether a key comes before another in rank order
abbrev pub is_before : DocKey → DocKey → Bool
is_before a b = is_less (doc_cmp a b)

-- strictly in rank order: each key comes before all that follow it
abbrev pub IsRanked : List DocKey → Type 0
IsRanked [] = Unit {0}
IsRanked (key ∷ keys) = All (λ k. is_before key k ≡ true) keys × IsRanked keys

-- the keys that do not come before a given one
abbrev pub keys_from : DocKey → List DocKey → List DocKey
keys_from from keys = filter (λ k. not (is_before k from)) keys
