-- How entities stand under walks.
use Rattle.std.proofs.Common.{◌≡◌, ◌+◌, ◌&&◌, ◌||◌, ℕ, Bool, true, false, if◌then◌else◌, List, [], ◌∷◌, refl, sym, ◌∙◌, ap, subst, map}
use Rattle.std.proofs.lemmas.Bool.{and_parts}
use Rattle.std.specs.List.{Contains, list_all, list_any}
use Rattle.std.specs.Ordering.{is_eq}
use Rattle.uni_base.specs.RankOrder.{doc_cmp}
use Rattle.uni_base.specs.Walks.{Walker, has_share, lets_pass, spent, strong_keeps, strong_walk, walked, weak_keeps, weak_walk}
use Rattle.uni_base.specs.declared.entity.DocKey.{DocKey}
use Rattle.uni_base.proofs.RankedLemmas.{is_eq_same, same_from_is_eq}
use Rattle.query_tree.specs.declared.kind.ListKind.{ListKind}
use Rattle.query_tree.specs.declared.kind.ListKind.TheVariants.{And, Or, Difference, WeakAnd, StrongOr}
use Rattle.query_tree.specs.declared.query.Mark.{Mark}
use Rattle.query_tree.specs.declared.query.Mark.TheVariants.{Plain, Hits, Weight}
use Rattle.uni_table.proofs.Listed.{first_is, later_is}
use Rattle.uni_meaning.specs.Hits.{is_among, quota_of}
use Rattle.uni_meaning.specs.Standings.{hit_by}
use Rattle.uni_meaning.specs.Walking.{counted, counted_from, has_at, spent_mark, walk_keeps, walkers_from}
use Rattle.uni_meaning.specs.declared.pace.Counter.{Counter}
use Rattle.uni_meaning.specs.declared.standing.Standing.{Standing}
use Rattle.uni_meaning.specs.declared.standing.Standing.TheVariants.{Missed}
use Rattle.uni_meaning.proofs.Arrivals.{any_from}

spent_is : (mark : Mark) → quota_of (spent_mark mark) ≡ spent (quota_of mark)
spent_is Plain = refl
spent_is (Hits left) = refl
spent_is (Weight n d) = refl

-- counters that count for operands: the same quotas, and as many of their own
abbrev pub Alike : List Counter → List (Walker DocKey) → Type 0
Alike [] [] = Unit {0}
Alike [] (o ∷ os) = ⊥
Alike (c ∷ cs) [] = ⊥
Alike (c ∷ cs) (o ∷ os) = (quota_of c.mark ≡ o.quota) × (c.own ≡ o.own) × Alike cs os

-- how an entity stands under operands, the first one at a place, agrees with which of them have it
abbrev pub Agrees : ℕ → List Standing → DocKey → List (Walker DocKey) → Type 0
Agrees j row x [] = Unit {0}
Agrees j row x (o ∷ os) = (has_at j row ≡ o.has x) × Agrees (j + 1) row x os

any_alike : (j : ℕ) (row : List Standing) (x : DocKey) (cs : List Counter) (os : List (Walker DocKey)) → Alike cs os → Agrees j row x os → list_any (λ o. o.has row) (walkers_from j cs) ≡ list_any (λ o. o.has x) os
any_alike j row x [] [] alike agrees = refl
any_alike j row x [] (o ∷ os) alike agrees = absurd alike
any_alike j row x (c ∷ cs) [] alike agrees = absurd alike
any_alike j row x (c ∷ cs) (o ∷ os) alike agrees = λ i. agrees.0 i || any_alike (j + 1) row x cs os alike.2 agrees.1 i

weak_alike : (kept j : ℕ) (row : List Standing) (x : DocKey) (cs : List Counter) (os : List (Walker DocKey)) → Alike cs os → Agrees j row x os
    → list_all (λ o. o.has row || lets_pass kept o.quota o.own) (walkers_from j cs) ≡ list_all (λ o. o.has x || lets_pass kept o.quota o.own) os
weak_alike kept j row x [] [] alike agrees = refl
weak_alike kept j row x [] (o ∷ os) alike agrees = absurd alike
weak_alike kept j row x (c ∷ cs) [] alike agrees = absurd alike
weak_alike kept j row x (c ∷ cs) (o ∷ os) alike agrees =
    λ i. (agrees.0 i || lets_pass kept (alike.0 i) (alike.1 i)) && weak_alike kept (j + 1) row x cs os alike.2 agrees.1 i

strong_alike : (kept j : ℕ) (row : List Standing) (x : DocKey) (cs : List Counter) (os : List (Walker DocKey)) → Alike cs os → Agrees j row x os
    → list_all (λ o. has_share (kept + 1) o.quota (if o.has row then o.own + 1 else o.own)) (walkers_from j cs) ≡ list_all (λ o. has_share (kept + 1) o.quota (if o.has x then o.own + 1 else o.own)) os
strong_alike kept j row x [] [] alike agrees = refl
strong_alike kept j row x [] (o ∷ os) alike agrees = absurd alike
strong_alike kept j row x (c ∷ cs) [] alike agrees = absurd alike
strong_alike kept j row x (c ∷ cs) (o ∷ os) alike agrees =
    λ i. has_share (kept + 1) (alike.0 i) (if agrees.0 i then alike.1 i + 1 else alike.1 i) && strong_alike kept (j + 1) row x cs os alike.2 agrees.1 i

quota_counted : (c : Counter) (o : Walker DocKey) → quota_of c.mark ≡ o.quota → (b : Bool)
    → quota_of (counted b c).mark ≡ (elim b as (λ z. Walker DocKey) [ true ↦ record o { own = o.own + 1 } | false ↦ record o { quota = spent o.quota } ]).quota
quota_counted c o same true = same
quota_counted c o same false = spent_is c.mark ∙ ap spent same

own_counted : (c : Counter) (o : Walker DocKey) → c.own ≡ o.own → (b : Bool)
    → (counted b c).own ≡ (elim b as (λ z. Walker DocKey) [ true ↦ record o { own = o.own + 1 } | false ↦ record o { quota = spent o.quota } ]).own
own_counted c o same true = ap (λ n. n + 1) same
own_counted c o same false = same

has_walked : (o : Walker DocKey) (x : DocKey) (b : Bool) → (elim b as (λ z. Walker DocKey) [ true ↦ record o { own = o.own + 1 } | false ↦ record o { quota = spent o.quota } ]).has x ≡ o.has x
has_walked o x true = refl
has_walked o x false = refl

counted_alike : (j : ℕ) (row : List Standing) (x : DocKey) (cs : List Counter) (os : List (Walker DocKey)) → Alike cs os → Agrees j row x os → Alike (counted_from j row cs) (map (walked x) os)
counted_alike j row x [] [] alike agrees = tt
counted_alike j row x [] (o ∷ os) alike agrees = absurd alike
counted_alike j row x (c ∷ cs) [] alike agrees = absurd alike
counted_alike j row x (c ∷ cs) (o ∷ os) alike agrees = (
  ap (λ z. quota_of (counted z c).mark) agrees.0 ∙ quota_counted c o alike.0 (o.has x),
  ap (λ z. (counted z c).own) agrees.0 ∙ own_counted c o alike.1 (o.has x),
  counted_alike (j + 1) row x cs os alike.2 agrees.1,
)

-- how operands agree, once an entity is counted
agrees_walked : (j : ℕ) (row : List Standing) (x y : DocKey) (os : List (Walker DocKey)) → Agrees j row x os → Agrees j row x (map (walked y) os)
agrees_walked j row x y [] agrees = tt
agrees_walked j row x y (o ∷ os) agrees = (agrees.0 ∙ sym (has_walked o x (o.has y)), agrees_walked (j + 1) row x y os agrees.1)

any_walked : (x y : DocKey) (os : List (Walker DocKey)) → list_any (λ o. o.has x) (map (walked y) os) ≡ list_any (λ o. o.has x) os
any_walked x y [] = refl
any_walked x y (o ∷ os) = λ i. has_walked o x (o.has y) i || any_walked x y os i

-- whether a walk keeps an entity
abbrev pub doc_keeps : ListKind → ℕ → List (Walker DocKey) → DocKey → Bool
doc_keeps And kept os x = weak_keeps kept os x
doc_keeps Or kept os x = weak_keeps kept os x
doc_keeps Difference kept os x = weak_keeps kept os x
doc_keeps WeakAnd kept os x = weak_keeps kept os x
doc_keeps StrongOr kept os x = strong_keeps kept os x

keeps_alike : (kind : ListKind) (kept : ℕ) (row : List Standing) (x : DocKey) (cs : List Counter) (os : List (Walker DocKey)) → Alike cs os → Agrees 0 row x os → walk_keeps kind kept (walkers_from 0 cs) row ≡ doc_keeps kind kept os x
keeps_alike And kept row x cs os alike agrees = λ i. any_alike 0 row x cs os alike agrees i && weak_alike kept 0 row x cs os alike agrees i
keeps_alike Or kept row x cs os alike agrees = λ i. any_alike 0 row x cs os alike agrees i && weak_alike kept 0 row x cs os alike agrees i
keeps_alike Difference kept row x cs os alike agrees = λ i. any_alike 0 row x cs os alike agrees i && weak_alike kept 0 row x cs os alike agrees i
keeps_alike WeakAnd kept row x cs os alike agrees = λ i. any_alike 0 row x cs os alike agrees i && weak_alike kept 0 row x cs os alike agrees i
keeps_alike StrongOr kept row x cs os alike agrees = λ i. any_alike 0 row x cs os alike agrees i && strong_alike kept 0 row x cs os alike agrees i

-- what a walk keeps
abbrev pub doc_walk : ListKind → ℕ → List (Walker DocKey) → List DocKey → List DocKey
doc_walk And kept os xs = weak_walk kept os xs
doc_walk Or kept os xs = weak_walk kept os xs
doc_walk Difference kept os xs = weak_walk kept os xs
doc_walk WeakAnd kept os xs = weak_walk kept os xs
doc_walk StrongOr kept os xs = strong_walk kept os xs

pub doc_step : (kind : ListKind) (kept : ℕ) (os : List (Walker DocKey)) (x : DocKey) (xs : List DocKey)
    → doc_walk kind kept os (x ∷ xs) ≡ (elim (doc_keeps kind kept os x) as (λ b. List DocKey) [ true ↦ x ∷ doc_walk kind (kept + 1) (map (walked x) os) xs | false ↦ doc_walk kind kept os xs ])
doc_step And kept os x xs = refl
doc_step Or kept os x xs = refl
doc_step Difference kept os x xs = refl
doc_step WeakAnd kept os x xs = refl
doc_step StrongOr kept os x xs = refl

pub doc_none : (kind : ListKind) (kept : ℕ) (os : List (Walker DocKey)) → doc_walk kind kept os [] ≡ []
doc_none And kept os = refl
doc_none Or kept os = refl
doc_none Difference kept os = refl
doc_none WeakAnd kept os = refl
doc_none StrongOr kept os = refl

any_kept : (kind : ListKind) (kept : ℕ) (os : List (Walker DocKey)) (x : DocKey) → doc_keeps kind kept os x ≡ true → list_any (λ o. o.has x) os ≡ true
any_kept And kept os x e = (and_parts (list_any (λ o. o.has x) os) _ e).0
any_kept Or kept os x e = (and_parts (list_any (λ o. o.has x) os) _ e).0
any_kept Difference kept os x e = (and_parts (list_any (λ o. o.has x) os) _ e).0
any_kept WeakAnd kept os x e = (and_parts (list_any (λ o. o.has x) os) _ e).0
any_kept StrongOr kept os x e = (and_parts (list_any (λ o. o.has x) os) _ e).0

-- what a walk keeps some operand has
pub walk_found : (kind : ListKind) (kept : ℕ) (os : List (Walker DocKey)) (xs : List DocKey) (x : DocKey) → is_among (doc_walk kind kept os xs) x ≡ true → list_any (λ o. o.has x) os ≡ true
walk_found kind kept os [] x e = let none : is_among (doc_walk kind kept os []) x ≡ false = ap (λ (ks : List DocKey). is_among ks x) (doc_none kind kept os) in let no_way : true ≡ false = sym e ∙ none in absurd cc
walk_found kind kept os (y ∷ xs) x e =
    by (doc_keeps kind kept os y) refl (ap (λ (ks : List DocKey). is_among ks x) (sym (doc_step kind kept os y xs)) ∙ e) (walk_found kind (kept + 1) (map (walked y) os) xs x) (walk_found kind kept os xs x)
  where
    more : List DocKey
    more = doc_walk kind (kept + 1) (map (walked y) os) xs

    at : (c : Bool) → is_eq (doc_cmp x y) ≡ c → doc_keeps kind kept os y ≡ true → (c || is_among more x) ≡ true → (is_among more x ≡ true → list_any (λ o. o.has x) (map (walked y) os) ≡ true) → list_any (λ o. o.has x) os ≡ true
    at true f k h rest = ap (λ z. list_any (λ o. o.has z) os) (same_from_is_eq x y f) ∙ any_kept kind kept os y k
    at false f k h rest = sym (any_walked x y os) ∙ rest h

    by : (b : Bool) → doc_keeps kind kept os y ≡ b
        → is_among (elim b as (λ c. List DocKey) [ true ↦ y ∷ more | false ↦ doc_walk kind kept os xs ]) x ≡ true
        → (is_among more x ≡ true → list_any (λ o. o.has x) (map (walked y) os) ≡ true) → (is_among (doc_walk kind kept os xs) x ≡ true → list_any (λ o. o.has x) os ≡ true) → list_any (λ o. o.has x) os ≡ true
    by true k h kept_rest rest = at (is_eq (doc_cmp x y)) refl k h kept_rest
    by false k h kept_rest rest = rest h

-- what is not among entities is not among those that a walk keeps of them
pub walk_within : (kind : ListKind) (kept : ℕ) (os : List (Walker DocKey)) (xs : List DocKey) (x : DocKey) → is_among xs x ≡ false → is_among (doc_walk kind kept os xs) x ≡ false
walk_within kind kept os [] x e = ap (λ (ks : List DocKey). is_among ks x) (doc_none kind kept os)
walk_within kind kept os (y ∷ xs) x e =
    ap (λ (ks : List DocKey). is_among ks x) (doc_step kind kept os y xs) ∙ by (doc_keeps kind kept os y) (is_eq (doc_cmp x y)) refl e (walk_within kind (kept + 1) (map (walked y) os) xs x) (walk_within kind kept os xs x)
  where
    by : (b c : Bool) → is_eq (doc_cmp x y) ≡ c → (c || is_among xs x) ≡ false → (is_among xs x ≡ false → is_among (doc_walk kind (kept + 1) (map (walked y) os) xs) x ≡ false)
        → (is_among xs x ≡ false → is_among (doc_walk kind kept os xs) x ≡ false)
        → is_among (elim b as (λ d. List DocKey) [ true ↦ y ∷ doc_walk kind (kept + 1) (map (walked y) os) xs | false ↦ doc_walk kind kept os xs ]) x ≡ false
    by b true f h kept_rest rest = cc
    by true false f h kept_rest rest = ap (λ d. d || is_among (doc_walk kind (kept + 1) (map (walked y) os) xs) x) f ∙ kept_rest h
    by false false f h kept_rest rest = rest h

-- entities of which no two are one
abbrev pub AllApart : List DocKey → Type 0
AllApart [] = Unit {0}
AllApart (x ∷ xs) = (is_among xs x ≡ false) × AllApart xs

among_there : (xs : List DocKey) (x : DocKey) → Contains xs x → is_among xs x ≡ true
among_there xs x there = any_from (λ y. is_eq (doc_cmp x y)) xs x there (is_eq_same x x refl)

map_agree : (f g : DocKey → Standing) (xs : List DocKey) → ((x : DocKey) → Contains xs x → f x ≡ g x) → map f xs ≡ map g xs
map_agree f g [] same = refl
map_agree f g (x ∷ xs) same = λ i. same x (first_is x xs) i ∷ map_agree f g xs (λ y there. same y (later_is x xs y there)) i

module _ (kind : ListKind) (f : DocKey → List Standing) where
  -- how the entities of a shard stand, along the walk in it
  abbrev pub seg : ℕ → List Counter → List DocKey → List Standing
  seg kept cs [] = []
  seg kept cs (x ∷ xs) = elim (walk_keeps kind kept (walkers_from 0 cs) (f x)) as (λ b. List Standing) [
    | true ↦ hit_by kind (f x) ∷ seg (kept + 1) (counted_from 0 (f x) cs) xs
    | false ↦ Missed ∷ seg kept cs xs
  ]

  -- how an entity stands by what is kept
  abbrev pub by_kept : List DocKey → DocKey → Standing
  by_kept ks x = if is_among ks x then hit_by kind (f x) else Missed

  pub seg_is : (kept : ℕ) (cs : List Counter) (os : List (Walker DocKey)) (xs : List DocKey) → Alike cs os → AllApart xs → ((x : DocKey) → Contains xs x → Agrees 0 (f x) x os)
      → seg kept cs xs ≡ map (by_kept (doc_walk kind kept os xs)) xs
  seg_is kept cs os [] alike apart agrees = refl
  seg_is kept cs os (x ∷ xs) alike apart agrees =
      ap (λ b. elim b as (λ c. List Standing) [ true ↦ hit_by kind (f x) ∷ seg (kept + 1) (counted_from 0 (f x) cs) xs | false ↦ Missed ∷ seg kept cs xs ])
      (keeps_alike kind kept (f x) x cs os alike (agrees x (first_is x xs)))
      ∙ by (doc_keeps kind kept os x) refl
      (seg_is (kept + 1) (counted_from 0 (f x) cs) (map (walked x) os) xs (counted_alike 0 (f x) x cs os alike (agrees x (first_is x xs))) apart.1 (λ y there. agrees_walked 0 (f y) y x os (agrees y (later_is x xs y there))))
      (seg_is kept cs os xs alike apart.1 (λ y there. agrees y (later_is x xs y there)))
      ∙ ap (λ (ks : List DocKey). map (by_kept ks) (x ∷ xs)) (sym (doc_step kind kept os x xs))
    where
      kept_more : List DocKey
      kept_more = doc_walk kind (kept + 1) (map (walked x) os) xs

      other : (y : DocKey) → Contains xs y → (c : Bool) → is_eq (doc_cmp y x) ≡ c → c ≡ false
      other y there true e = let same : y ≡ x = same_from_is_eq y x e in let found : is_among xs x ≡ true = among_there xs x (subst (Contains xs) same there) in let no_way : true ≡ false = sym found ∙ apart.0 in absurd cc
      other y there false e = refl

      by : (b : Bool) → doc_keeps kind kept os x ≡ b
          → seg (kept + 1) (counted_from 0 (f x) cs) xs ≡ map (by_kept kept_more) xs → seg kept cs xs ≡ map (by_kept (doc_walk kind kept os xs)) xs
          → (elim b as (λ c. List Standing) [ true ↦ hit_by kind (f x) ∷ seg (kept + 1) (counted_from 0 (f x) cs) xs | false ↦ Missed ∷ seg kept cs xs ])
          ≡ map (by_kept (elim b as (λ c. List DocKey) [ true ↦ x ∷ kept_more | false ↦ doc_walk kind kept os xs ])) (x ∷ xs)
      by true e kept_rest rest =
          λ i. ap (λ c. if c || is_among kept_more x then hit_by kind (f x) else Missed) (sym (is_eq_same x x refl)) i
          ∷ (kept_rest ∙ map_agree (by_kept kept_more) (by_kept (x ∷ kept_more)) xs
          (λ y there. ap (λ c. if c || is_among kept_more y then hit_by kind (f y) else Missed) (sym (other y there (is_eq (doc_cmp y x)) refl)))) i
      by false e kept_rest rest =
          λ i. ap (λ c. if c then hit_by kind (f x) else Missed) (sym (walk_within kind kept os xs x apart.0)) i ∷ rest i
