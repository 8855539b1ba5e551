-- The weak walk over operands without a weight.
use Rattle.std.proofs.Common.{◌≡◌, ◌+◌, ◌-◌, ◌&&◌, ◌||◌, nat_lt, ℕ, Bool, true, false, List, [], ◌∷◌, refl, ◌∙◌, ap, map, if◌then◌else◌}
use Rattle.std.proofs.lemmas.Bool.{and_parts}
use Rattle.std.specs.List.{list_all, list_any}
use Rattle.uni_base.specs.Walks.{Quota, Unmarked, Count, Weight, Walker, walked, spent, lets_pass, weak_keeps, weak_walk}
use Rattle.uni_meaning.specs.Laws.{Counted, LightWalk, count_walk, counted, is_light, left_of}

module _ {K : Type 0} where
  abbrev AllLight : List (Walker K) → Type 0
  AllLight os = list_all (λ o. is_light o.quota) os ≡ true

  abbrev lowered : K → Counted K → Counted K
  lowered x o = if o.has x then o else record o { left = o.left - 1 }

  some_have : (x : K) (os : List (Walker K)) → list_any (λ o. o.has x) os ≡ list_any (λ (o : Counted K). o.has x) (map counted os)
  some_have x [] = refl
  some_have x (o ∷ os) = ap (λ b. o.has x || b) (some_have x os)

  all_let : (kept : ℕ) (x : K) (os : List (Walker K)) → AllLight os → list_all (λ o. o.has x || lets_pass kept o.quota o.own) os ≡ list_all (λ (o : Counted K). o.has x || nat_lt 0 o.left) (map counted os)
  all_let kept x [] light = refl
  all_let kept x (o ∷ os) light =
      let parts = and_parts (is_light o.quota) (list_all (λ (p : Walker K). is_light p.quota) os) light in
      λ i. (o.has x || by o.quota o.own parts.0 i) && all_let kept x os parts.1 i
    where
      by : (q : Quota) (own : ℕ) → is_light q ≡ true → lets_pass kept q own ≡ nat_lt 0 (left_of q)
      by Unmarked own light = refl
      by (Count left) own light = refl
      by (Weight n d) own light = cc

  -- the operands once an entity is kept
  next_counts : (x : K) (os : List (Walker K)) → AllLight os → map counted (map (walked x) os) ≡ map (lowered x) (map counted os)
  next_counts x [] light = refl
  next_counts x (o ∷ os) light =
      let parts = and_parts (is_light o.quota) (list_all (λ (p : Walker K). is_light p.quota) os) light in
      λ i. by (o.has x) o.quota parts.0 i ∷ next_counts x os parts.1 i
    where
      by : (b : Bool) (q : Quota) → is_light q ≡ true
          → counted (elim b as (λ c. Walker K) [ true ↦ record o { own = o.own + 1 } | false ↦ record o { quota = spent o.quota } ]) ≡ (if b then counted o else record (counted o) { left = left_of o.quota - 1 })
      by true q light = refl
      by false q light = ap (λ n. record { has = o.has; left = n }) (at o.quota)
        where
          at : (q : Quota) → left_of (spent q) ≡ left_of q - 1
          at Unmarked = refl
          at (Count left) = refl
          at (Weight n d) = refl

  still_light : (x : K) (os : List (Walker K)) → AllLight os → AllLight (map (walked x) os)
  still_light x [] light = refl
  still_light x (o ∷ os) light =
      let parts = and_parts (is_light o.quota) (list_all (λ (p : Walker K). is_light p.quota) os) light in
      rw (by (o.has x) parts.0) (still_light x os parts.1)
    where
      at : (q : Quota) → is_light q ≡ true → is_light (spent q) ≡ true
      at Unmarked h = refl
      at (Count left) h = refl
      at (Weight n d) h = cc

      by : (b : Bool) → is_light o.quota ≡ true → is_light (elim b as (λ c. Walker K) [ true ↦ record o { own = o.own + 1 } | false ↦ record o { quota = spent o.quota } ]).quota ≡ true
      by true h = h
      by false h = at o.quota h

  light : (os : List (Walker K)) (kept : ℕ) (xs : List K) → AllLight os → weak_walk kept os xs ≡ count_walk (map counted os) xs
  light os kept [] all = refl
  light os kept (x ∷ xs) all =
      ap (λ b. elim b as (λ c. List K) [ true ↦ x ∷ weak_walk (kept + 1) (map (walked x) os) xs | false ↦ weak_walk kept os xs ]) same
      ∙ by (list_any (λ (o : Counted K). o.has x) (map counted os) && list_all (λ (o : Counted K). o.has x || nat_lt 0 o.left) (map counted os))
      (light (map (walked x) os) (kept + 1) xs (still_light x os all) ∙ ap (λ (cs : List (Counted K)). count_walk cs xs) (next_counts x os all))
      (light os kept xs all)
    where
      same : weak_keeps kept os x ≡ (list_any (λ (o : Counted K). o.has x) (map counted os) && list_all (λ (o : Counted K). o.has x || nat_lt 0 o.left) (map counted os))
      same = λ i. some_have x os i && all_let kept x os all i

      by : (b : Bool) → weak_walk (kept + 1) (map (walked x) os) xs ≡ count_walk (map (lowered x) (map counted os)) xs → weak_walk kept os xs ≡ count_walk (map counted os) xs
          → (elim b as (λ c. List K) [ true ↦ x ∷ weak_walk (kept + 1) (map (walked x) os) xs | false ↦ weak_walk kept os xs ])
          ≡ (elim b as (λ c. List K) [ true ↦ x ∷ count_walk (map (lowered x) (map counted os)) xs | false ↦ count_walk (map counted os) xs ])
      by true kept_on passed = ap (λ (ys : List K). x ∷ ys) kept_on
      by false kept_on passed = passed

  pub light_walk : LightWalk K
  light_walk = record { light = light }
