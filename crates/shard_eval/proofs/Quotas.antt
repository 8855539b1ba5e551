-- Walks go by quotas as far as they ask for them.
use Rattle.std.proofs.Common.{◌≡◌, ℕ, ◌+◌, Bool, true, false, ◌||◌, if◌then◌else◌, List, [], ◌∷◌, map, refl, sym, ◌∙◌, ap}
use Rattle.std.specs.List.{list_any, list_all}
use Rattle.uni_base.specs.declared.entity.DocKey.{DocKey}
use Rattle.uni_base.specs.KeySets.{has_key, united}
use Rattle.uni_base.specs.Walks.{Quota, Unmarked, Count, Weight, Walker, has_share, lets_pass, spent, strong_keeps, strong_walk, walked, weak_keeps, weak_walk}
use Rattle.weak_strong.specs.Rules.{walkers}
use Rattle.query_tree.specs.declared.kind.ListKind.TheVariants.{StrongOr, WeakAnd}
use Rattle.query_tree.specs.declared.query.Mark.{Mark}
use Rattle.shard_eval.specs.Kept.{bare, counters, kept, weight_alone}
use Rattle.uni_meaning.specs.Hits.{quota_of}

-- operands whose quotas are seen in another way
abbrev pub seen_by : (Quota → Quota) → Walker DocKey → Walker DocKey
seen_by f o = record o { quota = f o.quota }

-- a quota that is spent is seen as before
spent_bare : (q : Quota) → spent (bare q) ≡ bare (spent q)
spent_bare Unmarked = refl
spent_bare (Count left) = refl
spent_bare (Weight n d) = refl

spent_alone : (q : Quota) → spent (weight_alone q) ≡ weight_alone (spent q)
spent_alone Unmarked = refl
spent_alone (Count left) = refl
spent_alone (Weight n d) = refl

passes_bare : (kept own : ℕ) (q : Quota) → lets_pass kept (bare q) own ≡ lets_pass kept q own
passes_bare kept own Unmarked = refl
passes_bare kept own (Count left) = refl
passes_bare kept own (Weight n d) = refl

share_alone : (kept own : ℕ) (q : Quota) → has_share kept (weight_alone q) own ≡ has_share kept q own
share_alone kept own Unmarked = refl
share_alone kept own (Count left) = refl
share_alone kept own (Weight n d) = refl

walked_seen : (f : Quota → Quota) → ((q : Quota) → spent (f q) ≡ f (spent q)) → (x : DocKey) (o : Walker DocKey) → walked x (seen_by f o) ≡ seen_by f (walked x o)
walked_seen f commutes x o = over (o.has x)
  where
    over : (b : Bool) → elim b [ true ↦ record (seen_by f o) { own = o.own + 1 } | false ↦ record (seen_by f o) { quota = spent (f o.quota) } ]
        ≡ seen_by f (elim b [ true ↦ record o { own = o.own + 1 } | false ↦ record o { quota = spent o.quota } ])
    over true = refl
    over false = ap (λ (q : Quota). record o { quota = q }) (commutes o.quota)

all_walked : (f : Quota → Quota) → ((q : Quota) → spent (f q) ≡ f (spent q)) → (x : DocKey) (os : List (Walker DocKey)) → map (walked x) (map (seen_by f) os) ≡ map (seen_by f) (map (walked x) os)
all_walked f commutes x [] = refl
all_walked f commutes x (o ∷ os) = rw (walked_seen f commutes x o, all_walked f commutes x os) refl

some_has : (f : Quota → Quota) (x : DocKey) (os : List (Walker DocKey)) → list_any (λ (o : Walker DocKey). o.has x) (map (seen_by f) os) ≡ list_any (λ (o : Walker DocKey). o.has x) os
some_has f x [] = refl
some_has f x (o ∷ os) = ap (λ b. o.has x || b) (some_has f x os)

all_pass : (kept : ℕ) (x : DocKey) (os : List (Walker DocKey)) → list_all (λ (o : Walker DocKey). o.has x || lets_pass kept o.quota o.own) (map (seen_by bare) os) ≡ list_all (λ (o : Walker DocKey). o.has x || lets_pass kept o.quota o.own) os
all_pass kept x [] = refl
all_pass kept x (o ∷ os) = rw (passes_bare kept o.own o.quota, all_pass kept x os) refl

all_share : (kept : ℕ) (x : DocKey) (os : List (Walker DocKey)) → list_all (λ (o : Walker DocKey). has_share kept o.quota (if o.has x then o.own + 1 else o.own)) (map (seen_by weight_alone) os)
    ≡ list_all (λ (o : Walker DocKey). has_share kept o.quota (if o.has x then o.own + 1 else o.own)) os
all_share kept x [] = refl
all_share kept x (o ∷ os) = rw (share_alone kept (if o.has x then o.own + 1 else o.own) o.quota, all_share kept x os) refl

weak_same : (kept : ℕ) (os : List (Walker DocKey)) (x : DocKey) → weak_keeps kept (map (seen_by bare) os) x ≡ weak_keeps kept os x
weak_same kept os x = rw (some_has bare x os, all_pass kept x os) refl

strong_same : (kept : ℕ) (os : List (Walker DocKey)) (x : DocKey) → strong_keeps kept (map (seen_by weight_alone) os) x ≡ strong_keeps kept os x
strong_same kept os x = rw (some_has weight_alone x os, all_share (kept + 1) x os) refl

-- a weak walk keeps the same
pub weak_seen : (kept : ℕ) (os : List (Walker DocKey)) (xs : List DocKey) → weak_walk kept (map (seen_by bare) os) xs ≡ weak_walk kept os xs
weak_seen kept os [] = refl
weak_seen kept os (x ∷ xs) = over (weak_seen (kept + 1) (map (walked x) os) xs) (weak_seen kept os xs) (weak_keeps kept os x) (weak_same kept os x)
  where
    over : weak_walk (kept + 1) (map (seen_by bare) (map (walked x) os)) xs ≡ weak_walk (kept + 1) (map (walked x) os) xs → weak_walk kept (map (seen_by bare) os) xs ≡ weak_walk kept os xs
        → (b : Bool) → weak_keeps kept (map (seen_by bare) os) x ≡ b
        → weak_walk kept (map (seen_by bare) os) (x ∷ xs) ≡ elim b [ true ↦ x ∷ weak_walk (kept + 1) (map (walked x) os) xs | false ↦ weak_walk kept os xs ]
    over more rest true e = rw (weak_walk, e) (ap (λ (ks : List DocKey). x ∷ ks) (ap (λ (qs : List (Walker DocKey)). weak_walk (kept + 1) qs xs) (all_walked bare spent_bare x os) ∙ more))
    over more rest false e = rw (weak_walk, e) rest

-- and so does a strong walk
pub strong_seen : (kept : ℕ) (os : List (Walker DocKey)) (xs : List DocKey) → strong_walk kept (map (seen_by weight_alone) os) xs ≡ strong_walk kept os xs
strong_seen kept os [] = refl
strong_seen kept os (x ∷ xs) = over (strong_seen (kept + 1) (map (walked x) os) xs) (strong_seen kept os xs) (strong_keeps kept os x) (strong_same kept os x)
  where
    over : strong_walk (kept + 1) (map (seen_by weight_alone) (map (walked x) os)) xs ≡ strong_walk (kept + 1) (map (walked x) os) xs → strong_walk kept (map (seen_by weight_alone) os) xs ≡ strong_walk kept os xs
        → (b : Bool) → strong_keeps kept (map (seen_by weight_alone) os) x ≡ b
        → strong_walk kept (map (seen_by weight_alone) os) (x ∷ xs) ≡ elim b [ true ↦ x ∷ strong_walk (kept + 1) (map (walked x) os) xs | false ↦ strong_walk kept os xs ]
    over more rest true e = rw (strong_walk, e) (ap (λ (ks : List DocKey). x ∷ ks) (ap (λ (qs : List (Walker DocKey)). strong_walk (kept + 1) qs xs) (all_walked weight_alone spent_alone x os) ∙ more))
    over more rest false e = rw (strong_walk, e) rest

-- operands over their keys, seen so
pub walkers_seen : (f : Quota → Quota) (lists : List (List DocKey)) (quotas : List Quota) → walkers lists (map (λ q. (f q, 0)) quotas) ≡ map (seen_by f) (walkers lists (map (λ q. (q, 0)) quotas))
walkers_seen f [] quotas = refl
walkers_seen f (keys ∷ lists) [] = refl
walkers_seen f (keys ∷ lists) (q ∷ quotas) = ap (λ os. seen_by f (record { has = has_key keys; quota = q; own = 0 }) ∷ os) (walkers_seen f lists quotas)

-- counters of quotas, as a walk begins
begun : {A : Type 0} (f : A → Quota) (xs : List A) → map {B = Quota × ℕ} (λ x. (f x, 0)) xs ≡ map {B = Quota × ℕ} (λ q. (q, 0)) (map f xs)
begun f [] = refl
begun f (x ∷ xs) = ap (λ (qs : List (Quota × ℕ)). (f x, 0) ∷ qs) (begun f xs)

seen_marks : (f : Quota → Quota) (marks : List Mark) → map {B = Quota × ℕ} (λ q. (q, 0)) (map (λ mark. f (quota_of mark)) marks) ≡ map {B = Quota × ℕ} (λ q. (f q, 0)) (map quota_of marks)
seen_marks f [] = refl
seen_marks f (mark ∷ marks) = ap (λ (qs : List (Quota × ℕ)). (f (quota_of mark), 0) ∷ qs) (seen_marks f marks)

walkers_marked : {A : Type 0} (f : Quota → Quota) (quota : A → Quota) (xs : List A) (marks : List Mark) (lists : List (List DocKey)) → map quota xs ≡ map (λ mark. f (quota_of mark)) marks
    → walkers lists (map {B = Quota × ℕ} (λ x. (quota x, 0)) xs) ≡ map (seen_by f) (walkers lists (counters marks))
walkers_marked f quota xs marks lists same =
    ap (walkers lists) (begun quota xs ∙ ap (map {B = Quota × ℕ} (λ q. (q, 0))) same ∙ seen_marks f marks) ∙ walkers_seen f lists (map quota_of marks)
    ∙ ap (λ qs. map (seen_by f) (walkers lists qs)) (sym (begun quota_of marks))

-- so the walk over operands with the marks of a weak walk keeps what the operator does
pub weak_kept : {A : Type 0} (keys : A → List DocKey) (quota : A → Quota) (xs : List A) (marks : List Mark) (lists : List (List DocKey)) → map keys xs ≡ lists → map quota xs ≡ map (λ mark. bare (quota_of mark)) marks
    → weak_walk 0 (walkers (map keys xs) (map {B = Quota × ℕ} (λ x. (quota x, 0)) xs)) (united (map keys xs)) ≡ kept WeakAnd marks lists
weak_kept keys quota xs marks lists same marked =
    ap (λ ls. weak_walk 0 (walkers ls (map {B = Quota × ℕ} (λ x. (quota x, 0)) xs)) (united ls)) same
    ∙ ap (λ ws. weak_walk 0 ws (united lists)) (walkers_marked bare quota xs marks lists marked) ∙ weak_seen 0 (walkers lists (counters marks)) (united lists)

pub strong_kept : {A : Type 0} (keys : A → List DocKey) (quota : A → Quota) (xs : List A) (marks : List Mark) (lists : List (List DocKey)) → map keys xs ≡ lists → map quota xs ≡ map (λ mark. weight_alone (quota_of mark)) marks
    → strong_walk 0 (walkers (map keys xs) (map {B = Quota × ℕ} (λ x. (quota x, 0)) xs)) (united (map keys xs)) ≡ kept StrongOr marks lists
strong_kept keys quota xs marks lists same marked =
    ap (λ ls. strong_walk 0 (walkers ls (map {B = Quota × ℕ} (λ x. (quota x, 0)) xs)) (united ls)) same
    ∙ ap (λ ws. strong_walk 0 ws (united lists)) (walkers_marked weight_alone quota xs marks lists marked) ∙ strong_seen 0 (walkers lists (counters marks)) (united lists)
