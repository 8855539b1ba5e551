-- A walk over the entities of all shards, one shard after the other.
use Rattle.std.proofs.Common.{◌≡◌, ◌++◌, ◌+◌, ◌<◌, ◌≤◌, ◌==◌, ℕ, zero, suc, Bool, true, false, if◌then◌else◌, List, [], ◌∷◌, Some, refl, sym, ◌∙◌, ap, subst, arith, length, map, slice_get}
use Rattle.std.proofs.lemmas.Bool.Decides.{nat_tests}
use Rattle.std.proofs.lemmas.List.{length-map}
use Rattle.std.specs.List.{Contains, flat_map, range_with_len}
use Rattle.std.specs.Option.{option_map_or}
use Rattle.uni_base.specs.Walks.{Walker}
use Rattle.uni_base.specs.declared.entity.DocKey.{DocKey}
use Rattle.query_tree.specs.declared.kind.ListKind.{ListKind}
use Rattle.uni_meaning.specs.Standings.{hit_by, row_at}
use Rattle.uni_meaning.specs.Walking.{Paces, advanced, counted_from, entered, fresh_counters, pace_keeps, walk_keeps, walk_standings, walkers_from}
use Rattle.uni_meaning.specs.declared.column.Column.{Column}
use Rattle.uni_meaning.specs.declared.pace.Counter.{Counter}
use Rattle.uni_meaning.specs.declared.place.Place.{Place}
use Rattle.uni_meaning.specs.declared.standing.Standing.{Standing}
use Rattle.uni_meaning.specs.declared.standing.Standing.TheVariants.{Missed}
use Rattle.uni_meaning.proofs.WalkStandings.{Agrees, Alike, AllApart, by_kept, doc_walk, seg, seg_is}

itself : (a : ℕ) → (a == a) ≡ true
itself a = grind (arith, nat_tests)

below_differs : (a b : ℕ) → a < b → (a == b) ≡ false
below_differs a b l = grind (arith, nat_tests, l)

abbrev pub placed : ℕ → DocKey → Place
placed shard x = record { doc = x; shard = shard }

module _ (kind : ListKind) (columns : List Column) (f : DocKey → List Standing) where
  abbrev pace_in : ℕ → ℕ → List Counter → Paces
  pace_in shard kept cs = record { here = Some shard; kept = kept; counters = cs }

  -- the rows of places are how their entities stand under the operands
  abbrev pub RowsAre : ℕ → List Place → Type 0
  RowsAre i places = (k : ℕ) (p : Place) → slice_get places k ≡ Some p → row_at columns (i + k) ≡ f p.doc

  rows_here : (i : ℕ) (p : Place) (ps : List Place) → RowsAre i (p ∷ ps) → row_at columns i ≡ f p.doc
  rows_here i p ps rows = let e : i ≡ i + 0 = omega arith in ap (row_at columns) e ∙ rows 0 p refl

  rows_later : (i : ℕ) (p : Place) (ps : List Place) → RowsAre i (p ∷ ps) → RowsAre (i + 1) ps
  rows_later i p ps rows = λ k q at. let e : (i + 1) + k ≡ i + suc k = omega arith in ap (row_at columns) e ∙ rows (suc k) q at

  same_shard : (shard kept : ℕ) (cs : List Counter) → entered (fresh_counters columns) shard (pace_in shard kept cs) ≡ pace_in shard kept cs
  same_shard shard kept cs = ap (λ b. if b then pace_in shard kept cs else pace_in shard 0 (fresh_counters columns)) (itself shard)

  other_shard : (shard : ℕ) (pace : Paces) → option_map_or (λ here. here == shard) pace.here false ≡ false → entered (fresh_counters columns) shard pace ≡ pace_in shard 0 (fresh_counters columns)
  other_shard shard pace e = ap (λ b. if b then pace else pace_in shard 0 (fresh_counters columns)) e

  -- one step, in a shard
  abbrev step : Bool → ℕ → List Standing → Paces → List Place → List Standing
  step b i row now ps = elim b as (λ c. List Standing) [ true ↦ hit_by kind row ∷ walk_standings kind columns (advanced row now) (i + 1) ps | false ↦ Missed ∷ walk_standings kind columns now (i + 1) ps ]

  entering : (i : ℕ) (pace now : Paces) (p : Place) (ps : List Place) → entered (fresh_counters columns) p.shard pace ≡ now → row_at columns i ≡ f p.doc
      → walk_standings kind columns pace i (p ∷ ps) ≡ step (pace_keeps kind now (f p.doc)) i (f p.doc) now ps
  entering i pace now p ps is row =
      ap (λ (n : Paces). step (pace_keeps kind n (row_at columns i)) i (row_at columns i) n ps) is
      ∙ ap (λ (r : List Standing). step (pace_keeps kind now r) i r now ps) row

  -- where a walk is, once it has gone through some entities of a shard
  abbrev after : ℕ → ℕ → List Counter → List DocKey → Paces
  after shard kept cs [] = pace_in shard kept cs
  after shard kept cs (x ∷ xs) = elim (walk_keeps kind kept (walkers_from 0 cs) (f x)) as (λ b. Paces) [
    | true ↦ after shard (kept + 1) (counted_from 0 (f x) cs) xs
    | false ↦ after shard kept cs xs
  ]

  after_here : (shard kept : ℕ) (cs : List Counter) (xs : List DocKey) → (after shard kept cs xs).here ≡ Some shard
  after_here shard kept cs [] = refl
  after_here shard kept cs (x ∷ xs) = by (walk_keeps kind kept (walkers_from 0 cs) (f x)) (after_here shard (kept + 1) (counted_from 0 (f x) cs) xs) (after_here shard kept cs xs)
    where
      by : (b : Bool) → (after shard (kept + 1) (counted_from 0 (f x) cs) xs).here ≡ Some shard → (after shard kept cs xs).here ≡ Some shard
          → (elim b as (λ c. Paces) [ true ↦ after shard (kept + 1) (counted_from 0 (f x) cs) xs | false ↦ after shard kept cs xs ]).here ≡ Some shard
      by true h k = h
      by false h k = k

  -- the entities of one shard, and then the others
  through_shard : (shard i kept : ℕ) (cs : List Counter) (xs : List DocKey) (qs : List Place) → RowsAre i (map (placed shard) xs ++ qs)
      → walk_standings kind columns (pace_in shard kept cs) i (map (placed shard) xs ++ qs) ≡ seg kind f kept cs xs ++ walk_standings kind columns (after shard kept cs xs) (i + length xs) qs
  through_shard shard i kept cs [] qs rows = let e : i ≡ i + 0 = omega arith in ap (λ n. walk_standings kind columns (pace_in shard kept cs) n qs) e
  through_shard shard i kept cs (x ∷ xs) qs rows =
      let later = rows_later i (placed shard x) (map (placed shard) xs ++ qs) rows in
      entering i (pace_in shard kept cs) (pace_in shard kept cs) (placed shard x) (map (placed shard) xs ++ qs) (same_shard shard kept cs) (rows_here i (placed shard x) (map (placed shard) xs ++ qs) rows)
      ∙ by (walk_keeps kind kept (walkers_from 0 cs) (f x)) (through_shard shard (i + 1) (kept + 1) (counted_from 0 (f x) cs) xs qs later) (through_shard shard (i + 1) kept cs xs qs later)
    where
      places : List Place
      places = map (placed shard) xs ++ qs

      more : Paces
      more = after shard (kept + 1) (counted_from 0 (f x) cs) xs

      on : (i + 1) + length xs ≡ i + suc (length xs)
      on = omega arith

      by : (b : Bool)
          → walk_standings kind columns (pace_in shard (kept + 1) (counted_from 0 (f x) cs)) (i + 1) (map (placed shard) xs ++ qs) ≡ seg kind f (kept + 1) (counted_from 0 (f x) cs) xs ++ walk_standings kind columns more ((i + 1) + length xs) qs
          → walk_standings kind columns (pace_in shard kept cs) (i + 1) (map (placed shard) xs ++ qs) ≡ seg kind f kept cs xs ++ walk_standings kind columns (after shard kept cs xs) ((i + 1) + length xs) qs
          → step b i (f x) (pace_in shard kept cs) (map (placed shard) xs ++ qs)
          ≡ (elim b as (λ c. List Standing) [ true ↦ hit_by kind (f x) ∷ seg kind f (kept + 1) (counted_from 0 (f x) cs) xs | false ↦ Missed ∷ seg kind f kept cs xs ])
          ++ walk_standings kind columns (elim b as (λ c. Paces) [ true ↦ more | false ↦ after shard kept cs xs ]) (i + suc (length xs)) qs
      by true h k = ap (λ (ss : List Standing). hit_by kind (f x) ∷ ss) (h ∙ ap (λ n. seg kind f (kept + 1) (counted_from 0 (f x) cs) xs ++ walk_standings kind columns more n qs) on)
      by false h k = ap (λ (ss : List Standing). Missed ∷ ss) (k ∙ ap (λ n. seg kind f kept cs xs ++ walk_standings kind columns (after shard kept cs xs) n qs) on)

  rows_split : (i : ℕ) (ps qs : List Place) → RowsAre i (ps ++ qs) → RowsAre (i + length ps) qs
  rows_split i [] qs rows = λ k q at. let e : (i + 0) + k ≡ i + k = omega arith in ap (row_at columns) e ∙ rows k q at
  rows_split i (p ∷ ps) qs rows = λ k q at. let e : (i + suc (length ps)) + k ≡ ((i + 1) + length ps) + k = omega arith in ap (row_at columns) e ∙ rows_split (i + 1) ps qs (rows_later i p (ps ++ qs) rows) k q at

  module _ (docs : ℕ → List DocKey) (os : ℕ → List (Walker DocKey)) (alike : (shard : ℕ) → Alike (fresh_counters columns) (os shard)) (apart : (shard : ℕ) → AllApart (docs shard))
      (agrees : (shard : ℕ) (x : DocKey) → Contains (docs shard) x → Agrees 0 (f x) x (os shard)) where
    -- how the entity of a place stands under the walk in its shard
    abbrev pub by_walk : Place → Standing
    by_walk p = by_kept kind f (doc_walk kind 0 (os p.shard) (docs p.shard)) p.doc

    abbrev pub places_in : ℕ → List Place
    places_in shard = map (placed shard) (docs shard)

    map-placed : (shard : ℕ) (xs : List DocKey) → map by_walk (map (placed shard) xs) ≡ map (by_kept kind f (doc_walk kind 0 (os shard) (docs shard))) xs
    map-placed shard [] = refl
    map-placed shard (x ∷ xs) = λ i. by_kept kind f (doc_walk kind 0 (os shard) (docs shard)) x ∷ map-placed shard xs i

    -- a walk that has not been in a shard
    abbrev Before : ℕ → Paces → Type 0
    Before from pace = (shard : ℕ) → from ≤ shard → option_map_or (λ here. here == shard) pace.here false ≡ false

    in_one : (shard i : ℕ) (pace : Paces) (qs : List Place) → Before shard pace → RowsAre i (places_in shard ++ qs)
        → (next : Paces) × Before (shard + 1) next × (walk_standings kind columns pace i (places_in shard ++ qs) ≡ map by_walk (places_in shard) ++ walk_standings kind columns next (i + length (places_in shard)) qs)
    in_one shard i pace qs before rows = by (docs shard) refl
      where
        from_start : (xs : List DocKey) → docs shard ≡ xs → RowsAre i (map (placed shard) xs ++ qs)
        from_start xs e = subst (λ (ds : List DocKey). RowsAre i (map (placed shard) ds ++ qs)) e rows

        told : (xs : List DocKey) → docs shard ≡ xs → seg kind f 0 (fresh_counters columns) xs ≡ map by_walk (map (placed shard) xs)
        told xs e = subst (λ (ds : List DocKey). seg kind f 0 (fresh_counters columns) ds ≡ map by_walk (map (placed shard) ds)) e
            (seg_is kind f 0 (fresh_counters columns) (os shard) (docs shard) (alike shard) (apart shard) (agrees shard) ∙ sym (map-placed shard (docs shard)))

        by : (xs : List DocKey) → docs shard ≡ xs
            → (next : Paces) × Before (shard + 1) next × (walk_standings kind columns pace i (map (placed shard) xs ++ qs) ≡ map by_walk (map (placed shard) xs) ++ walk_standings kind columns next (i + length (map (placed shard) xs)) qs)
        by [] e = (pace, λ other above. before other (omega (arith, above)), (let z : i ≡ i + 0 = omega arith in ap (λ n. walk_standings kind columns pace n qs) z))
        by (x ∷ xs) e =
            let rows_from = from_start (x ∷ xs) e in
            let row = rows_here i (placed shard x) (map (placed shard) xs ++ qs) rows_from in (
              after shard 0 (fresh_counters columns) (x ∷ xs),
              λ other above. ap (λ o. option_map_or (λ here. here == other) o false) (after_here shard 0 (fresh_counters columns) (x ∷ xs)) ∙ below_differs shard other (omega (arith, above)),
              entering i pace (pace_in shard 0 (fresh_counters columns)) (placed shard x) (map (placed shard) xs ++ qs) (other_shard shard pace (before shard (omega arith))) row
                  ∙ sym (entering i (pace_in shard 0 (fresh_counters columns)) (pace_in shard 0 (fresh_counters columns)) (placed shard x) (map (placed shard) xs ++ qs) (same_shard shard 0 (fresh_counters columns)) row)
                  ∙ through_shard shard i 0 (fresh_counters columns) (x ∷ xs) qs rows_from
                  ∙ ap (λ (ss : List Standing). ss ++ walk_standings kind columns (after shard 0 (fresh_counters columns) (x ∷ xs)) (i + length (x ∷ xs)) qs) (told (x ∷ xs) e)
                  ∙ ap (λ n. map by_walk (map (placed shard) (x ∷ xs)) ++ walk_standings kind columns (after shard 0 (fresh_counters columns) (x ∷ xs)) (i + n) qs) (sym (length-map (x ∷ xs) (placed shard))),
            )

    map-append : (ps qs : List Place) → map by_walk (ps ++ qs) ≡ map by_walk ps ++ map by_walk qs
    map-append [] qs = refl
    map-append (p ∷ ps) qs = ap (λ (ss : List Standing). by_walk p ∷ ss) (map-append ps qs)

    -- all shards from a number on
    pub in_all : (n from i : ℕ) (pace : Paces) → Before from pace → RowsAre i (flat_map places_in (range_with_len from n))
        → walk_standings kind columns pace i (flat_map places_in (range_with_len from n)) ≡ map by_walk (flat_map places_in (range_with_len from n))
    in_all zero from i pace before rows = refl
    in_all (suc n) from i pace before rows =
        let rest = flat_map places_in (range_with_len (from + 1) n) in
        let one = in_one from i pace rest before rows in
        one.2 ∙ ap (λ (ss : List Standing). map by_walk (places_in from) ++ ss) (in_all n (from + 1) (i + length (places_in from)) one.0 one.1 (rows_split i (places_in from) rest rows))
        ∙ sym (map-append (places_in from) rest)
