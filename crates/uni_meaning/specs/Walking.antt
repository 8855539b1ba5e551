-- The walk of an operator with quotas over how entities stand under its operands, shard after shard.
use Rattle.std.specs.Prelude.{ℕ, ◌≡◌, ◌≤◌, ◌⊎◌, All, length, ◌+◌, ◌-◌, ◌==◌, Bool, true, false, ◌||◌, if◌then◌else◌, List, [], ◌∷◌, Option, None, Some, get_or, map}
use Rattle.std.specs.List.{list_all}
use Rattle.std.specs.Option.{option_map_or}
use Rattle.uni_base.specs.Walks.{Quota, Walker, has_share, lets_pass, weak_keeps, strong_keeps}
use Rattle.query_tree.specs.declared.kind.ListKind.{ListKind}
use Rattle.query_tree.specs.declared.kind.ListKind.TheVariants.{And, Or, Difference, WeakAnd, StrongOr}
use Rattle.query_tree.specs.declared.query.Mark.{Mark}
use Rattle.query_tree.specs.declared.query.Mark.TheVariants.{Plain, Hits, Weight}
use Rattle.uni_meaning.specs.Hits.{quota_of}
use Rattle.uni_meaning.specs.Standings.{hit_by, is_found, row_at}
use Rattle.uni_meaning.specs.declared.column.Column.{Column}
use Rattle.uni_meaning.specs.declared.pace.Counter.{Counter}
use Rattle.uni_meaning.specs.declared.pace.Pace.{Pace}
use Rattle.uni_meaning.specs.declared.place.Place.{Place}
use Rattle.uni_meaning.specs.declared.standing.Standing.{Standing}
use Rattle.uni_meaning.specs.declared.standing.Standing.TheVariants.{Missed}

-- whether the operand at a place has an entity, by how it stands under all of them
abbrev pub has_at : ℕ → List Standing → Bool
has_at j row = is_found (get_or row j Missed)

-- the operands of a walk by their counters, the first one at a place
abbrev pub walkers_from : ℕ → List Counter → List (Walker (List Standing))
walkers_from j [] = []
walkers_from j (counter ∷ counters) = record { has = has_at j; quota = quota_of counter.mark; own = counter.own } ∷ walkers_from (j + 1) counters

-- a mark once an entity is kept that its operand lacks
abbrev pub spent_mark : Mark → Mark
spent_mark Plain = Plain
spent_mark (Hits left) = Hits (left - 1)
spent_mark (Weight n d) = Weight n d

-- a counter once an entity is kept, which the operand has or not
abbrev pub counted : Bool → Counter → Counter
counted true counter = record counter { own = counter.own + 1 }
counted false counter = record counter { mark = spent_mark counter.mark }

-- the counters of operands, the first one at a place, once an entity is kept
abbrev pub counted_from : ℕ → List Standing → List Counter → List Counter
counted_from j row [] = []
counted_from j row (counter ∷ counters) = counted (has_at j row) counter ∷ counted_from (j + 1) row counters

-- how far a walk is: the shard that it is in, how many entities are kept there, and the operands' counters
pub record Paces : Type 0 where
  pub here : Option ℕ
  pub kept : ℕ
  pub counters : List Counter

abbrev pub pace_of : Pace → Paces
pace_of pace = record { here = pace.here; kept = pace.kept; counters = pace.counters.items }

abbrev pub fresh_counters : List Column → List Counter
fresh_counters columns = map (λ c. record { mark = c.mark; own = 0 }) columns

-- before the first shard
abbrev pub before_all : Paces
before_all = record { here = None; kept = 0; counters = [] }

-- a walk in a shard: it begins anew where it was in another one
abbrev pub entered : List Counter → ℕ → Paces → Paces
entered fresh shard pace = if option_map_or (λ here. here == shard) pace.here false then pace else record { here = Some shard; kept = 0; counters = fresh }

-- whether an operand lets one entity more be kept, which it has or not
abbrev pub allows : ListKind → ℕ → Quota → ℕ → Bool → Bool
allows And kept quota own has = has || lets_pass kept quota own
allows Or kept quota own has = has || lets_pass kept quota own
allows Difference kept quota own has = has || lets_pass kept quota own
allows WeakAnd kept quota own has = has || lets_pass kept quota own
allows StrongOr kept quota own has = has_share (kept + 1) quota (if has then own + 1 else own)

-- whether every operand lets an entity be kept
abbrev pub all_allow : ListKind → ℕ → List (Walker (List Standing)) → List Standing → Bool
all_allow kind kept walkers row = list_all (λ o. allows kind kept o.quota o.own (o.has row)) walkers

-- whether a walk keeps an entity
abbrev pub walk_keeps : ListKind → ℕ → List (Walker (List Standing)) → List Standing → Bool
walk_keeps And kept walkers row = weak_keeps kept walkers row
walk_keeps Or kept walkers row = weak_keeps kept walkers row
walk_keeps Difference kept walkers row = weak_keeps kept walkers row
walk_keeps WeakAnd kept walkers row = weak_keeps kept walkers row
walk_keeps StrongOr kept walkers row = strong_keeps kept walkers row

-- whether the entity of a row is kept at a pace
abbrev pub pace_keeps : ListKind → Paces → List Standing → Bool
pace_keeps kind pace row = walk_keeps kind pace.kept (walkers_from 0 pace.counters) row

-- a pace once an entity is kept
abbrev pub advanced : List Standing → Paces → Paces
advanced row pace = record pace { kept = pace.kept + 1; counters = counted_from 0 row pace.counters }

-- a walk that is under way over so many operands: none counts more than are kept, of as many as were seen at most
pub record IsPace (operands seen : ℕ) (pace : Paces) : Type 0 where
  pub count : (pace.here ≡ None) ⊎ (length pace.counters ≡ operands)
  pub owns : All (λ c. c.own ≤ pace.kept) pace.counters
  pub kept : pace.kept ≤ seen

-- how entities, the first one at a place, stand under a walk
abbrev pub walk_standings : ListKind → List Column → Paces → ℕ → List Place → List Standing
walk_standings kind columns pace i [] = []
walk_standings kind columns pace i (place ∷ places) =
    let now = entered (fresh_counters columns) place.shard pace in
    elim (pace_keeps kind now (row_at columns i)) [
      | true ↦ hit_by kind (row_at columns i) ∷ walk_standings kind columns (advanced (row_at columns i) now) (i + 1) places
      | false ↦ Missed ∷ walk_standings kind columns now (i + 1) places
    ]
