-- What a layer deletes and puts so that a table becomes another.
use Rattle.std.specs.Prelude.{Bool, ◌&&◌, if◌then◌else◌, List, Option, None, Some}
use Rattle.std.specs.List.{filter_map}
use Rattle.std.specs.declared.cmp.Ordering.{Ordering}
use Rattle.std.specs.FinMap as finite
use Rattle.std.specs.Ordering.{eq_by_cmp}
use Rattle.layer_base.specs.Layers.{Changes, from_log}

-- a map with one more row, if there is one
abbrev pub with_row : {K X : Type 0} {R : K → K → Ordering} → finite.FinMap R X → Option (K × X) → finite.FinMap R X
with_row map None = map
with_row map (Some row) = finite.insert map row.0 row.1

-- with one more row deleted, if there is one, and one more put
abbrev pub noting : {K X : Type 0} {R : K → K → Ordering} → Changes R X → Option (K × Unit {0}) → Option (K × X) → Changes R X
noting changes deleted put = record { deletes = with_row changes.deletes deleted; puts = with_row changes.puts put }

module _ {K X : Type 0} (R : K → K → Ordering) (same : X → X → Bool) where
  -- what is deleted of a row that was and a row that is now: the first, unless the other stands in its place
  abbrev pub dropped : Option (K × X) → Option (K × X) → Option (K × Unit {0})
  dropped None now = None
  dropped (Some was) None = Some (was.0, tt)
  dropped (Some was) (Some now) = if eq_by_cmp R was.0 now.0 then None else Some (was.0, tt)

  -- what is put: the row that is now, unless it is as it was
  abbrev pub added : Option (K × X) → Option (K × X) → Option (K × X)
  added was None = None
  added None (Some now) = Some now
  added (Some was) (Some now) = if eq_by_cmp R was.0 now.0 && same was.1 now.1 then None else Some now

  -- the layer of some changes, each of a row that was and a row that is now
  abbrev pub layer_from : {C : Type 0} → (C → Option (K × X)) → (C → Option (K × X)) → List C → Changes R X
  layer_from was now changes = record {
    deletes = from_log (filter_map (λ c. dropped (was c) (now c)) changes);
    puts = from_log (filter_map (λ c. added (was c) (now c)) changes);
  }
