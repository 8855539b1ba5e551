-- The layers of all shards of a table: that of a shard at its number, and none beyond.
use Rattle.std.proofs.Common.{arith, ◌≡◌, ◌==◌, ◌&&◌, ◌≤◌, ◌<◌, ◌+◌, ℕ, zero, suc, Bool, true, false, if◌then◌else◌, cond, List, [], ◌∷◌, map, filter, length, get_or, slice_get, slice_index_or, take, sum_by, Option, None, Some, refl, sym, ◌∙◌, ap}
use Rattle.std.proofs.lemmas.Bool.Decides.{nat_tests}
use Rattle.std.specs.List.{AllZip, filter_map}
use Rattle.std.specs.Option.{option_map_or}
use Rattle.uni_base.specs.declared.edge.EdgeRef.{EdgeRef}
use Rattle.uni_schema.specs.declared.schema.TypeDef.{TypeDef}
use Rattle.uni_schema.specs.declared.schema.VerticalDef.{VerticalDef}
use Rattle.uni_schema.specs.Schema.{Declarations, is_index, is_vertical, shard_of, source_of, type_at, vertical_at}
use Rattle.uni_table.specs.Contents.{Contents, empty}
use Rattle.uni_table.specs.Lists.{held_of, is_kept_by, is_kept_in, keeps_source, keeps_target, shard_edges, starts_in}
use Rattle.uni_table.specs.Ranked.{doc_of, in_rank_order, is_of_shard, ranked}
use Rattle.layer_base.specs.Layers.{from_log}
use Rattle.shard_index.specs.Batches.{TakesOver, TakeFrom, all_shards, shard_place}
use Rattle.shard_index.specs.Numbers.{AreFirsts, shards_before}
use Rattle.shard_index.specs.Rows.{ShardChanges, layer_over, no_rows}
use Rattle.shard_index.specs.Shards.{entity_row, posting_row, record_row, shard_rows}
use Rattle.shard_index.proofs.ShardNumbers.{at_number, first_at, shard_under}
use Rattle.shard_index.proofs.Standing.{shard_rows-none}

-- what holds of two lists item by item holds of those at a place
zip_at : {P N : Type 0} (R : P → N → Type 0) (ps : List P) (ns : List N) (i : ℕ) (p : P) → AllZip R ps ns → slice_get ps i ≡ Some p → (i < length ns) × ((n : N) → n ≡ get_or ns i n → R p n)
zip_at R [] ns i p all at = cc
zip_at R (q ∷ ps) [] i p all at = absurd all
zip_at R (q ∷ ps) (m ∷ ns) zero p all at =
    let same : q ≡ p = cc in
    (omega arith, (λ n is. Rattle.std.proofs.Common.subst (λ x. R x n) same (Rattle.std.proofs.Common.subst (R q) (sym is) all.0)))
zip_at R (q ∷ ps) (m ∷ ns) (suc i) p all at = let later = zip_at R ps ns i p all.1 at in (omega (arith, later.0), later.1)

module _ (schema : Declarations) (table : Contents) (firsts : List ℕ) (are : AreFirsts schema firsts) (layers : List ShardChanges) (taken : TakeFrom schema empty table (all_shards schema) layers)
    (v s i : ℕ) (d : VerticalDef) (at : vertical_at schema v ≡ Some d) (below : s < d.shards) (number : i ≡ slice_index_or firsts v 0 + s) where
  found : slice_get (all_shards schema) i ≡ Some (shard_place v s)
  found =
      let fits : v ≤ length schema.verticals = omega (arith, Rattle.std.proofs.lemmas.Option.slice_get_within schema.verticals v d at) in
      let first : slice_index_or firsts v 0 ≡ shards_before schema v = first_at schema firsts are v fits in
      let here : i ≡ shards_before schema v + s = number ∙ ap (λ n. n + s) first in
      let zero_more : 0 + v ≡ v = omega arith in
      at_number schema.verticals 0 v i s d at below here ∙ ap (λ n. Some (shard_place n s)) zero_more

  pub layer_within : i < length layers
  layer_within = (zip_at (TakesOver schema empty table) (all_shards schema) layers i (shard_place v s) taken found).0

  -- the layer of a shard stands for its rows
  pub layer_stands : (layer : ShardChanges) → layer ≡ get_or layers i layer → layer_over no_rows layer ≡ shard_rows schema table v s
  layer_stands layer is =
      ap (λ rows. layer_over rows layer) (sym (shard_rows-none schema v s))
      ∙ ((zip_at (TakesOver schema empty table) (all_shards schema) layers i (shard_place v s) taken found).1 layer is).rows

-- ---- where a vertical has no such shard there are no rows

module _ (schema : Declarations) (table : Contents) (v s : ℕ) (d : VerticalDef) (at : vertical_at schema v ≡ Some d) (declared : is_vertical d ≡ true) (beyond : d.shards ≤ s) where
  other : (m : ℕ) → m < d.shards → (m == s) ≡ false
  other m low = grind (arith, nat_tests, low, beyond)

  not_of : (id : ℕ) → (shard_of schema v id == s) ≡ false
  not_of id = other (shard_of schema v id) (shard_under schema v id d at declared)

  and_none : (a : Bool) → (a && false) ≡ false
  and_none true = refl
  and_none false = refl

  none_of : (a : Bool) (id : ℕ) → (a && (shard_of schema v id == s)) ≡ false
  none_of a id = ap (λ b. a && b) (not_of id) ∙ and_none a

  filter_none : {X : Type 0} (p : X → Bool) → ((x : X) → p x ≡ false) → (xs : List X) → filter p xs ≡ []
  filter_none p fails [] = refl
  filter_none p fails (x ∷ xs) = ap (λ b. cond b (x ∷ filter p xs) (filter p xs)) (fails x) ∙ filter_none p fails xs

  not_kept : (edge : EdgeRef) → is_kept_in schema v s edge ≡ false
  not_kept edge = by (type_at schema edge.type_no)
    where
      starts : (d : TypeDef) (o : Option ℕ) → option_map_or (keeps_source schema v s d) o false ≡ false
      starts d None = refl
      starts d (Some id) = none_of (starts_in v d.origin) id

      of_type : (d : TypeDef) (b : Bool) → (if b then keeps_target schema v s d edge.target else option_map_or (keeps_source schema v s d) (source_of edge.key) false) ≡ false
      of_type d true = none_of (d.target == v) edge.target
      of_type d false = starts d (source_of edge.key)

      by : (o : Option TypeDef) → option_map_or (is_kept_by schema v s edge) o false ≡ false
      by None = refl
      by (Some d) = of_type d (is_index d.store)

  pub no_shard : shard_rows schema table v s ≡ no_rows
  unfolding shard_rows
  no_shard =
      let docs : ranked schema table v s ≡ [] = ap (λ es. in_rank_order (map doc_of es)) (filter_none (is_of_shard schema v s) (λ e. none_of (e.1.vertical == v) e.0) table.entities) in
      let held : shard_edges schema table v s ≡ [] = ap (map held_of) (filter_none (λ e. is_kept_in schema v s e.0) (λ e. not_kept e.0) table.edges) in
      λ i. record {
        entities = from_log (map entity_row (docs i));
        postings = from_log (filter_map (posting_row schema table) (held i));
        records = from_log (filter_map (record_row schema (held i)) (held i));
      }
