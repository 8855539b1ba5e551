-- What the first replicas of a version have is what its table has.
use Rattle.std.proofs.Common.{◌≡◌, ℕ, ◌+◌, ◌<◌, true, List, [], ◌∷◌, ◌++◌, length, take, get_or, Option, None, Some, refl, sym, ◌∙◌, ap, append-nil}
use Rattle.std.proofs.lemmas.List.{take_more}
use Rattle.std.proofs.lemmas.List.Elements.{filter_map-append}
use Rattle.std.specs.List.{cons_option, filter_map}
use Rattle.std.specs.FinMap as finite
use Rattle.uni_base.specs.declared.limits.Limits.{Limits}
use Rattle.uni_schema.specs.Schema.{shard_of}
use Rattle.uni_table.specs.Contents.{Contents}
use Rattle.uni_table.specs.Shards.{is_forward_type}
use Rattle.forward_data.specs.Records.{record_key}
use Rattle.shard_index.specs.Laws.{rank_in_shard}
use Rattle.shard_index.specs.Rows.{ShardChanges, record_at, stack_rows}
use Rattle.shard_index.specs.Versions.{StandsAt, VersionState}
use Rattle.shard_index.proofs.Exact.{rows_are_exact}
use Rattle.viewer_policy.specs.Judged.{StandsFor}
use Rattle.apply_extract.specs.Edges.{record_items}

module _ (version : VersionState) (limits : Limits) (table : Contents) (stands : StandsFor version limits table) (layers : List ShardChanges) (vertical id : ℕ) (at : StandsAt version layers vertical (shard_of version.schema vertical id)) where
  pub rank_read : finite.get (stack_rows layers).entities id ≡ rank_in_shard version.schema table vertical (shard_of version.schema vertical id) id
  rank_read = ap (λ rows. finite.get rows.entities id) (at table stands.stands) ∙ rows_are_exact.ranks version.schema limits table vertical (shard_of version.schema vertical id) id stands.kept

  pub record_read : (number : ℕ) → is_forward_type version.schema vertical number ≡ true → record_at (stack_rows layers) (record_key number id) ≡ record_items table number id
  record_read number forward = ap (λ rows. record_at rows (record_key number id)) (at table stands.stands) ∙ rows_are_exact.records version.schema table vertical (shard_of version.schema vertical id) number id forward refl

-- ---- one item more

module _ {X Y : Type 0} (f : X → Option Y) (xs : List X) (i : ℕ) (x : X) (within : i < length xs) (is : x ≡ get_or xs i x) where
  more_taken : filter_map f (take (i + 1) xs) ≡ filter_map f (take i xs) ++ cons_option (f x) []
  more_taken = ap (filter_map f) (take_more xs i x within ∙ ap (λ y. take i xs ++ y ∷ []) (sym is)) ∙ filter_map-append f (take i xs) (x ∷ [])

  pub one_given : (y : Y) (ys : List Y) → ys ≡ filter_map f (take i xs) → Some y ≡ f x → ys ++ y ∷ [] ≡ filter_map f (take (i + 1) xs)
  one_given y ys so_far given = (λ k. so_far k ++ cons_option (given k) []) ∙ sym more_taken

  pub none_given : (ys : List Y) → ys ≡ filter_map f (take i xs) → None ≡ f x → ys ≡ filter_map f (take (i + 1) xs)
  none_given ys so_far given = so_far ∙ sym (append-nil (filter_map f (take i xs))) ∙ (λ k. filter_map f (take i xs) ++ cons_option (given k) []) ∙ sym more_taken
