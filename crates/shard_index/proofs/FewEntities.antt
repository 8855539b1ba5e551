-- A layer has no more entries of entities than twice those that differ.
use Rattle.std.proofs.Common.{◌≡◌, ◌≤◌, ℕ, Bool, true, not, if◌then◌else◌, List, length, Option, None, Some, is_some, refl, sym, ◌∙◌}
use Rattle.std.proofs.lemmas.Map.Made.{is_some-lookup}
use Rattle.std.specs.BTreeMap.{is_at}
use Rattle.std.specs.Cmp.{nat_cmp_total}
use Rattle.std.specs.FinMap as finite
use Rattle.std.specs.Map.{keys_of}
use Rattle.std.specs.Option.{option_and_then}
use Rattle.std.specs.Ordering.{nat_cmp, eq_by_cmp}
use Rattle.std.specs.Set.{is_member}
use Rattle.uni_schema.specs.Schema.{Declarations}
use Rattle.uni_table.specs.Changes.{AreEntityChanges}
use Rattle.uni_table.specs.Contents.{Contents, entity_at}
use Rattle.uni_table.specs.Ranked.{is_of_shard}
use Rattle.uni_table.specs.declared.change.EntityChange.{EntityChange}
use Rattle.uni_table.specs.declared.command.EntityRow.{EntityRow}
use Rattle.shard_index.specs.ChangedRows.{same_rank, shard_entities}
use Rattle.shard_index.specs.Laws.{rank_in_shard}
use Rattle.shard_index.specs.Touched.{same_rows, moved_entities}
use Rattle.shard_index.proofs.ChangedEntities.{removed_differs, placed_differs}
use Rattle.shard_index.proofs.Counted.{few_keys, of_first, of_second}
use Rattle.shard_index.proofs.EntityRows.{id_apart}

module _ (schema : Declarations) (old new : Contents) (vertical shard : ℕ) (cs : List EntityChange) (are : AreEntityChanges old new cs) where
  abbrev differs : ℕ → Bool
  differs id = not (same_rows same_rank (rank_in_shard schema old vertical shard id) (rank_in_shard schema new vertical shard id))

  -- an entity of the shard is one of the table
  there : (table : Contents) (id : ℕ) → is_some (rank_in_shard schema table vertical shard id) ≡ true → is_member (eq_by_cmp nat_cmp) (keys_of table.entities) id ≡ true
  there table id t = sym (is_some-lookup (is_at (nat_cmp id)) table.entities) ∙ by (entity_at table id) t
    where
      by : (o : Option EntityRow) → is_some (option_and_then (λ (r : EntityRow). if is_of_shard schema vertical shard (id, r) then Some r.rank else None) o) ≡ true → is_some o ≡ true
      by None f = f
      by (Some r) f = refl

  pub few_removed : finite.len (shard_entities schema vertical shard cs).deletes ≤ length (moved_entities schema old new vertical shard)
  few_removed =
      few_keys nat_cmp_total nat_cmp_total id_apart (shard_entities schema vertical shard cs).deletes (λ id. id) (moved_entities schema old new vertical shard)
      (λ id t. let known = removed_differs old new cs are schema vertical shard id t in
      of_first nat_cmp_total id_apart differs (keys_of old.entities) (keys_of new.entities) id known.0 (there old id known.1))
      (λ j k s t e. e)

  pub few_placed : finite.len (shard_entities schema vertical shard cs).puts ≤ length (moved_entities schema old new vertical shard)
  few_placed =
      few_keys nat_cmp_total nat_cmp_total id_apart (shard_entities schema vertical shard cs).puts (λ id. id) (moved_entities schema old new vertical shard)
      (λ id t. let known = placed_differs old new cs are schema vertical shard id t in
      of_second nat_cmp_total id_apart differs (keys_of old.entities) (keys_of new.entities) id known.0 (there new id known.1))
      (λ j k s t e. e)
