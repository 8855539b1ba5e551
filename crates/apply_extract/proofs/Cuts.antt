-- The first hits of all shards are the cut of the plan.
use Rattle.std.proofs.Common.{◌≡◌, ℕ, List, [], ◌++◌, All, length, map, take, refl, sym, ◌∙◌, ap, subst, arith}
use Rattle.std.specs.List.{AllByRecursion, flat_map}
use Rattle.uni_base.specs.declared.limits.Limits.{Limits}
use Rattle.uni_base.specs.Cursors.{IsRanked}
use Rattle.uni_table.specs.Contents.{Contents}
use Rattle.uni_table.specs.Ranked.{in_rank_order}
use Rattle.query_check.specs.Plan.{Plan}
use Rattle.query_check.specs.Verticals.{IsOf}
use Rattle.uni_meaning.specs.Hits.{shards_of}
use Rattle.uni_meaning.proofs.Typed.{vertical_is}
use Rattle.lineage_tree.specs.declared.lineage.RawHit.{RawHit}
use Rattle.lineage_tree.specs.Tree.{Tree, tree_of}
use Rattle.rack_aggregate.specs.Merged.{AreApart, all_hits, hits_in_rank_order, keys_of}
use Rattle.shard_index.specs.Places.{shards_in}
use Rattle.shard_index.specs.Versions.{VersionState}
use Rattle.shard_eval.specs.Meant.{filled}
use Rattle.shard_eval.specs.PlanTrees.{plan_tree}
use Rattle.shard_eval.specs.Resolution.{Resolution}
use Rattle.viewer_policy.specs.Judged.{StandsFor}
use Rattle.apply_extract.specs.Booked.{booked, tree_in}
use Rattle.apply_extract.specs.Hits.{AreCut, Book, IsAnswered}
use Rattle.apply_extract.specs.Parts.{AllFirst}
use Rattle.apply_extract.proofs.Entries.{trees_count, trees_for}
use Rattle.apply_extract.proofs.Parts.{AreParts, first_keys, first_trees, parts_apart, parts_are, parts_ranked}

module _ (version : VersionState) (limits : Limits) (table : Contents) (stands : StandsFor version limits table) (plan : Plan) (vertical : ℕ) (is : IsOf version.schema plan vertical) (old new : Book) (query : ℕ → Resolution)
    (answered : IsAnswered version.schema plan (shards_in version.schema vertical) old new query table) (limit : ℕ) (parts : List (List RawHit)) (count : length parts ≡ shards_in version.schema vertical)
    (first : AllFirst version vertical 0 limit query parts) where
  are_parts : (before after : List Tree) → length before ≡ length old → AreParts version.schema table plan limit (tree_in (before ++ (booked version.schema table plan ++ after))) 0 parts
  are_parts before after whole =
      parts_are version.schema limits table stands.kept plan version vertical (shards_in version.schema vertical) limit (tree_in (before ++ (booked version.schema table plan ++ after))) query refl stands.stands is
      (λ shard below. answered.stands shard below before after whole) 0 parts (omega (arith, count)) first

  -- so they can be merged
  pub are_ranked : AllByRecursion (λ part. IsRanked (keys_of part)) parts
  are_ranked = parts_ranked version.schema limits table stands.kept plan limit _ 0 parts (are_parts (trees_for old) [] (trees_count old))

  pub are_apart : AreApart (map keys_of parts)
  are_apart = parts_apart version.schema limits table stands.kept plan limit _ parts (are_parts (trees_for old) [] (trees_count old))

  -- and the first of them are the cut
  pub are_cut : (hits : List RawHit) → hits ≡ take limit (hits_in_rank_order (all_hits parts)) → keys_of hits ≡ take limit (in_rank_order (flat_map keys_of parts)) → AreCut version.schema plan limit old new hits table
  are_cut hits same keys =
      let whole : length parts ≡ shards_of version.schema _ = count ∙ ap (shards_of version.schema) (sym (vertical_is version.schema plan vertical is)) in
      record {
        gains = answered.gains;
        keys = keys ∙ first_keys version.schema limits table stands.kept plan limit _ parts (are_parts (trees_for old) [] (trees_count old)) whole;
        trees = λ before after fits.
            subst (All (λ hit. filled (tree_in (before ++ (booked version.schema table plan ++ after))) (tree_of hit.lineage) ≡ plan_tree version.schema table plan hit.key)) (sym same)
            (first_trees version.schema limits table stands.kept plan limit (tree_in (before ++ (booked version.schema table plan ++ after))) parts (are_parts before after fits));
      }
