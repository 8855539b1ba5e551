-- Terms find what they mean.
use Rattle.std.proofs.Common.{◌≡◌, ℕ, cond, is_some, List, [], ◌∷◌, Option, None, Some, map, filter, refl, sym, ap}
use Rattle.std.specs.List.{cons_option, filter_map}
use Rattle.std.specs.Option.{option_map, option_map_or}
use Rattle.uni_base.specs.declared.edge.Key.{Key}
use Rattle.uni_base.specs.declared.entity.DocKey.{DocKey}
use Rattle.uni_table.specs.Contents.{Contents, edge_at}
use Rattle.uni_table.specs.declared.command.EdgeRow.{EdgeRow}
use Rattle.uni_meaning.specs.Hits.{edge_to, leads_to}
use Rattle.lineage_tree.specs.Tree.{Tree, edge, any_of, no_members}
use Rattle.shard_index.specs.Laws.{posting_to}
use Rattle.shard_eval.specs.Found.{found_posting}
use Rattle.shard_eval.specs.Meant.{seen_found}
use Rattle.shard_eval.specs.PlanTrees.{edge_tree}
use Rattle.shard_eval.specs.Resolution.{leaf_of}

-- the postings to entities that a table has edges to are those entities, each with its edge
pub postings_meant : (table : Contents) (book : ℕ → Tree) (number : ℕ) (key : Key) (ks : List DocKey)
    → map (seen_found book) (map (found_posting (leaf_of number key)) (filter_map (posting_to table number key) ks)) ≡ map (λ k. (k, edge_tree table number key k)) (filter (leads_to table number key) ks)
postings_meant table book number key [] = refl
postings_meant table book number key (k ∷ ks) = over (postings_meant table book number key ks) (edge_at table (edge_to number key k.id)) refl
  where
    over : map (seen_found book) (map (found_posting (leaf_of number key)) (filter_map (posting_to table number key) ks)) ≡ map (λ x. (x, edge_tree table number key x)) (filter (leads_to table number key) ks)
        → (row : Option EdgeRow) → edge_at table (edge_to number key k.id) ≡ row
        → map (seen_found book) (map (found_posting (leaf_of number key)) (cons_option (option_map (λ audience. record { key = k; audience = audience }) (option_map (λ (r : EdgeRow). r.audience) row)) (filter_map (posting_to table number key) ks)))
        ≡ map (λ x. (x, edge_tree table number key x)) (cond (is_some row) (k ∷ filter (leads_to table number key) ks) (filter (leads_to table number key) ks))
    over rest None e = rest
    over rest (Some row) e =
        let one : seen_found book (found_posting (leaf_of number key) (record { key = k; audience = row.audience })) ≡ (k, edge_tree table number key k) =
        ap (λ (o : Option EdgeRow). (k, option_map_or (λ audience. edge (record { edge = edge_to number key k.id; audience = audience })) (option_map (λ (r : EdgeRow). r.audience) o) (any_of no_members))) (sym e) in
        (λ i. one i ∷ rest i)
