-- Rows of keys with their trees.
use Rattle.std.proofs.Common.{◌≡◌, Option, None, Some, append-nil, true, All, List, [], ◌∷◌, ◌++◌, map, refl, sym, ◌∙◌, ap, subst}
use Rattle.std.proofs.lemmas.List.{map-append}
use Rattle.std.proofs.lemmas.List.Elements.{filter_map-append}
use Rattle.std.specs.List.{cons_option}
use Rattle.uni_base.specs.declared.entity.DocKey.{DocKey}
use Rattle.uni_base.specs.Cursors.{is_before, IsRanked}
use Rattle.lineage_tree.specs.Tree.{Tree}
use Rattle.shard_eval.specs.declared.trees.TreeRow.{TreeRow}
use Rattle.shard_eval.specs.Found.{Found, tree_at, trees_at, KeepsLater}
use Rattle.shard_eval.specs.Rows.{and_tree, keys_of_rows, row_of, with_all, with_found}
use Rattle.shard_eval.proofs.ReadOn.{CanReadOn, all_before, read_more}

pub keys_append : (rows others : List TreeRow) → keys_of_rows (map row_of (rows ++ others)) ≡ keys_of_rows (map row_of rows) ++ keys_of_rows (map row_of others)
keys_append [] others = refl
keys_append (row ∷ rows) others = ap (λ (ks : List DocKey). row.key ∷ ks) (keys_append rows others)

-- the keys of rows that are gone through come before the next one
pub keys_before : (past : List TreeRow) (row : TreeRow) (rest all : List TreeRow) → past ++ row ∷ rest ≡ all → IsRanked (keys_of_rows (map row_of all)) → All (λ k. is_before k row.key ≡ true) (keys_of_rows (map row_of past))
keys_before past row rest all whole ranked =
    all_before (keys_of_rows (map row_of past)) row.key (keys_of_rows (map row_of rest))
    (subst IsRanked (keys_append past (row ∷ rest)) (subst (λ (rows : List TreeRow). IsRanked (keys_of_rows (map row_of rows))) (sym whole) ranked))

-- one row more
pub rows_more : (fs : List Found) (grown past : List TreeRow) (new row : TreeRow) → map row_of grown ≡ map (with_found fs) (map row_of past) → row_of new ≡ with_found fs (row_of row)
    → map row_of (grown ++ new ∷ []) ≡ map (with_found fs) (map row_of (past ++ row ∷ []))
rows_more fs grown past new row same one =
    map-append row_of grown (new ∷ [])
    ∙ ap (λ (rows : List (DocKey × List Tree)). rows ++ row_of new ∷ []) same
    ∙ ap (λ (r : DocKey × List Tree). map (with_found fs) (map row_of past) ++ r ∷ []) one
    ∙ sym (ap (map (with_found fs)) (map-append row_of past (row ∷ [])) ∙ map-append (with_found fs) (map row_of past) (row_of row ∷ []))

pub read_rows : (past : List TreeRow) (row : TreeRow) (first now next : List Found) → CanReadOn (keys_of_rows (map row_of past)) first now → KeepsLater row.key now next
    → CanReadOn (keys_of_rows (map row_of (past ++ row ∷ []))) first next
read_rows past row first now next can keeps =
    subst (λ (ks : List DocKey). CanReadOn ks first next) (sym (keys_append past (row ∷ []))) (read_more (keys_of_rows (map row_of past)) row.key first now next can keeps)

-- the keys of rows that have their trees
pub keys_with_all : (lists : List (List Found)) (keys : List DocKey) → keys_of_rows (with_all lists keys) ≡ keys
keys_with_all lists [] = refl
keys_with_all lists (k ∷ keys) = ap (λ (ks : List DocKey). k ∷ ks) (keys_with_all lists keys)

-- the trees of a key under one list more
trees_more : (lists : List (List Found)) (fs : List Found) (k : DocKey) → (k, trees_at (lists ++ fs ∷ []) k) ≡ and_tree (k, trees_at lists k) (tree_at fs k)
trees_more lists fs k = ap (λ (ts : List Tree). (k, ts)) (filter_map-append (λ gs. tree_at gs k) lists (fs ∷ [])) ∙ over (tree_at fs k)
  where
    over : (t : Option Tree) → (k, trees_at lists k ++ cons_option t []) ≡ and_tree (k, trees_at lists k) t
    over None = ap (λ (ts : List Tree). (k, ts)) (append-nil (trees_at lists k))
    over (Some tree) = refl

-- rows with the trees under one list more
pub all_more : (lists : List (List Found)) (fs : List Found) (keys : List DocKey) → with_all (lists ++ fs ∷ []) keys ≡ map (with_found fs) (with_all lists keys)
all_more lists fs [] = refl
all_more lists fs (k ∷ keys) = rw (trees_more lists fs k, all_more lists fs keys) refl
