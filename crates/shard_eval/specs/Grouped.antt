-- What is found by several lists, put one after another, and then with one hit for each key.
use Rattle.std.specs.Prelude.{ℕ, suc, ◌≡◌, false, cond, All, List, [], ◌∷◌, Option, filter, map}
use Rattle.std.specs.List.{flat_map}
use Rattle.query_tree.specs.declared.kind.ListKind.TheVariants.{Or}
use Rattle.uni_base.specs.declared.entity.DocKey.{DocKey}
use Rattle.uni_base.specs.Cursors.{is_before}
use Rattle.uni_base.specs.KeySets.{add_keys}
use Rattle.lineage_tree.specs.Tree.{Tree, any_of, forest_of}
use Rattle.shard_eval.specs.Found.{Found, found_keys, is_at}
use Rattle.shard_eval.specs.Kept.{found_list, up_to}

-- what some list finds, by any of the trees under those that have it
abbrev pub found_any : List (List Found) → List Found
found_any = found_list Or []

-- the first of each list, as many as a limit says, one list after another
abbrev pub firsts : Option ℕ → List (List Found) → List Found
firsts limit = flat_map (up_to limit)

-- the keys that are found, in rank order, each once
abbrev pub keys_once : List Found → List DocKey
keys_once fs = add_keys (found_keys fs) []

-- the trees under a key, in the order in which they are found
abbrev pub trees_under : List Found → DocKey → List Tree
trees_under fs k = map (λ f. f.tree) (filter (is_at k) fs)

-- a key, by any of the trees under it
abbrev pub by_any : DocKey → List Tree → Found
by_any k trees = record { key = k; tree = any_of (forest_of trees) }

abbrev pub group_at : List Found → DocKey → Found
group_at fs k = by_any k (trees_under fs k)

-- one hit for each key, in rank order
abbrev pub grouped : List Found → List Found
grouped fs = map (group_at fs) (keys_once fs)

-- how many from the first on are at a key
abbrev pub run_length : DocKey → List Found → ℕ
run_length k [] = 0
run_length k (f ∷ fs) = cond (is_at k f) (suc (run_length k fs)) 0

-- in rank order, where keys may be equal
abbrev pub Rises : List Found → Type 0
Rises [] = Unit {0}
Rises (f ∷ fs) = All (λ (g : Found). is_before g.key f.key ≡ false) fs × Rises fs
