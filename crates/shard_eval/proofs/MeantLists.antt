-- What is read of a list that is what is meant.
use Rattle.std.proofs.Common.{◌≡◌, ℕ, Bool, true, false, ◌||◌, if◌then◌else◌, List, [], ◌∷◌, Option, None, Some, map, refl, sym, ◌∙◌, ap}
use Rattle.std.specs.Option.{option_map}
use Rattle.std.specs.Ordering.{is_eq}
use Rattle.uni_base.specs.declared.entity.DocKey.{DocKey}
use Rattle.uni_base.specs.KeySets.{has_key}
use Rattle.uni_base.specs.RankOrder.{doc_cmp}
use Rattle.uni_base.proofs.RankedLemmas.{same_from_is_eq}
use Rattle.lineage_tree.specs.Tree.{Tree}
use Rattle.shard_eval.specs.Found.{Found, found_keys, is_at, tree_at}
use Rattle.shard_eval.specs.Meant.{filled, seen_found}

-- keys, each with the tree that is meant
abbrev pub paired : (DocKey → Tree) → List DocKey → List (DocKey × Tree)
paired g ks = map (λ k. (k, g k)) ks

keys_seen : (book : ℕ → Tree) (fs : List Found) → map (λ (p : DocKey × Tree). p.0) (map (seen_found book) fs) ≡ found_keys fs
keys_seen book [] = refl
keys_seen book (f ∷ fs) = ap (λ (ks : List DocKey). f.key ∷ ks) (keys_seen book fs)

keys_paired : (g : DocKey → Tree) (ks : List DocKey) → map (λ (p : DocKey × Tree). p.0) (paired g ks) ≡ ks
keys_paired g [] = refl
keys_paired g (k ∷ ks) = ap (λ (xs : List DocKey). k ∷ xs) (keys_paired g ks)

pub keys_meant : (book : ℕ → Tree) (g : DocKey → Tree) (fs : List Found) (ks : List DocKey) → map (seen_found book) fs ≡ paired g ks → found_keys fs ≡ ks
keys_meant book g fs ks same = sym (keys_seen book fs) ∙ ap (map (λ (p : DocKey × Tree). p.0)) same ∙ keys_paired g ks

-- the tree at a key among keys with their trees
abbrev pub pair_at : List (DocKey × Tree) → DocKey → Option Tree
pair_at [] k = None
pair_at (p ∷ ps) k = if is_eq (doc_cmp p.0 k) then Some p.1 else pair_at ps k

seen_at : (book : ℕ → Tree) (fs : List Found) (k : DocKey) → option_map (filled book) (tree_at fs k) ≡ pair_at (map (seen_found book) fs) k
seen_at book [] k = refl
seen_at book (f ∷ fs) k = over (seen_at book fs k) (is_at k f)
  where
    over : option_map (filled book) (tree_at fs k) ≡ pair_at (map (seen_found book) fs) k → (b : Bool)
        → option_map (filled book) (if b then Some f.tree else tree_at fs k) ≡ (if b then Some (filled book f.tree) else pair_at (map (seen_found book) fs) k)
    over rest true = refl
    over rest false = rest

paired_at : (g : DocKey → Tree) (ks : List DocKey) (k : DocKey) → pair_at (paired g ks) k ≡ (if has_key ks k then Some (g k) else None)
paired_at g [] k = refl
paired_at g (x ∷ ks) k = over (paired_at g ks k) (is_eq (doc_cmp x k)) refl
  where
    over : pair_at (paired g ks) k ≡ (if has_key ks k then Some (g k) else None) → (b : Bool) → is_eq (doc_cmp x k) ≡ b
        → (if b then Some (g x) else pair_at (paired g ks) k) ≡ (if b || has_key ks k then Some (g k) else None)
    over rest true at = ap (λ (y : DocKey). Some (g y)) (same_from_is_eq x k at)
    over rest false at = rest

-- the tree at a key of what is found is the one that is meant
pub tree_meant : (book : ℕ → Tree) (g : DocKey → Tree) (fs : List Found) (ks : List DocKey) → map (seen_found book) fs ≡ paired g ks
    → (k : DocKey) → option_map (filled book) (tree_at fs k) ≡ (if has_key ks k then Some (g k) else None)
tree_meant book g fs ks same k = seen_at book fs k ∙ ap (λ (ps : List (DocKey × Tree)). pair_at ps k) same ∙ paired_at g ks k
