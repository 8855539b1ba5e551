-- How large a tree is with its entries written out: what finding its first list goes down.
use Rattle.std.proofs.Common.{◌≡◌, ℕ, suc, ◌+◌, ◌<◌, true, List, [], refl, sym, ◌∙◌, ap, arith, length, map, get_or}
use Rattle.std.proofs.lemmas.Bool.Decides.{nat_tests}
use Rattle.std.proofs.lemmas.List.{get_or-map, length-map}
use Rattle.lineage_tree.specs.declared.lineage.Lineage.{Lineage}
use Rattle.lineage_tree.specs.Entries.{names_below, all_name_below, name_earlier, each_after}
use Rattle.lineage_tree.specs.Tree.{Tree, edge, all_of, any_of, entry, Forest, no_members, with_member, tree_of}
use Rattle.lineage_tree.proofs.EntryLemmas.{both_true, entry_value}

abbrev mutual
  pub size_by : List ℕ → Tree → ℕ
  size_by sizes (edge held) = 1
  size_by sizes (all_of members) = suc (forest_size_by sizes members)
  size_by sizes (any_of members) = suc (forest_size_by sizes members)
  size_by sizes (entry number) = suc (get_or sizes number 0)

  pub forest_size_by : List ℕ → Forest → ℕ
  forest_size_by sizes no_members = 0
  forest_size_by sizes (with_member tree members) = size_by sizes tree + forest_size_by sizes members

abbrev pub sizes_of : List Lineage → List ℕ
sizes_of trees = each_after size_by [] (map tree_of trees)

mutual
  size_agree : (n : ℕ) (sizes other : List ℕ) → ((m : ℕ) → m < n → get_or sizes m 0 ≡ get_or other m 0) → (tree : Tree) → names_below n tree ≡ true → size_by sizes tree ≡ size_by other tree
  size_agree n sizes other agree (edge held) names = refl
  size_agree n sizes other agree (all_of members) names = ap suc (forest_size_agree n sizes other agree members names)
  size_agree n sizes other agree (any_of members) names = ap suc (forest_size_agree n sizes other agree members names)
  size_agree n sizes other agree (entry number) names = let below : number < n = grind (arith, nat_tests) in ap suc (agree number below)

  forest_size_agree : (n : ℕ) (sizes other : List ℕ) → ((m : ℕ) → m < n → get_or sizes m 0 ≡ get_or other m 0) → (members : Forest) → all_name_below n members ≡ true
      → forest_size_by sizes members ≡ forest_size_by other members
  forest_size_agree n sizes other agree no_members names = refl
  forest_size_agree n sizes other agree (with_member tree members) names =
      let both = both_true (names_below n tree) (all_name_below n members) names in
      let head = size_agree n sizes other agree tree both.0 in
      let rest = forest_size_agree n sizes other agree members both.1 in
      omega (arith, head, rest)

-- what an entry names is smaller than the entry
pub entry_smaller : (trees : List Lineage) (i : ℕ) (tree : Lineage) → i < length trees → tree ≡ get_or trees i tree → name_earlier 0 (map tree_of trees) ≡ true
    → size_by (sizes_of trees) (tree_of tree) < size_by (sizes_of trees) (entry i)
entry_smaller trees i tree within is names =
    let same =
    ap (size_by (sizes_of trees)) (ap tree_of is ∙ sym (get_or-map tree_of trees i tree (tree_of tree) within))
    ∙ entry_value size_by 0 size_agree [] (map tree_of trees) i (tree_of tree) (omega (arith, length-map trees tree_of)) names
    ∙ ap (λ n. get_or (sizes_of trees) n 0) (plain i) in
    omega (arith, same)
  where
    plain : (i : ℕ) → 0 + i ≡ i
    plain i = omega arith
