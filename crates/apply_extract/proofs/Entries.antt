-- What trees stand for under a book, and once the entries are in place.
use Rattle.std.proofs.Common.{◌≡◌, ℕ, zero, suc, ◌<◌, ◌≤◌, ◌&&◌, ◌⊎◌, inl, inr, Bool, true, false, List, [], ◌∷◌, ◌++◌, refl, sym, ◌∙◌, ap, arith, length, map, get_or, nat_lt}
use Rattle.std.proofs.lemmas.Bool.{cases_lt}
use Rattle.std.proofs.lemmas.Bool.Decides.{nat_tests}
use Rattle.std.proofs.lemmas.List.{length-map}
use Rattle.uni_base.specs.declared.edge.Held.{Held}
use Rattle.lineage_tree.specs.Entries.{names_below, all_name_below}
use Rattle.lineage_tree.specs.Lists.{joined, lists_of, choices_of, members_lists}
use Rattle.lineage_tree.specs.Tree.{Tree, Forest, edge, all_of, any_of, entry, no_members, with_member, forest_of}
use Rattle.lineage_tree.proofs.EntryLemmas.{both_true, entry_within}
use Rattle.shard_eval.specs.Meant.{all_filled, filled}
use Rattle.apply_extract.specs.Booked.{lists_each, tree_in}
use Rattle.apply_extract.specs.Hits.{Book}

-- ---- a tree that is the same whatever follows the known entries names known ones alone

abbrev many : ℕ → List Tree
many zero = all_of no_members ∷ []
many (suc n) = all_of no_members ∷ many n

past : (known : List Tree) (m k : ℕ) → length known ≤ k → k ≤ m → tree_in (known ++ many m) k ≡ all_of no_members
past [] zero zero low high = refl
past [] (suc m) zero low high = refl
past [] zero (suc k) low high = absurd (omega (arith, high))
past [] (suc m) (suc k) low high = past [] m k (omega arith) (omega (arith, high))
past (t ∷ known) m zero low high = absurd (omega (arith, low))
past (t ∷ known) m (suc k) low high = past known m k (omega (arith, low)) (omega (arith, high))

none_past : (known : List Tree) (k : ℕ) → length known ≤ k → tree_in (known ++ []) k ≡ any_of no_members
none_past [] k low = refl
none_past (t ∷ known) zero low = absurd (omega (arith, low))
none_past (t ∷ known) (suc k) low = none_past known k (omega (arith, low))

abbrev members_of : Tree → Forest
members_of (edge held) = no_members
members_of (all_of members) = members
members_of (any_of members) = members
members_of (entry number) = no_members

abbrev first_of : Forest → Tree
first_of no_members = any_of no_members
first_of (with_member tree rest) = tree

abbrev rest_of : Forest → Forest
rest_of no_members = no_members
rest_of (with_member tree members) = members

abbrev is_all : Tree → Bool
is_all (edge held) = false
is_all (all_of parts) = true
is_all (any_of parts) = false
is_all (entry number) = false

mutual
  pub names_known : (known : List Tree) (tree : Tree) → ((after : List Tree) → filled (tree_in (known ++ after)) tree ≡ filled (tree_in (known ++ [])) tree) → names_below (length known) tree ≡ true
  names_known known (edge held) same = refl
  names_known known (all_of members) same = all_known known members (λ after. ap members_of (same after))
  names_known known (any_of members) same = all_known known members (λ after. ap members_of (same after))
  names_known known (entry number) same = over (cases_lt number (length known))
    where
      over : (number < length known) ⊎ (length known ≤ number) → nat_lt number (length known) ≡ true
      over (inl below) = grind (arith, nat_tests, below)
      over (inr out) =
          let differ : all_of no_members ≡ any_of no_members = sym (past known number number out (omega arith)) ∙ same (many number) ∙ none_past known number out in
          let told : true ≡ false = ap is_all differ in absurd cc

  all_known : (known : List Tree) (members : Forest) → ((after : List Tree) → all_filled (tree_in (known ++ after)) members ≡ all_filled (tree_in (known ++ [])) members) → all_name_below (length known) members ≡ true
  all_known known no_members same = refl
  all_known known (with_member tree members) same =
      ap (λ b. b && all_name_below (length known) members) (names_known known tree (λ after. ap first_of (same after)))
      ∙ all_known known members (λ after. ap rest_of (same after))

-- ---- a tree under a book stands for what it does once the entries are in place

mutual
  pub lists_filled : (book : Book) (trees : List Tree) (n : ℕ) → ((m : ℕ) → m < n → get_or book m [] ≡ lists_of [] (tree_in trees m)) → (tree : Tree) → names_below n tree ≡ true
      → lists_of book tree ≡ lists_of [] (filled (tree_in trees) tree)
  lists_filled book trees n same (edge held) names = refl
  lists_filled book trees n same (all_of members) names = choices_filled book trees n same members names
  lists_filled book trees n same (any_of members) names = members_filled book trees n same members names
  lists_filled book trees n same (entry number) names = same number (entry_within n number names)

  choices_filled : (book : Book) (trees : List Tree) (n : ℕ) → ((m : ℕ) → m < n → get_or book m [] ≡ lists_of [] (tree_in trees m)) → (members : Forest) → all_name_below n members ≡ true
      → choices_of book members ≡ choices_of [] (all_filled (tree_in trees) members)
  choices_filled book trees n same no_members names = refl
  choices_filled book trees n same (with_member tree members) names =
      let both = both_true (names_below n tree) (all_name_below n members) names in
      (λ i. joined (lists_filled book trees n same tree both.0 i) (choices_filled book trees n same members both.1 i))

  members_filled : (book : Book) (trees : List Tree) (n : ℕ) → ((m : ℕ) → m < n → get_or book m [] ≡ lists_of [] (tree_in trees m)) → (members : Forest) → all_name_below n members ≡ true
      → members_lists book members ≡ members_lists [] (all_filled (tree_in trees) members)
  members_filled book trees n same no_members names = refl
  members_filled book trees n same (with_member tree members) names =
      let both = both_true (names_below n tree) (all_name_below n members) names in
      (λ i. lists_filled book trees n same tree both.0 i ++ members_filled book trees n same members both.1 i)

-- ---- any lists are those of some tree

abbrev edges_tree : List Held → Tree
edges_tree list = all_of (forest_of (map edge list))

abbrev lists_tree : List (List Held) → Tree
lists_tree lists = any_of (forest_of (map edges_tree lists))

edges_told : (list : List Held) → choices_of [] (forest_of (map edge list)) ≡ list ∷ []
edges_told [] = refl
edges_told (held ∷ list) = ap (joined ((held ∷ []) ∷ [])) (edges_told list)

lists_told : (lists : List (List Held)) → members_lists [] (forest_of (map edges_tree lists)) ≡ lists
lists_told [] = refl
lists_told (list ∷ lists) = (λ i. edges_told list i ++ lists_told lists i)

-- trees for the entries of a book
abbrev pub trees_for : Book → List Tree
trees_for book = map lists_tree book

pub trees_told : (book : Book) → lists_each (trees_for book) ≡ book
trees_told [] = refl
trees_told (lists ∷ book) = (λ i. lists_told lists i ∷ trees_told book i)

pub trees_count : (book : Book) → length (trees_for book) ≡ length book
trees_count book = length-map book lists_tree

-- the entries of a book that trees stand for
pub told_at : (trees : List Tree) (m : ℕ) → get_or (lists_each trees) m [] ≡ lists_of [] (tree_in trees m)
told_at [] m = refl
told_at (t ∷ trees) zero = refl
told_at (t ∷ trees) (suc m) = told_at trees m
