-- What the entries of a book stand for.
use Rattle.std.proofs.Common.{◌≡◌, ℕ, zero, suc, ◌+◌, ◌<◌, ◌≤◌, Bool, true, false, ◌&&◌, List, [], ◌∷◌, ◌++◌, refl, sym, ◌∙◌, ap, arith, length, map, take, get_or, length-append}
use Rattle.std.proofs.Math.ListN.{get_or-append}
use Rattle.std.proofs.Math.Seq.{get_or-append_seam}
use Rattle.std.proofs.lemmas.Bool.Decides.{nat_tests}
use Rattle.std.proofs.lemmas.List.{get_or-map, length-map, map-append, take_more}
use Rattle.uni_base.specs.declared.edge.Held.{Held}
use Rattle.lineage_tree.specs.declared.lineage.Lineage.{Lineage}
use Rattle.lineage_tree.specs.Entries.{names_below, all_name_below, name_earlier, each_after, entries_of}
use Rattle.lineage_tree.specs.Lists.{joined, lists_of, choices_of, members_lists}
use Rattle.lineage_tree.specs.Tree.{Tree, edge, all_of, any_of, entry, Forest, no_members, with_member, tree_of}

abbrev pub Book : Type 0
Book = List (List (List Held))

pub both_true : (a b : Bool) → (a && b) ≡ true → (a ≡ true) × (b ≡ true)
both_true true b e = (refl, e)
both_true false b e = absurd cc

-- a tree stands for the same under books that agree on the entries that it may name
mutual
  pub lists_of_agree : (n : ℕ) (book other : Book) → ((m : ℕ) → m < n → get_or book m [] ≡ get_or other m []) → (tree : Tree) → names_below n tree ≡ true → lists_of book tree ≡ lists_of other tree
  lists_of_agree n book other agree (edge held) names = refl
  lists_of_agree n book other agree (all_of members) names = choices_agree n book other agree members names
  lists_of_agree n book other agree (any_of members) names = members_agree n book other agree members names
  lists_of_agree n book other agree (entry number) names = let below : number < n = grind (arith, nat_tests) in agree number below

  choices_agree : (n : ℕ) (book other : Book) → ((m : ℕ) → m < n → get_or book m [] ≡ get_or other m []) → (members : Forest) → all_name_below n members ≡ true → choices_of book members ≡ choices_of other members
  choices_agree n book other agree no_members names = refl
  choices_agree n book other agree (with_member tree members) names =
      let both = both_true (names_below n tree) (all_name_below n members) names in
      ap (λ (ls : List (List Held)). joined ls (choices_of book members)) (lists_of_agree n book other agree tree both.0)
      ∙ ap (joined (lists_of other tree)) (choices_agree n book other agree members both.1)

  members_agree : (n : ℕ) (book other : Book) → ((m : ℕ) → m < n → get_or book m [] ≡ get_or other m []) → (members : Forest) → all_name_below n members ≡ true → members_lists book members ≡ members_lists other members
  members_agree n book other agree no_members names = refl
  members_agree n book other agree (with_member tree members) names =
      let both = both_true (names_below n tree) (all_name_below n members) names in
      ap (λ (ls : List (List Held)). ls ++ members_lists book members) (lists_of_agree n book other agree tree both.0)
      ∙ ap (λ (ls : List (List Held)). lists_of other tree ++ ls) (members_agree n book other agree members both.1)

pub name_earlier-snoc : (n : ℕ) (trees : List Tree) (tree : Tree) → name_earlier n (trees ++ tree ∷ []) ≡ (name_earlier n trees && names_below (n + length trees) tree)
name_earlier-snoc n [] tree = and_true (names_below n tree) ∙ ap (λ m. names_below m tree) (plain n)
  where
    and_true : (b : Bool) → (b && true) ≡ b
    and_true true = refl
    and_true false = refl

    plain : (n : ℕ) → n ≡ n + 0
    plain n = omega arith
name_earlier-snoc n (t ∷ trees) tree =
    ap (λ b. names_below n t && b) (name_earlier-snoc (n + 1) trees tree ∙ ap (λ m. name_earlier (n + 1) trees && names_below m tree) (counts (length trees)))
    ∙ and_assoc (names_below n t) (name_earlier (n + 1) trees) (names_below (n + suc (length trees)) tree)
  where
    counts : (m : ℕ) → n + 1 + m ≡ n + suc m
    counts m = omega arith

    and_assoc : (a b c : Bool) → (a && (b && c)) ≡ (a && b && c)
    and_assoc true b c = refl
    and_assoc false b c = refl

-- a value of each tree of a book, where trees have the same value under books that agree on what they name
module _ {X : Type 0} (value : List X → Tree → X) where
  pub length-each_after : (done : List X) (trees : List Tree) → length (each_after value done trees) ≡ length done + length trees
  length-each_after done [] = omega arith
  length-each_after done (tree ∷ trees) =
      let rest = length-each_after (done ++ value done tree ∷ []) trees in omega (arith, rest, length-append done (value done tree ∷ []))

  -- one tree more
  pub each_after-snoc : (done : List X) (trees : List Tree) (tree : Tree) → each_after value done (trees ++ tree ∷ []) ≡ each_after value done trees ++ value (each_after value done trees) tree ∷ []
  each_after-snoc done [] tree = refl
  each_after-snoc done (t ∷ trees) tree = each_after-snoc (done ++ value done t ∷ []) trees tree

  module _ (none : X) where
    -- what is done stays
    each_after-keep : (done : List X) (trees : List Tree) (n : ℕ) → n < length done → get_or (each_after value done trees) n none ≡ get_or done n none
    each_after-keep done [] n within = refl
    each_after-keep done (tree ∷ trees) n within =
        each_after-keep (done ++ value done tree ∷ []) trees n (omega (arith, length-append done (value done tree ∷ [])))
        ∙ get_or-append done (value done tree ∷ []) none n within

    -- the value of an entry is that of its tree under the whole book
    module _ (agrees : (n : ℕ) (book other : List X) → ((m : ℕ) → m < n → get_or book m none ≡ get_or other m none) → (tree : Tree) → names_below n tree ≡ true → value book tree ≡ value other tree) where
      pub entry_value : (done : List X) (trees : List Tree) (i : ℕ) (d : Tree) → i < length trees → name_earlier (length done) trees ≡ true
          → value (each_after value done trees) (get_or trees i d) ≡ get_or (each_after value done trees) (length done + i) none
      entry_value done [] i d within names = absurd (omega arith)
      entry_value done (tree ∷ trees) zero d within names =
          let both = both_true (names_below (length done) tree) (name_earlier (length done + 1) trees) names in
          let more : List X = done ++ value done tree ∷ [] in
          let longer = length-append done (value done tree ∷ []) in
          agrees (length done) (each_after value more trees) done
          (λ m l. each_after-keep more trees m (omega (arith, longer)) ∙ get_or-append done (value done tree ∷ []) none m l) tree both.0
          ∙ sym (get_or-append_seam done (value done tree) [] none)
          ∙ sym (each_after-keep more trees (length done) (omega (arith, longer)))
          ∙ ap (λ n. get_or (each_after value more trees) n none) (plain (length done))
        where
          plain : (n : ℕ) → n ≡ n + 0
          plain n = omega arith
      entry_value done (tree ∷ trees) (suc i) d within names =
          let both = both_true (names_below (length done) tree) (name_earlier (length done + 1) trees) names in
          let more : List X = done ++ value done tree ∷ [] in
          let longer = length-append done (value done tree ∷ []) in
          entry_value more trees i d (omega arith) (ap (λ n. name_earlier n trees) longer ∙ both.1)
          ∙ ap (λ n. get_or (each_after value more trees) n none) (ap (λ n. n + i) longer ∙ counts (length done) i)
        where
          counts : (n i : ℕ) → n + 1 + i ≡ n + suc i
          counts n i = omega arith

-- ---- the book

-- it has as many entries as trees
pub count_is : (trees : List Lineage) (book : Book) → entries_of (map tree_of trees) ≡ book → length book ≡ length trees
count_is trees book is = let whole = length-each_after lists_of [] (map tree_of trees) in let e = ap length is in omega (arith, whole, e, length-map trees tree_of)

pub pushed_lists : (trees : List Lineage) (tree : Lineage) (book : Book) → entries_of (map tree_of trees) ≡ book → entries_of (map tree_of (trees ++ tree ∷ [])) ≡ book ++ lists_of book (tree_of tree) ∷ []
pushed_lists trees tree book is =
    ap entries_of (map-append tree_of trees (tree ∷ [])) ∙ each_after-snoc lists_of [] (map tree_of trees) (tree_of tree) ∙ ap (λ (b : Book). b ++ lists_of b (tree_of tree) ∷ []) is

pub pushed_names : (trees : List Lineage) (tree : Lineage) (book : Book) → entries_of (map tree_of trees) ≡ book → name_earlier 0 (map tree_of trees) ≡ true → names_below (length book) (tree_of tree) ≡ true
    → name_earlier 0 (map tree_of (trees ++ tree ∷ [])) ≡ true
pushed_names trees tree book is names below =
    ap (name_earlier 0) (map-append tree_of trees (tree ∷ [])) ∙ name_earlier-snoc 0 (map tree_of trees) (tree_of tree)
    ∙ ap (λ b. b && names_below (0 + length (map tree_of trees)) (tree_of tree)) names
    ∙ ap (λ n. names_below n (tree_of tree)) (let c = count_is trees book is in let l = length-map trees tree_of in omega (arith, c, l)) ∙ below

-- each tree names only earlier ones
pub name_earlier-at : (n : ℕ) (trees : List Tree) (i : ℕ) (d : Tree) → i < length trees → name_earlier n trees ≡ true → names_below (n + i) (get_or trees i d) ≡ true
name_earlier-at n [] i d within names = absurd (omega arith)
name_earlier-at n (tree ∷ trees) zero d within names =
    let both = both_true (names_below n tree) (name_earlier (n + 1) trees) names in let e : n + 0 ≡ n = omega arith in ap (λ m. names_below m tree) e ∙ both.0
name_earlier-at n (tree ∷ trees) (suc i) d within names =
    let both = both_true (names_below n tree) (name_earlier (n + 1) trees) names in
    let e : n + suc i ≡ n + 1 + i = omega arith in
    ap (λ m. names_below m (get_or trees i d)) e ∙ name_earlier-at (n + 1) trees i d (omega arith) both.1

pub tree_at-names : (trees : List Lineage) (n i : ℕ) (tree : Lineage) → n ≡ i → i < length trees → tree ≡ get_or trees i tree → name_earlier 0 (map tree_of trees) ≡ true → names_below n (tree_of tree) ≡ true
tree_at-names trees n i tree e within is names =
    ap (λ m. names_below m (tree_of tree)) (e ∙ plain i)
    ∙ ap (names_below (0 + i)) (ap tree_of is ∙ sym (get_or-map tree_of trees i tree (tree_of tree) within))
    ∙ name_earlier-at 0 (map tree_of trees) i (tree_of tree) (omega (arith, length-map trees tree_of)) names
  where
    plain : (i : ℕ) → i ≡ 0 + i
    plain i = omega arith

-- what the first trees stand for
pub taken_more : (trees : List Lineage) (i : ℕ) (tree : Lineage) → i < length trees → tree ≡ get_or trees i tree
    → entries_of (map tree_of (take (i + 1) trees)) ≡ entries_of (map tree_of (take i trees)) ++ lists_of (entries_of (map tree_of (take i trees))) (tree_of tree) ∷ []
taken_more trees i tree within is =
    ap (λ (ts : List Lineage). entries_of (map tree_of ts)) (take_more trees i tree within ∙ ap (λ (t : Lineage). take i trees ++ t ∷ []) (sym is))
    ∙ pushed_lists (take i trees) tree (entries_of (map tree_of (take i trees))) refl

-- an entry of a book stands for what its tree does
pub tree_at-lists : (trees : List Lineage) (book : Book) (i : ℕ) (tree : Lineage) → entries_of (map tree_of trees) ≡ book → i < length trees → tree ≡ get_or trees i tree → name_earlier 0 (map tree_of trees) ≡ true
    → lists_of book (tree_of tree) ≡ get_or book i []
tree_at-lists trees book i tree lists within is names =
    ap (λ (b : Book). lists_of b (tree_of tree)) (sym lists)
    ∙ ap (lists_of (entries_of (map tree_of trees))) (ap tree_of is ∙ sym (get_or-map tree_of trees i tree (tree_of tree) within))
    ∙ entry_value lists_of [] lists_of_agree [] (map tree_of trees) i (tree_of tree) (omega (arith, length-map trees tree_of)) names
    ∙ ap (λ (b : Book). get_or b (0 + i) []) lists ∙ ap (λ n. get_or book n []) (plain i)
  where
    plain : (i : ℕ) → 0 + i ≡ i
    plain i = omega arith

-- a tree that names few entries names no others below more
mutual
  pub names_below-more : (m n : ℕ) → m ≤ n → (tree : Tree) → names_below m tree ≡ true → names_below n tree ≡ true
  names_below-more m n more (edge held) names = refl
  names_below-more m n more (all_of members) names = all_name_below-more m n more members names
  names_below-more m n more (any_of members) names = all_name_below-more m n more members names
  names_below-more m n more (entry number) names = grind (arith, nat_tests)

  all_name_below-more : (m n : ℕ) → m ≤ n → (members : Forest) → all_name_below m members ≡ true → all_name_below n members ≡ true
  all_name_below-more m n more no_members names = refl
  all_name_below-more m n more (with_member tree members) names =
      let both = both_true (names_below m tree) (all_name_below m members) names in
      ap (λ b. b && all_name_below n members) (names_below-more m n more tree both.0) ∙ all_name_below-more m n more members both.1

-- an entry that a tree is
pub entry_within : (n number : ℕ) → names_below n (entry number) ≡ true → number < n
entry_within n number names = grind (arith, nat_tests)

pub tree_at-below : (trees : List Lineage) (i : ℕ) (tree : Lineage) → i < length trees → tree ≡ get_or trees i tree → name_earlier 0 (map tree_of trees) ≡ true → names_below (length trees) (tree_of tree) ≡ true
tree_at-below trees i tree within is names = names_below-more i (length trees) (omega arith) (tree_of tree) (tree_at-names trees i i tree refl within is names)
