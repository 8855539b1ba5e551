-- Which lists of edges a lineage tree stands for, and in which order.
use Rattle.std.specs.Prelude.{List, [], ◌∷◌, ◌++◌, map, slice_index_or}
use Rattle.std.specs.List.{flat_map}
use Rattle.uni_base.specs.declared.edge.Held.{Held}
use Rattle.lineage_tree.specs.Tree.{Tree, edge, all_of, any_of, entry, Forest, no_members, with_member}

-- each of some lists followed by each of others: by the first list, then by the second
abbrev pub joined : List (List Held) → List (List Held) → List (List Held)
joined firsts seconds = flat_map (λ first. map (λ second. first ++ second) seconds) firsts

-- The lists of a tree under a book, which is given as the lists of each of its entries. An edge stands for
-- the one list with that edge. Any-of stands for the lists of its members, one member after the other;
-- all-of for each choice of one list per member, joined in their order. An entry stands for what the book
-- has there.
abbrev mutual
  pub lists_of : List (List (List Held)) → Tree → List (List Held)
  lists_of book (edge held) = (held ∷ []) ∷ []
  lists_of book (all_of members) = choices_of book members
  lists_of book (any_of members) = members_lists book members
  lists_of book (entry number) = slice_index_or book number []

  pub choices_of : List (List (List Held)) → Forest → List (List Held)
  choices_of book no_members = [] ∷ []
  choices_of book (with_member tree members) = joined (lists_of book tree) (choices_of book members)

  pub members_lists : List (List (List Held)) → Forest → List (List Held)
  members_lists book no_members = []
  members_lists book (with_member tree members) = lists_of book tree ++ members_lists book members
