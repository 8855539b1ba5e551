-- What a witness has still to tell.
use Rattle.std.specs.Prelude.{ℕ, List, map}
use Rattle.std.specs.List.{filter_map}
use Rattle.std.specs.Option.{option_map}
use Rattle.uni_base.specs.declared.edge.Audience.{Audience}
use Rattle.uni_base.specs.declared.edge.Key.TheVariants.{Word}
use Rattle.uni_base.specs.declared.entity.DocKey.{DocKey}
use Rattle.uni_base.specs.KeySets.{united}
use Rattle.prefix_terms.specs.PrefixCursors.{PrefixPostings, audience_of}
use Rattle.lineage_tree.specs.Tree.{Tree, edge}
use Rattle.shard_eval.specs.declared.witness.Postings.{Postings}
use Rattle.shard_eval.specs.declared.witness.Witness.{Witness}
use Rattle.shard_eval.specs.declared.witness.Witness.TheVariants.{Term, Prefix, Any, Hits}
use Rattle.shard_eval.specs.Found.{Found, found_all, found_posting, held_by}
use Rattle.shard_eval.specs.Grouped.{by_any, found_any}

abbrev pub found_postings : Postings → List Found
found_postings p = map (found_posting p.leaf) p.cursor

-- the edge from a word to an entity
abbrev pub word_tree : ℕ → List ℕ → DocKey → Audience → Tree
word_tree number word k audience = edge (held_by number (Word word) (record { key = k; audience = audience }))

-- the edges from words to an entity: of those that have a posting there
abbrev pub word_trees : ℕ → PrefixPostings → DocKey → List Tree
word_trees number c k = filter_map (λ word. option_map (word_tree number word k) (audience_of c.number c.table word k)) c.words

-- what is left of a prefix term: each key by any of the edges from its words
abbrev pub found_words_left : ℕ → PrefixPostings → List Found
found_words_left number c = map (λ k. by_any k (word_trees number c k)) (united c.lists)

abbrev pub found_in : Witness → List Found
found_in (Term postings) = found_postings postings
found_in (Prefix words) = found_words_left words.type_no words.cursor
found_in (Any terms) = found_any (map found_postings terms.items)
found_in (Hits hits) = found_all hits.items
