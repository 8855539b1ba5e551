use Rattle.std.proofs.Common.{List, [], map, ap, subst, sym, ◌∙◌}
use Rattle.layer_base.specs.Layers.{stack_table}
use Rattle.layer_stack.specs.Places.{term_of}
use Rattle.layer_stack.specs.Postings.{postings_of}
use Rattle.posting_lists.specs.declared.posting.Posting.{Posting}
use Rattle.posting_lists.specs.Postings.{keys_of}
use Rattle.query_tree.specs.declared.kind.ListKind.TheVariants.{Or}
use Rattle.uni_base.specs.Cursors.{IsRanked}
use Rattle.shard_eval.specs.declared.leaf.Leaf.{Leaf}
use Rattle.shard_eval.specs.Found.{found_keys, found_term, hit_keys}
use Rattle.shard_eval.specs.Sources.{found_by}
use Rattle.uni_base.specs.KeySets.{united}
use Rattle.prefix_terms.specs.PrefixCursors.{PrefixPostings}
use Rattle.shard_eval.proofs.HitLists.{keys_all}
use Rattle.shard_eval.proofs.KeptRanked.{keys_of_list}
use Rattle.shard_eval.proofs.PostingLists.{keys_of_term}
use Rattle.shard_eval.proofs.PrefixTrees.{prefix_keys}
use Rattle.shard_eval.proofs.source.Source.operand.Goals as goal

pub over-requires : goal.over-requires
over-requires c =
    subst (λ hits. IsRanked (hit_keys hits)) (sym c.as_slice-in-Hits.ensures)
    (subst IsRanked (keys_all c.in-Hits.hits) (subst (λ s. IsRanked (found_keys (found_by (stack_table c.args.stack.now.0) s))) c.in-Hits.is c.requires))

pub returns-in_ok-cursor-in-Term : goal.returns-in_ok-cursor-in-Term
returns-in_ok-cursor-in-Term c =
    let leaf = c.in-Term.leaf in
    let table = stack_table c.args.stack.now.0 in
    ap keys_of ((c.in_ok-cursor-in-Term.ensures {u = tt}) ∙ ap (λ term. postings_of term table) c.term.ensures)
    ∙ sym (keys_of_term leaf (postings_of (term_of leaf.type_no leaf.key) table)) ∙ ap (λ s. found_keys (found_by table s)) (sym c.in-Term.is)

pub returns-in_ok-prefix_cursor-in-Prefix : goal.returns-in_ok-prefix_cursor-in-Prefix
returns-in_ok-prefix_cursor-in-Prefix c =
    let table = stack_table c.args.stack.now.0 in
    ap (λ (p : PrefixPostings). united p.lists) (c.in_ok-prefix_cursor-in-Prefix.ensures {u = tt})
    ∙ sym (prefix_keys table c.in-Prefix.type_no c.in-Prefix.from) ∙ ap (λ s. found_keys (found_by table s)) (sym c.in-Prefix.is)

pub returns-in_ok-cursors-in-Any : goal.returns-in_ok-cursors-in-Any
returns-in_ok-cursors-in-Any c =
    let table = stack_table c.args.stack.now.0 in
    let leaves = c.in-Any.leaves.items in
    ap (λ (operands : List (List Posting)). united (map keys_of operands)) c.new.ensures
    ∙ ap united (c.in_ok-cursors-in-Any.ensures {u = tt} ∙ ap (λ (ls : List Leaf). map found_keys (map (found_term table) ls)) c.as_slice.ensures.value)
    ∙ sym (keys_of_list Or [] (map (found_term table) leaves)) ∙ ap (λ s. found_keys (found_by table s)) (sym c.in-Any.is)

pub returns-in-Hits : goal.returns-in-Hits
returns-in-Hits c =
    c.over.ensures ∙ ap hit_keys c.as_slice-in-Hits.ensures ∙ sym (keys_all c.in-Hits.hits) ∙ ap (λ s. found_keys (found_by (stack_table c.args.stack.now.0) s)) (sym c.in-Hits.is)
