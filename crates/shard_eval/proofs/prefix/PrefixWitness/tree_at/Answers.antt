use Rattle.std.proofs.Common.{◌≡◌, true, false, cond, None, Some, ap, subst, sym, ◌∙◌}
use Rattle.uni_base.specs.declared.entity.DocKey.{DocKey}
use Rattle.uni_base.proofs.RankedLemmas.{same_from_is_eq}
use Rattle.lineage_tree.specs.Tree.{Tree, any_of, forest_of}
use Rattle.prefix_terms.specs.PrefixCursors.{PrefixPostings}
use Rattle.shard_eval.specs.Found.{is_at, KeepsLater}
use Rattle.shard_eval.specs.Grouped.{by_any}
use Rattle.shard_eval.specs.Witnesses.{found_words_left, word_trees}
use Rattle.shard_eval.proofs.FoundLists.{same_place}
use Rattle.shard_eval.proofs.PrefixTrees.{left_here, left_later, made_at}
use Rattle.shard_eval.proofs.prefix.PrefixWitness.tree_at.Goals as goal
use Rattle.shard_eval.proofs.prefix.PrefixWitness.tree_at.Goals.{in_default-via-in-Some+else-eq, in_default-via-in_default}

pub any_tree-requires : goal.any_tree-requires
any_tree-requires c =
    let next = c.in-Some.next in
    let at = same_place next c.args.key ∙ sym c.eq.ensures ∙ c.if-eq.true in
    sym c.peek.ensures.first ∙ c.in-Some.is ∙ ap (λ (k : DocKey). Some k) (same_from_is_eq next c.args.key at)

pub returns-in_err-any_tree-in-Some-clause-rest : goal.returns-in_err-any_tree-in-Some-clause-rest
returns-in_err-any_tree-in-Some-clause-rest c =
    let number = c.args.self.now.type_no in let old = c.args.self.now.cursor in
    subst (λ (p : PrefixPostings). KeepsLater c.args.key (found_words_left number old) (found_words_left number p)) (sym c.seek.ensures.term)
    (left_later number c.args.key old c.seek.new.self.lists c.seek.ensures.moved.after)

pub returns-in_ok-any_tree-in-Some-clause-rest : goal.returns-in_ok-any_tree-in-Some-clause-rest
returns-in_ok-any_tree-in-Some-clause-rest c =
    let number = c.args.self.now.type_no in let old = c.args.self.now.cursor in
    subst (λ (p : PrefixPostings). KeepsLater c.args.key (found_words_left number old) (found_words_left number p)) (sym c.seek.ensures.term)
    (left_later number c.args.key old c.seek.new.self.lists c.seek.ensures.moved.after)

pub returns-in_default-clause-rest : goal.returns-in_default-clause-rest
returns-in_default-clause-rest c =
    let number = c.args.self.now.type_no in let old = c.args.self.now.cursor in
    subst (λ (p : PrefixPostings). KeepsLater c.args.key (found_words_left number old) (found_words_left number p)) (sym c.seek.ensures.term)
    (left_later number c.args.key old c.seek.new.self.lists c.seek.ensures.moved.after)

pub returns-in_ok-any_tree-in-Some-clause-tree : goal.returns-in_ok-any_tree-in-Some-clause-tree
returns-in_ok-any_tree-in-Some-clause-tree c =
    let number = c.args.self.now.type_no in let old = c.args.self.now.cursor in let key = c.args.key in
    let next = c.in-Some.next in
    let at : is_at key (by_any next (word_trees number old next)) ≡ true = same_place next key ∙ sym c.eq.ensures ∙ c.if-eq.true in
    let here = left_here number key old c.seek.new.self.lists c.seek.ensures.moved.after ∙ ap (made_at (word_trees number old) key) (sym c.peek.ensures.first ∙ c.in-Some.is) in
    let tree = c.in_ok-any_tree-in-Some.ensures {u = tt} ∙ ap (λ (p : PrefixPostings). any_of (forest_of (word_trees number p key))) c.seek.ensures.term
    ∙ ap (λ (k : DocKey). any_of (forest_of (word_trees number old k))) (sym (same_from_is_eq next key at)) in
    ap (λ (t : Tree). Some t) tree ∙ sym (here ∙ ap (λ b. cond b (Some (by_any next (word_trees number old next)).tree) None) at)

pub returns-in_default-clause-tree : goal.returns-in_default-clause-tree
returns-in_default-clause-tree c =
    let number = c.args.self.now.type_no in let old = c.args.self.now.cursor in let key = c.args.key in
    let here = left_here number key old c.seek.new.self.lists c.seek.ensures.moved.after ∙ ap (made_at (word_trees number old) key) (sym c.peek.ensures.first) in
    elim c.in_default.branch [
      | in_default-via-in-Some+else-eq w ↦
          let next = w.in-Some.next in
          let other : is_at key (by_any next (word_trees number old next)) ≡ false = same_place next key ∙ sym w.eq.ensures ∙ w.if-eq.false in
          sym (here ∙ ap (made_at (word_trees number old) key) w.in-Some.is ∙ ap (λ b. cond b (Some (by_any next (word_trees number old next)).tree) None) other)
      | in_default-via-in_default w ↦ sym (here ∙ ap (made_at (word_trees number old) key) w.in_default.is)
    ]
