use Rattle.std.proofs.Common.{rules, ◌≡◌, None, cond, take, map, ap, ◌∙◌, sym, subst}
use Rattle.std.specs.FinMap as finite
use Rattle.std.specs.FinMap.Entries.{find}
use Rattle.uni_base.specs.RankOrder.{doc_cmp}
use Rattle.uni_base.specs.KeySets.{has_key}
use Rattle.layer_base.specs.Lookups.{either}
use Rattle.layer_base.specs.Layers.{stack_table}
use Rattle.layer_stack.specs.Places.{place_cmp}
use Rattle.layer_stack.specs.Postings.{place_of, postings_of, deletes_of}
use Rattle.layer_stack.specs.Stacks.{entry_of, StandsFrom}
use Rattle.layer_stack.proofs.Terms.{get-layer, stands_after, find_after, stack_more}
use Rattle.layer_stack.proofs.stack.Stack.find.Goals as goal

pub loop-i-init : goal.loop-i-init
loop-i-init c = sym (finite.get-empty place_cmp (place_of c.args.term.now c.args.key))

pub take-answer-requires : goal.take-answer-requires
take-answer-requires c = subst (StandsFrom c.args.key) (sym c.seek.ensures) (stands_after c.args.key c.part-part.result.1)

pub loop-i-preserved : goal.loop-i-preserved
loop-i-preserved c =
    let layers = c.args.self.now.0 in let i = c.loop-i.i in let t = c.args.term.now in let key = c.args.key in
    let layer = c.layer.result.now.value in
    let is : c.deref.result.now ≡ layer = search rules in
    let part : c.part-part.result ≡ (deletes_of t layer, postings_of t layer.puts) = c.part-part.ensures ∙ ap (λ l. (deletes_of t l, postings_of t l.puts)) is in
    let older = finite.get (stack_table (take i layers)) (place_of t key) in
    c.take-answer.ensures.answer
    ∙ (λ j. either (find doc_cmp key (map entry_of (c.seek.ensures j).1)) (cond (has_key (c.seek.ensures j).0 key) None (c.loop-i.invariant j)))
    ∙ ap (λ said. either said (cond (has_key c.part-part.result.0 key) None older)) (find_after key c.part-part.result.1)
    ∙ (λ j. either (find doc_cmp key (map entry_of (part j).1)) (cond (has_key (part j).0 key) None older))
    ∙ sym (ap (λ table. finite.get table (place_of t key)) (stack_more layers i layer c.layer.ensures) ∙ get-layer t key (stack_table (take i layers)) layer)
