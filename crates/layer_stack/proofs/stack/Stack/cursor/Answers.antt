use Rattle.std.proofs.Common.{rules, arith, ◌≡◌, List, take, ap, ◌∙◌, sym, subst}
use Rattle.std.proofs.lemmas.List.{take_all}
use Rattle.std.specs.FinMap as finite
use Rattle.uni_base.specs.RankOrder.{doc_cmp}
use Rattle.layer_base.specs.Layers.{stack_table}
use Rattle.layer_stack.specs.Places.{place_cmp}
use Rattle.layer_stack.specs.Postings.{place_of, postings_of, deletes_of}
use Rattle.std.specs.Result.{IfOk}
use Rattle.posting_lists.specs.declared.posting.Posting.{Posting}
use Rattle.layer_stack.specs.Stacks.{part_table, remaining_of}
use Rattle.layer_stack.proofs.Terms.{layer_more, parts_stand}
use Rattle.layer_stack.proofs.stack.Stack.cursor.Goals as goal

pub loop-i-init : goal.loop-i-init
loop-i-init c k =
    ap (λ ps. finite.get (part_table ps) k) c.new-parts.ensures ∙ finite.get-empty doc_cmp k ∙ sym (finite.get-empty place_cmp (place_of c.args.term.now k))

pub loop-i-preserved : goal.loop-i-preserved
loop-i-preserved c k =
    let layers = c.args.self.now.0 in let t = c.args.term.now in let layer = c.layer.result.now.value in
    let is : c.deref.result.now ≡ layer = search rules in
    let part : c.part.result ≡ (deletes_of t layer, postings_of t layer.puts) = c.part.ensures ∙ ap (λ l. (deletes_of t l, postings_of t l.puts)) is in
    ap (λ ps. finite.get (part_table ps) k) (c.in_ok-add.ensures {u = tt})
    ∙ layer_more t layers c.loop-i.i layer c.loop-i.parts c.part.result c.layer.ensures part c.loop-i.invariant k

pub returns : goal.returns
returns c =
    let layers = c.args.self.now.0 in let t = c.args.term.now in
    let all : take c.loop-i.i layers ≡ layers = take_all c.loop-i.i layers (omega (arith, c.loop-i-test.false, c.loop-i.auto.i-end, c.layers-i-end.ensures)) in
    let stand : remaining_of c.loop-i.parts ≡ postings_of t (stack_table layers) = parts_stand t c.loop-i.parts (stack_table layers) (λ k. c.loop-i.invariant k ∙ ap (λ ls. finite.get (stack_table ls) (place_of t k)) all) in
    subst (λ (ps : List Posting). IfOk c.over.result (λ cursor. cursor ≡ ps)) stand c.over.ensures
