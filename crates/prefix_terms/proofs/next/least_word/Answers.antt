use Rattle.std.proofs.Common.{rules, arith, ◌≡◌, ◌||◌, Bool, take, sym, subst}
use Rattle.layer_stack.specs.declared.place.TermKey.{TermKey}
use Rattle.layer_stack.specs.Words.{has_term, IsWordFrom}
use Rattle.layer_stack.proofs.TermWords.{earlier_is}
use Rattle.prefix_terms.specs.Occurring.{occurs_in}
use Rattle.prefix_terms.proofs.Occurs.{occurs-more}
use Rattle.prefix_terms.proofs.next.least_word.Goals as goal

pub loop-i-preserved : goal.loop-i-preserved
loop-i-preserved g c =
    let layers = c.args.stack.now.0 in let i = c.loop-i.i in let layer = c.layer.result.now.value in
    let number = c.args.type_no in let at = c.args.at.now in let strict = c.args.strict in
    let is : c.deref.result.now ≡ layer = search rules in
    let found = subst (λ l. IsWordFrom (λ t. has_term t l) number at strict c.word_from.result) is c.word_from.ensures.least in
    record {
      least = subst (λ (has : TermKey → Bool). IsWordFrom has number at strict c.earlier-least.result) (λ j t. occurs-more layers i layer t c.layer.ensures j)
          (subst (IsWordFrom (λ t. occurs_in (take i layers) t || has_term t layer) number at strict) (sym c.earlier-least.ensures)
          (earlier_is number at strict (occurs_in (take i layers)) (λ t. has_term t layer) c.loop-i.least c.word_from.result c.loop-i.invariant.least found));
      counted = omega (arith, c.word_from.ensures.counted, c.loop-i.invariant.counted);
    }
