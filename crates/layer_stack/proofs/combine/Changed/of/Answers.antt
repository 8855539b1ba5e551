use Rattle.std.proofs.Common.{rules, arith, ◌≡◌, T, List, ap, ◌∙◌, sym, subst}
use Rattle.std.specs.FinMap as finite
use Rattle.std.specs.FinMap.{is_sorted}
use Rattle.posting_lists.specs.Postings.{section}
use Rattle.layer_base.specs.Layers.{from_log}
use Rattle.layer_stack.specs.declared.place.TermKey.{TermKey}
use Rattle.layer_stack.specs.Combined.{is_among, is_changed}
use Rattle.layer_stack.specs.Places.{term_cmp}
use Rattle.layer_stack.specs.Words.{has_term}
use Rattle.layer_base.proofs.Among.{among_last}
use Rattle.layer_stack.proofs.Combined.{changed_more}
use Rattle.layer_stack.proofs.Order.{term_apart, term_total}
use Rattle.layer_stack.proofs.combine.Changed.of.Goals as goal

pub loop-i-preserved : goal.loop-i-preserved
loop-i-preserved c t none =
    let layer = c.layer-in-loop-i.result.now.value in
    let is : c.deref-in-loop-i.result.now ≡ layer = search rules in
    let both = c.in_ok-note_terms.ensures {u = tt} t none in
    changed_more t c.args.stack.now.0 c.loop-i.i layer c.loop-i.auto.i c.layer-in-loop-i.ensures (c.loop-i.invariant t both.0) (ap (has_term t) (sym is) ∙ both.1)

pub last_words-requires : goal.last_words-requires
last_words-requires c = term_apart

pub returns : goal.returns
returns c =
    let layers = c.args.stack.now.0 in let log = c.loop-i.log.items in
    let all : c.loop-i.i ≡ c.args.count = omega (arith, c.loop-i-test.false, c.loop-i.auto.i-end, c.requires) in
    let is = c.in_ok-terms.ensures.last in
    record {
      sorted = subst (λ (es : List (TermKey × Unit {0})). T (is_sorted term_cmp es)) (sym is) (finite.entries_sorted (from_log {R = term_cmp} log));
      others = λ t none. ap (λ n. is_changed t (section 1 n layers)) (sym all) ∙ c.loop-i.invariant t (sym (ap (is_among t) is ∙ among_last term_cmp term_total t log) ∙ none);
    }
