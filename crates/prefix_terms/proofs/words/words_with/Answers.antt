use Rattle.std.proofs.Common.{arith, ◌∷◌, ◌++◌, [], ℕ, if◌then◌else◌, ◌∙◌, ap, sym, subst}
use Rattle.prefix_terms.specs.Occurring.{AreFewSteps}
use Rattle.prefix_terms.proofs.Searched.{IsSearched, search_begins, search_goes_on, search_ends, few_still, fewer_left}
use Rattle.prefix_terms.proofs.words.words_with.Goals as goal

pub loop-word-init : goal.loop-word-init
loop-word-init g c =
    let number = c.args.type_no in let from = c.args.from.now in let layers = c.args.stack.now.0 in let steps = c.args.steps.now in
    subst (λ ws. IsSearched number from layers _ from ws steps steps) (sym c.new-words.ensures) (search_begins number from layers steps)

pub returns-in_err-has_posting-clause-few : goal.returns-in_err-has_posting-clause-few
returns-in_err-has_posting-clause-few g c =
    let layers = c.args.stack.now.0 in
    subst (λ (n : ℕ). AreFewSteps c.args.steps.now n c.args.type_no c.args.from.now layers) (sym c.next_word.ensures.counted)
    (few_still c.args.type_no c.args.from.now layers c.loop-word.strict c.loop-word.at c.loop-word.words c.args.steps.now c.loop-word.steps c.loop-word.invariant)

pub returns-in_err-push-clause-few : goal.returns-in_err-push-clause-few
returns-in_err-push-clause-few g c =
    let layers = c.args.stack.now.0 in
    subst (λ (n : ℕ). AreFewSteps c.args.steps.now n c.args.type_no c.args.from.now layers) (sym c.next_word.ensures.counted)
    (few_still c.args.type_no c.args.from.now layers c.loop-word.strict c.loop-word.at c.loop-word.words c.args.steps.now c.loop-word.steps c.loop-word.invariant)

pub loop-word-smaller-in_ok-push : goal.loop-word-smaller-in_ok-push
loop-word-smaller-in_ok-push g c =
    let l = c.loop-word in
    omega (arith, fewer_left c.args.type_no c.args.from.now c.args.stack.now.0 l.strict l.at l.words c.args.steps.now l.steps l.invariant c.in-Some.word c.in-Some.ensures.least)

pub loop-word-smaller : goal.loop-word-smaller
loop-word-smaller g c =
    let l = c.loop-word in
    omega (arith, fewer_left c.args.type_no c.args.from.now c.args.stack.now.0 l.strict l.at l.words c.args.steps.now l.steps l.invariant c.in-Some.word c.in-Some.ensures.least)

pub loop-word-preserved-in_ok-push : goal.loop-word-preserved-in_ok-push
loop-word-preserved-in_ok-push g c =
    let l = c.loop-word in let number = c.args.type_no in let from = c.args.from.now in let layers = c.args.stack.now.0 in let word = c.in-Some.word in
    let has = sym (c.in_ok-has_posting.ensures {u = tt}) ∙ c.if-branch.true in
    let now = (c.in_ok-push.ensures {u = tt}).ok ∙ sym (ap (λ b. if b then l.words ++ word ∷ [] else l.words) has) in
    subst (IsSearched number from layers _ word c.push.new.self c.args.steps.now) (sym c.next_word.ensures.counted)
    (search_goes_on number from layers l.strict l.at l.words c.args.steps.now l.steps l.invariant word c.in-Some.ensures.least c.push.new.self now)

pub loop-word-preserved : goal.loop-word-preserved
loop-word-preserved g c =
    let l = c.loop-word in let number = c.args.type_no in let from = c.args.from.now in let layers = c.args.stack.now.0 in let word = c.in-Some.word in
    let has = sym (c.in_ok-has_posting.ensures {u = tt}) ∙ c.if-branch.false in
    let now = sym (ap (λ b. if b then l.words ++ word ∷ [] else l.words) has) in
    subst (IsSearched number from layers _ word l.words c.args.steps.now) (sym c.next_word.ensures.counted)
    (search_goes_on number from layers l.strict l.at l.words c.args.steps.now l.steps l.invariant word c.in-Some.ensures.least l.words now)

pub returns-clause-words : goal.returns-clause-words
returns-clause-words g c =
    let l = c.loop-word in
    search_ends c.args.type_no c.args.from.now c.args.stack.now.0 l.strict l.at l.words c.args.steps.now l.steps l.invariant (c.in_default.ensures {u = tt}).least

pub returns-clause-few : goal.returns-clause-few
returns-clause-few g c =
    let layers = c.args.stack.now.0 in
    subst (λ (n : ℕ). AreFewSteps c.args.steps.now n c.args.type_no c.args.from.now layers) (sym c.next_word.ensures.counted)
    (few_still c.args.type_no c.args.from.now layers c.loop-word.strict c.loop-word.at c.loop-word.words c.args.steps.now c.loop-word.steps c.loop-word.invariant)
