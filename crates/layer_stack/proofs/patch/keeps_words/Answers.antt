use Rattle.std.proofs.Common.{arith, ◌≡◌, ◌+◌, ◌≤◌, ◌++◌, ◌∷◌, [], true, false, List, length, take, All, ap, ◌∙◌, sym, subst, is_some}
use Rattle.std.proofs.lemmas.List.{take_more, take_all}
use Rattle.std.proofs.lemmas.List.Elements.{All-push}
use Rattle.layer_stack.specs.declared.place.TermKey.{TermKey}
use Rattle.layer_stack.specs.Based.{has_postings, is_word}
use Rattle.layer_stack.specs.Spans.{word_of}
use Rattle.layer_stack.proofs.Based.{each_among, some_postings}
use Rattle.layer_stack.proofs.patch.keeps_words.Goals as goal
use Rattle.layer_stack.proofs.patch.keeps_words.Goals.{in-Word+else-puts_under-eq0, in_default}

pub loop-term-preserved : goal.loop-term-preserved
loop-term-preserved c =
    let es = c.args.terms.now in let i = c.loop-term.term-index in let e = c.loop-term-item.result in let puts = c.args.rows.now.puts in
    let more : take (i + 1) es ≡ take i es ++ e ∷ [] = take_more es i e c.loop-term-test.true ∙ ap (λ x. take i es ++ x ∷ []) (sym c.loop-term-item.is) in
    let kept : is_word e.0 ≡ true → has_postings e.0 puts ≡ true =
    elim c.match-term.branch [
      | in-Word+else-puts_under-eq0 w ↦ λ word. some_postings e.0 puts (λ none. w.if-puts_under-eq0.false (w.puts_under.ensures ∙ none))
      | in_default w ↦ λ word. let no : is_word e.0 ≡ false = ap (λ k. is_some (word_of k)) w.in_default.is in absurd cc
    ] in
    subst (λ (xs : List (TermKey × Unit {0})). All (λ x. is_word x.0 ≡ true → has_postings x.0 puts ≡ true) xs) (sym more) (All-push (λ (x : TermKey × Unit {0}). is_word x.0 ≡ true → has_postings x.0 puts ≡ true) (take i es) e c.loop-term.invariant kept)

pub returns : goal.returns
returns c all t among word =
    let es = c.args.terms.now in let puts = c.args.rows.now.puts in
    let whole : length es ≤ c.loop-term.term-index = omega (arith, c.loop-term-test.false) in
    each_among (λ s. is_word s ≡ true → has_postings s puts ≡ true) es (subst (λ (xs : List (TermKey × Unit {0})). All (λ x. is_word x.0 ≡ true → has_postings x.0 puts ≡ true) xs) (take_all c.loop-term.term-index es whole) c.loop-term.invariant) t among word
