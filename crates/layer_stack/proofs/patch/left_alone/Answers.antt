use Rattle.std.proofs.Common.{rules, arith, ◌≡◌, ◌+◌, ◌++◌, ◌∷◌, [], length, take, ap, ◌∙◌, sym}
use Rattle.std.proofs.lemmas.List.{take_more}
use Rattle.layer_stack.specs.Based.{count_under}
use Rattle.layer_stack.specs.Postings.{postings_of}
use Rattle.layer_stack.proofs.Based.{count_more}
use Rattle.layer_stack.proofs.patch.left_alone.Goals as goal

pub loop-term-preserved : goal.loop-term-preserved
loop-term-preserved c =
    let es = c.args.terms.now in let i = c.loop-term.term-index in let e = c.loop-term-item.result in let puts = c.args.rows.now.puts in
    let more : count_under puts (take (i + 1) es) ≡ count_under puts (take i es) + length (postings_of e.0 puts) =
    ap (count_under puts) (take_more es i e c.loop-term-test.true ∙ ap (λ x. take i es ++ x ∷ []) (sym c.loop-term-item.is)) ∙ count_more puts (take i es) e in
    let less : c.in_ok-left.left + c.puts_under.result ≡ c.loop-term.left = search (rules, arith) in
    omega (arith, more, less, c.puts_under.ensures, c.loop-term.invariant)
