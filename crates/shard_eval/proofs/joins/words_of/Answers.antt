use Rattle.std.proofs.Common.{◌≡◌, ◌+◌, ◌++◌, ◌∷◌, [], ℕ, List, take, take-suc, suc, ap, sym, ◌∙◌, arith}
use Rattle.std.proofs.lemmas.Option.{get_or_from_slice_get, slice_get_within}
use Rattle.shard_eval.proofs.joins.words_of.Goals as goal

pub loop-i-preserved : goal.loop-i-preserved
loop-i-preserved c =
    let words = c.args.postings.now.words in
    let i = c.loop-i.i in
    let word = c.word.result in
    let more : take (i + 1) words ≡ take i words ++ word ∷ [] =
    ap (λ n. take n words) (let e : i + 1 ≡ suc i = omega arith in e)
    ∙ take-suc words i word (slice_get_within words i word c.word.ensures) ∙ ap (λ (w : List ℕ). take i words ++ w ∷ []) (get_or_from_slice_get words i word word c.word.ensures) in
    (c.in_ok-push.ensures {u = tt}).ok ∙ ap (λ (ws : List (List ℕ)). ws ++ word ∷ []) c.loop-i.invariant ∙ sym more
