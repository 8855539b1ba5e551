use Rattle.std.proofs.Common.{rules, ◌≡◌, ◌++◌, ◌∷◌, [], map, take, ap, ◌∙◌, sym}
use Rattle.std.proofs.lemmas.List.{take_more, map-append}
use Rattle.layer_stack.specs.Runs.{posting_from}
use Rattle.layer_stack.proofs.Settled.{audience_read}
use Rattle.layer_stack.proofs.settle.pick_postings.Goals as goal

pub loop-key-preserved : goal.loop-key-preserved
loop-key-preserved c =
    let ps = c.args.postings.now in let rows = c.args.rows.now in let e = c.loop-key-item.result in let i = c.loop-key.key-index in
    let pushed : c.push.new.self ≡ c.loop-key.picked ++ record { key = e.0; audience = c.posting-audience.result.audience } ∷ [] = search rules in
    let audience = audience_read ps e.1 c.posting-audience.result c.posting-audience.ensures in
    pushed ∙ (λ j. c.loop-key.invariant j ++ record { key = e.0; audience = sym audience j } ∷ [])
    ∙ sym (ap (map (posting_from ps)) (take_more rows i e c.loop-key-test.true ∙ ap (λ x. take i rows ++ x ∷ []) (sym c.loop-key-item.is)) ∙ map-append (posting_from ps) (take i rows) (e ∷ []))
