use Rattle.std.proofs.Common.{◌≡◌, ◌++◌, ◌∷◌, [], codes, ap, ◌∙◌}
use Rattle.bench_script.proofs.Joined.{joined}
use Rattle.unicorn_round.specs.Counts.{labelled}
use Rattle.unicorn_round.proofs.counts.Counts.summary.Goals as goal

pub returns : goal.returns
returns c =
    let counts = c.args.self.now in let text = c.push.new.self in
    let people = labelled (codes "bench people ") c.args.people in let publishes = labelled (codes " publishes ") counts.publishes in
    let asks = labelled (codes " asks ") counts.asks in let hits = labelled (codes " hits ") counts.hits in let ids = labelled (codes " sum ") counts.ids in
    let first : c.add_count.new.text ≡ [] ++ people = c.in_ok-add_count.ensures ∙ ap (λ t. t ++ people) c.new-text.ensures in
    joined [] people (publishes ++ (asks ++ (hits ++ (ids ++ 10 ∷ [])))) c.add_count.new.text text first
    (joined c.add_count.new.text publishes (asks ++ (hits ++ (ids ++ 10 ∷ []))) c.add_count-2.new.text text c.in_ok-add_count-2.ensures
    (joined c.add_count-2.new.text asks (hits ++ (ids ++ 10 ∷ [])) c.add_count-3.new.text text c.in_ok-add_count-3.ensures
    (joined c.add_count-3.new.text hits (ids ++ 10 ∷ []) c.add_count-4.new.text text c.in_ok-add_count-4.ensures
    (joined c.add_count-4.new.text ids (10 ∷ []) c.add_count-5.new.text text c.in_ok-add_count-5.ensures c.in_ok-push.ensures.ok))))
