use Rattle.std.proofs.Common.{rules, ◌≡◌, ◌*◌, ◌+◌, ◌-◌, ◌%◌, ◌++◌, ◌∷◌, [], ℕ, List, length, refl, sym, ap, ◌∙◌, arith, codes}
use Rattle.bench_script.specs.BenchScript.{after_draws, asks, edges, entities, header, later_rounds}
use Rattle.bench_script.proofs.Joined.{joined}
use Rattle.bench_script.proofs.script.bench_script.Goals as goal

pub returns : goal.returns
returns c =
    let people = c.args.people in let ranked = after_draws people c.args.seed in
    let one : c.extend_from_slice.new.self ≡ [] ++ header = c.in_ok-extend_from_slice.ensures.ok ∙ ap (λ t. t ++ header) c.new-text.ensures in
    let three : c.add_edges.new.text ≡ c.add_entities.new.text ++ edges people ranked people
    = c.in_ok-add_edges.ensures.text ∙ ap (λ y. c.add_entities.new.text ++ edges people y people) c.in_ok-add_entities.ensures.draws in
    let six : c.add_later_rounds.new.text ≡ c.add_asks.new.text ++ later_rounds people (after_draws (6 * people) ranked) 10
    = c.in_ok-add_later_rounds.ensures ∙ ap (λ y. c.add_asks.new.text ++ later_rounds people y 10)
    (c.in_ok-add_edges.ensures.draws ∙ ap (after_draws (6 * people)) c.in_ok-add_entities.ensures.draws) in
    let entered = entities c.args.seed people in let led = edges people ranked people in let published = codes "publish\ngo\n" in
    let asked = asks people in let later = later_rounds people (after_draws (6 * people) ranked) 10 in
    let text = c.add_later_rounds.new.text in
    joined [] header (entered ++ (led ++ (published ++ (asked ++ later)))) c.extend_from_slice.new.self text one
    (joined c.extend_from_slice.new.self entered (led ++ (published ++ (asked ++ later))) c.add_entities.new.text text c.in_ok-add_entities.ensures.text
    (joined c.add_entities.new.text led (published ++ (asked ++ later)) c.add_edges.new.text text three
    (joined c.add_edges.new.text published (asked ++ later) c.extend_from_slice-2.new.self text c.in_ok-extend_from_slice-2.ensures.ok
    (joined c.extend_from_slice-2.new.self asked later c.add_asks.new.text text c.in_ok-add_asks.ensures six))))
