use Rattle.std.proofs.Common.{rules, ◌≡◌, ◌*◌, ◌+◌, ◌-◌, ◌%◌, ◌++◌, ◌∷◌, [], ℕ, List, length, refl, sym, ap, ◌∙◌, arith, codes}
use Rattle.bench_script.specs.BenchScript.{spaced}
use Rattle.bench_script.proofs.Joined.{joined}
use Rattle.bench_script.proofs.lines.add_entity.Goals as goal

pub returns : goal.returns
returns c =
    let old = c.args.text.now in let rank = spaced (c.args.drawn % 1000) in
    let last : c.push.new.self ≡ c.add_spaced.new.text ++ (rank ++ 10 ∷ [])
    = joined c.add_spaced.new.text rank (10 ∷ []) c.add_spaced-2.new.text c.push.new.self c.in_ok-add_spaced-2.ensures c.in_ok-push.ensures.ok in
    let further : c.push.new.self ≡ c.extend_from_slice.new.self ++ (spaced c.args.id ++ (rank ++ 10 ∷ []))
    = joined c.extend_from_slice.new.self (spaced c.args.id) (rank ++ 10 ∷ []) c.add_spaced.new.text c.push.new.self c.in_ok-add_spaced.ensures last in
    joined old (codes "entity user") (spaced c.args.id ++ (rank ++ 10 ∷ [])) c.extend_from_slice.new.self c.push.new.self c.in_ok-extend_from_slice.ensures.ok further
