use Rattle.std.proofs.Common.{◌<◌, length, arith, refl, sym, ◌∙◌}
use Rattle.shard_eval.proofs.HitLists.{from_ge, hits_stay}
use Rattle.shard_eval.proofs.witness.pass_before.Goals as goal

pub returns-then-ge : goal.returns-then-ge
returns-then-ge c =
    let hits = c.loop-hit.hits in
    let here = from_ge c.in-Some.hit.now.key c.args.key.now (sym c.ge.ensures ∙ c.if-ge.true) in
    let some : 0 < length hits.items = omega (arith, (c.in-Some.ensures {u = tt}).variant.0 refl, hits.ok.0) in
    sym (hits_stay hits.items c.args.key.now c.in-Some.hit.now some (c.in-Some.ensures {u = tt}).lookup c.loop-hit.invariant.1 here) ∙ c.loop-hit.invariant.0
