use Rattle.std.proofs.Common.{◌<◌, length, arith, ◌∙◌}
use Rattle.std.proofs.lemmas.List.{length-set}
use Rattle.shard_eval.proofs.AnyTrees.{moved_more, ranked_more}
use Rattle.shard_eval.proofs.any.pass_before.Goals as goal

pub loop-i-preserved : goal.loop-i-preserved
loop-i-preserved c =
    let olds = c.args.terms.now.items in
    let nows = c.loop-i.terms.items in
    let i = c.loop-i.i in
    let key = c.args.key.now in
    let old = c.index_mut.result.now in
    let new = c.pass_before.new.self in
    let within : i < length olds = omega (arith, c.args.terms.now.ok.0) in
    record {
      count = length-set nows i new ∙ c.loop-i.invariant.count;
      moved = moved_more key olds nows i old c.loop-i.invariant.count within c.loop-i.invariant.moved c.index_mut.ensures.value new c.pass_before.ensures.rest;
      ranked = ranked_more key olds nows i old c.loop-i.invariant.count within c.loop-i.invariant.moved c.index_mut.ensures.value c.pass_before.ensures.ranked c.loop-i.invariant.ranked;
    }
