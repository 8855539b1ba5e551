use Rattle.std.proofs.Common.{◌≡◌, ◌+◌, ◌∷◌, [], length, length-append, ap, subst, sym, arith}
use Rattle.apply_extract.specs.Answered.{answered_in}
use Rattle.apply_extract.specs.Parts.{AllFirst}
use Rattle.apply_extract.proofs.Asked.{first_more}
use Rattle.apply_extract.proofs.shards.ask_in_turn.Goals as goal

pub loop-shard-preserved : goal.loop-shard-preserved
loop-shard-preserved g c =
    let version = c.args.version.now in
    let query = answered_in c.args.query.now in
    let pushed = c.in_ok-push.ensures.items in
    let count : length c.loop-shard.parts.items ≡ c.loop-shard.shard = c.loop-shard.invariant.count in
    let long : 0 + length c.loop-shard.parts.items ≡ c.loop-shard.shard = omega (arith, count) in
    record {
      count = omega (arith, ap length pushed, length-append c.loop-shard.parts.items (c.in_ok-ask_shard.field-0 ∷ []), count);
      parts = subst (AllFirst version c.args.vertical 0 c.args.limit query) (sym pushed)
          (first_more version c.args.vertical c.args.limit query 0 c.loop-shard.shard c.loop-shard.parts.items c.in_ok-ask_shard.field-0 long c.loop-shard.invariant.parts c.in_ok-ask_shard.ensures);
    }
