use Rattle.std.proofs.Common.{◌++◌, ◌∷◌, [], List, map, sym, ap, ◌∙◌, arith}
use Rattle.std.proofs.lemmas.List.{append_assoc}
use Rattle.std.proofs.lemmas.List.FromFn.{map-range_with_len_more}
use Rattle.std.specs.List.{range_with_len}
use Rattle.unicorn_round.specs.Stacks.{bare}
use Rattle.unicorn_round.specs.declared.stacks.StackCover.{StackCover}
use Rattle.unicorn_round.proofs.stacks.add_shard.Goals as goal

pub loop-replica-preserved : goal.loop-replica-preserved
loop-replica-preserved c =
    let one = bare c.args.vertical c.args.shard in
    let n = c.loop-replica.replica in
    c.in_ok-push.ensures.items
    ∙ ap (λ (covers : List StackCover). covers ++ one n ∷ []) c.loop-replica.invariant
    ∙ append_assoc c.args.covers.now.items (map one (range_with_len 0 n)) (one n ∷ [])
    ∙ ap (λ (covers : List StackCover). c.args.covers.now.items ++ covers) (sym (map-range_with_len_more one 0 n n (omega arith)))
