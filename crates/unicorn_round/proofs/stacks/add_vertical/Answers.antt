use Rattle.std.proofs.Common.{◌≡◌, ◌+◌, ◌++◌, ℕ, List, map, sym, ap, ◌∙◌, arith}
use Rattle.std.proofs.lemmas.List.{append_assoc}
use Rattle.std.specs.List.{flat_map, range_with_len}
use Rattle.unicorn_round.specs.Stacks.{bare}
use Rattle.unicorn_round.specs.declared.stacks.StackCover.{StackCover}
use Rattle.unicorn_round.proofs.Lists.{flat_map-range_more}
use Rattle.unicorn_round.proofs.stacks.add_vertical.Goals as goal

pub loop-shard-preserved : goal.loop-shard-preserved
loop-shard-preserved c =
    let stacks = λ (shard : ℕ). map (bare c.args.vertical shard) (range_with_len 0 c.args.def.now.replicas) in
    let n = c.loop-shard.shard in
    c.in_ok-add_shard.ensures
    ∙ ap (λ (covers : List StackCover). covers ++ stacks n) c.loop-shard.invariant
    ∙ append_assoc c.args.covers.now.items (flat_map stacks (range_with_len 0 n)) (stacks n)
    ∙ ap (λ (covers : List StackCover). c.args.covers.now.items ++ covers)
    (sym (flat_map-range_more stacks 0 n ∙ ap (λ m. flat_map stacks (range_with_len 0 n) ++ stacks m) (let e : 0 + n ≡ n = omega arith in e)))
