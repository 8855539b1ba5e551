use Rattle.std.proofs.Common.{ap, sym, ◌∙◌}
use Rattle.shard_eval.specs.Kept.{is_full}
use Rattle.shard_eval.proofs.FirstKeys.{all_kept, enough_kept}
use Rattle.shard_eval.proofs.kept.first_keys.Goals as goal
use Rattle.shard_eval.proofs.kept.first_keys.Goals.{in-Some+then-is_full, in_default}

pub returns : goal.returns
returns g c =
    let all = c.loop-key.invariant.0 in
    let within = c.loop-key.invariant.1 in
    elim c.match-peek.branch [
      | in-Some+then-is_full w ↦ enough_kept c.args.limit c.loop-key.keys _ _ all within (ap (λ n. is_full n c.args.limit) (sym w.len.ensures) ∙ sym w.is_full.ensures ∙ w.if-is_full.true)
      | in_default w ↦ all_kept c.args.limit c.loop-key.keys _ _ all within (λ k e. w.in_default.not-Some k (c.peek.ensures.first ∙ e))
    ]
