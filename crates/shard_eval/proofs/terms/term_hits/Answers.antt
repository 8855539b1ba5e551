use Rattle.std.proofs.Common.{ap, sym, ◌∙◌}
use Rattle.shard_eval.specs.Kept.{is_full}
use Rattle.shard_eval.proofs.FirstKeys.{all_hit, enough_hit}
use Rattle.shard_eval.proofs.terms.term_hits.Goals as goal
use Rattle.shard_eval.proofs.terms.term_hits.Goals.{in-Some+then-is_full, in_default}

pub returns : goal.returns
returns c =
    let whole = c.loop-posting.invariant.0 in
    let within = c.loop-posting.invariant.1 in
    elim c.match-posting.branch [
      | in-Some+then-is_full w ↦ enough_hit c.args.limit c.loop-posting.hits _ _ whole within (ap (λ n. is_full n c.args.limit) (sym w.len.ensures) ∙ sym w.is_full.ensures ∙ w.if-is_full.true)
      | in_default w ↦ all_hit c.args.limit c.loop-posting.hits c.args.leaf.now c.loop-posting.cursor _ whole within (λ p e. w.in_default.not-Some p (c.posting.ensures ∙ e))
    ]
