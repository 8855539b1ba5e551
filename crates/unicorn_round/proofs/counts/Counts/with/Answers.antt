use Rattle.std.proofs.Common.{sym}
use Rattle.unicorn_round.proofs.Counted.{plus_none}
use Rattle.unicorn_round.proofs.counts.Counts.with.Goals as goal

pub loop-answer-init : goal.loop-answer-init
loop-answer-init c = sym (plus_none c.args.self)
