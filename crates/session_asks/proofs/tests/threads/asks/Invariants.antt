use Rattle.std.proofs.Common.{All}
use Rattle.session_asks.specs.Replies.{IsAsk}
use Rattle.session_asks.proofs.tests.threads.asks.Given as goal

abbrev pub invariant-loop-line : goal.invariant-loop-line
invariant-loop-line l = All (IsAsk l.schema) l.asks
