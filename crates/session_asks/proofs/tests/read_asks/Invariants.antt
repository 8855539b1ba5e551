use Rattle.std.proofs.Common.{All}
use Rattle.session_asks.specs.Replies.{IsAsk}
use Rattle.session_asks.proofs.tests.read_asks.Given as goal

abbrev pub invariant-loop-ask : goal.invariant-loop-ask
invariant-loop-ask l = All (IsAsk l.schema) l.asks
