use Rattle.std.proofs.Common.{All}
use Rattle.session_asks.specs.Replies.{IsAsk}
use Rattle.session_asks.proofs.tests.read_lists.Given as goal

abbrev pub invariant-loop-asks : goal.invariant-loop-asks
invariant-loop-asks l = All (All (IsAsk l.schema)) l.lists.items
