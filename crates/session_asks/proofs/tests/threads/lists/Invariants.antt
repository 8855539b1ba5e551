use Rattle.std.proofs.Common.{All}
use Rattle.session_asks.specs.Replies.{IsAsk}
use Rattle.session_asks.proofs.tests.threads.lists.Given as goal

abbrev pub invariant-loop-session : goal.invariant-loop-session
invariant-loop-session l = All (All (IsAsk l.schema)) l.lists.items
