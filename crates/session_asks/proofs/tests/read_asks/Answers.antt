use Rattle.std.proofs.lemmas.List.Elements.{All-push}
use Rattle.session_asks.specs.Replies.{IsAsk}
use Rattle.session_asks.proofs.tests.read_asks.Goals as goal

pub loop-ask-preserved : goal.loop-ask-preserved
loop-ask-preserved c = rw (c.in-Ok.ensures {u = tt}).ok (All-push (IsAsk c.args.schema.now) c.loop-ask.asks c.in_ok-ask.ask c.loop-ask.invariant (c.in_ok-ask.ensures {u = tt}))
