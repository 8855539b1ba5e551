use Rattle.std.proofs.Common.{◌≡◌, ◌+◌, ◌∷◌, ◌++◌, [], ap, arith, take, sym, ◌∙◌}
use Rattle.std.proofs.lemmas.List.{take_more}
use Rattle.session_asks.proofs.Replied.{length_prefix, replied_more}
use Rattle.session_asks.proofs.Takes.{taken_more}
use Rattle.session_asks.proofs.session.ask_session.Goals as goal

pub loop-ask-preserved : goal.loop-ask-preserved
loop-ask-preserved g c =
    let items = c.as_slice-ask-items.result.now in let i = c.loop-ask.ask-index in let ask = c.ask-item.result in
    let asks_are : take (i + 1) items ≡ take i items ++ ask ∷ [] = take_more items i ask (omega arith) ∙ ap (λ x. take i items ++ x ∷ []) (sym c.ask-item.is) in
    let answers_are : c.push.new.self ≡ c.loop-ask.answers ++ c.ask_one-answer.result ∷ [] = (c.in_ok-push.ensures {u = tt}).ok in
    record {
      taken = taken_more _ _ 1 _ _ _ _ (omega arith) c.loop-ask.invariant.taken c.ask_one-answer.ensures.taken;
      replied = rw (asks_are, answers_are) (replied_more _ _ _ _ _ _ _ _ c.ask_one-answer.ensures.taken.later (length_prefix _ _ c.loop-ask.invariant.taken.later) c.loop-ask.invariant.replied c.ask_one-answer.ensures.replied);
    }
