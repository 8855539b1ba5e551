use Rattle.std.proofs.Common.{arith}
use Rattle.std.proofs.lemmas.Result.{IfOk-at_ok}
use Rattle.version_catalog.specs.Seats.{settings_of}
use Rattle.session_asks.specs.Seats.{AllReplied}
use Rattle.session_asks.proofs.Parts.{may_length, may_front, may_back, taken_parted, replied_parted}
use Rattle.session_asks.proofs.sessions.+parts.Goals as goal

pub ask_parts-split_at_mut-front-requires : goal.ask_parts-split_at_mut-front-requires
ask_parts-split_at_mut-front-requires g t c = omega (arith, may_length _ _ _ c.requires.may)

pub ask_parts-ask_both-answers-requires-clause-front :
    goal.ask_parts-ask_both-answers-requires-clause-front
ask_parts-ask_both-answers-requires-clause-front g t c κs within = rw (c.split_at_mut-front.ensures.front, c.split_at.ensures.front) (may_front _ _ _ _ c.requires.may)

pub ask_parts-ask_both-answers-requires-clause-back :
    goal.ask_parts-ask_both-answers-requires-clause-back
ask_parts-ask_both-answers-requires-clause-back g t c κs within = rw (c.split_at_mut-front.ensures.back, c.split_at.ensures.back) (may_back _ _ _ _ c.requires.may)

pub ask_parts-returns-in_err-all-clause-taken : goal.ask_parts-returns-in_err-all-clause-taken
ask_parts-returns-in_err-all-clause-taken g t c =
    let parts = c.split_at_mut-front.ensures in let lists = c.split_at.ensures in
    taken_parted _ _ _ _ _ _ _ _ _ _ parts.front parts.back lists.front lists.back c.ask_both-answers.ensures.front c.ask_both-answers.ensures.back

pub ask_parts-returns-in_err-others-clause-taken :
    goal.ask_parts-returns-in_err-others-clause-taken
ask_parts-returns-in_err-others-clause-taken g t c =
    let parts = c.split_at_mut-front.ensures in let lists = c.split_at.ensures in
    taken_parted _ _ _ _ _ _ _ _ _ _ parts.front parts.back lists.front lists.back c.ask_both-answers.ensures.front c.ask_both-answers.ensures.back

pub ask_parts-returns-in_err-append-clause-taken :
    goal.ask_parts-returns-in_err-append-clause-taken
ask_parts-returns-in_err-append-clause-taken g t c =
    let parts = c.split_at_mut-front.ensures in let lists = c.split_at.ensures in
    taken_parted _ _ _ _ _ _ _ _ _ _ parts.front parts.back lists.front lists.back c.ask_both-answers.ensures.front c.ask_both-answers.ensures.back

pub ask_parts-returns-clause-taken : goal.ask_parts-returns-clause-taken
ask_parts-returns-clause-taken g t c =
    let parts = c.split_at_mut-front.ensures in let lists = c.split_at.ensures in
    taken_parted _ _ _ _ _ _ _ _ _ _ parts.front parts.back lists.front lists.back c.ask_both-answers.ensures.front c.ask_both-answers.ensures.back

pub ask_parts-returns-clause-replied : goal.ask_parts-returns-clause-replied
ask_parts-returns-clause-replied g t c =
    let parts = c.split_at_mut-front.ensures in let lists = c.split_at.ensures in let both = c.ask_both-answers in let schema = (settings_of c.args.catalogue.now).schema in
    let front = IfOk-at_ok (λ v. AllReplied schema c.split_at_mut-front.result.0.now both.new.front c.split_at.result.0.now v.items) c.in_ok-all.was both.ensures.front_answers in
    let back = IfOk-at_ok (λ v. AllReplied schema c.split_at_mut-front.result.1.now both.new.back c.split_at.result.1.now v.items) c.in_ok-others.was both.ensures.back_answers in
    replied_parted _ _ _ _ _ _ _ _ _ _ _ _ _ parts.front parts.back lists.front lists.back c.in_ok-append.ensures.items front back
