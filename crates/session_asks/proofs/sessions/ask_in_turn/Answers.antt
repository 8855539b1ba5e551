use Rattle.std.proofs.Common.{◌≡◌, arith, refl, take}
use Rattle.std.proofs.lemmas.List.{take_all}
use Rattle.session_asks.proofs.Parts.{may_length, may_next, taken_by_none, taken_next, replied_next, rest_next}
use Rattle.session_asks.proofs.sessions.ask_in_turn.Goals as goal

pub loop-place-init : goal.loop-place-init
loop-place-init g c = record { taken = taken_by_none _ _ _ c.requires.may; rest = refl; replied = rw c.new-all.ensures.items tt }

pub bounds-sessions-place : goal.bounds-sessions-place
bounds-sessions-place g c = omega (arith, may_length _ _ _ c.requires.may)

pub ask_session-requires-clause-may : goal.ask_session-requires-clause-may
ask_session-requires-clause-may g c κs within = may_next _ _ _ _ _ _ _ (omega arith) c.loop-place.invariant.rest c.index-asks-place.is c.requires.may

pub returns-in_err-answers-clause-taken : goal.returns-in_err-answers-clause-taken
returns-in_err-answers-clause-taken g c = taken_next _ _ _ _ _ _ _ _ (omega arith) c.loop-place.invariant.rest c.index-asks-place.is c.loop-place.invariant.taken c.ask_session.ensures.taken

pub returns-in_err-push-clause-taken : goal.returns-in_err-push-clause-taken
returns-in_err-push-clause-taken g c = taken_next _ _ _ _ _ _ _ _ (omega arith) c.loop-place.invariant.rest c.index-asks-place.is c.loop-place.invariant.taken c.ask_session.ensures.taken

pub loop-place-preserved : goal.loop-place-preserved
loop-place-preserved g c =
    let same = may_length _ _ _ c.requires.may in
    record {
      taken = taken_next _ _ _ _ _ _ _ _ (omega arith) c.loop-place.invariant.rest c.index-asks-place.is c.loop-place.invariant.taken c.ask_session.ensures.taken;
      rest = rest_next c.loop-place.sessions c.args.sessions.now c.loop-place.place c.ask_session.new.session c.loop-place.invariant.rest;
      replied = rw c.in_ok-push.ensures.items
          (replied_next _ _ _ _ _ _ _ _ _ _ (omega (arith, same)) (omega (arith, same)) (omega arith) c.loop-place.invariant.rest c.index-asks-place.is c.loop-place.invariant.replied (c.in_ok-answers.ensures {u = tt}).replied);
    }

pub returns-clause-replied : goal.returns-clause-replied
returns-clause-replied g c =
    let i = c.loop-place.place in let olds = c.args.sessions.now in let news = c.loop-place.sessions in let asks = c.args.asks.now in let same = may_length _ _ _ c.requires.may in
    let whole : take i olds ≡ olds = take_all i olds (omega (arith, same)) in
    let changed : take i news ≡ news = take_all i news (omega (arith, same)) in
    let lists : take i asks ≡ asks = take_all i asks (omega arith) in
    rw (whole, changed, lists) at c.loop-place.invariant.replied
