use Rattle.std.proofs.Common.{◌+◌, ap, subst, MatchOption}
use Rattle.script_rounds.specs.Reading.{LineState, IsFront, IsSpent}
use Rattle.script_rounds.proofs.RoundLoop.{took_line}
use Rattle.script_rounds.proofs.round.take_line.Goals as goal

pub returns-clause-took : goal.returns-clause-took
returns-clause-took g c =
    let filled : LineState = c.fill.new.self in
    took_line c.args.terms.now c.args.reader.now filled c.pass.new.self (g.S.Source.left c.args.source.now) (g.S.Source.left c.fill.new.source)
    c.args.before c.in-Some.len (c.lines-number.result + 1) c.front.result.now c.in-Ok.line
    c.requires.keeps c.in_ok-len.ensures.went
    (subst (λ o. MatchOption o (IsSpent filled) (IsFront filled)) c.in-Some.is c.in_ok-len.ensures.front)
    c.pass.ensures (ap (λ n. n + 1) c.lines-number.ensures.lines) c.front.ensures (c.in-Ok.ensures {u = tt}).line (c.in-Ok.ensures {u = tt}).fits
