use Rattle.std.proofs.Common.{◌≡◌, ◌≤◌, ◌+◌, ◌⊎◌, ◌∙◌, MatchOption, ap, sym, subst, arith, take}
use Rattle.uni_schema.specs.Header.{step, goes, refuses}
use Rattle.uni_schema.specs.declared.refusal.SchemaRefusal.TheVariants.{Memory}
use Rattle.script_rounds.specs.Reading.{LineState, at, IsFront, IsSpent}
use Rattle.script_rounds.proofs.Fronts.{front_within}
use Rattle.script_rounds.proofs.HeaderSteps.{goes-longest, header_more, header_opens, header_refused, header_short, header_broke}
use Rattle.script_rounds.proofs.header.take_header.Goals as goal

pub returns-in-Ok-None-clause-faulty : goal.returns-in-Ok-None-clause-faulty
returns-in-Ok-None-clause-faulty g c =
    let filled : LineState = c.fill.new.self in
    let so_far = c.loop-len.invariant in
    header_short c.args.limits.now (at c.args.reader.now (g.S.Source.left c.args.source.now)) c.loop-len.reader filled
    (g.S.Source.left c.loop-len.source) (g.S.Source.left c.fill.new.source) c.loop-len.header (c.lines-number.result + 1)
    so_far.so_far c.in-Ok-None.ensures.went
    (subst (λ o. MatchOption o (IsSpent filled) (IsFront filled)) c.in-Ok-None.field-0-is c.in-Ok-None.ensures.front)
    c.in-Ok-None.ensures.in_limit
    (ap (λ n. n + 1) (c.lines-number.ensures.lines ∙ so_far.number))

pub returns-in-Err-clause-faulty : goal.returns-in-Err-clause-faulty
returns-in-Err-clause-faulty g c =
    header_broke c.args.limits.now (at c.args.reader.now (g.S.Source.left c.args.source.now)) (at c.loop-len.reader (g.S.Source.left c.loop-len.source))
    (at c.fill.new.self (g.S.Source.left c.fill.new.source)) c.loop-len.header c.in-Err.refusal c.loop-len.invariant.so_far c.in-Err.ensures.stopped

pub front-requires : goal.front-requires
front-requires g c =
    let filled : LineState = c.fill.new.self in
    front_within filled c.in-Ok-Some.len
    (subst (λ o. MatchOption o (IsSpent filled) (IsFront filled)) c.in-Ok-Some.field-0-is c.in-Ok-Some.ensures.front)

pub returns-in-Err-take-clause-faulty : goal.returns-in-Err-take-clause-faulty
returns-in-Err-take-clause-faulty g c =
    let filled : LineState = c.fill.new.self in
    let so_far = c.loop-len.invariant in
    header_refused c.args.limits.now (at c.args.reader.now (g.S.Source.left c.args.source.now)) c.loop-len.reader filled
    (g.S.Source.left c.loop-len.source) (g.S.Source.left c.fill.new.source) c.loop-len.header c.in-Ok-Some.len c.in-Err-take.refusal
    so_far.so_far (omega (arith, so_far.keeps.line, c.in-Ok-Some.ensures.went.kept)) c.in-Ok-Some.ensures.went
    (subst (λ o. MatchOption o (IsSpent filled) (IsFront filled)) c.in-Ok-Some.field-0-is c.in-Ok-Some.ensures.front)
    c.in-Ok-Some.ensures.in_limit
    (subst (λ line. (c.in-Err-take.refusal ≡ Memory) ⊎ (step c.loop-len.header line ≡ refuses c.in-Err-take.refusal)) c.front.ensures c.in-Err-take.ensures.refused)

pub returns-then-last-clause-took : goal.returns-then-last-clause-took
returns-then-last-clause-took g c =
    let filled : LineState = c.fill.new.self in
    let so_far = c.loop-len.invariant in
    header_opens c.args.limits.now (at c.args.reader.now (g.S.Source.left c.args.source.now)) c.loop-len.reader filled c.pass.new.self
    (g.S.Source.left c.loop-len.source) (g.S.Source.left c.fill.new.source) c.loop-len.header c.take.new.self c.in-Ok-Some.len c.schema.result
    so_far.so_far (omega (arith, so_far.keeps.line, c.in-Ok-Some.ensures.went.kept)) c.in-Ok-Some.ensures.went
    (subst (λ o. MatchOption o (IsSpent filled) (IsFront filled)) c.in-Ok-Some.field-0-is c.in-Ok-Some.ensures.front)
    (subst (λ line. step c.loop-len.header line ≡ goes c.take.new.self) c.front.ensures c.in-Ok.ensures.ok.0)
    c.in-Ok.ensures.counted
    (sym c.in-Ok.ensures.ok.1 ∙ c.if-last.true)
    c.schema.ensures
    c.pass.ensures

pub loop-len-preserved : goal.loop-len-preserved
loop-len-preserved g c =
    let filled : LineState = c.fill.new.self in
    let so_far = c.loop-len.invariant in
    let is = subst (λ line. step c.loop-len.header line ≡ goes c.take.new.self) c.front.ensures c.in-Ok.ensures.ok.0 in
    let kept = ap (λ (s : LineState). s.kept) c.pass.ensures in
    record {
      so_far = header_more c.args.limits.now (at c.args.reader.now (g.S.Source.left c.args.source.now)) c.loop-len.reader filled c.pass.new.self
          (g.S.Source.left c.loop-len.source) (g.S.Source.left c.fill.new.source) c.loop-len.header c.take.new.self c.in-Ok-Some.len c.in-Ok.last
          so_far.so_far (omega (arith, so_far.keeps.line, c.in-Ok-Some.ensures.went.kept)) c.in-Ok-Some.ensures.went
          (subst (λ o. MatchOption o (IsSpent filled) (IsFront filled)) c.in-Ok-Some.field-0-is c.in-Ok-Some.ensures.front)
          is c.in-Ok.ensures.counted (goes-longest c.loop-len.header c.take.new.self (take c.in-Ok-Some.len filled.ahead) is) (sym c.in-Ok.ensures.ok.1 ∙ c.if-last.false) c.pass.ensures;
      number = omega (arith, ap (λ (s : LineState). s.lines) c.pass.ensures, c.in-Ok-Some.ensures.went.lines, so_far.number, c.in-Ok.ensures.counted);
      in_limit = subst (λ (s : LineState). s.taken ≤ s.limit) (sym c.pass.ensures) c.in-Ok-Some.ensures.in_limit;
      keeps = record {
        line = omega (arith, kept, so_far.keeps.line, c.in-Ok-Some.ensures.went.kept);
        go = omega (arith, kept, so_far.keeps.go, c.in-Ok-Some.ensures.went.kept);
      };
      quiet = c.in-Ok-Some.ensures.faults ∙ so_far.quiet;
    }
