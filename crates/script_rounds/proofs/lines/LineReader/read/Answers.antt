use Rattle.std.proofs.Common.{◌≡◌, ◌∙◌, ap, arith}
use Rattle.script_rounds.specs.Reading.{LineState}
use Rattle.script_rounds.proofs.ReadSteps.{is_past}
use Rattle.script_rounds.proofs.lines.LineReader.read.Goals as goal
use Rattle.script_rounds.proofs.lines.LineReader.read.Goals.{then-room-eq0, else-room-eq0}

pub returns-then-self-clause-stops : goal.returns-then-self-clause-stops
returns-then-self-clause-stops g c =
    let reads = c.in_ok-n.ensures.ok in
    let inside = c.self.inside in
    let is = c.self.view_is in
    let in_limit = ap (λ (s : LineState). s.taken) is in
    let limit = ap (λ (s : LineState). s.limit) is in
    let one : c.in_ok-n.n ≡ 1 =
    elim c.if-room-eq0.branch [
      | then-room-eq0 w ↦ omega (arith, reads.within, in_limit, limit)
      | else-room-eq0 w ↦ omega (arith, reads.within, in_limit, limit)
    ] in
    is_past c.args.self.now _ (g.S.Source.left c.args.source.now) (g.S.Source.left c.read_most.new.source) reads.more reads.gave
    (record { in_limit = c.requires.in_limit; unended = c.requires.open; none = c.requires.none })
    (reads.count ∙ one)
    (omega (arith, in_limit, limit, one))
    (omega (arith, in_limit, reads.count))
    limit
    (ap (λ (s : LineState). s.kept) is)
    (ap (λ (s : LineState). s.lines) is)
