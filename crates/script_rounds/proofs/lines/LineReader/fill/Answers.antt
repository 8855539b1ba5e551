use Rattle.std.proofs.Common.{rules, ◌≡◌, ◌∙◌, false, [], ap, arith, take}
use Rattle.std.proofs.lemmas.Result.{err_from_is_err_and}
use Rattle.uni_base.specs.Lines.{has_lf}
use Rattle.script_rounds.specs.Reading.{LineState, at}
use Rattle.script_rounds.proofs.ReadSteps.{went_more, went_shortened}
use Rattle.script_rounds.proofs.Fronts.{no_lf-take}
use Rattle.script_rounds.proofs.lines.LineReader.fill.Goals as goal

pub read-requires-clause-none : goal.read-requires-clause-none
read-requires-clause-none g c =
    let before = c.loop-len.self in
    let none : has_lf before.ahead ≡ false = search rules in
    let is : c.compact.new.self ≡ record before { ahead = take before.kept before.ahead } =
    c.compact.ensures ∙ c.shorten.ensures ∙ ap (λ (s : LineState). record s { ahead = take s.kept s.ahead }) c.find_end.ensures.same in
    ap (λ (s : LineState). has_lf s.ahead) is ∙ no_lf-take before.kept before.ahead none

pub loop-len-preserved : goal.loop-len-preserved
loop-len-preserved g c =
    let before = c.loop-len.self in
    let left = g.S.Source.left c.loop-len.source in
    let none : has_lf before.ahead ≡ false = search rules in
    let is : c.compact.new.self ≡ record before { ahead = take before.kept before.ahead } =
    c.compact.ensures ∙ c.shorten.ensures ∙ ap (λ (s : LineState). record s { ahead = take s.kept s.ahead }) c.find_end.ensures.same in
    let kept = ap (λ (s : LineState). s.kept) (c.self.view_is ∙ c.find_end.ensures.same) in
    record {
      went = went_more (at c.args.self.now (g.S.Source.left c.args.source.now)) (at before left) (at c.read.new.self (g.S.Source.left c.read.new.source)) [] []
          c.loop-len.invariant.went
          (went_more (at before left) (at c.compact.new.self left) (at c.read.new.self (g.S.Source.left c.read.new.source)) [] []
          (went_shortened before c.compact.new.self left is (omega (arith, kept)) none) c.in_ok-read.ensures.went);
      in_limit = c.in_ok-read.ensures.in_limit;
      quiet = c.in_ok-read.ensures.faults ∙ c.loop-len.invariant.quiet;
    }

pub returns-in_err-read-clause-stopped : goal.returns-in_err-read-clause-stopped
returns-in_err-read-clause-stopped g c =
    let before = c.loop-len.self in
    let left = g.S.Source.left c.loop-len.source in
    let none : has_lf before.ahead ≡ false = search rules in
    let is : c.compact.new.self ≡ record before { ahead = take before.kept before.ahead } =
    c.compact.ensures ∙ c.shorten.ensures ∙ ap (λ (s : LineState). record s { ahead = take s.kept s.ahead }) c.find_end.ensures.same in
    let kept = ap (λ (s : LineState). s.kept) (c.self.view_is ∙ c.find_end.ensures.same) in
    let refusal = err_from_is_err_and c.from_residual.result c.from_residual.ensures.1 in
    rw (refusal.1, refusal.2) (record {
      edge = at c.compact.new.self left;
      went = went_more (at c.args.self.now (g.S.Source.left c.args.source.now)) (at before left) (at c.compact.new.self left) [] []
          c.loop-len.invariant.went
          (went_shortened before c.compact.new.self left is (omega (arith, kept)) none);
      stops = c.in_err-read.ensures.stops;
    })
