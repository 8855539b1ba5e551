use Rattle.std.proofs.Common.{◌∙◌, Some, ap, sym, subst, refl, arith}
use Rattle.std.proofs.lemmas.Result.{err_from_is_err_and}
use Rattle.script_rounds.specs.declared.item.RoundLine.{RoundLine}
use Rattle.script_rounds.specs.Reading.{at}
use Rattle.script_rounds.specs.RoundReads.{SoFar, TookLine, TookNext}
use Rattle.script_rounds.proofs.RoundLoop.{so_far_start, so_far_skipped, so_far_item, round_go, round_last, round_none, broke_off, broke_off_item, at_ok}
use Rattle.script_rounds.proofs.round.take_round.Goals as goal
use Rattle.script_rounds.proofs.round.take_round.Goals.{then-lines-first, else-lines-first}

pub loop-items-init : goal.loop-items-init
loop-items-init g c = record {
  so_far = subst (SoFar c.args.terms.now (at c.args.reader.now (g.S.Source.left c.args.source.now)) (at c.args.reader.now (g.S.Source.left c.args.source.now))) (sym c.new-items.ensures)
      (so_far_start c.args.terms.now (at c.args.reader.now (g.S.Source.left c.args.source.now)));
  names = c.new-names.ensures c.args.terms.now.schema;
  in_limit = c.requires.in_limit;
  keeps = c.requires.keeps;
  first = c.lines-first.ensures.lines;
  quiet = refl;
}

pub returns-in_err-line-clause-broke : goal.returns-in_err-line-clause-broke
returns-in_err-line-clause-broke g c =
    let refusal = err_from_is_err_and c.from_residual.result c.from_residual.ensures.1 in
    rw (refusal.1, refusal.2)
    (broke_off c.args.terms.now (at c.args.reader.now (g.S.Source.left c.args.source.now)) (at c.loop-items.reader (g.S.Source.left c.loop-items.source))
    (at c.take_line.new.reader (g.S.Source.left c.take_line.new.source)) c.loop-items.items _ c.loop-items.invariant.so_far c.in_err-line.ensures.stopped)

pub returns-in_default-clause-took : goal.returns-in_default-clause-took
returns-in_default-clause-took g c =
    let terms = c.args.terms.now in
    let before = at c.args.reader.now (g.S.Source.left c.args.source.now) in
    let now = at c.loop-items.reader (g.S.Source.left c.loop-items.source) in
    let after = at c.take_line.new.reader (g.S.Source.left c.take_line.new.source) in
    let so_far = c.loop-items.invariant.so_far in
    let took = subst (λ (o : _). TookLine terms now after c.len-before.result o) c.in_default.is c.in_ok-line.ensures.took in
    elim c.if-lines-first.branch [
      | then-lines-first w ↦ subst (TookNext terms before after) (sym w.result-is)
          (round_none terms before now after c.loop-items.items c.len-before.result so_far took
          (omega (arith, w.if-lines-first.true, c.lines.ensures.lines, c.lines-first.ensures.lines)))
      | else-lines-first w ↦ subst (TookNext terms before after) (sym w.result-is)
          (round_last terms before now after c.loop-items.items c.len-before.result so_far took
          (omega (arith, w.if-lines-first.false, c.lines.ensures.lines, c.lines-first.ensures.lines, so_far.went.lines, took.0.lines)))
    ]

pub returns-in-Go-clause-took : goal.returns-in-Go-clause-took
returns-in-Go-clause-took g c =
    let terms = c.args.terms.now in
    let before = at c.args.reader.now (g.S.Source.left c.args.source.now) in
    let now = at c.loop-items.reader (g.S.Source.left c.loop-items.source) in
    let after = at c.take_line.new.reader (g.S.Source.left c.take_line.new.source) in
    round_go terms before now after c.loop-items.items c.len-before.result c.loop-items.invariant.so_far
    (subst (λ (o : _). TookLine terms now after c.len-before.result o) (c.in-Some.is ∙ ap (λ (l : RoundLine). Some l) c.in-Go.is) c.in_ok-line.ensures.took)

pub loop-items-preserved-in-Skipped : goal.loop-items-preserved-in-Skipped
loop-items-preserved-in-Skipped g c =
    let terms = c.args.terms.now in
    let before = at c.args.reader.now (g.S.Source.left c.args.source.now) in
    let now = at c.loop-items.reader (g.S.Source.left c.loop-items.source) in
    let after = at c.take_line.new.reader (g.S.Source.left c.take_line.new.source) in
    let took = subst (λ (o : _). TookLine terms now after c.len-before.result o) (c.in-Some.is ∙ ap (λ (l : RoundLine). Some l) c.in-Skipped.is) c.in_ok-line.ensures.took in
    record {
      so_far = so_far_skipped terms before now after c.loop-items.items c.len-before.result c.loop-items.invariant.so_far c.len-before.ensures took;
      names = c.take_line.ensures.names;
      in_limit = c.in_ok-line.ensures.in_limit;
      keeps = record { line = omega (arith, c.loop-items.invariant.keeps.line, took.1.0.kept); go = omega (arith, c.loop-items.invariant.keeps.go, took.1.0.kept) };
      first = c.lines-first.ensures.lines;
      quiet = c.in_ok-line.ensures.faults ∙ c.loop-items.invariant.quiet;
    }

pub returns-then-is_err-clause-broke : goal.returns-then-is_err-clause-broke
returns-then-is_err-clause-broke g c =
    let terms = c.args.terms.now in
    let before = at c.args.reader.now (g.S.Source.left c.args.source.now) in
    let now = at c.loop-items.reader (g.S.Source.left c.loop-items.source) in
    let after = at c.take_line.new.reader (g.S.Source.left c.take_line.new.source) in
    broke_off_item terms before now after c.loop-items.items c.len-before.result c.in-Item.item c.loop-items.invariant.so_far c.len-before.ensures
    (subst (λ (o : _). TookLine terms now after c.len-before.result o) (c.in-Some.is ∙ ap (λ (l : RoundLine). Some l) c.in-Item.is) c.in_ok-line.ensures.took)
    c.in_ok-line.ensures.in_limit

pub loop-items-preserved : goal.loop-items-preserved
loop-items-preserved g c =
    let terms = c.args.terms.now in
    let before = at c.args.reader.now (g.S.Source.left c.args.source.now) in
    let now = at c.loop-items.reader (g.S.Source.left c.loop-items.source) in
    let after = at c.take_line.new.reader (g.S.Source.left c.take_line.new.source) in
    let took = subst (λ (o : _). TookLine terms now after c.len-before.result o) (c.in-Some.is ∙ ap (λ (l : RoundLine). Some l) c.in-Item.is) c.in_ok-line.ensures.took in
    let pushed = at_ok c.push.result (sym c.is_err.ensures.value ∙ c.if-is_err.false) c.push.ensures.ok in
    record {
      so_far = subst (SoFar terms before after) (sym pushed)
          (so_far_item terms before now after c.loop-items.items c.len-before.result c.in-Item.item c.loop-items.invariant.so_far c.len-before.ensures took);
      names = c.take_line.ensures.names;
      in_limit = c.in_ok-line.ensures.in_limit;
      keeps = record { line = omega (arith, c.loop-items.invariant.keeps.line, took.1.0.kept); go = omega (arith, c.loop-items.invariant.keeps.go, took.1.0.kept) };
      first = c.lines-first.ensures.lines;
      quiet = c.in_ok-line.ensures.faults ∙ c.loop-items.invariant.quiet;
    }
