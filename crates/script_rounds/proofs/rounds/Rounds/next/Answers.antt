use Rattle.std.proofs.Common.{◌≤◌, ◌+◌, Some, length, map, subst, refl}
use Rattle.script_rounds.specs.Reading.{at}
use Rattle.script_rounds.specs.RoundReads.{AreOfLines, Rise, TookNext, item_line}
use Rattle.script_rounds.specs.RoundsState.{RoundsState, ReadRound, ReadEnd, ReadStopped}
use Rattle.script_rounds.proofs.Numbering.{items_of_lines}
use Rattle.script_rounds.proofs.RoundsRead.{read_round, read_end, read_stopped, round_rises, round_count}
use Rattle.script_rounds.proofs.rounds.Rounds.next.Goals as goal

pub returns-in-Ok-Some-clause-read : goal.returns-in-Ok-Some-clause-read
returns-in-Ok-Some-clause-read g c =
    let inside = c.self.inside in
    let before : RoundsState = record { reader = inside.reader; terms = inside.terms; refusal = inside.refusal } in
    let after : RoundsState = record { reader = c.take_round.new.reader; terms = inside.terms; refusal = inside.refusal } in
    let left_before = g.S.Source.left c.args.source.now in
    let left_after = g.S.Source.left c.take_round.new.source in
    let took = subst (TookNext inside.terms (at inside.reader left_before) (at c.take_round.new.reader left_after)) c.in-Ok-Some.field-0-is c.in-Ok-Some.ensures.took in
    subst (λ (old : RoundsState). ReadRound old after left_before left_after c.in-Ok-Some.items) c.self.view_is
    (read_round before after left_before left_after c.in-Ok-Some.items refl c.self.invariant.keeps took)

pub returns-in-Ok-Some-clause-each : goal.returns-in-Ok-Some-clause-each
returns-in-Ok-Some-clause-each g c =
    let inside = c.self.inside in
    let left_before = g.S.Source.left c.args.source.now in
    let left_after = g.S.Source.left c.take_round.new.source in
    let took = subst (TookNext inside.terms (at inside.reader left_before) (at c.take_round.new.reader left_after)) c.in-Ok-Some.field-0-is c.in-Ok-Some.ensures.took in
    subst (λ (old : RoundsState). AreOfLines old.terms c.in-Ok-Some.items) c.self.view_is
    (items_of_lines inside.terms (inside.reader.lines + 1) 0 took.lines c.in-Ok-Some.items took.gives)

pub returns-in-Ok-Some-clause-rise : goal.returns-in-Ok-Some-clause-rise
returns-in-Ok-Some-clause-rise g c =
    let inside = c.self.inside in
    let left_before = g.S.Source.left c.args.source.now in
    let left_after = g.S.Source.left c.take_round.new.source in
    let took = subst (TookNext inside.terms (at inside.reader left_before) (at c.take_round.new.reader left_after)) c.in-Ok-Some.field-0-is c.in-Ok-Some.ensures.took in
    subst (λ (old : RoundsState). Rise old.reader.lines c.take_round.new.reader.lines (map item_line c.in-Ok-Some.items)) c.self.view_is
    (round_rises inside.terms (at inside.reader left_before) (at c.take_round.new.reader left_after) c.in-Ok-Some.items took)

pub returns-in-Ok-Some-clause-count : goal.returns-in-Ok-Some-clause-count
returns-in-Ok-Some-clause-count g c =
    let inside = c.self.inside in
    let left_before = g.S.Source.left c.args.source.now in
    let left_after = g.S.Source.left c.take_round.new.source in
    let took = subst (TookNext inside.terms (at inside.reader left_before) (at c.take_round.new.reader left_after)) c.in-Ok-Some.field-0-is c.in-Ok-Some.ensures.took in
    subst (λ (old : RoundsState). old.reader.lines + length c.in-Ok-Some.items ≤ c.take_round.new.reader.lines) c.self.view_is
    (round_count inside.terms (at inside.reader left_before) (at c.take_round.new.reader left_after) c.in-Ok-Some.items took)

pub returns-in-Ok-None-clause-read : goal.returns-in-Ok-None-clause-read
returns-in-Ok-None-clause-read g c =
    let inside = c.self.inside in
    let before : RoundsState = record { reader = inside.reader; terms = inside.terms; refusal = inside.refusal } in
    let after : RoundsState = record { reader = c.take_round.new.reader; terms = inside.terms; refusal = inside.refusal } in
    let left_before = g.S.Source.left c.args.source.now in
    let left_after = g.S.Source.left c.take_round.new.source in
    let took = subst (TookNext inside.terms (at inside.reader left_before) (at c.take_round.new.reader left_after)) c.in-Ok-None.field-0-is c.in-Ok-None.ensures.took in
    subst (λ (old : RoundsState). ReadEnd old after left_before left_after) c.self.view_is
    (read_end before after left_before left_after refl c.self.invariant.keeps took)

pub returns-in-Err-clause-stopped : goal.returns-in-Err-clause-stopped
returns-in-Err-clause-stopped g c = λ none.
    let inside = c.self.inside in
    let before : RoundsState = record { reader = inside.reader; terms = inside.terms; refusal = inside.refusal } in
    let after : RoundsState = record { reader = c.take_round.new.reader; terms = inside.terms; refusal = Some c.in-Err.refusal } in
    let left_before = g.S.Source.left c.args.source.now in
    let left_after = g.S.Source.left c.take_round.new.source in
    subst (λ (old : RoundsState). ReadStopped old after left_before left_after c.in-Err.refusal) c.self.view_is
    (read_stopped before after left_before left_after c.in-Err.refusal refl c.self.invariant.keeps c.in-Err.ensures.broke)
