use Rattle.std.proofs.Common.{rules, true, sym, ap, ◌∙◌}
use Rattle.turn_lock.specs.Places.{seen}
use Rattle.turn_lock.specs.declared.law.Stage.TheVariants.{Turns}
use Rattle.turn_lock.proofs.Steps.{adds}
use Rattle.turn_lock.proofs.lock.TurnLock.count.Goals as goal

pub fetch_add-requires : goal.fetch_add-requires
fetch_add-requires g c =
    let turn = c.requires.turn in
    (search rules, search rules, adds g.S.Recorded.stands_for _ _ _ turn.0 (seen c.args.place.now) c.args.entry.now _ c.requires.writer turn.1 c.requires.said)

pub returns-clause-turn : goal.returns-clause-turn
returns-clause-turn g c =
    let turn = c.requires.turn in
    let now = c.fetch_add.ensures.2 turn.0 (seen c.args.place.now) c.args.entry.now turn.1 c.requires.said in
    (turn.0, ap (λ m. m.0.stage) now ∙ ap (λ l. Turns turn.0 l true) (sym (ap (λ m. m.0.seen) now)), ap (λ m. m.1) now ∙ turn.2)

pub returns-clause-counts : goal.returns-clause-counts
returns-clause-counts g c =
    let turn = c.requires.turn in
    let now = c.fetch_add.ensures.2 turn.0 (seen c.args.place.now) c.args.entry.now turn.1 c.requires.said in
    (ap (λ m. m.0.role) now, ap (λ m. m.0.made) now, ap (λ m. m.0.turns) now)
