use Rattle.std.proofs.Common.{◌<◌, length, map, set, ap, ◌∙◌, arith}
use Rattle.std.proofs.lemmas.List.{get_or_default}
use Rattle.std.proofs.lemmas.List.Edits.{map_over_more}
use Rattle.unicorn_round.specs.Stacks.{name_of, tidy}
use Rattle.unicorn_round.proofs.stacks.tidy_all.Goals as goal

pub loop-cover-preserved : goal.loop-cover-preserved
loop-cover-preserved c =
    let within : c.loop-cover.cover-index < length c.loop-cover.covers = omega (arith, c.loop-cover-test.true, c.loop-cover.auto.covers) in
    ap (set c.loop-cover.covers c.loop-cover.cover-index) c.tidy.ensures
    ∙ map_over_more (tidy c.args.made (map name_of c.args.untidied.now)) c.args.covers.now c.loop-cover.covers c.loop-cover.cover-index _ c.loop-cover-test.true c.loop-cover.invariant
    (get_or_default c.loop-cover.covers c.loop-cover.cover-index _ _ within)
