use Rattle.std.proofs.Common.{◌<◌, length, set, ap, sym, subst, ◌∙◌, arith}
use Rattle.std.proofs.lemmas.List.{get_or_default}
use Rattle.std.proofs.lemmas.List.Edits.{map_over_more}
use Rattle.std.proofs.lemmas.List.Elements.{All-from_recursion}
use Rattle.std.specs.List.{AllByRecursion}
use Rattle.unicorn_round.specs.SchemaStacks.{IsStackOf}
use Rattle.unicorn_round.specs.Told.{read_in}
use Rattle.unicorn_round.proofs.Told.{read_so_far}
use Rattle.unicorn_round.proofs.stacks.read_all.Goals as goal

pub read-requires : goal.read-requires
read-requires c =
    let schema = c.args.version.now.schema in
    let within : c.loop-cover.cover-index < length c.loop-cover.covers = omega (arith, c.loop-cover-test.true, c.loop-cover.auto.covers) in
    let all = subst (AllByRecursion (IsStackOf schema)) (sym c.loop-cover.invariant) (read_so_far schema c.args.version.now c.loop-cover.cover-index c.args.covers.now c.requires) in
    All-from_recursion (IsStackOf schema) c.loop-cover.covers all c.loop-cover.cover-index _ within

pub loop-cover-preserved : goal.loop-cover-preserved
loop-cover-preserved c =
    let within : c.loop-cover.cover-index < length c.loop-cover.covers = omega (arith, c.loop-cover-test.true, c.loop-cover.auto.covers) in
    ap (set c.loop-cover.covers c.loop-cover.cover-index) c.read.ensures
    ∙ map_over_more (read_in c.args.version.now) c.args.covers.now c.loop-cover.covers c.loop-cover.cover-index _ c.loop-cover-test.true c.loop-cover.invariant
    (get_or_default c.loop-cover.covers c.loop-cover.cover-index _ _ within)
