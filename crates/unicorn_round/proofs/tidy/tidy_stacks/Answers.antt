use Rattle.std.proofs.Common.{All, rules, ◌≡◌, map, subst, sym}
use Rattle.std.proofs.lemmas.List.Elements.{All-from_recursion}
use Rattle.version_catalog.specs.Bases.{IsStackId}
use Rattle.version_catalog.specs.Seats.{settings_of}
use Rattle.unicorn_round.specs.SchemaStacks.{IsStackOf}
use Rattle.unicorn_round.specs.Told.{id_of}
use Rattle.unicorn_round.proofs.Elements.{all-map}
use Rattle.unicorn_round.proofs.tidy.tidy_stacks.Goals as goal

pub compact_stacks-requires-clause-stacks : goal.compact_stacks-requires-clause-stacks
compact_stacks-requires-clause-stacks g c κs within =
    let schema = (settings_of c.args.catalogue.now).schema in
    let same : c.deref.result.now ≡ map id_of c.args.due.now = search rules in
    subst (All (IsStackId schema)) (sym same)
    (All-from_recursion (IsStackId schema) (map id_of c.args.due.now) (all-map (IsStackOf schema) (IsStackId schema) id_of (λ cover is. is) c.args.due.now c.requires.stacks))
