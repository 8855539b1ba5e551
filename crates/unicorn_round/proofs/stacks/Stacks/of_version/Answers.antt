use Rattle.std.proofs.Common.{map, ap, sym, subst, ◌∙◌}
use Rattle.unicorn_round.specs.SchemaStacks.{AreStacks}
use Rattle.unicorn_round.specs.Stacks.{opening_stacks}
use Rattle.unicorn_round.specs.Told.{read_in}
use Rattle.unicorn_round.proofs.Told.{read_are}
use Rattle.unicorn_round.proofs.stacks.Stacks.of_version.Goals as goal

pub read-requires : goal.read-requires
read-requires c = (subst (λ schema. AreStacks schema c.in_ok-stacks.stacks) c.schema.ensures (c.in_ok-stacks.ensures {u = tt}).are).each

pub returns-clause-is : goal.returns-clause-is
returns-clause-is c = c.read.ensures ∙ ap (map (read_in c.args.version.now)) ((c.in_ok-stacks.ensures {u = tt}).opening ∙ ap opening_stacks c.schema.ensures)

pub returns-clause-are : goal.returns-clause-are
returns-clause-are c =
    let schema = c.args.version.now.schema in
    let are = subst (λ d. AreStacks d c.in_ok-stacks.stacks) c.schema.ensures (c.in_ok-stacks.ensures {u = tt}).are in
    subst (AreStacks schema) (sym c.read.ensures) (read_are schema c.args.version.now _ are)
