use Rattle.std.proofs.lemmas.List.Elements.{All-from_recursion}
use Rattle.unicorn_round.specs.SchemaStacks.{IsStackOf}
use Rattle.unicorn_round.proofs.tidy.layered_in.Goals as goal

pub is_layered-requires : goal.is_layered-requires
is_layered-requires g c = All-from_recursion (IsStackOf c.args.version.now.schema) c.args.stacks.now c.requires c.loop-stack.stack-index _ c.loop-stack-test.true
