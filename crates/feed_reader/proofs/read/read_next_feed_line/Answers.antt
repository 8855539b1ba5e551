use Rattle.std.proofs.Common.{Ok, rules}
use Rattle.feed_reader.specs.declared.line.FeedLine.TheVariants.{Publish}
use Rattle.feed_reader.proofs.Texts.{exactly}
use Rattle.feed_reader.proofs.read.read_next_feed_line.Goals as goal

pub returns-then-take_word-clause-exact : goal.returns-then-take_word-clause-exact
returns-then-take_word-clause-exact c = exactly c.args.schema.now c.args.line.now c.read_edge.result (search rules)

pub returns-then-take_word-2-clause-exact : goal.returns-then-take_word-2-clause-exact
returns-then-take_word-2-clause-exact c = exactly c.args.schema.now c.args.line.now c.read_entity.result (search rules)

pub returns-then-take_word-3-clause-exact : goal.returns-then-take_word-3-clause-exact
returns-then-take_word-3-clause-exact c = exactly c.args.schema.now c.args.line.now c.read_cut.result (search rules)

pub returns-then-take_word-4-clause-exact : goal.returns-then-take_word-4-clause-exact
returns-then-take_word-4-clause-exact c = exactly c.args.schema.now c.args.line.now c.read_gone.result (search rules)

pub returns-then-take_word-5-clause-exact : goal.returns-then-take_word-5-clause-exact
returns-then-take_word-5-clause-exact c = exactly c.args.schema.now c.args.line.now (Ok Publish) (search rules)
