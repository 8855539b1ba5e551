use Rattle.std.proofs.Common.{subst}
use Rattle.query_tree.specs.declared.dialect.Dialect.{Dialect}
use Rattle.query_tree.specs.Dialects.{dialect_of}
use Rattle.query_reader.specs.Reading.{text_read}
use Rattle.query_reader.specs.Seen.{IsAnswer}
use Rattle.query_reader.proofs.TextSound.{answer_sound}
use Rattle.query_reader.proofs.Complete.{answer_complete}
use Rattle.query_reader.proofs.SpelledWithin.{answer_within}
use Rattle.query_reader.proofs.query.read_query.Goals as goal

pub returns-clause-reading : goal.returns-clause-reading
returns-clause-reading c =
    subst (λ (dialect : Dialect). IsAnswer (text_read dialect c.args.text.now) c.read.result) c.new.ensures c.read.ensures

pub returns-clause-exact : goal.returns-clause-exact
returns-clause-exact c =
    answer_sound (dialect_of c.args.limits.now c.args.format) c.args.text.now c.read.result (returns-clause-reading c)

pub returns-clause-spells : goal.returns-clause-spells
returns-clause-spells c tree spells =
    answer_complete (dialect_of c.args.limits.now c.args.format) c.args.text.now c.read.result tree (returns-clause-reading c) spells

pub returns-clause-within : goal.returns-clause-within
returns-clause-within c =
    answer_within (dialect_of c.args.limits.now c.args.format) c.requires.limits.some_join c.args.text.now c.read.result (returns-clause-reading c)
