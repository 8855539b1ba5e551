use Rattle.query_reader.proofs.SpansLemmas.{tokens_meant}
use Rattle.query_reader.proofs.lexer.tokens.Goals as goal

pub returns-clause-exact : goal.returns-clause-exact
returns-clause-exact c = tokens_meant c.args.format c.args.text.now c.scan.result c.scan.ensures
