use Rattle.std.proofs.Common.{ap, ◌∙◌}
use Rattle.uni_base.specs.Words.{is_word}
use Rattle.feed_reader.proofs.Parts.{word_solid}
use Rattle.feed_reader.proofs.names.take_last.Goals as goal

pub take_word-requires : goal.take_word-requires
take_word-requires c = word_solid c.bytes.result.now (ap is_word c.bytes.ensures.bytes ∙ c.bytes.ensures.word)
