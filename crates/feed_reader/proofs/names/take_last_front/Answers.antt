use Rattle.std.proofs.Common.{ap, ◌∙◌}
use Rattle.uni_base.specs.Words.{is_word}
use Rattle.feed_reader.proofs.Parts.{word_solid}
use Rattle.feed_reader.proofs.names.take_last_front.Goals as goal

pub take_front-requires : goal.take_front-requires
take_front-requires c = word_solid c.bytes.result.now (ap is_word c.bytes.ensures.bytes ∙ c.bytes.ensures.word)
