use Rattle.script_rounds.proofs.Words.{words_are_unbroken}
use Rattle.script_rounds.proofs.laws.words_are_unbroken.Goals as goal

pub returns : goal.returns
returns c = words_are_unbroken c.lines_by_text.ensures
