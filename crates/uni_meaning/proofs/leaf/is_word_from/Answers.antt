use Rattle.std.proofs.Common.{eqb, List, ℕ, ap, sym, ◌∙◌}
use Rattle.std.specs.List.{starts_with}
use Rattle.uni_meaning.specs.Standings.{is_word_from}
use Rattle.uni_meaning.proofs.AtPlaces.{begins_is}
use Rattle.uni_meaning.proofs.leaf.is_word_from.Goals as goal

pub returns-in-Word : goal.returns-in-Word
returns-in-Word c =
    c.starts_with.ensures.value
    ∙ ap (λ (text : List ℕ). starts_with eqb text c.bytes-in-Word.result.now) c.bytes.ensures.bytes
    ∙ ap (λ (from : List ℕ). starts_with eqb c.in-Word.word from) c.bytes-in-Word.ensures.bytes
    ∙ begins_is c.args.from.now c.in-Word.word
    ∙ ap (is_word_from c.args.from.now) (sym c.in-Word.is)
