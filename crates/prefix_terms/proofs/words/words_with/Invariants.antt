use Rattle.prefix_terms.proofs.Searched.{IsSearched, count_left}
use Rattle.prefix_terms.proofs.words.words_with.Given as goal

abbrev pub invariant-loop-word : goal.invariant-loop-word
invariant-loop-word g l = IsSearched l.type_no l.from l.stack.0 l.strict l.at l.words l.fn.steps l.steps

abbrev pub decreases-loop-word : goal.decreases-loop-word
decreases-loop-word g l = count_left l.type_no l.from l.stack.0 l.strict l.at
