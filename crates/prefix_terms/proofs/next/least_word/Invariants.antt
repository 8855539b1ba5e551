use Rattle.std.proofs.Common.{◌≡◌, ◌+◌, take}
use Rattle.layer_stack.specs.Words.{IsWordFrom}
use Rattle.prefix_terms.specs.Occurring.{occurs_in}
use Rattle.prefix_terms.proofs.next.least_word.Given as goal

abbrev pub invariant-loop-i : goal.invariant-loop-i
invariant-loop-i g l = record {
  least : IsWordFrom (occurs_in (take l.i l.stack.0)) l.type_no l.at l.strict l.least;
  counted : l.steps ≡ l.fn.steps + l.i;
}
