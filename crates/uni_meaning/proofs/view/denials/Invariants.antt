use Rattle.std.proofs.Common.{◌≡◌, ◌++◌, drop}
use Rattle.uni_meaning.specs.Policy.{denials_from}
use Rattle.uni_meaning.proofs.view.denials.Given as goal

abbrev pub invariant-loop-number : goal.invariant-loop-number
invariant-loop-number l = l.numbers.items ++ denials_from l.number (drop l.number l.schema.types) ≡ denials_from 0 l.schema.types
