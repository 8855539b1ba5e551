use Rattle.layer_base.proofs.Rising.{RisesTo}
use Rattle.layer_base.proofs.log.rises.Given as goal

abbrev pub invariant-loop-i : goal.invariant-loop-i
invariant-loop-i g l = RisesTo g.K.Ord.cmp l.rows l.i
