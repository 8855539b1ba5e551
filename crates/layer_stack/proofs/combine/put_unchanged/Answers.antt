use Rattle.layer_stack.proofs.Order.{term_apart}
use Rattle.layer_stack.proofs.combine.put_unchanged.Goals as goal

pub look_up_near-requires-clause-apart : goal.look_up_near-requires-clause-apart
look_up_near-requires-clause-apart c = term_apart
