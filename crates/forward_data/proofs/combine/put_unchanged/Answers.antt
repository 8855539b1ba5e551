use Rattle.forward_data.proofs.Order.{record_apart}
use Rattle.forward_data.proofs.combine.put_unchanged.Goals as goal

pub look_up_near-requires-clause-apart : goal.look_up_near-requires-clause-apart
look_up_near-requires-clause-apart c = record_apart
