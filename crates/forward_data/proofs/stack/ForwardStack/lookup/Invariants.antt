use Rattle.std.proofs.Common.{◌≡◌, take}
use Rattle.forward_data.specs.Records.{record_of, record_key}
use Rattle.forward_data.proofs.stack.ForwardStack.lookup.Given as goal

abbrev pub invariant-loop-i : goal.invariant-loop-i
invariant-loop-i l = l.newest ≡ record_of (record_key l.fn.type_no l.fn.id) (take l.i l.self.0)
