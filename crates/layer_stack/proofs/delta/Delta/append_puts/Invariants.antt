use Rattle.std.proofs.Common.{◌≡◌, take}
use Rattle.layer_stack.specs.Postings.{putting_rows}
use Rattle.layer_stack.specs.Spans.{put_rows}
use Rattle.layer_stack.proofs.delta.Delta.append_puts.Given as goal

abbrev pub invariant-loop-at : goal.invariant-loop-at
invariant-loop-at l = l.self ≡ putting_rows (put_rows (take l.at l.runs) l.postings) l.initial.self
