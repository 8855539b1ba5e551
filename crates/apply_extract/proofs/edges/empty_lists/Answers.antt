use Rattle.std.proofs.Common.{ap, ◌∙◌}
use Rattle.apply_extract.specs.Split.{lists_of}
use Rattle.apply_extract.proofs.SplitLists.{empty_more}
use Rattle.apply_extract.proofs.edges.empty_lists.Goals as goal

pub loop-preserved : goal.loop-preserved
loop-preserved c = ap lists_of c.in_ok-push.ensures.items ∙ empty_more c.loop.lists.items c.new.result c.loop.counter c.loop.invariant c.new.ensures.items
