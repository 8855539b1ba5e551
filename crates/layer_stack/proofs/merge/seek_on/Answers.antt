use Rattle.std.proofs.Common.{ap, ◌∙◌, not}
use Rattle.uni_base.specs.Cursors.{is_before}
use Rattle.layer_stack.specs.Stacks.{remaining_of}
use Rattle.layer_stack.proofs.Merged.{remaining-where}
use Rattle.layer_stack.proofs.merge.seek_on.Goals as goal

pub returns-clause-first : goal.returns-clause-first
returns-clause-first c = c.next.ensures.first ∙ ap remaining_of c.seek.ensures ∙ remaining-where (λ k. not (is_before k c.args.from.now)) c.args.parts.now
