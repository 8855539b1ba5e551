use Rattle.std.proofs.Common.{◌==◌, ◌∙◌, arith, ap, sym}
use Rattle.std.specs.List.{list_any}
use Rattle.std.proofs.lemmas.List.{take_all}
use Rattle.uni_base.proofs.Cut.{cut_here, absent}
use Rattle.uni_base.proofs.fields.cut_at.Goals as goal

pub returns-then-byte-separator : goal.returns-then-byte-separator
returns-then-byte-separator c =
    cut_here c.args.separator c.args.text.now c.loop-i.i (omega arith) c.loop-i.invariant c.if-byte-separator.true

pub returns : goal.returns
returns c =
    absent c.args.separator c.args.text.now
    (sym (ap (λ xs. list_any (λ b. b == c.args.separator) xs) (take_all c.loop-i.i c.args.text.now (omega arith))) ∙ c.loop-i.invariant)
