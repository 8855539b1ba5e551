-- the lines so far, and those of the rest
use Rattle.std.proofs.Common.{◌≡◌, ◌++◌, drop, map}
use Rattle.reply_text.specs.Lines.{text_of}
use Rattle.reply_text.specs.Printed.{stack_line}
use Rattle.reply_text.proofs.further.add_rows.Given as goal

abbrev pub invariant-loop-row : goal.invariant-loop-row
invariant-loop-row l = l.text ++ text_of (map (stack_line l.schema) (drop l.row-index l.rows)) ≡ l.fn.text ++ text_of (map (stack_line l.schema) l.rows)
