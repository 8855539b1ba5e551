-- the lines so far, and those of the rest
use Rattle.std.proofs.Common.{◌≡◌, ◌++◌, drop, map}
use Rattle.reply_text.specs.Lines.{text_of}
use Rattle.reply_text.specs.Printed.{hit_line}
use Rattle.reply_text.proofs.further.add_hits.Given as goal

abbrev pub invariant-loop-hit : goal.invariant-loop-hit
invariant-loop-hit l = l.text ++ text_of (map (hit_line l.schema) (drop l.hit-index l.hits)) ≡ l.fn.text ++ text_of (map (hit_line l.schema) l.hits)
