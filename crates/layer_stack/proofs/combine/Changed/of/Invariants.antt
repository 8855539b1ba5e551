use Rattle.std.proofs.Common.{◌≡◌, false}
use Rattle.posting_lists.specs.Postings.{section}
use Rattle.layer_stack.specs.declared.place.TermKey.{TermKey}
use Rattle.layer_stack.specs.Combined.{is_among, is_changed}
use Rattle.layer_stack.proofs.combine.Changed.of.Given as goal

abbrev pub invariant-loop-i : goal.invariant-loop-i
invariant-loop-i l = (t : TermKey) → is_among t l.log.items ≡ false → is_changed t (section 1 l.i l.stack.0) ≡ false
