use Rattle.std.proofs.Common.{◌≡◌, map, take}
use Rattle.layer_base.specs.Layers.{stack_table}
use Rattle.prefix_terms.specs.PrefixCursors.{word_postings}
use Rattle.prefix_terms.proofs.cursor.cursors.Given as goal

abbrev pub invariant-loop-word : goal.invariant-loop-word
invariant-loop-word l = l.cursors.items ≡ map (word_postings l.type_no (stack_table l.stack.0)) (take l.word-index l.words)
