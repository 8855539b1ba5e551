-- all bytes so far belong to words
use Rattle.std.proofs.Common.{◌≤◌}
use Rattle.std.specs.List.{prefix_len}
use Rattle.uni_base.specs.Words.{is_word_byte}
use Rattle.uni_base.proofs.word.word_bytes.Given as goal

abbrev pub invariant-loop-i : goal.invariant-loop-i
invariant-loop-i l = l.i ≤ prefix_len is_word_byte l.text
