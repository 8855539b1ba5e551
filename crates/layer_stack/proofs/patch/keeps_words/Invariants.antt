-- the words so far are kept
use Rattle.std.proofs.Common.{◌≡◌, true, take, All}
use Rattle.layer_stack.specs.Based.{has_postings, is_word}
use Rattle.layer_stack.proofs.patch.keeps_words.Given as goal

abbrev pub invariant-loop-term : goal.invariant-loop-term
invariant-loop-term l = All (λ e. is_word e.0 ≡ true → has_postings e.0 l.rows.puts ≡ true) (take l.term-index l.terms)
