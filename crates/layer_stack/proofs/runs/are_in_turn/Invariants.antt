use Rattle.std.proofs.Common.{◌≡◌, length, take, All}
use Rattle.uni_base.specs.Cursors.{IsRanked}
use Rattle.layer_stack.specs.Spans.{spanned, delete_rows}
use Rattle.layer_stack.proofs.runs.are_in_turn.Given as goal

abbrev pub invariant-loop-term : goal.invariant-loop-term
invariant-loop-term l = record {
  ranked : All (λ e. IsRanked (spanned e.1 l.keys)) (take l._term-index l.runs);
  count : length (delete_rows (take l._term-index l.runs) l.keys) ≡ l.at;
}
