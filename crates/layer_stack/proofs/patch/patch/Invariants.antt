-- the terms so far have a deleted posting each
use Rattle.std.proofs.Common.{◌≡◌, take}
use Rattle.std.specs.List.{list_any}
use Rattle.std.specs.FinMap as finite
use Rattle.layer_stack.specs.declared.place.TermKey.{TermKey}
use Rattle.layer_stack.specs.Combined.{is_among}
use Rattle.layer_stack.specs.Postings.{is_under}
use Rattle.layer_stack.proofs.patch.patch.Given as goal

abbrev pub invariant-loop-term : goal.invariant-loop-term
invariant-loop-term l = record {
  deletes : (t : TermKey) → list_any (is_under t) (finite.entries l.delta.deletes) ≡ is_among t (take l.term-index l.terms);
  puts : l.delta.puts ≡ l.initial.delta.puts;
}
