use Rattle.std.proofs.Common.{◌≡◌, ◌||◌, map}
use Rattle.std.specs.Map.Iter.{deref_pair}
use Rattle.layer_stack.specs.declared.place.TermKey.{TermKey}
use Rattle.layer_stack.specs.Combined.{is_among}
use Rattle.layer_stack.proofs.directory.Directory.note_terms.Given as goal

abbrev pub invariant-loop-term : goal.invariant-loop-term
invariant-loop-term l = (t : TermKey) → is_among t l.terms.items ≡ (is_among t l.initial.terms.items || is_among t (map deref_pair l.yielded))
