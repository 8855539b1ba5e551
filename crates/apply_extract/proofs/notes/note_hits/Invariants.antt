-- the hits so far are noted, and the rest are still to come
use Rattle.std.proofs.Common.{◌≡◌, ◌++◌, length}
use Rattle.std.specs.Vec.Iter.{into_iter_items}
use Rattle.apply_extract.specs.Hits.{numbered, with_hits}
use Rattle.apply_extract.proofs.notes.note_hits.Given as goal

abbrev pub invariant-loop-hit : goal.invariant-loop-hit
invariant-loop-hit l = record {
  all : l.yielded ++ into_iter_items l.hit-iterator ≡ l.fn.hits;
  inner : l.inner.items ≡ numbered (length l.initial.book) l.yielded;
  book : l.book ≡ with_hits l.initial.book l.yielded;
}
