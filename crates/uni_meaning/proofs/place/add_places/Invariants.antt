use Rattle.std.proofs.Common.{◌≡◌, ◌++◌, map, take}
use Rattle.uni_meaning.proofs.place.add_places.Given as goal

abbrev pub invariant-loop-doc : goal.invariant-loop-doc
invariant-loop-doc l = l.places.items ≡ l.fn.places.items ++ map (λ x. record { doc = x; shard = l.shard }) (take l.doc-index l.docs)
