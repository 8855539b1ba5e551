use Rattle.std.proofs.Common.{◌≡◌, map, drop}
use Rattle.uni_meaning.specs.Standings.{by_word, either, first_of}
use Rattle.uni_meaning.proofs.view.View.under_prefix.Given as goal

abbrev pub invariant-loop-held : goal.invariant-loop-held
invariant-loop-held l =
    first_of (map (by_word l.self l.type_no l.from l.doc) l.held-items)
    ≡ either l.standing (first_of (map (by_word l.self l.type_no l.from l.doc) (drop l.held-index l.held-items)))
