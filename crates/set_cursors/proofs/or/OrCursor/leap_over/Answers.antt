use Rattle.std.proofs.Common.{List, ◌∙◌, ap, sym, map, arith}
use Rattle.std.proofs.lemmas.List.{length-map}
use Rattle.uni_base.specs.KeySets.{has_key, united}
use Rattle.set_cursors.proofs.Shared.{united_parts}
use Rattle.set_cursors.proofs.Commons.{first_of_all}
use Rattle.set_cursors.proofs.or.OrCursor.leap_over.Goals as goal

pub returns-clause-stands : goal.returns-clause-stands
returns-clause-stands g c k e =
    let view = g.C.DocCursor.remaining in
    let ops = c.leap-found.new.operands in
    first_of_all k (map view ops.items) (sym e ∙ c.leap-found.ensures.stands.first_is) (c.leap-found.ensures.stands.all_there k e)
    (λ i within. c.leap-found.ensures.ranked k e i (omega (arith, within, ops.ok.0, length-map ops.items view)))

pub returns-clause-within : goal.returns-clause-within
returns-clause-within g c k has =
    let view = g.C.DocCursor.remaining in
    ap (λ (xs : List g.row.C.Denot). has_key (united (map view xs)) k) (sym c.self.view_is)
    ∙ united_parts (map view c.self.inside.operands.items) (map view c.leap-found.new.operands.items) c.leap-found.ensures.moved.operands.count c.leap-found.ensures.parts k has
