use Rattle.std.proofs.Common.{rules, arith, ◌≡◌, ◌<◌, true, false, length, refl, sym}
use Rattle.std.specs.Ordering.{is_eq}
use Rattle.std.specs.Cmp.{Equal-is}
use Rattle.std.proofs.lemmas.Option.{slice_get_read}
use Rattle.layer_base.proofs.Placed.{nothing_placed, same_placed, other_placed}
use Rattle.layer_base.proofs.near.look_up_near.Goals as goal

pub returns-then-at-rows-clause-value : goal.returns-then-at-rows-clause-value
returns-then-at-rows-clause-value g c =
    sym (nothing_placed g.K.Ord.cmp g.met.K.Ord.total c.args.key.now c.args.rows.now c.requires.sorted c.place_near-at.result c.place_near-at.ensures (search (rules, arith)))

pub returns-then-is_eq-clause-value : goal.returns-then-is_eq-clause-value
returns-then-is_eq-clause-value g c =
    let rows = c.args.rows.now in let key = c.args.key.now in let R = g.K.Ord.cmp in let at = c.place_near-at.result in let row = c.index-rows-at.result in
    let fits : at < length rows = search (rules, arith) in
    let same : is_eq (R row.0 key) ≡ true = search rules in
    sym (same_placed R g.met.K.Ord.total key rows c.requires.sorted at row (slice_get_read rows (length rows) at row refl fits c.index-rows-at.is) ((Equal-is (R row.0 key)).0 same))

pub returns-else-is_eq-clause-value : goal.returns-else-is_eq-clause-value
returns-else-is_eq-clause-value g c =
    let rows = c.args.rows.now in let key = c.args.key.now in let R = g.K.Ord.cmp in let at = c.place_near-at.result in let row = c.index-rows-at.result in
    let fits : at < length rows = search (rules, arith) in
    let other : is_eq (R row.0 key) ≡ false = search rules in
    sym (other_placed R g.met.K.Ord.total key rows c.requires.sorted at row c.place_near-at.ensures (slice_get_read rows (length rows) at row refl fits c.index-rows-at.is) other)
