use Rattle.std.proofs.Common.{rules, Bool}
use Rattle.std.specs.Ordering.{is_lt}
use Rattle.std.proofs.lemmas.Fn.{always_returns_same}
use Rattle.layer_base.proofs.Placed.{partitioned, placed}
use Rattle.layer_base.proofs.near.place_near.Goals as goal

pub returns-then-is_place : goal.returns-then-is_place
returns-then-is_place g c = placed g.K.Ord.cmp g.met.K.Ord.total c.args.key.now c.args.rows.now c.requires c.loop-at.at (search rules)

pub returns : goal.returns
returns g c =
    let R = g.K.Ord.cmp in let q = c.args.key.now in
    let p : g.row.K.Denot × g.row.V.Denot → Bool = λ e. is_lt (R e.0 q) in
    c.partition_point.ensures.partitioned p (always_returns_same _ _ _ (λ a r f k. search rules)) (partitioned R g.met.K.Ord.total q c.args.rows.now c.requires)
