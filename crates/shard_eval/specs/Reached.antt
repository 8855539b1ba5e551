-- What postings stand for.
use Rattle.std.specs.Prelude.{List, map}
use Rattle.shard_eval.specs.declared.grouped.Place.{Place}
use Rattle.shard_eval.specs.declared.reached.Listed.{Listed}
use Rattle.shard_eval.specs.declared.reached.Reached.{Reached}
use Rattle.shard_eval.specs.Found.{Found, found_posting}

-- the hit of a posting of a term
abbrev pub found_reached : Reached → Found
found_reached r = found_posting r.leaf.now r.posting

-- the same by its place
abbrev pub found_place : Place → Found
found_place p = record { key = p.key; tree = (found_reached p.reached.now).tree }

-- the hits of a list
abbrev pub found_listed : Listed → List Found
found_listed l = map (found_posting l.leaf) l.rows.now
