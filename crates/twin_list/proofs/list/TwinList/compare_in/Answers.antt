use Rattle.std.proofs.Common.{rules}
use Rattle.twin_list.proofs.Kept.{compares, joins, parts}
use Rattle.twin_list.proofs.list.TwinList.compare_in.Goals as goal

pub join_seat-requires : goal.join_seat-requires
join_seat-requires g c = (search rules, search rules, search rules, search rules, joins _ _ _ _ c.requires.halves.0.0 c.requires.halves.1.0)

pub load-requires : goal.load-requires
load-requires g c = (search rules, search rules, compares _ _ _ (search rules))

pub split_seat-requires : goal.split_seat-requires
split_seat-requires g c = (search rules, search rules, parts _ _ (search rules))
