use Rattle.std.proofs.Common.{rules}
use Rattle.twin_list.proofs.Kept.{parts}
use Rattle.twin_list.proofs.list.TwinList.new.Goals as goal

pub split_seat-other-requires : goal.split_seat-other-requires
split_seat-other-requires g c = (search rules, search rules, parts _ _ (search rules))
