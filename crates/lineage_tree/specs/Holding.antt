-- Whether a tree holds, by its forms: what `Lineage::holds` goes by.
use Rattle.std.specs.Prelude.{Bool, true, false, ◌&&◌, ◌||◌, List, slice_index_or}
use Rattle.uni_base.specs.declared.edge.Held.{Held}
use Rattle.lineage_tree.specs.Tree.{Tree, edge, all_of, any_of, entry, Forest, no_members, with_member}

-- an edge that is accepted, all members, some member, or an entry whose verdict says so
abbrev mutual
  pub holds_by : (Held → Bool) → List Bool → Tree → Bool
  holds_by accepts verdicts (edge held) = accepts held
  holds_by accepts verdicts (all_of members) = all_hold_by accepts verdicts members
  holds_by accepts verdicts (any_of members) = some_hold_by accepts verdicts members
  holds_by accepts verdicts (entry number) = slice_index_or verdicts number false

  pub all_hold_by : (Held → Bool) → List Bool → Forest → Bool
  all_hold_by accepts verdicts no_members = true
  all_hold_by accepts verdicts (with_member tree members) = holds_by accepts verdicts tree && all_hold_by accepts verdicts members

  pub some_hold_by : (Held → Bool) → List Bool → Forest → Bool
  some_hold_by accepts verdicts no_members = false
  some_hold_by accepts verdicts (with_member tree members) = holds_by accepts verdicts tree || some_hold_by accepts verdicts members
