-- What edges of a type and key lead to.
use Rattle.std.specs.Prelude.{ℕ, Option}
use Rattle.std.specs.Option.{option_map}
use Rattle.uni_base.specs.declared.edge.Held.{Held}
use Rattle.uni_base.specs.declared.edge.Key.{Key}
use Rattle.uni_table.specs.Contents.{Contents}
use Rattle.uni_table.specs.Ranked.{doc_at}
use Rattle.uni_table.specs.declared.table.reached.Target.{Target}

-- what an edge leads to, with the edge's audience, where it is an entity
abbrev pub target_of : Contents → Held → Option Target
target_of table held = option_map (λ doc. record { doc = doc; audience = held.audience }) (doc_at table held.edge.target)

-- the edge of a type and key to a target
abbrev pub held_to : ℕ → Key → Target → Held
held_to number key target = record { edge = record { type_no = number; key = key; target = target.doc.id }; audience = target.audience }
