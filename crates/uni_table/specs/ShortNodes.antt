-- What an id is, in less memory.
use Rattle.std.specs.Prelude.{ℕ, Option, None, Some}
use Rattle.uni_table.specs.declared.graph.numbers.EntityBefore.{EntityBefore}
use Rattle.uni_table.specs.declared.graph.numbers.EntityBefore.TheVariants as before
use Rattle.uni_table.specs.declared.graph.short_node.Kind.{Kind}
use Rattle.uni_table.specs.declared.graph.short_node.Kind.TheVariants as kind
use Rattle.uni_table.specs.declared.graph.short_node.Was.{Was}
use Rattle.uni_table.specs.declared.graph.short_node.Was.TheVariants as was
use Rattle.uni_base.specs.declared.entity.Rank.{Rank}
use Rattle.uni_table.specs.declared.command.EntityRow.{EntityRow}

-- an entity by its parts
abbrev pub entity_of : ℕ → Rank → EntityRow
entity_of vertical rank = record { vertical = vertical; rank = rank }

-- the entity, if it is one
abbrev pub now_of : Kind → EntityRow → Option EntityRow
now_of kind.Absent row = None
now_of kind.Present row = Some row

-- what it was at the last publish
abbrev pub then_of : Was → EntityRow → EntityBefore
then_of was.Same row = before.Same
then_of was.Absent row = before.Absent
then_of was.Present row = before.Present row
