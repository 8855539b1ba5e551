-- Edges that start alike.
use Rattle.std.specs.Prelude.{Bool}
use Rattle.uni_base.specs.declared.edge.Held.{Held}
use Rattle.uni_table.specs.Contents.{starts_at}

-- whether an edge starts as another does: it is of the same type and has the same key
abbrev pub starts_as : Held → Held → Bool
starts_as first held = starts_at first.edge.type_no first.edge.key held.edge
