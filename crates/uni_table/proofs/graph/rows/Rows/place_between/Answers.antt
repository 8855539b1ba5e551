use Rattle.std.proofs.Common.{nat_eq, subst, arith}
use Rattle.std.specs.Map.{keys_of}
use Rattle.uni_table.specs.GraphKeys.{source_eq}
use Rattle.uni_table.specs.GraphRows.{IsIndexOf}
use Rattle.uni_table.proofs.GraphNames.{no-source, no-target}
use Rattle.uni_table.proofs.GraphPlaces.{number-few}
use Rattle.uni_table.proofs.graph.rows.Rows.place_between.Goals as goal

pub returns-in_default : goal.returns-in_default
returns-in_default c =
    let rows = c.args.self.now in let edge = c.args.edge.now in
    no-source rows c.requires.kept edge (subst (IsIndexOf source_eq (keys_of rows.sources.entries) (record { type_no = edge.type_no; key = edge.key })) c.in_default.is c.requires.source)

pub returns-in_default-target : goal.returns-in_default-target
returns-in_default-target c =
    let rows = c.args.self.now in let edge = c.args.edge.now in
    no-target rows c.requires.kept edge (subst (IsIndexOf nat_eq (keys_of rows.ids.entries) edge.target) c.in_default-target.is c.requires.target)

pub overflow_cast-number : goal.overflow_cast-number
overflow_cast-number c =
    let rows = c.args.self.now in let edge = c.args.edge.now in
    omega (
      arith,
      number-few rows.sources.entries c.in-Some.source (record { type_no = edge.type_no; key = edge.key })
          (subst (IsIndexOf source_eq (keys_of rows.sources.entries) (record { type_no = edge.type_no; key = edge.key })) c.in-Some.is c.requires.source) c.requires.kept.few_sources,
    )

pub overflow_cast-number-2 : goal.overflow_cast-number-2
overflow_cast-number-2 c =
    let rows = c.args.self.now in let edge = c.args.edge.now in
    omega (arith, number-few rows.ids.entries c.in-Some-target.target edge.target (subst (IsIndexOf nat_eq (keys_of rows.ids.entries) edge.target) c.in-Some-target.is c.requires.target) c.requires.kept.few_ids)
