use Rattle.std.proofs.Common.{nat_eq, sym}
use Rattle.uni_table.proofs.GraphPlaces.{index-found, index-missing, same-number}
use Rattle.uni_table.proofs.graph.rows.Rows.hashed_index.Goals as goal

pub returns-in-Some : goal.returns-in-Some
returns-in-Some c = index-found nat_eq same-number c.args.id c.args.self.now.ids.entries c.in-Some.index c.in-Some.field-0-1.now c.in-Some.field-0-2.now c.in-Some.ensures.entry (sym c.in-Some.ensures.key)

pub returns-in-None : goal.returns-in-None
returns-in-None c = index-missing (nat_eq c.args.id) c.args.self.now.ids.entries (sym c.in-None.ensures.value)
