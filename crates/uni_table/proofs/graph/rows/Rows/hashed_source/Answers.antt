use Rattle.std.proofs.Common.{sym}
use Rattle.uni_table.specs.GraphKeys.{source_eq, exact_sources}
use Rattle.uni_table.proofs.GraphPlaces.{index-found, index-missing}
use Rattle.uni_table.proofs.graph.rows.Rows.hashed_source.Goals as goal

pub returns-in-Some : goal.returns-in-Some
returns-in-Some c =
    index-found source_eq exact_sources c.args.source.now c.args.self.now.sources.entries c.in-Some.index c.in-Some.field-0-1.now c.in-Some.field-0-2.now
    c.in-Some.ensures.entry (sym c.in-Some.ensures.key)

pub returns-in-None : goal.returns-in-None
returns-in-None c = index-missing (source_eq c.args.source.now) c.args.self.now.sources.entries (sym c.in-None.ensures.value)
