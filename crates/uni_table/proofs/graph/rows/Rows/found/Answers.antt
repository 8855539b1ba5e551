use Rattle.uni_table.proofs.graph.rows.Rows.found.Goals as goal

pub returns-clause-found : goal.returns-clause-found
returns-clause-found c = record {
  source = c.source_index-source.ensures;
  target = c.id_index-target.ensures;
  place = c.place_between-place.ensures;
}
