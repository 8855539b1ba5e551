use Rattle.std.proofs.Common.{◌≡◌, Some, true, rules, ap, sym, ◌∙◌}
use Rattle.uni_table.specs.GraphKeys.{source_eq, exact_sources}
use Rattle.uni_table.proofs.GraphPlaces.{key-at}
use Rattle.uni_table.proofs.graph.rows.Rows.noted_source.Goals as goal

pub returns-then-is : goal.returns-then-is
returns-then-is c =
    let same : source_eq c.args.source.now c.in_ok-known.known.now ≡ true = search rules in
    key-at c.args.self.now.sources.entries _ (c.in_ok-known.known.now, c.in_ok-known._last.now) (sym c.in_ok-known.ensures.entry) ∙ ap Some (sym (exact_sources c.args.source.now c.in_ok-known.known.now same))
