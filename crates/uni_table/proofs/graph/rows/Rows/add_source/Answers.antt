use Rattle.std.proofs.Common.{◌≡◌, None, sym, subst}
use Rattle.std.specs.Map.{lookup}
use Rattle.uni_table.specs.GraphKeys.{source_eq}
use Rattle.uni_table.specs.GraphRows.{Grows}
use Rattle.uni_table.proofs.GraphGrown.{quiet-source}
use Rattle.uni_table.proofs.GraphPlaces.{index-none}
use Rattle.uni_table.proofs.graph.rows.Rows.add_source.Goals as goal

pub add_key-requires-clause-new : goal.add_key-requires-clause-new
add_key-requires-clause-new c =
    subst (λ s. lookup (source_eq s) c.args.self.now.sources.entries ≡ None) (sym (c.in_ok-source.ensures {u = tt}))
    (index-none (source_eq (record { type_no = c.args.type_no; key = c.args.key })) c.args.self.now.sources.entries c.requires.new)

pub returns-clause-quiet : goal.returns-clause-quiet
returns-clause-quiet c =
    quiet-source c.args.self.now (record c.args.self.now { sources = c.add_key.new.map; starts = c.note_start-is_noted.new.starts }) c.requires.kept (record { type_no = c.args.type_no; key = c.args.key })
    (subst (λ s. Grows c.args.self.now.sources.entries c.add_key.new.map.entries s 0) (c.in_ok-source.ensures {u = tt}) c.add_key.ensures.grown) c.add_key.ensures.unique c.add_key.ensures.few

pub returns-in_err-number-clause-quiet : goal.returns-in_err-number-clause-quiet
returns-in_err-number-clause-quiet c =
    quiet-source c.args.self.now (record c.args.self.now { sources = c.add_key.new.map }) c.requires.kept (record { type_no = c.args.type_no; key = c.args.key })
    (subst (λ s. Grows c.args.self.now.sources.entries c.add_key.new.map.entries s 0) (c.in_ok-source.ensures {u = tt}) c.add_key.ensures.grown) c.add_key.ensures.unique c.add_key.ensures.few
