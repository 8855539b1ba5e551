use Rattle.std.proofs.Common.{◌++◌, ◌∷◌, [], map, codes, ap, ◌∙◌}
use Rattle.uni_schema.specs.Print.{format_line, vertical_line, type_line, deny_lines}
use Rattle.uni_base.specs.Lines.{lined}
use Rattle.uni_schema.proofs.LineLists.{whole_text}
use Rattle.uni_schema.proofs.print.print_header.Goals as goal

pub returns : goal.returns
returns c =
    whole_text (format_line c.format.result) (map vertical_line c.args.schema.now.verticals) (map (type_line c.args.schema.now) c.args.schema.now.types) (deny_lines c.args.schema.now.types) (codes "begin")
    _ _ _ _ _ _ c.new-text.ensures c.in_ok-add_format.ensures c.in_ok-add_verticals.ensures c.in_ok-add_types.ensures c.in_ok-add_denials.ensures c.in_ok-extend_from_slice.ensures.ok
    ∙ ap (λ n. lined (format_line n ∷ (map vertical_line c.args.schema.now.verticals ++ (map (type_line c.args.schema.now) c.args.schema.now.types ++ (deny_lines c.args.schema.now.types ++ codes "begin" ∷ []))))) c.format.ensures.format
