-- Options and their values.
use Rattle.std.specs.Prelude.{ℕ, List, Option, Some, None, codes, if◌then◌else◌}
use Rattle.std.specs.Option.{option_and_then, option_map}
use Rattle.uni_base.specs.Fields.{same, cut_at}
use Rattle.uni_base.specs.Numbers.{number_between}
use Rattle.query_tree.specs.declared.kind.MarkKind.TheVariants as mark_kinds
use Rattle.query_tree.specs.declared.query.Mark as mark_type
use Rattle.query_tree.specs.declared.query.Mark.TheVariants as marks
use Rattle.query_reader.specs.declared.value.OptionName.{OptionName}
use Rattle.query_reader.specs.declared.value.OptionName.TheVariants as options

-- the option that an atom names
abbrev pub option_of : List ℕ → Option OptionName
option_of atom =
    if same atom (codes ":limit") then Some options.Limit
    else (if same atom (codes ":optional-hits") then Some (options.Mark mark_kinds.Hits)
    else (if same atom (codes ":optional-weight") then Some (options.Mark mark_kinds.Weight)
    else None))

-- the mark of a number of hits that may lack an operand, up to a million
abbrev pub hits_of : List ℕ → Option mark_type.Mark
hits_of text = option_map marks.Hits (number_between 0 1000000 text)

-- the mark of a numerator, above 0 and at most the denominator
abbrev pub weight_over : List ℕ → ℕ → Option mark_type.Mark
weight_over text denominator = option_map (λ numerator. marks.Weight numerator denominator) (number_between 1 denominator text)

-- the mark of a fraction from above 0 to 1, with a denominator of at most 1000
abbrev pub weight_between : Option (List ℕ × List ℕ) → Option mark_type.Mark
weight_between = option_and_then (λ parts. option_and_then (weight_over parts.0) (number_between 1 1000 parts.1))

abbrev pub weight_of : List ℕ → Option mark_type.Mark
weight_of text = weight_between (cut_at 47 text)
