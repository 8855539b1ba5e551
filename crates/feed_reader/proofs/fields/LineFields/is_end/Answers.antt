use Rattle.std.proofs.Common.{[], ap, sym, ◌∙◌}
use Rattle.std.specs.Option.{option_map_or}
use Rattle.uni_base.specs.Fields.{fields_of}
use Rattle.feed_reader.proofs.Fronts.{never_none}
use Rattle.feed_reader.proofs.fields.LineFields.is_end.Goals as goal

pub returns-in-Some : goal.returns-in-Some
returns-in-Some c = (
  λ h. absurd (cc),
  λ none. absurd (never_none c.in-Some.field-0.now
      (sym (ap (λ rest. option_map_or (λ text. fields_of text.now) rest []) c.in-Some.is) ∙ c.self.view_is ∙ none)),
)
