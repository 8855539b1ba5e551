use Rattle.std.proofs.Common.{[], ap, sym, ◌∙◌}
use Rattle.std.specs.Option.{option_map_or}
use Rattle.uni_base.specs.Fields.{fields_of}
use Rattle.uni_base.proofs.FieldLemmas.{fields_of-cut, fields_of-uncut}
use Rattle.feed_reader.proofs.fields.LineFields.next.Goals as goal

pub returns-in-Some-cut_at : goal.returns-in-Some-cut_at
returns-in-Some-cut_at c =
    sym c.self.view_is
    ∙ ap (λ rest. option_map_or (λ text. fields_of text.now) rest []) c.in-Some.is
    ∙ fields_of-cut c.in-Some.text.now c.in-Some-cut_at.field.now c.in-Some-cut_at.rest.now c.in-Some-cut_at.ensures

pub returns-in-None : goal.returns-in-None
returns-in-None c =
    sym c.self.view_is
    ∙ ap (λ rest. option_map_or (λ text. fields_of text.now) rest []) c.in-Some.is
    ∙ fields_of-uncut c.in-Some.text.now c.in-None.ensures
