use Rattle.std.proofs.Common.{[], ap, sym, refl, ◌∙◌}
use Rattle.std.specs.Option.{option_map_or}
use Rattle.uni_base.specs.Fields.{fields_of}
use Rattle.feed_reader.specs.Fields.{first_begins, in_front}
use Rattle.feed_reader.proofs.Fronts.{fields_onto, first_begun, front_solid, never_none}
use Rattle.feed_reader.proofs.fields.LineFields.take_front.Goals as goal

pub returns-in-Some-after_front : goal.returns-in-Some-after_front
returns-in-Some-after_front c = (
  sym c.self.view_is
      ∙ ap (λ rest. option_map_or (λ text. fields_of text.now) rest []) c.in-Some.is
      ∙ ap fields_of c.in-Some-after_front.ensures
      ∙ fields_onto (in_front c.args.word.now) c.in-Some-after_front.rest.now (front_solid c.args.word.now c.requires),
  never_none c.in-Some-after_front.rest.now,
)

pub returns-in-None : goal.returns-in-None
returns-in-None c = (
  refl,
  ap (first_begins (in_front c.args.word.now))
      (sym c.self.view_is ∙ ap (λ rest. option_map_or (λ text. fields_of text.now) rest []) c.in-Some.is)
      ∙ first_begun (in_front c.args.word.now) c.in-Some.text.now c.in-None.ensures,
)
