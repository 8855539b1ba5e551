use Rattle.std.proofs.Common.{[], ◌∷◌, ◌≡◌, drop, refl, ap, sym, ◌∙◌, arith}
use Rattle.std.specs.Option.{option_map_or}
use Rattle.std.proofs.lemmas.Grind.{common_steps}
use Rattle.uni_base.specs.Fields.{fields_of}
use Rattle.uni_base.specs.Numbers.{number_between}
use Rattle.feed_reader.specs.Fields.{first_as}
use Rattle.feed_reader.proofs.FrontNumbers.{after_is, number_taken, number_goes_on}
use Rattle.feed_reader.proofs.fields.LineFields.number.Goals as goal

pub returns-in-Some-fields_after-clause-number : goal.returns-in-Some-fields_after-clause-number
returns-in-Some-fields_after-clause-number c =
    let text = c.in-Some.text.now in
    let digits = c.leading_digits-digits in
    let self_is : c.args.self.now ≡ fields_of text =
    sym c.self.view_is ∙ ap (λ rest. option_map_or (λ text. fields_of text.now) rest []) c.in-Some.is in
    let ends : fields_of (drop digits.result.count text) ≡ [] ∷ c.in-Some-fields_after.rest =
    rw (← after_is text digits.result.count) c.in-Some-fields_after.ensures in
    let taken = number_taken c.args.low c.args.high text digits.result.count c.number_written.result c.in-Some-fields_after.rest
    digits.ensures.all ends (sym c.number_written.ensures.number) in
    let told = c.ok_or.ensures.value in
    grind (arith, common_steps, taken, self_is)

pub returns-in-None-clause-number : goal.returns-in-None-clause-number
returns-in-None-clause-number c = (
  refl,
  ap (first_as (number_between c.args.low c.args.high))
      (sym c.self.view_is ∙ ap (λ rest. option_map_or (λ text. fields_of text.now) rest []) c.in-Some.is)
      ∙ number_goes_on c.args.low c.args.high c.in-Some.text.now c.leading_digits-digits.result.count c.leading_digits-digits.ensures.all
      (c.leading_digits-digits.ensures.ended c.if-digits-lt-SHORT.true) (rw (← after_is c.in-Some.text.now c.leading_digits-digits.result.count) c.in-None.ensures),
)
