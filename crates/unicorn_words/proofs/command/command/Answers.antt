use Rattle.std.proofs.Common.{rules, ap, ap₂, codes, true, false, ◌≡◌, ◌∙◌, Option, Some}
use Rattle.std.specs.Prelude.{pos}
use Rattle.std.proofs.lemmas.Result.{IfOk-weaker}
use Rattle.clap.specs.Walk.{texts}
use Rattle.clap.specs.Words.{Rule, new_rule, rule_of, with_rule}
use Rattle.clap.specs.Simple.{app_of_fields, on_top}
use Rattle.clap.specs.declared.builder.arg.Arg.{Arg}
use Rattle.clap.specs.declared.builder.action.ArgAction.TheVariants.{Set}
use Rattle.clap.specs.declared.builder.value_parser.ValueParser.{ValueParser}
use Rattle.clap.specs.declared.builder.value_parser.ValueParser.TheVariants as vp
use Rattle.unicorn_words.specs.CommandLine.{mode_argument, mode_names, number_option}
use Rattle.unicorn_words.proofs.command.command.Goals as goal

pub returns : goal.returns
returns c =
    let names = c.as_slice.result in
    let given = c.value_parser-mode.ensures.given in
    let plain_mode : rule_of c.required.result ≡ record (new_rule (codes "MODE")) { action = Some Set; required = true } =
    ap rule_of c.required.ensures ∙ ap (λ (r : Rule). record r { required = true })
    (ap rule_of c.action.ensures ∙ ap (λ (r : Rule). record r { action = Some Set }) c.new.ensures.rule) in
    let mode_is : rule_of c.value_parser-mode.result ≡ mode_argument (vp.Names names) =
    ap rule_of c.value_parser-mode.ensures.others
    ∙ ap (λ (o : Option ValueParser). record (rule_of c.required.result) { parser = o }) (given.1 ∙ ap (λ (q : ValueParser). Some q) given.2)
    ∙ ap (λ (r : Rule). record r { parser = Some (vp.Names names) }) plain_mode in
    let local : c.value_parser-mode.result.global ≡ false =
    ap (λ (a : Arg). a.global) (c.value_parser-mode.ensures.others) ∙ ap (λ (a : Arg). a.global) c.required.ensures
    ∙ ap (λ (a : Arg). a.global) c.action.ensures ∙ c.new.ensures.optional.1 in
    let to_64 : c.range.result ≡ vp.Signed (pos 1) (pos 64) = search rules in
    let to_max : c.range-2.result ≡ vp.Signed (pos 1) (pos 2147483646) = search rules in
    let to_100000 : c.range-3.result ≡ vp.Signed (pos 2) (pos 100000) = search rules in
    let named : texts names.now ≡ mode_names = search rules in
    let start = ap app_of_fields c.version.ensures ∙ ap (on_top (λ s. record s { has_version = true })) c.new-5.ensures.app in
    let with_mode = c.in_ok-arg.ensures.shape local ∙ ap₂ with_rule start mode_is in
    let with_workers = c.in_ok-arg-2.ensures.shape c.number_option-workers.ensures.local
    ∙ ap₂ with_rule with_mode (c.number_option-workers.ensures.rule ∙ ap (λ (q : ValueParser). number_option (codes "workers") q (codes "4")) to_64) in
    let with_seed = c.in_ok-arg-3.ensures.shape c.number_option-seed.ensures.local
    ∙ ap₂ with_rule with_workers (c.number_option-seed.ensures.rule ∙ ap (λ (q : ValueParser). number_option (codes "seed") q (codes "1")) to_max) in
    IfOk-weaker c.arg-4.result _ _ (λ r h. (
      names,
      named,
      h.shape c.number_option-people.ensures.local
          ∙ ap₂ with_rule with_seed (c.number_option-people.ensures.rule ∙ ap (λ (q : ValueParser). number_option (codes "people") q (codes "1000")) to_100000),
    ))
    c.arg-4.ensures
