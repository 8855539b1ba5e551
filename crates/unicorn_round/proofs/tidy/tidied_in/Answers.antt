use Rattle.std.proofs.Common.{◌≡◌, ◌++◌, filter, map, ap, ◌∙◌}
use Rattle.unicorn_round.specs.SchemaStacks.{is_layered}
use Rattle.unicorn_round.specs.Stacks.{due_untidied, name_of, tidy_answers}
use Rattle.unicorn_round.proofs.tidy.tidied_in.Goals as goal

pub returns : goal.returns
returns g c =
    let made = c.args.made in
    let stacks = c.args.stacks.now in
    let layered : c.as_slice.result.now ≡ filter (is_layered c.args.version.now) c.args.due.now = c.as_slice.ensures.value ∙ (c.in_ok-layered.ensures {u = tt}) in
    c.in_ok-answer_due.ensures {u = tt} ∙ ap (λ ls. ls ++ tidy_answers made (map name_of c.as_slice-2.result.now) stacks) c.new-answers.ensures.items
    ∙ ap (λ us. tidy_answers made (map name_of us) stacks) c.as_slice-2.ensures.value ∙ ap (λ ns. tidy_answers made ns stacks) (c.in_ok-untidied.ensures {u = tt})
    ∙ ap (λ ls. tidy_answers made (due_untidied made (map name_of ls) stacks) stacks) layered
