use Rattle.std.proofs.Common.{rules, ◌≡◌, length, get_or, replicate, sym, subst, ap, ◌∙◌}
use Rattle.std.proofs.lemmas.List.{length-map}
use Rattle.std.specs.Arc.{arc_value}
use Rattle.uni_table.specs.Contents.{empty}
use Rattle.shard_index.specs.Places.{stack_count}
use Rattle.shard_index.specs.Versions.{VersionState, Stands, first_version}
use Rattle.version_catalog.proofs.Openings.{opening_stands, zeroes_at}
use Rattle.version_catalog.proofs.state.CatalogueState.opening.Goals as goal

pub returns-clause-stands : goal.returns-clause-stands
returns-clause-stands c =
    let settings = c.args.settings.now in let n = length c.stacks.result.now in
    let schema : arc_value c.in_ok-clone.field-0 ≡ settings.schema = search rules in
    let made = c.in_ok-version.ensures {u = tt} in
    let boxed : arc_value c.in_ok-new.field-0 ≡ c.in_ok-version.version = (c.in_ok-new.ensures {u = tt}).ok in
    let is : arc_value c.in_ok-new.field-0 ≡ first_version settings.schema = boxed ∙ made.is ∙ ap first_version schema in
    let zeroes : c.in_ok-covered.covered.items ≡ replicate n 0 = search rules in
    let count : n ≡ stack_count settings.schema =
    sym (length-map c.stacks.result.now (λ index. index.0)) ∙ ap length c.stacks.ensures.stacks ∙ c.stacks.ensures.kept.count
    ∙ ap (λ (v : VersionState). stack_count v.schema) (made.is ∙ ap first_version schema) in
    opening_stands _ settings n is (subst (λ v. Stands v empty) (sym boxed) made.stands) c.limits.ensures zeroes count

pub returns-clause-none : goal.returns-clause-none
returns-clause-none c i =
    let n = length c.stacks.result.now in
    let zeroes : c.in_ok-covered.covered.items ≡ replicate n 0 = search rules in
    ap (λ cs. get_or cs i 0) zeroes ∙ zeroes_at n i
