use Rattle.std.proofs.Common.{◌≡◌, ◌≤◌, ◌+◌, ◌++◌, ◌∷◌, List, drop, length, sym, ap, ◌∙◌, subst, arith, append-nil}
use Rattle.std.proofs.lemmas.List.{append_assoc, drop_all, drop_more}
use Rattle.std.proofs.lemmas.Option.{slice_get_within, get_or_from_slice_get}
use Rattle.uni_schema.specs.declared.schema.VerticalDef.{VerticalDef}
use Rattle.unicorn_round.specs.SchemaStacks.{AreStacks}
use Rattle.unicorn_round.specs.Stacks.{stacks_in, stacks_from}
use Rattle.unicorn_round.specs.declared.stacks.StackCover.{StackCover}
use Rattle.unicorn_round.proofs.StackLists.{opening_are}
use Rattle.unicorn_round.proofs.stacks.Stacks.open.Goals as goal

pub loop-vertical-preserved : goal.loop-vertical-preserved
loop-vertical-preserved c =
    let v = c.loop-vertical.vertical in
    let verticals = c.args.schema.now.verticals in
    let here : drop v verticals ≡ c.vertical.result.now ∷ drop (v + 1) verticals =
    drop_more verticals v c.vertical.result.now (slice_get_within verticals v c.vertical.result.now c.vertical.ensures.at)
    ∙ ap (λ (def : VerticalDef). def ∷ drop (v + 1) verticals) (get_or_from_slice_get verticals v c.vertical.result.now c.vertical.result.now c.vertical.ensures.at) in
    ap (λ (covers : List StackCover). covers ++ stacks_from (v + 1) (drop (v + 1) verticals)) c.in_ok-add_vertical.ensures
    ∙ append_assoc c.loop-vertical.covers.items (stacks_in v c.vertical.result.now) (stacks_from (v + 1) (drop (v + 1) verticals))
    ∙ ap (λ defs. c.loop-vertical.covers.items ++ stacks_from v defs) (sym here)
    ∙ c.loop-vertical.invariant

pub returns-clause-are : goal.returns-clause-are
returns-clause-are c =
    let schema = c.args.schema.now in let v = c.loop-vertical.vertical in let covers = c.loop-vertical.covers.items in
    let past : length schema.verticals ≤ v = omega (arith, c.verticals-vertical-end.ensures.count, c.loop-vertical-test.false) in
    subst (AreStacks schema) (sym (sym (append-nil covers) ∙ ap (λ defs. covers ++ stacks_from v defs) (sym (drop_all v schema.verticals past)) ∙ c.loop-vertical.invariant)) (opening_are schema c.verticals-vertical-end.ensures.kept)
