use Rattle.std.proofs.Common.{◌≡◌, false, nat_lt, rules, arith}
use Rattle.std.proofs.lemmas.Bool.Decides.{nat_tests}
use Rattle.uni_base.specs.Fields.{is_skipped}
use Rattle.script_rounds.specs.Roles.{counted_entry, is_go}
use Rattle.script_rounds.proofs.RoleSteps.{role_of-counted}
use Rattle.script_rounds.proofs.read_line.read_line.Goals as goal

pub returns-in_ok-item-clause-line : goal.returns-in_ok-item-clause-line
returns-in_ok-item-clause-line c =
    let terms = c.args.terms.now in
    let here : is_go c.args.line.now ≡ false = search rules in
    let kept : is_skipped c.args.line.now ≡ false = search rules in
    let few : nat_lt terms.limits.round c.args.before ≡ false = grind (arith, nat_tests) in
    (counted_entry terms c.args.number c.args.before c.args.line.now, role_of-counted terms c.args.number c.args.before c.args.line.now here kept few, c.in_ok-item.ensures.item)
