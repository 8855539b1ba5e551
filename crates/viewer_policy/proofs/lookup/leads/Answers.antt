use Rattle.std.proofs.Common.{rules, ◌≡◌, sym}
use Rattle.std.specs.declared.cmp.Ordering.{Ordering}
use Rattle.std.specs.Ordering.{nat_cmp}
use Rattle.std.proofs.lemmas.Fn.{always_returns_same}
use Rattle.uni_base.specs.declared.edge.Audience.TheVariants.{Only}
use Rattle.forward_data.specs.declared.record.ForwardItem.{ForwardItem}
use Rattle.viewer_policy.proofs.Records.{record_rises, item_found, item_missed}
use Rattle.viewer_policy.proofs.lookup.leads.Goals as goal

pub returns-in-Ok : goal.returns-in-Ok
returns-in-Ok c sorted =
    let ord : ForwardItem → Ordering = λ x. nat_cmp x.target c.args.target in
    let computes = always_returns_same _ (λ a r. r ≡ ord a.0.now) _ (λ a r f k. search rules) in
    let found = c.in-Ok.ensures {u = tt} in
    let none : ForwardItem = record { target = 0; audience = Only } in
    sym (item_found c.args.items.now c.args.target c.in-Ok.field-0 none found.bound (found.position ord computes none))

pub returns-in-Err : goal.returns-in-Err
returns-in-Err c sorted =
    let ord : ForwardItem → Ordering = λ x. nat_cmp x.target c.args.target in
    let computes = always_returns_same _ (λ a r. r ≡ ord a.0.now) _ (λ a r f k. search rules) in
    sym (item_missed c.args.items.now c.args.target c.in-Err.field-0 ((c.in-Err.ensures {u = tt}).position ord computes (record_rises c.args.items.now sorted c.args.target)))
