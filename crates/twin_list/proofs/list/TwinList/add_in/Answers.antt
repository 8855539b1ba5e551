use Rattle.std.proofs.Common.{rules, ◌≡◌, ◌∙◌, [], ap}
use Rattle.twin_list.specs.declared.law.Part.TheVariants.{Both}
use Rattle.twin_list.proofs.Kept.{adds, joins, parts}
use Rattle.twin_list.proofs.list.TwinList.add_in.Goals as goal

pub join_seat-requires : goal.join_seat-requires
join_seat-requires g c = (search rules, search rules, search rules, search rules, joins _ _ _ _ c.requires.halves.0.0 c.requires.halves.1.0)

pub load-requires : goal.load-requires
load-requires g c = (search rules, search rules, adds _ _ _ _ c.args.entry.now (search rules) c.requires.said)

pub split_seat-requires : goal.split_seat-requires
split_seat-requires g c =
    let both : c.join_seat.new.seat.me.0.part ≡ Both = search rules in
    let told = c.load.ensures.2 c.args.entry.now both c.requires.said in
    (search rules, search rules, parts _ _ (ap (λ m. m.0.part) told.1))

pub returns-clause-same : goal.returns-clause-same
returns-clause-same g c =
    let both : c.join_seat.new.seat.me.0.part ≡ Both = search rules in
    let told = c.load.ensures.2 c.args.entry.now both c.requires.said in
    search rules

pub returns-clause-halves : goal.returns-clause-halves
returns-clause-halves g c =
    let both : c.join_seat.new.seat.me.0.part ≡ Both = search rules in
    let told = c.load.ensures.2 c.args.entry.now both c.requires.said in
    let joined : c.join_seat.new.seat.me.1 ≡ [] = search rules in
    let bare : c.load.new.seat.me.1 ≡ [] = ap (λ m. m.1) told.1 ∙ joined in
    ((search rules, search rules), (search rules, search rules))
