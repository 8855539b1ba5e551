use Rattle.std.proofs.Common.{refl}
use Rattle.std.proofs.lemmas.Result.{IfOk-weaker}
use Rattle.rack_aggregate.specs.Racks.{GivesRack}
use Rattle.rack_aggregate.proofs.RackHits.{racks_can, racks_first, run_apart, run_ranked}
use Rattle.rack_aggregate.proofs.verticals.first_by.Goals as goal

pub first_of-requires-clause-ranked : goal.first_of-requires-clause-ranked
first_of-requires-clause-ranked g c =
    let racks = c.in_ok-racks.racks.items in
    run_ranked (GivesRack (λ i r. g.J.Fn.post c.args.job.now (i, tt) r) c.args.shards c.args.limit) 0 _ racks refl
    (racks_can (λ i r. g.J.Fn.post c.args.job.now (i, tt) r) c.args.shards c.args.limit c.requires.merges _ c.in_ok-racks.ensures.count) c.in_ok-racks.ensures.gives

pub first_of-requires-clause-apart : goal.first_of-requires-clause-apart
first_of-requires-clause-apart g c =
    let racks = c.in_ok-racks.racks.items in
    run_apart (GivesRack (λ i r. g.J.Fn.post c.args.job.now (i, tt) r) c.args.shards c.args.limit) 0 _ racks refl
    (racks_can (λ i r. g.J.Fn.post c.args.job.now (i, tt) r) c.args.shards c.args.limit c.requires.merges _ c.in_ok-racks.ensures.count) c.in_ok-racks.ensures.gives

pub returns : goal.returns
returns g c =
    IfOk-weaker c.first_of.result _ _
    (λ hits first. racks_first (λ i r. g.J.Fn.post c.args.job.now (i, tt) r) c.args.shards c.args.limit c.requires.merges c.in_ok-racks.racks.items hits c.in_ok-racks.ensures.count c.in_ok-racks.ensures.gives first)
    c.first_of.ensures
