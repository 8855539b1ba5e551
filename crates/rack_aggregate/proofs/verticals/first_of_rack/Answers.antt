use Rattle.std.proofs.Common.{◌≡◌, arith, length}
use Rattle.std.proofs.lemmas.Result.{IfOk-weaker}
use Rattle.rack_aggregate.proofs.RackHits.{merged_first, run_apart, run_ranked}
use Rattle.rack_aggregate.proofs.verticals.first_of_rack.Goals as goal

pub first_of-requires-clause-ranked : goal.first_of-requires-clause-ranked
first_of-requires-clause-ranked g c =
    let parts = c.in_ok-parts.parts in
    let all : length parts.items ≡ c.args.count = omega (arith, c.in_ok-parts.ensures.len, parts.ok.0) in
    run_ranked (λ i r. g.J.Fn.post c.args.job.now (i, tt) r) c.args.from c.args.count parts.items all c.requires.merges c.in_ok-parts.ensures.gives

pub first_of-requires-clause-apart : goal.first_of-requires-clause-apart
first_of-requires-clause-apart g c =
    let parts = c.in_ok-parts.parts in
    let all : length parts.items ≡ c.args.count = omega (arith, c.in_ok-parts.ensures.len, parts.ok.0) in
    run_apart (λ i r. g.J.Fn.post c.args.job.now (i, tt) r) c.args.from c.args.count parts.items all c.requires.merges c.in_ok-parts.ensures.gives

pub returns : goal.returns
returns g c =
    let parts = c.in_ok-parts.parts in
    let all : length parts.items ≡ c.args.count = omega (arith, c.in_ok-parts.ensures.len, parts.ok.0) in
    IfOk-weaker c.first_of.result _ _
    (λ hits first. merged_first (λ i r. g.J.Fn.post c.args.job.now (i, tt) r) c.args.from c.args.count c.args.limit parts.items hits all c.in_ok-parts.ensures.gives first)
    c.first_of.ensures
