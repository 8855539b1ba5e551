use Rattle.apply_extract.specs.Answered.{answered_in}
use Rattle.apply_extract.proofs.Asked.{first_all, if_ok}
use Rattle.apply_extract.proofs.shards.ask_among.Goals as goal

pub returns-clause-parts : goal.returns-clause-parts
returns-clause-parts g c =
    if_ok c.run_racks.result (λ parts each. first_all c.args.version.now c.args.vertical c.args.limit (answered_in c.args.query.now) parts.items (λ i part found. each i part found)) c.run_racks.ensures.each
