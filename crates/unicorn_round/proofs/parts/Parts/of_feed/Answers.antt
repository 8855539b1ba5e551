use Rattle.std.proofs.Common.{refl}
use Rattle.unicorn_round.proofs.PartedSteps.{parted_feed}
use Rattle.unicorn_round.proofs.parts.Parts.of_feed.Goals as goal

pub returns : goal.returns
returns c =
    let empty = c.in_ok-empty.empty in
    parted_feed c.args.sessions c.args.items empty (record { slots = empty.slots; feed = c.args.items; asks = empty.asks; compactions = empty.compactions }) c.requires
    c.in_ok-empty.ensures.parted refl c.in_ok-empty.ensures.slots refl refl refl
