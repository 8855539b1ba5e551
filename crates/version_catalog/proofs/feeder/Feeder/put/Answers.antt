use Rattle.turn_lock.specs.Seats.{writer_seen}
use Rattle.version_catalog.specs.Journals.{batches}
use Rattle.std.proofs.Common.{◌∙◌}
use Rattle.version_catalog.proofs.Feeds.{same_terms, put_published, put_contents, put_accepted}
use Rattle.version_catalog.proofs.feeder.Feeder.put.Goals as goal

pub invariant_of-self-clause-published : goal.invariant_of-self-clause-published
invariant_of-self-clause-published c =
    put_published c.add.result c.args.self.now.table c.add.new.table c.args.self.now.batch c.add.new.batch c.args.command.now c.add.ensures.ok c.add.ensures.err (batches (writer_seen c.args.self.now.seat)) c.args.self.now.published

pub invariant_of-self-clause-contents : goal.invariant_of-self-clause-contents
invariant_of-self-clause-contents c =
    put_contents c.add.result c.args.self.now.table c.add.new.table c.args.self.now.batch c.add.new.batch c.args.command.now c.add.ensures.ok c.add.ensures.joins c.add.ensures.err c.args.self.now.contents

pub invariant_of-self-clause-accepted : goal.invariant_of-self-clause-accepted
invariant_of-self-clause-accepted c =
    put_accepted c.add.result c.args.self.now.table c.add.new.table c.args.self.now.batch c.add.new.batch c.args.command.now c.add.ensures.taken c.add.ensures.ok c.add.ensures.joins c.add.ensures.err c.args.self.now.contents c.args.self.now.accepted

pub returns-clause-of : goal.returns-clause-of
returns-clause-of c catalogue is =
    let same = same_terms c.add.result c.args.self.now.table c.add.new.table c.args.self.now.batch c.add.new.batch c.args.command.now c.add.ensures.ok c.add.ensures.err in
    record { lock = is.lock; history = is.history; schema = same.0 ∙ is.schema; limits = same.1 ∙ is.limits }
