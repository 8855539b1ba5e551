use Rattle.uni_base.proofs.Pieces.{reads-pieces}
use Rattle.uni_base.proofs.memory_source.MemorySourceSource.read.Goals as goal

pub returns-clause-told : goal.returns-clause-told
returns-clause-told c =
    rw (← c.self.view_is)
    (reads-pieces c.self.inside.pieces c.read.new.self c.read.result c.read.new.into c.args.into.now
    c.read.ensures.count c.read.ensures.copied c.read.ensures.after)
