use Rattle.std.proofs.Common.{map}
use Rattle.set_cursors.proofs.Shared.{IsRanked-common}
use Rattle.set_cursors.proofs.and.AndCursorDocCursor.peek.Goals as goal

pub returns-clause-ranked : goal.returns-clause-ranked
returns-clause-ranked g c = IsRanked-common (map g.C.DocCursor.remaining c.args.self.now)
