use Rattle.std.proofs.Common.{map}
use Rattle.uni_base.proofs.UnitedLemmas.{IsRanked-united}
use Rattle.set_cursors.proofs.or.OrCursorDocCursor.peek.Goals as goal

pub returns-clause-ranked : goal.returns-clause-ranked
returns-clause-ranked g c = IsRanked-united (map g.C.DocCursor.remaining c.args.self.now)
