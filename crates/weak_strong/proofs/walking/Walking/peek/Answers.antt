use Rattle.std.proofs.Common.{map}
use Rattle.weak_strong.specs.Marks.{counter_of}
use Rattle.weak_strong.proofs.Whole.{whole_first, whole_passed, whole_ranked}
use Rattle.weak_strong.proofs.walking.Walking.peek.Goals as goal

pub returns-clause-first : goal.returns-clause-first
returns-clause-first g c =
    whole_first g.C.DocCursor.remaining c.args.self.now c.self.inside.rule c.self.inside.candidates (map counter_of c.self.inside.counters.items) c.self.inside.kept c.self.view_is c.self.inside.at c.self.invariant.settled

pub returns-clause-ranked : goal.returns-clause-ranked
returns-clause-ranked g c = whole_ranked g.C.DocCursor.remaining c.args.self.now

pub returns-clause-stands : goal.returns-clause-stands
returns-clause-stands g c =
    whole_passed g.C.DocCursor.remaining c.args.self.now c.self.inside.rule c.self.inside.candidates (map counter_of c.self.inside.counters.items) c.self.inside.kept c.self.view_is c.self.inside.at c.self.invariant.settled
