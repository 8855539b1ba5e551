use Rattle.std.proofs.Common.{◌∙◌, ap, sym}
use Rattle.uni_base.specs.Cursors.{keys_from}
use Rattle.uni_base.specs.RankOrder.{doc_cmp}
use Rattle.set_cursors.proofs.Asked.{none_first, not_behind, not_less}
use Rattle.set_cursors.proofs.leap.is_behind.Goals as goal

pub returns-in-Some-clause-not : goal.returns-in-Some-clause-not
returns-in-Some-clause-not g c e =
    not_behind c.args.key.now c.in-Some.at (g.C.DocCursor.remaining c.args.operand.now) c.in-Some.ensures.first c.in-Some.ensures.ranked
    (not_less (doc_cmp c.in-Some.at c.args.key.now) c.cmp.result c.is_lt.result c.cmp.ensures c.is_lt.ensures e)

pub returns-in-None-clause-not : goal.returns-in-None-clause-not
returns-in-None-clause-not g c e =
    let none = none_first (g.C.DocCursor.remaining c.args.operand.now) c.in-None.ensures.first in
    none ∙ sym (ap (keys_from c.args.key.now) none)
