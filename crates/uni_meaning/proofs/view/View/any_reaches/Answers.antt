use Rattle.std.proofs.Common.{sym, ◌∙◌}
use Rattle.uni_table.specs.Contents.{has_edge}
use Rattle.uni_meaning.specs.Hits.{edge_to}
use Rattle.uni_meaning.proofs.AtPlaces.{any_here, any_past}
use Rattle.uni_meaning.proofs.view.View.any_reaches.Goals as goal

pub returns-then-reaches : goal.returns-then-reaches
returns-then-reaches c =
    sym (c.loop-type_no.invariant
    ∙ any_here (λ number. has_edge c.args.self.now.contents (edge_to number c.args.key.now c.args.self.now.viewer)) c.args.types.now c.loop-type_no.type_no-index 0 c.loop-type_no-test.true
    (sym c.reaches.ensures ∙ c.if-reaches.true))

pub loop-type_no-preserved : goal.loop-type_no-preserved
loop-type_no-preserved c =
    c.loop-type_no.invariant
    ∙ any_past (λ number. has_edge c.args.self.now.contents (edge_to number c.args.key.now c.args.self.now.viewer)) c.args.types.now c.loop-type_no.type_no-index 0 c.loop-type_no-test.true
    (sym c.reaches.ensures ∙ c.if-reaches.false)
