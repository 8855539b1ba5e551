use Rattle.std.proofs.Common.{◌≡◌, ◌∙◌, OnOk, sym, ap, subst, arith}
use Rattle.std.specs.BTreeMap.{is_at}
use Rattle.std.specs.Map.{keys_of}
use Rattle.std.proofs.lemmas.Map.{NonePasses}
use Rattle.std.proofs.lemmas.Map.Entries.{length-keys_of}
use Rattle.std.proofs.lemmas.Option.{slice_get_within}
use Rattle.uni_base.specs.EdgeOrder.{edge_cmp}
use Rattle.uni_table.specs.Contents.{with_edge}
use Rattle.uni_table.specs.GraphRows.{contents_of, slots_named, IsPlaceOf}
use Rattle.uni_table.specs.declared.command.EdgeRow.{EdgeRow}
use Rattle.uni_table.proofs.GraphAdded.{put-same}
use Rattle.uni_table.proofs.GraphGrown.{quiet-place, quiet-trans}
use Rattle.uni_table.proofs.GraphNames.{named}
use Rattle.uni_table.proofs.graph.rows.Rows.put_found.Goals as goal

pub add_edge-requires-clause-source : goal.add_edge-requires-clause-source
add_edge-requires-clause-source c =
    let es = c.state_of.new.self.sources.entries in
    let n = c.in_ok-number.number in
    omega (arith, slice_get_within (keys_of es) n.source _ (c.in_ok-state.ensures.quiet.sources n.source _ c.in_ok-number.ensures.number.source), length-keys_of es)

pub add_edge-requires-clause-target : goal.add_edge-requires-clause-target
add_edge-requires-clause-target c =
    let es = c.state_of.new.self.ids.entries in
    let n = c.in_ok-number.number in
    omega (arith, slice_get_within (keys_of es) n.target _ (c.in_ok-state.ensures.quiet.ids n.target _ c.in_ok-number.ensures.number.target), length-keys_of es)

pub add_edge-requires-clause-unused : goal.add_edge-requires-clause-unused
add_edge-requires-clause-unused c =
    let a = c.args.self.now in
    let b = c.state_of.new.self in
    let n = c.in_ok-number.number in let edge = c.args.found.now.edge.now in
    let quiet = quiet-trans a c.edge_no.new.self b c.in_ok-number.ensures.quiet c.in_ok-state.ensures.quiet in
    subst (λ e. NonePasses (is_at (edge_cmp e)) (slots_named b))
    (sym (named (keys_of b.sources.entries) (keys_of b.ids.entries) n edge (c.in_ok-state.ensures.quiet.sources n.source _ c.in_ok-number.ensures.number.source) (c.in_ok-state.ensures.quiet.ids n.target _ c.in_ok-number.ensures.number.target)))
    (subst (IsPlaceOf b edge) c.in-None.is (quiet-place a b c.requires.kept quiet edge c.args.found.now.place c.requires.found.place))

pub returns-in-Some-clause-ok : goal.returns-in-Some-clause-ok
returns-in-Some-clause-ok c =
    let a = c.args.self.now in
    let b = c.state_of.new.self in let edge = c.args.found.now.edge.now in
    let row : EdgeRow = record { audience = c.args.audience.now; end = c.args.end } in
    let quiet = quiet-trans a c.edge_no.new.self b c.in_ok-number.ensures.quiet c.in_ok-state.ensures.quiet in
    let p = subst (IsPlaceOf b edge) c.in-Some.is (quiet-place a b c.requires.kept quiet edge c.args.found.now.place c.requires.found.place) in
    subst (λ t. OnOk c.set_edge.result (contents_of c.set_edge.new.self ≡ t))
    (put-same (contents_of b) _ edge (keys_of b.sources.entries) c.in_ok-state.state row p.2 c.in_ok-state.ensures.state.named ∙ ap (λ t. with_edge t edge row) quiet.same)
    (c.set_edge.ensures.ok p.0.0 p.0.1 p.1)

pub returns-in-None-clause-ok : goal.returns-in-None-clause-ok
returns-in-None-clause-ok c =
    let a = c.args.self.now in
    let b = c.state_of.new.self in
    let n = c.in_ok-number.number in let edge = c.args.found.now.edge.now in
    let row : EdgeRow = record { audience = c.args.audience.now; end = c.args.end } in
    let quiet = quiet-trans a c.edge_no.new.self b c.in_ok-number.ensures.quiet c.in_ok-state.ensures.quiet in
    subst (λ t. OnOk c.add_edge.result (contents_of c.add_edge.new.self ≡ t))
    (put-same (contents_of b) _ edge (keys_of b.sources.entries) c.in_ok-state.state row
    (named (keys_of b.sources.entries) (keys_of b.ids.entries) n edge (c.in_ok-state.ensures.quiet.sources n.source _ c.in_ok-number.ensures.number.source) (c.in_ok-state.ensures.quiet.ids n.target _ c.in_ok-number.ensures.number.target))
    c.in_ok-state.ensures.state.named
    ∙ ap (λ t. with_edge t edge row) quiet.same)
    c.add_edge.ensures.ok
