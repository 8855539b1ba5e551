use Rattle.std.proofs.Common.{◌+◌, Bool, List, [], map, filter, take, refl, sym, ap, subst, ◌∙◌}
use Rattle.std.proofs.lemmas.List.{take_all}
use Rattle.uni_base.specs.declared.edge.EdgeRef.{EdgeRef}
use Rattle.uni_base.specs.declared.entity.DocKey.{DocKey}
use Rattle.uni_table.specs.Added.{Adds}
use Rattle.uni_table.specs.Contents.{reaches}
use Rattle.uni_table.specs.Lists.{held_of}
use Rattle.uni_table.specs.Shards.{reaches_any}
use Rattle.uni_table.specs.declared.command.EdgeRow.{EdgeRow}
use Rattle.uni_table.proofs.Additions.{adds_none, adds_either, filter-none}
use Rattle.uni_table.proofs.Gathered.{once, any-next, reaches_single}
use Rattle.uni_table.proofs.table.shards.add_reaching.Goals as goal

pub loop-doc-init : goal.loop-doc-init
loop-doc-init c =
    subst (λ (es : List (EdgeRef × EdgeRow)). Adds c.args.held.now.items c.args.held.now.items (map held_of es))
    (sym (filter-none (λ (e : EdgeRef × EdgeRow). reaches_any [] e.0) (λ e. refl) c.args.graph.now.contents.edges)) (adds_none c.args.held.now.items)

pub loop-doc-preserved : goal.loop-doc-preserved
loop-doc-preserved c =
    let docs = c.args.docs.now in
    let i = c.loop-doc.doc-index in
    let doc : DocKey = c.doc-item.result in
    let test : EdgeRef × EdgeRow → DocKey → Bool = λ e k. reaches k.id e.0 in
    adds_either held_of (λ (e : EdgeRef × EdgeRow). reaches_any (take i docs) e.0) (λ (e : EdgeRef × EdgeRow). reaches doc.id e.0) (λ (e : EdgeRef × EdgeRow). reaches_any (take (i + 1) docs) e.0)
    (λ e some. ap (test e) c.doc-item.is ∙ once (test e) (reaches_single e.0) docs i doc c.requires c.loop-doc-test.true some)
    (λ e. any-next (test e) (reaches_single e.0) docs i doc c.loop-doc-test.true c.doc-item.is) c.args.graph.now.contents.edges
    c.args.held.now.items c.loop-doc.held.items c.add_into.new.held.items c.loop-doc.invariant c.in_ok-add_into.ensures

pub returns : goal.returns
returns c =
    subst (λ (ks : List DocKey). Adds c.args.held.now.items c.loop-doc.held.items (map held_of (filter (λ (e : EdgeRef × EdgeRow). reaches_any ks e.0) c.args.graph.now.contents.edges)))
    (take_all c.loop-doc.doc-index c.args.docs.now c.loop-doc-test.false) c.loop-doc.invariant
