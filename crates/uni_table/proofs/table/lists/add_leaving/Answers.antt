use Rattle.std.proofs.Common.{◌≡◌, ◌+◌, List, map, filter, sym, subst, arith}
use Rattle.uni_base.specs.declared.edge.EdgeRef.{EdgeRef}
use Rattle.uni_base.specs.declared.edge.Key.TheVariants.{Id}
use Rattle.uni_table.specs.Added.{Adds}
use Rattle.uni_table.specs.Contents.{leaves_below, starts_at}
use Rattle.uni_table.specs.Lists.{held_of}
use Rattle.uni_table.specs.declared.command.EdgeRow.{EdgeRow}
use Rattle.uni_table.proofs.Additions.{adds_none, adds_either, filter-none}
use Rattle.uni_table.proofs.Leaving.{leaves_below-none, leaves_below-more, leaves_below-apart}
use Rattle.uni_table.proofs.table.lists.add_leaving.Goals as goal

pub loop-type_no-init : goal.loop-type_no-init
loop-type_no-init c =
    subst (λ (es : List (EdgeRef × EdgeRow)). Adds c.args.held.now.items c.args.held.now.items (map held_of es))
    (sym (filter-none (λ (e : EdgeRef × EdgeRow). leaves_below 0 c.args.id e.0) (λ e. leaves_below-none c.args.id e.0) c.args.graph.now.contents.edges)) (adds_none c.args.held.now.items)

pub loop-type_no-preserved : goal.loop-type_no-preserved
loop-type_no-preserved c =
    let number = c.loop-type_no.type_no in
    adds_either held_of (λ (e : EdgeRef × EdgeRow). leaves_below number c.args.id e.0) (λ (e : EdgeRef × EdgeRow). starts_at number (Id c.args.id) e.0)
    (λ (e : EdgeRef × EdgeRow). leaves_below (number + 1) c.args.id e.0) (λ e. leaves_below-apart number c.args.id e.0) (λ e. leaves_below-more number c.args.id e.0) c.args.graph.now.contents.edges
    c.args.held.now.items c.loop-type_no.held.items c.add_from.new.held.items c.loop-type_no.invariant c.in_ok-add_from.ensures

pub returns : goal.returns
returns c =
    let all : c.loop-type_no.type_no ≡ c.args.types = omega (arith, c.loop-type_no.auto.type_no-end, c.loop-type_no-test.false) in
    subst (λ n. Adds c.args.held.now.items c.loop-type_no.held.items (map held_of (filter (λ (e : EdgeRef × EdgeRow). leaves_below n c.args.id e.0) c.args.graph.now.contents.edges))) all c.loop-type_no.invariant
