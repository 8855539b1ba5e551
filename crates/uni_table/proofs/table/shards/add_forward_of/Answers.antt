use Rattle.std.proofs.Common.{◌≡◌, ◌+◌, ◌&&◌, ℕ, Bool, List, map, filter, length, nat_lt, sym, ap, subst, ◌∙◌, arith, Vec, Global}
use Rattle.uni_base.specs.declared.edge.EdgeRef.{EdgeRef}
use Rattle.uni_base.specs.declared.edge.Held.{Held}
use Rattle.uni_base.specs.declared.edge.Key.TheVariants.{Id}
use Rattle.uni_table.specs.Added.{Adds}
use Rattle.uni_table.specs.Contents.{starts_at}
use Rattle.uni_table.specs.Lists.{held_of}
use Rattle.uni_table.specs.Shards.{leaves_forward}
use Rattle.uni_table.specs.declared.command.EdgeRow.{EdgeRow}
use Rattle.uni_table.proofs.Additions.{adds_none, adds_either, filter-none, filter-same}
use Rattle.uni_table.proofs.Gathered.{forward-none, forward-apart, forward-more, forward-as_before, forward-all}
use Rattle.uni_table.proofs.table.shards.add_forward_of.Goals as goal
use Rattle.uni_table.proofs.table.shards.add_forward_of.Goals.{then-is_forward_type+in_ok-add_from, else-is_forward_type}

pub loop-type_no-init : goal.loop-type_no-init
loop-type_no-init c =
    subst (λ (es : List (EdgeRef × EdgeRow)). Adds c.args.held.now.items c.args.held.now.items (map held_of es))
    (sym (filter-none (λ (e : EdgeRef × EdgeRow). leaves_forward c.args.schema.now c.args.vertical c.args.id e.0 && nat_lt e.0.type_no 0)
    (λ e. forward-none c.args.schema.now c.args.vertical c.args.id 0 e.0) c.args.graph.now.contents.edges)) (adds_none c.args.held.now.items)

pub loop-type_no-preserved : goal.loop-type_no-preserved
loop-type_no-preserved c =
    let number = c.loop-type_no.type_no in
    let schema = c.args.schema.now in
    let held : Vec Held Global → List Held = λ v. v.items in
    let test : ℕ → EdgeRef × EdgeRow → Bool = λ n e. leaves_forward schema c.args.vertical c.args.id e.0 && nat_lt e.0.type_no n in
    elim c.if-is_forward_type.branch [
      | then-is_forward_type+in_ok-add_from w ↦
          subst (λ (hs : List Held). Adds c.args.held.now.items hs (map held_of (filter (test (number + 1)) c.args.graph.now.contents.edges))) (sym (ap held w.held-is))
          (adds_either held_of (test number) (λ (e : EdgeRef × EdgeRow). starts_at number (Id c.args.id) e.0) (test (number + 1))
          (λ e. forward-apart schema c.args.vertical c.args.id number e.0)
          (λ e. forward-more schema c.args.vertical c.args.id number (sym c.is_forward_type.ensures ∙ w.if-is_forward_type.true) e.0) c.args.graph.now.contents.edges
          c.args.held.now.items c.loop-type_no.held.items w.add_from.new.held.items c.loop-type_no.invariant w.in_ok-add_from.ensures)
      | else-is_forward_type w ↦
          subst (λ (hs : List Held). Adds c.args.held.now.items hs (map held_of (filter (test (number + 1)) c.args.graph.now.contents.edges))) (sym (ap held w.held-is))
          (subst (λ (es : List (EdgeRef × EdgeRow)). Adds c.args.held.now.items c.loop-type_no.held.items (map held_of es))
          (sym (filter-same (test (number + 1)) (test number) (λ e. forward-as_before schema c.args.vertical c.args.id number (sym c.is_forward_type.ensures ∙ w.if-is_forward_type.false) e.0) c.args.graph.now.contents.edges))
          c.loop-type_no.invariant)
    ]

pub returns : goal.returns
returns c =
    let all : c.loop-type_no.type_no ≡ length c.args.schema.now.types = omega (arith, c.loop-type_no.auto.type_no-end, c.loop-type_no-test.false, c.types-type_no-end.ensures.count) in
    subst (λ (es : List (EdgeRef × EdgeRow)). Adds c.args.held.now.items c.loop-type_no.held.items (map held_of es))
    (ap (λ n. filter (λ (e : EdgeRef × EdgeRow). leaves_forward c.args.schema.now c.args.vertical c.args.id e.0 && nat_lt e.0.type_no n) c.args.graph.now.contents.edges) all
    ∙ filter-same (λ (e : EdgeRef × EdgeRow). leaves_forward c.args.schema.now c.args.vertical c.args.id e.0 && nat_lt e.0.type_no (length c.args.schema.now.types))
    (λ (e : EdgeRef × EdgeRow). leaves_forward c.args.schema.now c.args.vertical c.args.id e.0) (λ e. forward-all c.args.schema.now c.args.vertical c.args.id e.0) c.args.graph.now.contents.edges)
    c.loop-type_no.invariant
