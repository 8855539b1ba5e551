use Rattle.std.proofs.Common.{ℕ, List, ◌++◌, ap, ◌∙◌}
use Rattle.std.proofs.lemmas.Result.{on_ok_weaker}
use Rattle.query_tree.specs.declared.query.Query.{Query}
use Rattle.query_tree.specs.declared.query.Mark.TheVariants.{Plain}
use Rattle.query_tree.specs.Tree.{tree_of}
use Rattle.query_tree.specs.Text.{node_text}
use Rattle.query_tree.proofs.Appends.{appended}
use Rattle.query_tree.proofs.print.+print.Goals as goal

pub print_join-returns : goal.print_join-returns
print_join-returns t c =
    let name = c.in_ok-add-2.ensures ∙ ap (λ (xs : List ℕ). c.add.new.out ++ xs) c.bytes.ensures.bytes in
    let named = appended c.args.out.now _ _ _ _ c.in_ok-add.ensures name in
    let parted = appended c.args.out.now _ _ _ _ named c.in_ok-add-3.ensures in
    let node =
    c.in_ok-print_node.ensures
    ∙ ap (λ (query : Query). c.add-3.new.out ++ node_text (tree_of query) Plain) c.deref.ensures in
    let noded = appended c.args.out.now _ _ _ _ parted node in
    let limited = appended c.args.out.now _ _ _ _ noded c.in_ok-print_limit.ensures in
    let marked = appended c.args.out.now _ _ _ _ limited c.in_ok-print_mark.ensures in
    on_ok_weaker c.add-4.result (λ written. appended c.args.out.now _ _ _ _ marked written) c.add-4.ensures
