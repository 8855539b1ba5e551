use Rattle.std.proofs.Common.{arith, ◌≡◌, length, ap, ◌∙◌, sym}
use Rattle.std.specs.FinMap as finite
use Rattle.std.proofs.lemmas.Bool.Decides.{nat_tests}
use Rattle.layer_stack.specs.Directories.{delete_spans}
use Rattle.layer_stack.specs.Spans.{delete_rows}
use Rattle.layer_stack.proofs.Laid.{len-from_sorted}
use Rattle.layer_stack.proofs.rows.Rows.puts_alone.Goals as goal

pub returns : goal.returns
returns c is =
    let l = c.self.inside in
    let zero : length l.deleted.items ≡ 0 = grind (arith, c.is_empty.ensures, is, nat_tests) in
    finite.empty_of_len c.args.self.now.deletes
    (ap (λ v. finite.len v.deletes) (sym c.self.view_is) ∙ len-from_sorted (delete_rows (delete_spans l.directory) l.deleted.items) c.self.invariant.1.sorted ∙ c.self.invariant.1.count ∙ zero)
