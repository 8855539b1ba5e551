use Rattle.std.proofs.Common.{◌∙◌, ap, sym}
use Rattle.std.specs.FinMap as finite
use Rattle.layer_stack.specs.Directories.{put_spans}
use Rattle.layer_stack.specs.Spans.{put_rows}
use Rattle.layer_stack.proofs.Laid.{len-from_sorted}
use Rattle.layer_stack.proofs.rows.Rows.puts.Goals as goal

pub returns-clause-puts : goal.returns-clause-puts
returns-clause-puts c =
    let l = c.self.inside in
    c.len.ensures ∙ sym (ap (λ v. finite.len v.puts) (sym c.self.view_is) ∙ len-from_sorted (put_rows (put_spans l.directory) l.postings) c.self.invariant.0.sorted ∙ c.self.invariant.0.count)
