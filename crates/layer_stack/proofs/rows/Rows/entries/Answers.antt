use Rattle.std.proofs.Common.{rules, arith, ◌≡◌, length, ap, ◌∙◌}
use Rattle.layer_stack.specs.Directories.{put_spans, delete_spans}
use Rattle.layer_stack.specs.Postings.{entries_of}
use Rattle.layer_stack.specs.Spans.{put_rows, delete_rows}
use Rattle.layer_stack.proofs.Laid.{len-from_sorted}
use Rattle.layer_stack.proofs.rows.Rows.entries.Goals as goal

pub returns-clause-entries : goal.returns-clause-entries
returns-clause-entries c =
    let l = c.self.inside in
    let puts = len-from_sorted (put_rows (put_spans l.directory) l.postings) c.self.invariant.0.sorted ∙ c.self.invariant.0.count in
    let deletes = len-from_sorted (delete_rows (delete_spans l.directory) l.deleted.items) c.self.invariant.1.sorted ∙ c.self.invariant.1.count in
    let first : c.len.result ≡ length l.postings = c.len.ensures in
    let second : c.len-2.result ≡ length l.deleted.items = search rules in
    omega (arith, puts, deletes, first, second, ap entries_of c.self.view_is)

pub returns-clause-few : goal.returns-clause-few
returns-clause-few c =
    let first : c.len.result ≡ length c.self.inside.postings = c.len.ensures in
    let second : c.len-2.result ≡ length c.self.inside.deleted.items = search rules in
    omega (arith, first, second, c.self.invariant.0.few, c.self.invariant.1.few)
