use Rattle.std.proofs.Common.{◌∙◌, ap, sym}
use Rattle.layer_stack.specs.Directories.{put_spans}
use Rattle.layer_stack.specs.Postings.{postings_of}
use Rattle.layer_stack.proofs.Under.{postings_told}
use Rattle.layer_stack.proofs.rows.Rows.combined.Goals as goal

pub combined-requires-clause-alone : goal.combined-requires-clause-alone
combined-requires-clause-alone c t none =
    let l = c.self.inside in
    sym (ap (λ v. postings_of t v.puts) (sym c.self.view_is) ∙ postings_told t (put_spans l.directory) l.postings c.self.invariant.0) ∙ c.requires.alone t none
