use Rattle.std.proofs.Common.{◌≡◌, ◌≤◌, length, None, Some, IfSome, ◌∙◌, ap, sym, subst}
use Rattle.posting_lists.proofs.Sections.{length-section}
use Rattle.layer_stack.specs.declared.directory.Span.{Span}
use Rattle.layer_stack.specs.Directories.{put_spans}
use Rattle.layer_stack.specs.Postings.{postings_of}
use Rattle.layer_stack.specs.Spans.{span_of, told}
use Rattle.layer_stack.proofs.Under.{postings_told, span_within}
use Rattle.layer_stack.proofs.rows.Rows.puts_under.Goals as goal

pub returns-in-Some : goal.returns-in-Some
returns-in-Some c =
    let l = c.self.inside in let t = c.args.term.now in let s : Span = c.in-Some.span in
    let found : span_of t (put_spans l.directory) ≡ Some s = sym (c.puts_in.ensures ∙ c.spans.ensures.puts) ∙ c.in-Some.is in
    let within = subst (λ o. IfSome o (λ x. (x.from ≤ x.to) × (x.to ≤ length l.postings))) found (span_within (length l.postings) t (put_spans l.directory) c.self.invariant.0.told.within) in
    let list = ap (λ v. length (postings_of t v.puts)) (sym c.self.view_is) ∙ ap length (postings_told t (put_spans l.directory) l.postings c.self.invariant.0) ∙ ap (λ o. length (told o l.postings)) found in
    sym (list ∙ length-section s.from s.to l.postings within.0 within.1)

pub returns-in-None : goal.returns-in-None
returns-in-None c =
    let l = c.self.inside in let t = c.args.term.now in
    let found : span_of t (put_spans l.directory) ≡ None = sym (c.puts_in.ensures ∙ c.spans.ensures.puts) ∙ c.in-None.is in
    sym (ap (λ v. length (postings_of t v.puts)) (sym c.self.view_is) ∙ ap length (postings_told t (put_spans l.directory) l.postings c.self.invariant.0) ∙ ap (λ o. length (told o l.postings)) found)
