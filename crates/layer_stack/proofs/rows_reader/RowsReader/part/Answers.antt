use Rattle.std.proofs.Common.{◌≤◌, IfSome, length, ap, ◌∙◌, sym, subst}
use Rattle.uni_base.specs.Cursors.{IsRanked}
use Rattle.posting_lists.specs.Postings.{keys_of}
use Rattle.layer_stack.specs.Directories.{put_spans, delete_spans}
use Rattle.layer_stack.specs.Postings.{postings_of, deletes_of}
use Rattle.layer_stack.specs.Spans.{told}
use Rattle.layer_stack.proofs.Under.{span_within, postings_told, postings_ranked, deletes_told, deletes_ranked}
use Rattle.layer_stack.proofs.rows_reader.RowsReader.part.Goals as goal

pub keys_at-keys-requires : goal.keys_at-keys-requires
keys_at-keys-requires c =
    let l = c.self.inside in let t = c.args.term.now in
    subst (λ o. IfSome o (λ s. (s.from ≤ s.to) × (s.to ≤ length l.deleted.now))) (sym (c.deletes_in.ensures ∙ c.spans_from-found.ensures.deletes)) (span_within (length l.deleted.now) t (delete_spans l.directory.now) c.self.invariant.1.told.within)

pub list_at-list-requires-clause-within : goal.list_at-list-requires-clause-within
list_at-list-requires-clause-within c =
    let l = c.self.inside in let t = c.args.term.now in
    subst (λ o. IfSome o (λ s. (s.from ≤ s.to) × (s.to ≤ length l.postings.now))) (sym (c.puts_in.ensures ∙ c.spans_from-found.ensures.puts)) (span_within (length l.postings.now) t (put_spans l.directory.now) c.self.invariant.0.told.within)

pub list_at-list-requires-clause-ranked : goal.list_at-list-requires-clause-ranked
list_at-list-requires-clause-ranked c =
    let l = c.self.inside in let t = c.args.term.now in
    subst (λ o. IsRanked (keys_of (told o l.postings.now))) (sym (c.puts_in.ensures ∙ c.spans_from-found.ensures.puts)) (postings_ranked t (put_spans l.directory.now) l.postings.now c.self.invariant.0)

pub new-requires : goal.new-requires
new-requires c =
    let l = c.self.inside in let t = c.args.term.now in
    let keys = c.keys_at-keys.ensures ∙ ap (λ o. told o l.deleted.now) (c.deletes_in.ensures ∙ c.spans_from-found.ensures.deletes) in
    subst IsRanked (sym keys) (deletes_ranked t (delete_spans l.directory.now) l.deleted.now c.self.invariant.1)

pub returns-clause-part : goal.returns-clause-part
returns-clause-part c =
    let l = c.self.inside in let t = c.args.term.now in
    let keys = c.keys_at-keys.ensures ∙ ap (λ o. told o l.deleted.now) (c.deletes_in.ensures ∙ c.spans_from-found.ensures.deletes) ∙ sym (ap (λ v. deletes_of t v.0) (sym c.self.view_is) ∙ deletes_told t (delete_spans l.directory.now) l.deleted.now c.self.invariant.1) in
    let list = c.list_at-list.ensures ∙ ap (λ o. told o l.postings.now) (c.puts_in.ensures ∙ c.spans_from-found.ensures.puts) ∙ sym (ap (λ v. postings_of t v.0.puts) (sym c.self.view_is) ∙ postings_told t (put_spans l.directory.now) l.postings.now c.self.invariant.0) in
    c.new.ensures ∙ (λ i. (keys i, list i))
