use Rattle.std.proofs.Common.{◌≡◌, ap, ◌∙◌, sym, subst, length, IfSome, ◌≤◌, List}
use Rattle.uni_base.specs.Cursors.{IsRanked}
use Rattle.uni_base.specs.declared.entity.DocKey.{DocKey}
use Rattle.posting_lists.specs.Postings.{keys_of}
use Rattle.layer_stack.specs.Directories.{put_spans, delete_spans}
use Rattle.layer_stack.specs.Postings.{postings_of, deletes_of}
use Rattle.layer_stack.specs.Spans.{span_of, told}
use Rattle.layer_stack.proofs.Under.{span_within, postings_told, postings_ranked, deletes_told, deletes_ranked}
use Rattle.layer_stack.proofs.rows.Rows.part.Goals as goal

pub keys_at-deletes-requires : goal.keys_at-deletes-requires
keys_at-deletes-requires c =
    let l = c.self.inside in let t = c.args.term.now in
    let found : c.deletes_in.result ≡ span_of t (delete_spans l.directory) = c.deletes_in.ensures ∙ c.spans-found.ensures.deletes in
    subst (λ (ks : List DocKey). IfSome c.deletes_in.result (λ s. (s.from ≤ s.to) × (s.to ≤ length ks))) (sym c.deref.ensures.value)
    (subst (λ o. IfSome o (λ s. (s.from ≤ s.to) × (s.to ≤ length l.deleted.items))) (sym found) (span_within (length l.deleted.items) t (delete_spans l.directory) c.self.invariant.1.told.within))

pub list_at-puts-requires-clause-within : goal.list_at-puts-requires-clause-within
list_at-puts-requires-clause-within c =
    let l = c.self.inside in let t = c.args.term.now in
    let found : c.puts_in.result ≡ span_of t (put_spans l.directory) = c.puts_in.ensures ∙ c.spans-found.ensures.puts in
    subst (λ o. IfSome o (λ s. (s.from ≤ s.to) × (s.to ≤ length l.postings))) (sym found) (span_within (length l.postings) t (put_spans l.directory) c.self.invariant.0.told.within)

pub list_at-puts-requires-clause-ranked : goal.list_at-puts-requires-clause-ranked
list_at-puts-requires-clause-ranked c =
    let l = c.self.inside in let t = c.args.term.now in
    let found : c.puts_in.result ≡ span_of t (put_spans l.directory) = c.puts_in.ensures ∙ c.spans-found.ensures.puts in
    subst (λ o. IsRanked (keys_of (told o l.postings))) (sym found) (postings_ranked t (put_spans l.directory) l.postings c.self.invariant.0)

pub new-requires : goal.new-requires
new-requires c =
    let l = c.self.inside in let t = c.args.term.now in
    let found : c.deletes_in.result ≡ span_of t (delete_spans l.directory) = c.deletes_in.ensures ∙ c.spans-found.ensures.deletes in
    let keys = c.keys_at-deletes.ensures ∙ (λ i. told (found i) (c.deref.ensures.value i)) in
    subst IsRanked (sym keys) (deletes_ranked t (delete_spans l.directory) l.deleted.items c.self.invariant.1)

pub returns : goal.returns
returns c =
    let l = c.self.inside in let t = c.args.term.now in
    let one : c.deletes_in.result ≡ span_of t (delete_spans l.directory) = c.deletes_in.ensures ∙ c.spans-found.ensures.deletes in
    let two : c.puts_in.result ≡ span_of t (put_spans l.directory) = c.puts_in.ensures ∙ c.spans-found.ensures.puts in
    let keys = c.keys_at-deletes.ensures ∙ (λ i. told (one i) (c.deref.ensures.value i)) ∙ sym (ap (deletes_of t) (sym c.self.view_is) ∙ deletes_told t (delete_spans l.directory) l.deleted.items c.self.invariant.1) in
    let list = c.list_at-puts.ensures ∙ ap (λ o. told o l.postings) two ∙ sym (ap (λ v. postings_of t v.puts) (sym c.self.view_is) ∙ postings_told t (put_spans l.directory) l.postings c.self.invariant.0) in
    c.new.ensures ∙ (λ i. (keys i, list i))
