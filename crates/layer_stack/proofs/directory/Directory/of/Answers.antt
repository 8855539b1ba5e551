use Rattle.std.proofs.Common.{rules, ◌≡◌, ℕ, List, None, slice_get, sym, subst, ap, ◌∙◌}
use Rattle.indexmap.specs.IndexMap.{insert_entry}
use Rattle.std.specs.Ordering.{eq_by_cmp}
use Rattle.layer_stack.specs.declared.place.TermKey.{TermKey}
use Rattle.layer_stack.specs.declared.term_spans.TermSpans.{TermSpans}
use Rattle.layer_stack.specs.Directories.{narrowed, put_spans, delete_spans}
use Rattle.layer_stack.specs.Places.{term_cmp}
use Rattle.layer_stack.proofs.Directories.{IsJoined, place_after, joined_more, joined_all}
use Rattle.layer_stack.proofs.directory.Directory.of.Goals as goal

pub loop-joined-preserved : goal.loop-joined-preserved
loop-joined-preserved c =
    let puts = c.args.puts.now in let deletes = c.args.deletes.now in let put = c.loop-joined.put in let deleted = c.loop-joined.deleted in
    let es = c.loop-joined.spans.entries in let j = c.in-Some.joined in
    let new : List (TermKey × TermSpans) = insert_entry (eq_by_cmp term_cmp) es j.term (record { puts = narrowed j.puts; deletes = narrowed j.deletes }) in
    let added : c.add.new.spans.entries ≡ new = c.in_ok-add.ensures {u = tt} in
    subst (λ (xs : List (TermKey × TermSpans)). IsJoined xs puts c.after-put.result deletes c.after-deleted.result) (sym added)
    (subst (λ (n : ℕ). IsJoined new puts n deletes c.after-deleted.result) (sym c.after-put.ensures)
    (subst (λ (n : ℕ). IsJoined new puts (place_after put j.puts) deletes n) (sym c.after-deleted.ensures)
    (joined_more puts deletes put deleted _ c.requires.puts c.requires.deletes es j.term j.puts j.deletes c.loop-joined.invariant c.in-Some.ensures.puts c.in-Some.ensures.deletes c.in-Some.ensures.some)))

pub returns-clause-puts : goal.returns-clause-puts
returns-clause-puts c =
    let none : slice_get c.args.puts.now c.loop-joined.put ≡ None = search rules in
    ap put_spans c.shrink_to_fit.ensures.entries ∙ joined_all c.args.puts.now c.loop-joined.put c.loop-joined.invariant.first_puts none

pub returns-clause-deletes : goal.returns-clause-deletes
returns-clause-deletes c =
    let none : slice_get c.args.deletes.now c.loop-joined.deleted ≡ None = search rules in
    ap delete_spans c.shrink_to_fit.ensures.entries ∙ joined_all c.args.deletes.now c.loop-joined.deleted c.loop-joined.invariant.first_deletes none
