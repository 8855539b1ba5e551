use Rattle.std.proofs.Common.{rules, arith, ◌≡◌, ◌<◌, ◌≤◌, ◌++◌, ◌∷◌, [], List, IfSome, cond, false, length, map, take, refl, ap, ◌∙◌, sym, subst}
use Rattle.std.specs.Map.Iter.{deref_pair}
use Rattle.std.proofs.lemmas.List.{map-append, take_all}
use Rattle.std.proofs.lemmas.Iterator.Consumers.{YieldsList-from_rest, YieldsList-turn, YieldsList-end}
use Rattle.posting_lists.specs.Postings.{section}
use Rattle.layer_base.specs.Layers.{stack_table}
use Rattle.layer_stack.specs.Places.{term_cmp}
use Rattle.layer_stack.specs.declared.place.TermKey.{TermKey}
use Rattle.layer_stack.specs.declared.term_spans.TermSpans.{TermSpans}
use Rattle.layer_stack.specs.Combined.{is_among, putting_terms}
use Rattle.layer_stack.specs.Directories.{puts_in, put_spans}
use Rattle.layer_stack.specs.Postings.{PostingChanges, postings_of, putting_list}
use Rattle.layer_stack.specs.Spans.{told}
use Rattle.layer_base.proofs.Among.{is_done}
use Rattle.layer_stack.proofs.Combined.{Has, done_start, done_terms, done_span, all_done}
use Rattle.layer_stack.proofs.Directories.{found_at}
use Rattle.layer_stack.proofs.Under.{span_inside}
use Rattle.layer_stack.proofs.combine.combined.Goals as goal

pub loop-term-init : goal.loop-term-init
loop-term-init c =
    let table = stack_table (take c.args.count c.args.stack.now.0) in
    record {
      within = omega arith;
      front = c.in_ok-front.ensures {u = tt};
      has = subst (λ (d : PostingChanges). Has table (is_done term_cmp {X = TermSpans} c.args.changed.now 0 []) d) (sym (c.in_ok-delta.ensures {u = tt})) (done_start table c.args.changed.now);
    }

pub put_unchanged-requires-clause-within : goal.put_unchanged-requires-clause-within
put_unchanged-requires-clause-within c =
    let start : c.into_iter-term-iterator.result ≡ c.args.directory.now = search rules in
    let road = YieldsList-from_rest {shows = deref_pair {K = TermKey} {X = TermSpans}} {s = c.into_iter-term-iterator.result} c.args.directory.now start in
    let turn = YieldsList-turn road c.loop-term.yielded c.loop-term.term-iterator c.loop-term.yielded_by _ c.next.new.self (c.in-Some.term, c.in-Some.spans) c.in-Some.is c.next.ensures.steps in
    let e : TermKey × TermSpans = (c.in-Some.term.now, c.in-Some.spans.now) in
    let found = c.puts_in-span.ensures ∙ found_at puts_in refl c.args.directory.now (length c.loop-term.yielded) e c.iter-term-items.ensures.is.sorted turn.0 turn.1 in
    subst (λ o. IfSome o (λ s. (s.from < s.to) × (s.to ≤ length c.args.postings.now))) (sym found) (span_inside (length c.args.postings.now) e.0 (put_spans c.args.directory.now) c.requires.spans.within)

pub loop-term-preserved : goal.loop-term-preserved
loop-term-preserved c =
    let table = stack_table (take c.args.count c.args.stack.now.0) in let changed = c.args.changed.now in let directory = c.args.directory.now in let ps = c.args.postings.now in
    let at = c.loop-term.at in let to = c.first_after-to.result in let rows = map deref_pair c.loop-term.yielded in
    let e : TermKey × TermSpans = (c.in-Some.term.now, c.in-Some.spans.now) in let c1 = c.put_terms.new.delta in
    let start : c.into_iter-term-iterator.result ≡ directory = search rules in
    let road = YieldsList-from_rest {shows = deref_pair {K = TermKey} {X = TermSpans}} {s = c.into_iter-term-iterator.result} directory start in
    let turn = YieldsList-turn road c.loop-term.yielded c.loop-term.term-iterator c.loop-term.yielded_by _ c.next.new.self (c.in-Some.term, c.in-Some.spans) c.in-Some.is c.next.ensures.steps in
    let found = c.puts_in-span.ensures ∙ found_at puts_in refl directory (length c.loop-term.yielded) e c.iter-term-items.ensures.is.sorted turn.0 turn.1 in
    let own = told c.puts_in-span.result ps in
    let alone : is_among e.0 changed ≡ false → own ≡ postings_of e.0 table = λ none. ap (λ o. told o ps) found ∙ c.requires.alone e.0 none in
    let terms : c1 ≡ putting_terms table (section at to changed) c.loop-term.delta =
    c.in_ok-put_terms.ensures.put ∙ ap (λ (layers : List PostingChanges). putting_terms (stack_table layers) (section at to changed) c.loop-term.delta) c.loop-term.invariant.front in
    let has = subst (λ (d : PostingChanges). Has table (is_done term_cmp changed to rows) d) (sym terms) (done_terms table changed at to rows c.loop-term.delta c.first_after-to.ensures.within.0 c.first_after-to.ensures.within.1 c.loop-term.invariant.has) in
    let more = sym (map-append (deref_pair {K = TermKey} {X = TermSpans}) c.loop-term.yielded ((c.in-Some.term, c.in-Some.spans) ∷ [])) in
    record {
      within = c.first_after-to.ensures.within.1;
      front = c.put_terms.ensures.same ∙ c.loop-term.invariant.front;
      has = subst (λ (d : PostingChanges). Has table (is_done term_cmp changed to (map deref_pair (c.loop-term.yielded ++ (c.in-Some.term, c.in-Some.spans) ∷ []))) d) (sym (c.in_ok-put_unchanged.ensures {u = tt}))
          (subst (λ (ss : List (TermKey × TermSpans)). Has table (is_done term_cmp changed to ss) (cond (is_among e.0 changed) c1 (putting_list e.0 own c1))) more
          (done_span table changed to rows e own c1 alone has));
    }

pub returns : goal.returns
returns c =
    let table = stack_table (take c.args.count c.args.stack.now.0) in let changed = c.args.changed.now in let directory = c.args.directory.now in let ps = c.args.postings.now in
    let at = c.loop-term.at in let all = length changed in let rows = map deref_pair c.loop-term.yielded in
    let start : c.into_iter-term-iterator.result ≡ directory = search rules in
    let road = YieldsList-from_rest {shows = deref_pair {K = TermKey} {X = TermSpans}} {s = c.into_iter-term-iterator.result} directory start in
    let end = YieldsList-end road c.loop-term.yielded c.loop-term.term-iterator c.loop-term.yielded_by _ c.next.new.self c.in-None.is c.next.ensures.steps in
    let terms : c.put_terms-2.new.delta ≡ putting_terms table (section at all changed) c.loop-term.delta =
    c.in_ok-put_terms-2.ensures.put ∙ ap (λ (layers : List PostingChanges). putting_terms (stack_table layers) (section at all changed) c.loop-term.delta) c.loop-term.invariant.front in
    let has = subst (λ (d : PostingChanges). Has table (is_done term_cmp changed all rows) d) (sym terms) (done_terms table changed at all rows c.loop-term.delta c.loop-term.invariant.within (omega arith) c.loop-term.invariant.has) in
    all_done table changed all directory ps c.put_terms-2.new.delta (take_all all changed (omega arith)) c.iter-term-items.ensures.is.sorted c.requires.alone
    (subst (λ (ss : List (TermKey × TermSpans)). Has table (is_done term_cmp changed all ss) c.put_terms-2.new.delta) end.0 has)
