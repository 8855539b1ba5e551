use Rattle.std.proofs.Common.{rules, ◌≡◌, ◌||◌, ◌++◌, ◌∷◌, [], map, ap, ◌∙◌, sym}
use Rattle.std.specs.Map.Iter.{deref_pair}
use Rattle.std.proofs.lemmas.List.{map-append}
use Rattle.std.proofs.lemmas.Iterator.Consumers.{YieldsList-from_rest, YieldsList-end}
use Rattle.layer_stack.specs.declared.place.TermKey.{TermKey}
use Rattle.layer_stack.specs.declared.term_spans.TermSpans.{TermSpans}
use Rattle.layer_stack.specs.Combined.{is_among}
use Rattle.layer_stack.proofs.Combined.{note_more}
use Rattle.layer_stack.proofs.Directories.{has_found}
use Rattle.layer_stack.proofs.directory.Directory.note_terms.Goals as goal

pub loop-term-preserved : goal.loop-term-preserved
loop-term-preserved c t =
    let older = is_among t c.args.terms.now.items in let yielded = c.loop-term.yielded in
    ap (is_among t) (c.in_ok-note_term.ensures ∙ ap (λ (s : TermKey). c.loop-term.terms.items ++ (s, tt) ∷ []) c.term-term.ensures)
    ∙ note_more t c.loop-term.terms.items (map deref_pair yielded) (c.in-Some.term.now, c.in-Some._spans.now) older (c.loop-term.invariant t)
    ∙ ap (λ es. older || is_among t es) (sym (map-append deref_pair yielded ((c.in-Some.term, c.in-Some._spans) ∷ [])))

pub returns : goal.returns
returns c t =
    let start : c.into_iter-term-iterator.result ≡ c.args.self.now = search rules in
    let road = YieldsList-from_rest {shows = deref_pair {K = TermKey} {X = TermSpans}} {s = c.into_iter-term-iterator.result} c.args.self.now start in
    let all = YieldsList-end road c.loop-term.yielded c.loop-term.term-iterator c.loop-term.yielded_by _ c.next.new.self c.in-None.is c.next.ensures.steps in
    c.loop-term.invariant t ∙ ap (λ es. is_among t c.args.terms.now.items || is_among t es) all.0
    ∙ ap (λ b. is_among t c.args.terms.now.items || b) (has_found t c.args.self.now c.iter-term-items.ensures.is)
