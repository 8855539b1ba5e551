use Rattle.std.proofs.Common.{rules, ◌≡◌, T, List, Option, ap, ◌∙◌, sym, subst}
use Rattle.std.specs.FinMap as finite
use Rattle.std.specs.FinMap.{is_sorted}
use Rattle.std.specs.Option.{option_map}
use Rattle.layer_base.proofs.Among.{among_last, or_false}
use Rattle.layer_base.specs.Layers.{from_log}
use Rattle.layer_stack.specs.declared.layer.Base.{Base}
use Rattle.layer_stack.specs.declared.place.TermKey.{TermKey}
use Rattle.layer_stack.specs.Based.{laid_over, layer_of}
use Rattle.layer_stack.specs.Combined.{is_among}
use Rattle.layer_stack.specs.Places.{term_cmp}
use Rattle.layer_stack.specs.Postings.{PostingChanges, postings_of, putting_all}
use Rattle.layer_stack.specs.Words.{has_term}
use Rattle.layer_stack.proofs.Based.{base_postings}
use Rattle.layer_stack.proofs.Combined.{oldest_alone}
use Rattle.layer_stack.proofs.Order.{term_apart, term_total}
use Rattle.layer_stack.proofs.layer.Layer.combined.Goals as goal

pub last_words-requires : goal.last_words-requires
last_words-requires c = term_apart

pub merged-requires-clause-sorted : goal.merged-requires-clause-sorted
merged-requires-clause-sorted c =
    let log = c.note_terms.new.terms.items in
    let is : c.deref-in-Some.result.now ≡ finite.entries (from_log {R = term_cmp} log) = c.deref-in-Some.ensures.value ∙ c.in_ok-terms-in-Some.ensures.last in
    subst (λ (es : List (TermKey × Unit {0})). T (is_sorted term_cmp es)) (sym is) (finite.entries_sorted (from_log {R = term_cmp} log))

pub merged-requires-clause-alone : goal.merged-requires-clause-alone
merged-requires-clause-alone c t none =
    let l = c.self.inside in let rows : PostingChanges = l.rows.value in let base : PostingChanges = c.in-Some.base.rows.value in
    let value : putting_all (laid_over base.puts rows) ≡ c.args.self.now = ap (λ (o : Option Base). layer_of rows (option_map (λ (b : Base). b.rows.value) o)) (sym c.in-Some.is) ∙ c.self.view_is in
    let own : c.deref.result.now ≡ rows = search rules in
    let log = c.note_terms.new.terms.items in
    let is : c.deref-in-Some.result.now ≡ finite.entries (from_log {R = term_cmp} log) = c.deref-in-Some.ensures.value ∙ c.in_ok-terms-in-Some.ensures.last in
    let sides = or_false (is_among t c.args.changed.terms.items) (has_term t c.deref.result.now) (sym (c.in_ok-note_terms-in-Some.ensures {u = tt} t) ∙ sym (ap (is_among t) is ∙ among_last term_cmp term_total t log) ∙ none) in
    sym (base_postings t base.puts rows (ap (has_term t) (sym own) ∙ sides.1)) ∙ ap (λ (v : PostingChanges). postings_of t v.puts) value
    ∙ oldest_alone c.args.stack.now.0 c.args.count c.args.self.now c.args.changed.terms.items c.requires.oldest c.requires.count.0 c.requires.changed t sides.0

pub merged-requires-in-None-clause-alone : goal.merged-requires-in-None-clause-alone
merged-requires-in-None-clause-alone c t none =
    let l = c.self.inside in let rows : PostingChanges = l.rows.value in
    let value : rows ≡ c.args.self.now = ap (λ (o : Option Base). layer_of rows (option_map (λ (b : Base). b.rows.value) o)) (sym c.in-None.is) ∙ c.self.view_is in
    ap (λ (v : PostingChanges). postings_of t v.puts) value
    ∙ oldest_alone c.args.stack.now.0 c.args.count c.args.self.now c.args.changed.terms.items c.requires.oldest c.requires.count.0 c.requires.changed t (ap (is_among t) (sym c.deref-in-None.ensures.value) ∙ none)
