use Rattle.std.proofs.Common.{rules, ◌≡◌, Bool, true, false, None, List, is_some, slice_get, T, sym, ◌∙◌, ap, subst}
use Rattle.std.specs.FinMap.{find, is_sorted}
use Rattle.std.specs.List.Sorted.{IsPartitionPoint}
use Rattle.std.proofs.lemmas.Fn.{always_returns_same}
use Rattle.uni_base.specs.declared.edge.Key.TheVariants.{Word}
use Rattle.layer_stack.specs.declared.place.TermKey.{TermKey}
use Rattle.layer_stack.specs.declared.term_spans.TermSpans.{TermSpans}
use Rattle.layer_stack.specs.Directories.{IsDirectory, has_spans}
use Rattle.layer_stack.specs.Places.{term_cmp, term_of}
use Rattle.layer_stack.specs.Spans.{is_passed, word_at}
use Rattle.layer_stack.specs.Words.{IsWordFrom}
use Rattle.layer_stack.proofs.Directories.{has_found}
use Rattle.layer_stack.proofs.TermWords.{partitioned, none_found, some_found}
use Rattle.layer_stack.proofs.directory.Directory.word_from.Goals as goal

same_terms : (t : TermKey) (es seen : List (TermKey × TermSpans)) → IsDirectory es → es ≡ seen → is_some (find term_cmp t seen) ≡ has_spans t seen
same_terms t es seen is same = ap (λ xs. is_some (find term_cmp t xs)) (sym same) ∙ has_found t es is ∙ ap (has_spans t) same

pub returns-in_err-term : goal.returns-in_err-term
returns-in_err-term c =
    let target = term_of c.args.type_no (Word c.args.from.now) in
    let p : TermKey × TermSpans → Bool = λ e. is_passed c.args.strict target e.0 in
    let parts : IsPartitionPoint (λ e. p e ≡ true) (λ e. p e ≡ false) c.args.self.now c.partition_point-at.result =
    subst (λ es. IsPartitionPoint (λ e. p e ≡ true) (λ e. p e ≡ false) es c.partition_point-at.result) c.self.view_is
    (c.partition_point-at.ensures.partitioned p (always_returns_same _ _ _ (λ a r f k. search rules))
    (partitioned c.self.inside.spans.entries c.self.invariant.0.sorted c.args.strict target)) in
    let sorted : T (is_sorted term_cmp c.args.self.now) = subst (λ es. T (is_sorted term_cmp es)) c.self.view_is c.self.invariant.0.sorted in
    subst (IsWordFrom (λ t. has_spans t c.args.self.now) c.args.type_no c.args.from.now c.args.strict) (sym c.from_residual.ensures)
    (subst (λ (has : TermKey → Bool). IsWordFrom has c.args.type_no c.args.from.now c.args.strict None) (λ i t. same_terms t c.self.inside.spans.entries c.args.self.now c.self.invariant.0 c.self.view_is i)
    (none_found c.args.type_no c.args.from.now c.args.strict c.args.self.now sorted c.partition_point-at.result parts (ap (λ es. slice_get es c.partition_point-at.result) (sym c.self.view_is) ∙ sym (c.in_err-term.ensures {u = tt}).entry)))

pub returns : goal.returns
returns c =
    let target = term_of c.args.type_no (Word c.args.from.now) in
    let p : TermKey × TermSpans → Bool = λ e. is_passed c.args.strict target e.0 in
    let parts : IsPartitionPoint (λ e. p e ≡ true) (λ e. p e ≡ false) c.args.self.now c.partition_point-at.result =
    subst (λ es. IsPartitionPoint (λ e. p e ≡ true) (λ e. p e ≡ false) es c.partition_point-at.result) c.self.view_is
    (c.partition_point-at.ensures.partitioned p (always_returns_same _ _ _ (λ a r f k. search rules))
    (partitioned c.self.inside.spans.entries c.self.invariant.0.sorted c.args.strict target)) in
    let sorted : T (is_sorted term_cmp c.args.self.now) = subst (λ es. T (is_sorted term_cmp es)) c.self.view_is c.self.invariant.0.sorted in
    let row : TermKey × TermSpans = (c.in_ok-term.term.now, c.in_ok-term._spans.now) in
    subst (IsWordFrom (λ t. has_spans t c.args.self.now) c.args.type_no c.args.from.now c.args.strict) (sym c.word_at.ensures)
    (subst (λ (has : TermKey → Bool). IsWordFrom has c.args.type_no c.args.from.now c.args.strict (word_at c.args.type_no row.0)) (λ i t. same_terms t c.self.inside.spans.entries c.args.self.now c.self.invariant.0 c.self.view_is i)
    (some_found c.args.type_no c.args.from.now c.args.strict c.args.self.now sorted c.partition_point-at.result parts row (ap (λ es. slice_get es c.partition_point-at.result) (sym c.self.view_is) ∙ sym (c.in_ok-term.ensures {u = tt}).entry)))
