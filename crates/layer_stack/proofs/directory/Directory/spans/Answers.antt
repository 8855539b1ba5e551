use Rattle.std.proofs.Common.{rules, arith, length, None, ◌≡◌, List, Some, cond, true, [], ◌∷◌, refl, sym, ap, ◌∙◌}
use Rattle.std.specs.Map.{lookup}
use Rattle.std.specs.FinMap.{find}
use Rattle.std.specs.Ordering.{eq_by_cmp}
use Rattle.layer_stack.specs.declared.place.TermKey.{TermKey}
use Rattle.layer_stack.specs.declared.term_spans.TermSpans.{TermSpans}
use Rattle.layer_stack.specs.Directories.{puts_in, deletes_in}
use Rattle.layer_stack.specs.Marks.{is_ruled_out}
use Rattle.layer_stack.specs.Places.{term_cmp}
use Rattle.layer_stack.proofs.Directories.{answer_by}
use Rattle.layer_stack.proofs.Marked.{lacks}
use Rattle.layer_stack.proofs.directory.Directory.spans.Goals as goal

same_look_up : (t : TermKey) (es : List (TermKey × TermSpans)) → lookup (eq_by_cmp term_cmp t) es ≡ find term_cmp t es
same_look_up t [] = refl
same_look_up t (e ∷ es) = ap (cond (eq_by_cmp term_cmp t e.0) (Some e.1)) (same_look_up t es)

found_there : (t : TermKey) (es seen : List (TermKey × TermSpans)) → es ≡ seen → lookup (eq_by_cmp term_cmp t) es ≡ find term_cmp t seen
found_there t es seen same = same_look_up t es ∙ ap (find term_cmp t) same

none_there : (t : TermKey) (es seen : List (TermKey × TermSpans)) → es ≡ seen → length es ≡ 0 → None ≡ find term_cmp t seen
none_there t [] seen same e = ap (find term_cmp t) same
none_there t (s ∷ es) seen same e = absurd (omega arith)

pub returns-clause-puts : goal.returns-clause-puts
returns-clause-puts c =
    let t = c.args.term.now in let es = c.self.inside.spans.entries in
    answer_by puts_in refl t es c.args.self.now c.self.invariant.0 c.self.view_is c.copied.result (c.copied.ensures ∙ c.get.ensures.value ∙ found_there t es c.args.self.now c.self.view_is)

pub returns-clause-deletes : goal.returns-clause-deletes
returns-clause-deletes c =
    let t = c.args.term.now in let es = c.self.inside.spans.entries in
    answer_by deletes_in refl t es c.args.self.now c.self.invariant.0 c.self.view_is c.copied.result (c.copied.ensures ∙ c.get.ensures.value ∙ found_there t es c.args.self.now c.self.view_is)

pub returns-then-is_empty-clause-puts : goal.returns-then-is_empty-clause-puts
returns-then-is_empty-clause-puts c =
    let t = c.args.term.now in let es = c.self.inside.spans.entries in
    let empty : length es ≡ 0 = search rules in
    answer_by puts_in refl t es c.args.self.now c.self.invariant.0 c.self.view_is None (none_there t es c.args.self.now c.self.view_is empty)

pub returns-then-is_empty-clause-deletes : goal.returns-then-is_empty-clause-deletes
returns-then-is_empty-clause-deletes c =
    let t = c.args.term.now in let es = c.self.inside.spans.entries in
    let empty : length es ≡ 0 = search rules in
    answer_by deletes_in refl t es c.args.self.now c.self.invariant.0 c.self.view_is None (none_there t es c.args.self.now c.self.view_is empty)

pub returns-then-rule_out-clause-puts : goal.returns-then-rule_out-clause-puts
returns-then-rule_out-clause-puts c =
    let t = c.args.term.now in let es = c.self.inside.spans.entries in
    let out : is_ruled_out c.self.inside.marks t ≡ true = search rules in
    answer_by puts_in refl t es c.args.self.now c.self.invariant.0 c.self.view_is None (sym (ap (find term_cmp t) (sym c.self.view_is) ∙ lacks c.self.inside.marks t out es c.self.invariant.1))

pub returns-then-rule_out-clause-deletes : goal.returns-then-rule_out-clause-deletes
returns-then-rule_out-clause-deletes c =
    let t = c.args.term.now in let es = c.self.inside.spans.entries in
    let out : is_ruled_out c.self.inside.marks t ≡ true = search rules in
    answer_by deletes_in refl t es c.args.self.now c.self.invariant.0 c.self.view_is None (sym (ap (find term_cmp t) (sym c.self.view_is) ∙ lacks c.self.inside.marks t out es c.self.invariant.1))
