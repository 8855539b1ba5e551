use Rattle.std.proofs.Common.{[], inl, inr, sym, subst}
use Rattle.query_check.specs.Plan.{stated_of}
use Rattle.script_rounds.specs.Entries.{IsItemOf}
use Rattle.unicorn_round.specs.CheckState.{EntryChecked}
use Rattle.unicorn_round.proofs.CheckSteps.{check_asked, check_compacted, check_counted}
use Rattle.unicorn_round.proofs.checker.Checker.answer.Goals as goal

pub returns-in-Ask-clause-checked : goal.returns-in-Ask-clause-checked
returns-in-Ask-clause-checked c = λ entry s of st.
    let state = c.args.self.now in
    elim c.in-Ask.is [
      | inl w ↦ subst (λ e. EntryChecked state.terms s e state []) (sym (subst (IsItemOf entry) w.5 of)) (check_asked state s w.0 w.2 w.1 w.3 (stated_of w.4.value).plan st)
      | inr other ↦ elim other [
        | inl w ↦ subst (λ e. EntryChecked state.terms s e state []) (sym (subst (IsItemOf entry) w.4 of)) (check_compacted state s w.0 w.1 w.2 w.3 st)
        | inr w ↦ subst (λ e. EntryChecked state.terms s e state []) (sym (subst (IsItemOf entry) w.1 of)) (check_counted state s w.0 st)
      ]
    ]
