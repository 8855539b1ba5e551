-- The text of answers tells their record.
use Rattle.std.proofs.Common.{◌≡◌, ◌≤◌, ◌<◌, ◌+◌, ◌^◌, ℕ, List, [], ◌∷◌, length, map, flat_map, refl, ap, sym, subst, arith}
use Rattle.std.proofs.lemmas.List.Elements.{All-from_recursion, All-weaker}
use Rattle.std.specs.List.{All, AllByRecursion}
use Rattle.uni_base.specs.StandardLimits.{IsWithinStandard}
use Rattle.uni_schema.specs.Schema.{IsSchema}
use Rattle.query_reader.specs.Near.{FaultsAreNear}
use Rattle.query_check.specs.Laws.{FaultsStandIn}
use Rattle.reply_text.specs.declared.answer.Answer.{Answer}
use Rattle.reply_text.specs.Heads.{head_of}
use Rattle.reply_text.specs.Laws.{AreDeclared, HeadsAreSmall, HeadsByText, LinesAreUnbroken, numbers_of, words_of}
use Rattle.uni_base.specs.Lines.{AreUnbroken}
use Rattle.reply_text.specs.Printed.{AnswerIsDeclared, answers_text, lines_of_answers}
use Rattle.script_rounds.specs.Entries.{Entry, line_of}
use Rattle.script_rounds.specs.Laws.{NumbersRise, WordsAreUnbroken, all_entries}
use Rattle.script_rounds.specs.Rounds.{rounds_from}
use Rattle.script_rounds.specs.Terms.{Terms}
use Rattle.unicorn_round.specs.Answers.{answers, opening_standing}
use Rattle.unicorn_round.specs.Laws.{AnswersTell}
use Rattle.unicorn_round.specs.Legal.{Legal}
use Rattle.unicorn_round.specs.Marks.{Record}
use Rattle.unicorn_round.specs.Records.{IsRecord}
use Rattle.unicorn_round.proofs.Bounded.{opening-keeps}
use Rattle.unicorn_round.proofs.Elements.{all-both, all-wider}
use Rattle.unicorn_round.proofs.Fitting.{IsFine, IsPrinted, IsSmall, Any, HasSmall, answers-pass, any-marks, printed-passes, small-marks, small-passes}
use Rattle.unicorn_round.proofs.QueryFaults.{query-near}
use Rattle.unicorn_round.proofs.Ranges.{HasWhole, IsInRange, all-range, all-whole, rise-below}
use Rattle.unicorn_round.proofs.AnswersTell.{heads_tell}
use Rattle.unicorn_round.proofs.Wholes.{unbroken-append}

words-unbroken : (all : List Answer) → AllByRecursion (λ answer. AreUnbroken (words_of answer)) all → AreUnbroken (flat_map words_of all)
words-unbroken [] none = refl
words-unbroken (answer ∷ all) none = unbroken-append (words_of answer) (flat_map words_of all) none.0 (words-unbroken all none.1)

module _ (rises : NumbersRise) (words : WordsAreUnbroken) (near : FaultsAreNear) (places : FaultsStandIn) (unbroken : LinesAreUnbroken) (by_text : HeadsByText) where
  module _ (terms : Terms) (is : IsSchema terms.schema) (within : IsWithinStandard terms.limits) where
    -- what is known of the entries of lines
    entries-fine : (before : ℕ) (lines : List (List ℕ)) → before + length lines ≤ 2 ^ 63
        → AllByRecursion (IsFine terms) (all_entries (rounds_from terms (before + 1) 0 lines))
    entries-fine before lines few =
        let entries : List Entry = all_entries (rounds_from terms (before + 1) 0 lines) in
        let low : AllByRecursion (λ entry. line_of entry ≤ 2 ^ 63) entries =
        all-wider (λ entry. line_of entry ≤ before + length lines) (λ entry. line_of entry ≤ 2 ^ 63) (λ entry below. omega (arith, below, few)) entries
        (rise-below before (before + length lines) entries (rises.rise terms before 0 lines)) in
        let first : AllByRecursion (λ entry. HasWhole entry × IsInRange terms entry) entries =
        all-both HasWhole (IsInRange terms) entries (all-whole terms words (before + 1) 0 lines)
        (all-range terms (query-near near places terms) within (before + 1) 0 lines) in
        all-wider (λ entry. (HasWhole entry × IsInRange terms entry) × (line_of entry ≤ 2 ^ 63)) (IsFine terms)
        (λ entry all. record { whole = all.0.0; range = all.0.1; line = all.1 }) entries
        (all-both (λ entry. HasWhole entry × IsInRange terms entry) (λ entry. line_of entry ≤ 2 ^ 63) entries first low)

    printed : (rounds : List (List Entry)) → AllByRecursion (IsFine terms) (all_entries rounds) → (told : Record) → AllByRecursion (IsPrinted terms) (answers terms rounds told)
    printed rounds fine told = answers-pass terms (IsPrinted terms) (Any terms) (printed-passes terms) rounds told (opening-keeps terms is) fine (any-marks terms told)

    declared : (rounds : List (List Entry)) → AllByRecursion (IsFine terms) (all_entries rounds) → (told : Record) → AreDeclared terms.schema (answers terms rounds told)
    declared rounds fine told =
        All-from_recursion (AnswerIsDeclared terms.schema) (answers terms rounds told)
        (all-wider (IsPrinted terms) (AnswerIsDeclared terms.schema) (λ answer one. one.0) (answers terms rounds told) (printed rounds fine told))

    lines-unbroken : (rounds : List (List Entry)) → AllByRecursion (IsFine terms) (all_entries rounds) → (told : Record) → AreUnbroken (lines_of_answers terms.schema (answers terms rounds told))
    lines-unbroken rounds fine told =
        unbroken.are terms.schema (answers terms rounds told) is
        (words-unbroken (answers terms rounds told)
        (all-wider (IsPrinted terms) (λ answer. AreUnbroken (words_of answer)) (λ answer one. one.1) (answers terms rounds told) (printed rounds fine told)))

    small-heads : (rounds : List (List Entry)) → AllByRecursion (IsFine terms) (all_entries rounds) → (told : Record) → Legal terms rounds told → HeadsAreSmall (answers terms rounds told)
    small-heads rounds fine told legal =
        All-weaker (IsSmall terms) (λ answer. All (λ n. n < 2 ^ 64) (numbers_of (head_of answer))) (λ answer one. All-from_recursion (λ n. n < 2 ^ 64) (numbers_of (head_of answer)) one) (answers terms rounds told)
        (All-from_recursion (IsSmall terms) (answers terms rounds told)
        (answers-pass terms (IsSmall terms) (HasSmall terms) (small-passes terms within) rounds told (opening-keeps terms is) fine
        (small-marks terms within (opening_standing terms) rounds told (opening-keeps terms is) fine legal.made)))

    texts-tell : (before : ℕ) (lines : List (List ℕ)) → before + length lines ≤ 2 ^ 63
        → (told other : Record) → IsRecord terms (rounds_from terms (before + 1) 0 lines) told → IsRecord terms (rounds_from terms (before + 1) 0 lines) other
        → Legal terms (rounds_from terms (before + 1) 0 lines) told
        → answers_text terms.schema (answers terms (rounds_from terms (before + 1) 0 lines) told) ≡ answers_text terms.schema (answers terms (rounds_from terms (before + 1) 0 lines) other) → told ≡ other
    texts-tell before lines few told other a b legal same =
        let rounds : List (List Entry) = rounds_from terms (before + 1) 0 lines in
        let fine : AllByRecursion (IsFine terms) (all_entries rounds) = entries-fine before lines few in
        heads_tell terms rounds before (before + length lines) told other (rises.rise terms before 0 lines) a b
        (by_text.same terms.schema (answers terms rounds told) (answers terms rounds other) is (declared rounds fine told) (declared rounds fine other)
        (lines-unbroken rounds fine told) (lines-unbroken rounds fine other) (small-heads rounds fine told legal) same)

  pub answers_tell : AnswersTell
  answers_tell = record {
    values = λ terms rounds low high rise told other a b same. heads_tell terms rounds low high told other rise a b (ap (map head_of) same);
    texts = λ terms is within rounds before lines of few told other a b legal same.
        subst
        (λ (rs : List (List Entry)). IsRecord terms rs told → IsRecord terms rs other → Legal terms rs told
        → answers_text terms.schema (answers terms rs told) ≡ answers_text terms.schema (answers terms rs other) → told ≡ other)
        (sym of) (λ a b legal same. texts-tell terms is within before lines few told other a b legal same) a b legal same;
  }
