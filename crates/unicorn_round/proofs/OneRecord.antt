-- A script whose bytes are within their limit has one legal record of a text at most.
use Rattle.std.proofs.Common.{◌≡◌, ◌≤◌, ◌+◌, ◌^◌, ◌==◌, ℕ, suc, Bool, true, false, if◌then◌else◌, List, [], ◌∷◌, ◌++◌, length, length-append, refl, ap, sym, subst, ◌∙◌, arith}
use Rattle.uni_base.specs.Lines.{lines_of, onto_first}
use Rattle.uni_base.specs.StandardLimits.{IsWithinStandard}
use Rattle.uni_base.specs.declared.limits.Limits.{Limits}
use Rattle.uni_schema.specs.Header.{Opening, opens, opening_of, OpenedIsSchema}
use Rattle.uni_schema.specs.Header.{refused as header_refused}
use Rattle.uni_schema.specs.HeaderText.{IsOpening, OpensByText}
use Rattle.uni_schema.specs.Schema.{Declarations}
use Rattle.script_rounds.specs.Entries.{Entry}
use Rattle.script_rounds.specs.Rounds.{opened, rounds_from, script_by, script_of}
use Rattle.script_rounds.specs.Terms.{under}
use Rattle.unicorn_round.specs.Laws.{AnswersTell, OneRecordServes}
use Rattle.unicorn_round.specs.Modes.{Serves}

-- there are no more lines than bytes
few_lines : (bytes : List ℕ) → length (lines_of bytes) ≤ length bytes
few_lines [] = omega arith
few_lines (b ∷ bytes) = by (b == 10) (lines_of bytes) (few_lines bytes)
  where
    by : (ends : Bool) (lines : List (List ℕ)) → length lines ≤ length bytes → length (if ends then [] ∷ lines else onto_first b lines) ≤ suc (length bytes)
    by true lines few = omega arith
    by false [] few = omega arith
    by false (line ∷ lines) few = omega arith

-- the rounds of a script that opens are those of the lines after its header
pub record IsOpened (limits : Limits) (bytes : List ℕ) (schema : Declarations) (rounds : List (List Entry)) : Type 0 where
  pub number : ℕ
  pub rest : List (List ℕ)
  pub opening : opening_of limits.line (lines_of bytes) ≡ opens schema number rest
  pub rounds_of : rounds ≡ rounds_from (under limits schema) number 0 rest

is_opened : (limits : Limits) (bytes : List ℕ) (schema : Declarations) (rounds : List (List Entry)) → script_of limits bytes ≡ opened schema rounds → IsOpened limits bytes schema rounds
is_opened limits bytes schema rounds e = by (opening_of limits.line (lines_of bytes)) refl e
  where
    by : (opening : Opening) → opening_of limits.line (lines_of bytes) ≡ opening
        → script_by (λ s number lines. rounds_from (under limits s) number 0 lines) opening ≡ opened schema rounds → IsOpened limits bytes schema rounds
    by (opens s number lines) is e =
        let same : s ≡ schema = cc in
        let all : rounds_from (under limits s) number 0 lines ≡ rounds = cc in
        record {
          number = number;
          rest = lines;
          opening = is ∙ ap (λ d. opens d number lines) same;
          rounds_of = sym all ∙ ap (λ d. rounds_from (under limits d) number 0 lines) same;
        }
    by (header_refused refusal) is e = cc

module _ (tell : AnswersTell) (by_text : OpensByText) (is_schema : OpenedIsSchema) where
  one_record : (limits : Limits) → IsWithinStandard limits → (bytes : List ℕ) → length bytes ≤ limits.script → (schema : Declarations) (rounds : List (List Entry))
      → IsOpened limits bytes schema rounds → (text : List ℕ) (one other : Serves (under limits schema) rounds text) → one.told ≡ other.told
  one_record limits within bytes short schema rounds found text one other =
      let placed : IsOpening limits.line (lines_of bytes) (opens schema found.number found.rest) =
      subst (IsOpening limits.line (lines_of bytes)) found.opening (by_text.is limits.line (lines_of bytes)) in
      let header : List (List ℕ) = placed.0 in
      let count : length (lines_of bytes) ≡ length header + length found.rest = ap length placed.1 ∙ length-append header found.rest in
      let few : length header + length found.rest ≤ 2 ^ 63 = omega (arith, few_lines bytes, within.script, short, count) in
      tell.texts (under limits schema) (is_schema.is limits.line (lines_of bytes) schema found.number found.rest found.opening) within rounds (length header) found.rest
      (found.rounds_of ∙ ap (λ n. rounds_from (under limits schema) n 0 found.rest) placed.2) few
      one.told other.told one.is_record other.is_record one.legal (sym one.writes ∙ other.writes)

  pub one_record_serves : OneRecordServes
  one_record_serves = record {
    one = λ limits within bytes short schema rounds e text one other. one_record limits within bytes short schema rounds (is_opened limits bytes schema rounds e) text one other;
  }
