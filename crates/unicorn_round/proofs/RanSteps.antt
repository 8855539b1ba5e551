-- From what was read and written to how a run ended.
use Rattle.std.proofs.Common.{◌≡◌, ℕ, ◌+◌, inl, inr, true, false, List, [], ◌∷◌, ◌++◌, length, take, Option, None, Some, sym, ◌∙◌, ap, subst, refl, arith, append-nil, length-append}
use Rattle.std.proofs.Math.Seq.{take-append_seam, take-append-add}
use Rattle.std.proofs.lemmas.List.{append_assoc}
use Rattle.uni_base.specs.declared.limits.Limits.{Limits}
use Rattle.uni_schema.specs.Schema.{Declarations}
use Rattle.uni_schema.specs.declared.refusal.SchemaRefusal.{SchemaRefusal}
use Rattle.uni_schema.specs.declared.refusal.SchemaRefusal.TheVariants as header
use Rattle.script_rounds.specs.declared.lines.ScriptRefusal.{ScriptRefusal}
use Rattle.script_rounds.specs.declared.lines.ScriptRefusal.TheVariants.{ReadFault, TooLong, Memory}
use Rattle.script_rounds.specs.Entries.{Entry}
use Rattle.uni_base.specs.Lines.{lines_of}
use Rattle.script_rounds.specs.Reading.{IsSpent}
use Rattle.script_rounds.specs.Rounds.{Script, opened, unopened, script_by, closed_from, script_of, closed_script_of}
use Rattle.script_rounds.specs.RoundsState.{RoundsState, HeaderRefused, HeaderStopped, IsUnfinished, ReadStopped}
use Rattle.script_rounds.specs.Terms.{Terms, under}
use Rattle.unicorn_round.specs.declared.status.Status.{Status}
use Rattle.unicorn_round.specs.declared.status.Status.TheVariants as ends
use Rattle.unicorn_round.specs.Headers.{FaultWritten}
use Rattle.unicorn_round.specs.Outcome.{Claim, AnswersAll, AnswersClosed, AnswersFirst, IsHeaderFault, of_header, of_rounds, of_all, Ran, schema_text, script_so_far}
use Rattle.unicorn_round.specs.Reads.{HasRead}
use Rattle.unicorn_round.specs.Statuses.{status_of}
use Rattle.unicorn_round.specs.Writing.{Took, TookPart}
use Rattle.unicorn_round.proofs.Reading.{gave_append, none_left_after, all_rounds, first_rounds, no_rounds_ahead, no_lines_ahead}

-- no text, and one text after another
pub took_none : (taken : Option (List ℕ)) → Took taken [] taken
took_none None = refl
took_none (Some taken) = ap Some (sym (append-nil taken))

pub took_append : (before middle after : Option (List ℕ)) (xs ys : List ℕ) → Took before xs middle → Took middle ys after → Took before (xs ++ ys) after
took_append None middle after xs ys t u = subst (λ m. Took m ys after) t u
took_append (Some taken) middle after xs ys t u =
    let there : Took (Some (taken ++ xs)) ys after = subst (λ m. Took m ys after) t u in
    there ∙ ap Some (append_assoc taken xs ys)

-- a part of a text, after another text
pub took_part_after : (before middle after : Option (List ℕ)) (xs ys : List ℕ) → Took before xs middle → TookPart middle ys after → TookPart before (xs ++ ys) after
took_part_after before middle after xs ys t p = (
  length xs + p.0,
  omega (arith, p.1, length-append xs ys),
  subst (λ zs. Took before zs after) (sym (take-append-add xs ys p.0)) (took_append before middle after xs (take p.0 ys) t p.2),
)

-- no text answers no rounds, whatever the script
pub none_answered : (limits : Limits) (says : Claim) → ((of : Terms) → says of [] []) → (script : Script) → AnswersFirst limits says script []
none_answered limits says nothing (opened schema rounds) = (0, nothing (under limits schema))
none_answered limits says nothing (unopened refusal) = refl

-- nor those of a script whose header has not ended
unfinished_closed : (limits : Limits) (says : Claim) (bytes : List ℕ) → IsUnfinished limits bytes → AnswersClosed limits says (closed_script_of limits bytes) []
unfinished_closed limits says bytes is =
    subst (λ o. AnswersClosed limits says (script_by (λ schema number lines. closed_from (under limits schema) number 0 lines) o) []) (sym is) refl

module _ (limits : Limits) (says : Claim) (closing : ℕ → List ℕ) where
  -- reading stopped
  pub ran_stopped : (before after : RoundsState) (schema : Declarations) (left_before left_now left_after taken_before taken_now : Option (List ℕ)) (rounds : List (List Entry)) (text : List ℕ) (refusal : ScriptRefusal)
      → HasRead limits before schema left_before left_now rounds → ReadStopped before after left_now left_after refusal → says (under limits schema) rounds text → Took taken_before text taken_now
      → Ran limits says closing left_before left_after taken_before taken_now (status_of refusal)
  ran_stopped before after schema left_before left_now left_after taken_before taken_now rounds text ReadFault h r told took = record {
    bytes = h.bytes ++ r.took.more;
    gave = gave_append left_before left_now left_after h.bytes r.took.more h.gave r.took.gave;
    ended = false;
    none_left = λ e. absurd cc;
    ends = (text, refl, subst (λ s. AnswersClosed limits says s text) (sym closed) told, took);
    too_long = λ e. absurd cc;
    in_limit = λ past. absurd (omega (arith, past, r.limit, r.took.taken, r.took.limit, h.taken, h.limit, length-append h.bytes r.took.more));
  }
    where
      unended : before.reader.ended ≡ false
      unended = elim r.unended [ inl none ↦ absurd cc | inr is ↦ is ]

      closed : closed_script_of limits (h.bytes ++ r.took.more) ≡ opened schema rounds
      closed = h.closed unended r.took.more ∙ ap (λ rs. opened schema (rounds ++ rs)) r.none ∙ ap (opened schema) (append-nil rounds)
  ran_stopped before after schema left_before left_now left_after taken_before taken_now rounds text (TooLong count) h r told took = record {
    bytes = h.bytes ++ r.took.more;
    gave = gave_append left_before left_now left_after h.bytes r.took.more h.gave r.took.gave;
    ended = false;
    none_left = λ e. absurd cc;
    ends = (text, refl, subst (λ s. AnswersClosed limits says s text) (sym closed) told, took);
    too_long = λ e. all;
    in_limit = λ past. refl;
  }
    where
      unended : before.reader.ended ≡ false
      unended = elim r.unended [ inl none ↦ absurd cc | inr is ↦ is ]

      front : List ℕ
      front = r.none.0

      all : length (h.bytes ++ r.took.more) ≡ limits.script + 1
      all = omega (arith, r.limit.0, r.limit.1, r.took.taken, r.took.limit, h.taken, h.limit, length-append h.bytes r.took.more)

      whole : h.bytes ++ r.took.more ≡ (h.bytes ++ front) ++ r.none.1.0 ∷ []
      whole = ap (λ more. h.bytes ++ more) r.none.1.1.0 ∙ sym (append_assoc h.bytes front (r.none.1.0 ∷ []))

      count_is : limits.script ≡ length (h.bytes ++ front)
      count_is = omega (arith, all, ap length whole, length-append (h.bytes ++ front) (r.none.1.0 ∷ []))

      cut : take limits.script (h.bytes ++ r.took.more) ≡ h.bytes ++ front
      cut = ap (take limits.script) whole ∙ ap (λ n. take n ((h.bytes ++ front) ++ r.none.1.0 ∷ [])) count_is ∙ take-append_seam (h.bytes ++ front) (r.none.1.0 ∷ [])

      closed : closed_script_of limits (take limits.script (h.bytes ++ r.took.more)) ≡ opened schema rounds
      closed =
          ap (closed_script_of limits) cut
          ∙ h.closed unended front
          ∙ ap (λ rs. opened schema (rounds ++ rs)) r.none.1.1.1
          ∙ ap (opened schema) (append-nil rounds)
  ran_stopped before after schema left_before left_now left_after taken_before taken_now rounds text Memory h r told took = record {
    bytes = h.bytes ++ r.took.more;
    gave = gave_append left_before left_now left_after h.bytes r.took.more h.gave r.took.gave;
    ended = before.reader.ended;
    none_left = λ ended. none_left_after left_now left_after r.took.more (r.took.spent ended) r.took.gave (h.end ended);
    ends = (
      text,
      all_rounds limits says before schema left_before left_now rounds text r.took.more h r.took.spent told,
      took,
    );
    too_long = λ e. absurd cc;
    in_limit = λ past. absurd (omega (arith, past, r.limit, r.took.taken, r.took.limit, h.taken, h.limit, length-append h.bytes r.took.more));
  }

  -- memory was wanting, after some first rounds of those that were read
  pub ran_memory : (state : RoundsState) (schema : Declarations) (left_before left_now taken_before taken_now : Option (List ℕ)) (rounds more : List (List Entry)) (text : List ℕ)
      → HasRead limits state schema left_before left_now (rounds ++ more) → says (under limits schema) rounds text → Took taken_before text taken_now
      → Ran limits says closing left_before left_now taken_before taken_now ends.Memory
  ran_memory state schema left_before left_now taken_before taken_now rounds more text h told took = record {
    bytes = h.bytes;
    gave = h.gave;
    ended = state.reader.ended;
    none_left = h.end;
    ends = (
      text,
      subst (λ bytes. AnswersFirst limits says (script_so_far limits state.reader.ended bytes) text) (append-nil h.bytes)
          (first_rounds limits says state schema left_before left_now rounds more text [] h (λ ended. refl) told),
      took,
    );
    too_long = λ e. absurd cc;
    in_limit = λ past. absurd (omega (arith, past, h.taken, h.in_limit));
  }

  -- a write failed within the text of rounds
  pub ran_unwritten : (state : RoundsState) (schema : Declarations) (left_before left_now taken_before taken_now taken_after : Option (List ℕ)) (rounds : List (List Entry)) (text more : List ℕ)
      → HasRead limits state schema left_before left_now rounds → says (under limits schema) rounds (text ++ more) → Took taken_before text taken_now → TookPart taken_now more taken_after
      → Ran limits says closing left_before left_now taken_before taken_after ends.WriteFault
  ran_unwritten state schema left_before left_now taken_before taken_now taken_after rounds text more h told took part = record {
    bytes = h.bytes;
    gave = h.gave;
    ended = state.reader.ended;
    none_left = h.end;
    ends = (
      text ++ more,
      of_rounds
          (subst (λ bytes. AnswersFirst limits says (script_so_far limits state.reader.ended bytes) (text ++ more)) (append-nil h.bytes)
          (all_rounds limits says state schema left_before left_now rounds (text ++ more) [] h (λ ended. refl) told)),
      took_part_after taken_before taken_now taken_after text more took part,
    );
    too_long = λ e. absurd cc;
    in_limit = λ past. absurd (omega (arith, past, h.taken, h.in_limit));
  }

  -- all of a script was read
  module _ (state : RoundsState) (schema : Declarations) (left_before left_now : Option (List ℕ)) (rounds : List (List Entry)) (h : HasRead limits state schema left_before left_now rounds)
      (spent : IsSpent state.reader) where
    all_read : script_of limits h.bytes ≡ opened schema rounds
    all_read =
        ap (script_of limits) (sym (append-nil h.bytes))
        ∙ h.script [] (λ ended. refl)
        ∙ ap (λ rs. opened schema (rounds ++ rs)) (no_rounds_ahead state spent [] (λ ended. refl))
        ∙ ap (opened schema) (append-nil rounds)

    all_lines : length (lines_of h.bytes) ≡ state.reader.lines
    all_lines =
        ap (λ bytes. length (lines_of bytes)) (sym (append-nil h.bytes))
        ∙ h.lines [] (λ ended. refl)
        ∙ no_lines_ahead state spent [] (λ ended. refl)

    answers_all : (text : List ℕ) → says (under limits schema) rounds text → AnswersAll limits says (script_of limits h.bytes) text
    answers_all text told = subst (λ s. AnswersAll limits says s text) (sym all_read) told

    pub ran_done : (taken_before taken_now taken_after : Option (List ℕ)) (text more : List ℕ) → says (under limits schema) rounds text → more ≡ closing state.reader.lines
        → Took taken_before text taken_now → Took taken_now more taken_after → Ran limits says closing left_before left_now taken_before taken_after ends.Done
    ran_done taken_before taken_now taken_after text more told closes took last = record {
      bytes = h.bytes;
      gave = h.gave;
      ended = true;
      none_left = λ ended. h.end spent.0;
      ends = (
        text,
        refl,
        answers_all text told,
        subst (λ t. Took taken_before (text ++ t) taken_after) (closes ∙ ap closing (sym all_lines)) (took_append taken_before taken_now taken_after text more took last),
      );
      too_long = λ e. absurd cc;
      in_limit = λ past. absurd (omega (arith, past, h.taken, h.in_limit));
    }

    pub ran_unclosed : (taken_before taken_now taken_after : Option (List ℕ)) (text more : List ℕ) → says (under limits schema) rounds text → more ≡ closing state.reader.lines
        → Took taken_before text taken_now → TookPart taken_now more taken_after → Ran limits says closing left_before left_now taken_before taken_after ends.WriteFault
    ran_unclosed taken_before taken_now taken_after text more told closes took part = record {
      bytes = h.bytes;
      gave = h.gave;
      ended = true;
      none_left = λ ended. h.end spent.0;
      ends = (
        text ++ more,
        of_all text refl (answers_all text told) (ap (λ t. text ++ t) (closes ∙ ap closing (sym all_lines))),
        took_part_after taken_before taken_now taken_after text more took part,
      );
      too_long = λ e. absurd cc;
      in_limit = λ past. absurd (omega (arith, past, h.taken, h.in_limit));
    }

  -- a header was refused
  pub ran_refused : (refusal : SchemaRefusal) (left_before left_after taken_before taken_after : Option (List ℕ)) (status : Status) → ((of : Terms) → says of [] [])
      → HeaderRefused limits refusal left_before left_after → FaultWritten refusal taken_before taken_after status
      → Ran limits says closing left_before left_after taken_before taken_after status
  ran_refused refusal left_before left_after taken_before taken_after ends.Schema nothing r w =
      let fault = faulty w.0 in record {
        bytes = r.more;
        gave = r.gave;
        ended = r.ended;
        none_left = r.end;
        ends = (refusal, fault, w.1);
        too_long = λ e. absurd cc;
        in_limit = λ past. absurd (omega (arith, past, r.in_limit));
      }
    where
      faulty : (refusal ≡ header.Memory → ⊥) → IsHeaderFault limits r.more r.ended refusal
      faulty some = record {
        so_far = elim r.so_far [ inl none ↦ absurd (some none) | inr is ↦ is ];
        whatever = elim r.refuses [ inl none ↦ absurd (some none) | inr is ↦ is ];
      }
  ran_refused refusal left_before left_after taken_before taken_after ends.WriteFault nothing r w = record {
    bytes = r.more;
    gave = r.gave;
    ended = r.ended;
    none_left = r.end;
    ends = (
      schema_text refusal,
      of_header refusal (record {
        so_far = elim r.so_far [ inl none ↦ absurd (w.0 none) | inr is ↦ is ];
        whatever = elim r.refuses [ inl none ↦ absurd (w.0 none) | inr is ↦ is ];
      }) refl,
      w.1,
    );
    too_long = λ e. absurd cc;
    in_limit = λ past. absurd (omega (arith, past, r.in_limit));
  }
  ran_refused refusal left_before left_after taken_before taken_after ends.Memory nothing r w = record {
    bytes = r.more;
    gave = r.gave;
    ended = r.ended;
    none_left = r.end;
    ends = ([], none_answered limits says nothing (script_so_far limits r.ended r.more), subst (Took taken_before []) (sym w) (took_none taken_before));
    too_long = λ e. absurd cc;
    in_limit = λ past. absurd (omega (arith, past, r.in_limit));
  }
  ran_refused refusal left_before left_after taken_before taken_after ends.Done nothing r w = absurd w
  ran_refused refusal left_before left_after taken_before taken_after ends.Usage nothing r w = absurd w
  ran_refused refusal left_before left_after taken_before taken_after ends.ReadFault nothing r w = absurd w
  ran_refused refusal left_before left_after taken_before taken_after ends.TooLong nothing r w = absurd w

  -- reading stopped within a header
  pub ran_begun : (refusal : ScriptRefusal) (left_before left_after taken : Option (List ℕ)) → ((of : Terms) → says of [] []) → HeaderStopped limits refusal left_before left_after
      → Ran limits says closing left_before left_after taken taken (status_of refusal)
  ran_begun ReadFault left_before left_after taken nothing r = record {
    bytes = r.more;
    gave = r.gave;
    ended = false;
    none_left = λ e. absurd cc;
    ends = ([], refl, unfinished_closed limits says r.more r.none, took_none taken);
    too_long = λ e. absurd cc;
    in_limit = λ past. absurd (omega (arith, past, r.limit));
  }
  ran_begun (TooLong count) left_before left_after taken nothing r = record {
    bytes = r.more;
    gave = r.gave;
    ended = false;
    none_left = λ e. absurd cc;
    ends = ([], refl, subst (λ bytes. AnswersClosed limits says (closed_script_of limits bytes) []) (sym cut) (unfinished_closed limits says r.none.0 r.none.1.1.1), took_none taken);
    too_long = λ e. omega (arith, r.limit.0, r.limit.1);
    in_limit = λ past. refl;
  }
    where
      count_is : limits.script ≡ length r.none.0
      count_is = omega (arith, r.limit.0, r.limit.1, ap length r.none.1.1.0, length-append r.none.0 (r.none.1.0 ∷ []))

      cut : take limits.script r.more ≡ r.none.0
      cut = ap (take limits.script) r.none.1.1.0 ∙ ap (λ n. take n (r.none.0 ++ r.none.1.0 ∷ [])) count_is ∙ take-append_seam r.none.0 (r.none.1.0 ∷ [])
  ran_begun Memory left_before left_after taken nothing r = record {
    bytes = r.more;
    gave = r.gave;
    ended = false;
    none_left = λ e. absurd cc;
    ends = ([], none_answered limits says nothing (script_so_far limits false r.more), took_none taken);
    too_long = λ e. absurd cc;
    in_limit = λ past. absurd (omega (arith, past, r.limit));
  }
