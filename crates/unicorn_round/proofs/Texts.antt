-- The text of answers in two parts.
use Rattle.std.proofs.Common.{◌≡◌, ℕ, List, [], ◌∷◌, ◌++◌, ap, ◌∙◌}
use Rattle.std.proofs.lemmas.Grind.{flat_map-append}
use Rattle.uni_schema.specs.Schema.{Declarations}
use Rattle.reply_text.specs.declared.answer.Answer.{Answer}
use Rattle.reply_text.specs.Lines.{text_of}
use Rattle.reply_text.specs.Printed.{answer_lines, lines_of_answers, answers_text}

pub text_of-append : (xs ys : List (List ℕ)) → text_of (xs ++ ys) ≡ text_of xs ++ text_of ys
text_of-append xs ys = flat_map-append (λ (line : List ℕ). line ++ 10 ∷ []) xs ys

pub lines_of_answers-append : (schema : Declarations) (xs ys : List Answer) → lines_of_answers schema (xs ++ ys) ≡ lines_of_answers schema xs ++ lines_of_answers schema ys
lines_of_answers-append schema xs ys = flat_map-append (answer_lines schema) xs ys

pub answers_text-append : (schema : Declarations) (xs ys : List Answer) → answers_text schema (xs ++ ys) ≡ answers_text schema xs ++ answers_text schema ys
answers_text-append schema xs ys = ap text_of (lines_of_answers-append schema xs ys) ∙ text_of-append (lines_of_answers schema xs) (lines_of_answers schema ys)
