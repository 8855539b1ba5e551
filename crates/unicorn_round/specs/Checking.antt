-- What `check` writes.
use Rattle.std.specs.Prelude.{ℕ, Bool, List, [], ◌∷◌, ◌++◌, filter, codes}
use Rattle.std.specs.Fmt.{decimal}
use Rattle.std.specs.List.{list_any}
use Rattle.uni_base.specs.Fields.{same}
use Rattle.uni_schema.specs.Schema.{Declarations}
use Rattle.reply_text.specs.declared.answer.Answer.{Answer}
use Rattle.reply_text.specs.FirstWords.{first_words}
use Rattle.reply_text.specs.Lines.{text_of}
use Rattle.reply_text.specs.Printed.{first_word, lines_of_answers}

-- whether a line is one that `check` writes, by its first word
abbrev pub is_checked : List ℕ → Bool
is_checked line = list_any (same (first_word line)) (first_words.refused ∷ first_words.error ∷ first_words.memory ∷ [])

-- the lines of answers that it writes
abbrev pub checked_lines : Declarations → List Answer → List (List ℕ)
checked_lines schema answers = filter is_checked (lines_of_answers schema answers)

abbrev pub checked_text : Declarations → List Answer → List ℕ
checked_text schema answers = text_of (checked_lines schema answers)

-- `checked N lines`, with its LF
abbrev pub checked_line : ℕ → List ℕ
checked_line lines = codes "checked " ++ (decimal lines ++ (codes " lines" ++ 10 ∷ []))
