-- What the text of answers tells.
use Rattle.std.specs.Prelude.{ℕ, Bool, true, false, ◌≡◌, ◌<◌, ◌^◌, List, [], ◌∷◌, filter, map, All}
use Rattle.std.specs.List.{flat_map, list_any}
use Rattle.uni_base.specs.Fields.{same}
use Rattle.uni_base.specs.declared.edge.Key.{Key}
use Rattle.uni_base.specs.declared.edge.Key.TheVariants.{Id, Word}
use Rattle.uni_meaning.specs.declared.reply.Hit.{Hit}
use Rattle.uni_schema.specs.Schema.{Declarations, IsSchema}
use Rattle.reply_text.specs.declared.answer.Answer.{Answer}
use Rattle.reply_text.specs.declared.answer.Answer.TheVariants.{Reply}
use Rattle.reply_text.specs.FirstWords.{head_words}
use Rattle.reply_text.specs.Heads.{Head, published, replied, compacted, counted, refused, fault, query_fault, lacking, tidied, untidied, head_of, head_line}
use Rattle.uni_base.specs.Lines.{AreUnbroken}
use Rattle.reply_text.specs.Printed.{first_word, answer_lines, lines_of_answers, answers_text, AnswerIsDeclared}

-- whether a line begins with a word of the first lines of answers
abbrev pub is_head_line : List ℕ → Bool
is_head_line line = list_any (same (first_word line)) head_words

-- The first line of an answer begins with such a word, and no other line of it does: so of the lines of
-- answers those that begin with one are their first lines.
pub record HeadsLead : Type 0 where
  pub known : (schema : Declarations) → (head : Head) → is_head_line (head_line schema head) ≡ true
  pub lines :
      (schema : Declarations) → (answer : Answer)
      → (rest : List (List ℕ)) × (answer_lines schema answer ≡ head_line schema (head_of answer) ∷ rest) × (list_any is_head_line rest ≡ false)
  pub kept : (schema : Declarations) → (answers : List Answer) → filter is_head_line (lines_of_answers schema answers) ≡ map (λ answer. head_line schema (head_of answer)) answers

-- the stacks that rounds' ends name are declared
abbrev pub AreDeclared : Declarations → List Answer → Type 0
AreDeclared schema answers = All (AnswerIsDeclared schema) answers

-- the numbers that the first line of an answer writes
abbrev pub numbers_of : Head → List ℕ
numbers_of (published line number) = line ∷ number ∷ []
numbers_of (replied line number count) = line ∷ number ∷ count ∷ []
numbers_of (compacted line number) = line ∷ number ∷ []
numbers_of (counted line number count) = line ∷ number ∷ count ∷ []
numbers_of (refused line code) = line ∷ code ∷ []
numbers_of (fault line code) = line ∷ code ∷ []
numbers_of (query_fault line code column) = line ∷ code ∷ column ∷ []
numbers_of (lacking line) = line ∷ []
numbers_of (tidied vertical shard replica number) = shard ∷ replica ∷ number ∷ []
numbers_of (untidied vertical shard replica) = shard ∷ replica ∷ []

-- each of them is one of 64 bits
abbrev pub HeadsAreSmall : List Answer → Type 0
HeadsAreSmall answers = All (λ answer. All (λ n. n < 2 ^ 64) (numbers_of (head_of answer))) answers

-- Answers of one text say the same in their first lines, one by one: where no line of them holds an LF,
-- the stacks that they name are declared, and the numbers of the one are small.
pub record HeadsByText : Type 0 where
  pub same :
      (schema : Declarations) → (answers : List Answer) → (others : List Answer) → IsSchema schema → AreDeclared schema answers → AreDeclared schema others
      → AreUnbroken (lines_of_answers schema answers) → AreUnbroken (lines_of_answers schema others) → HeadsAreSmall answers
      → answers_text schema answers ≡ answers_text schema others → map head_of answers ≡ map head_of others

-- the words that an answer writes as the keys of edges
abbrev pub word_of : Key → List (List ℕ)
word_of (Id id) = []
word_of (Word word) = word ∷ []

abbrev pub words_of_hit : Hit → List (List ℕ)
words_of_hit hit = flat_map (λ edge. word_of edge.key) hit.lineage

abbrev pub words_of : Answer → List (List ℕ)
words_of (Reply line reply) = flat_map words_of_hit reply.hits
words_of answer = []

-- Where no word of answers holds an LF, no line of them does.
pub record LinesAreUnbroken : Type 0 where
  pub are :
      (schema : Declarations) → (answers : List Answer) → IsSchema schema → AreUnbroken (flat_map words_of answers) → AreUnbroken (lines_of_answers schema answers)
