-- The lines of answers.
use Rattle.std.specs.Prelude.{ℕ, ◌<◌, ◌==◌, not, List, [], ◌∷◌, ◌++◌, length, map, codes}
use Rattle.std.specs.Fmt.{decimal}
use Rattle.std.specs.List.{flat_map, take_while}
use Rattle.std.specs.Option.{option_map_or}
use Rattle.uni_base.specs.Fields.{spaced}
use Rattle.uni_base.specs.declared.edge.EdgeRef.{EdgeRef}
use Rattle.uni_base.specs.declared.edge.Key.{Key}
use Rattle.uni_base.specs.declared.edge.Key.TheVariants.{Id, Word}
use Rattle.uni_schema.specs.Schema.{Declarations, type_at}
use Rattle.uni_meaning.specs.declared.reply.Hit.{Hit}
use Rattle.reply_text.specs.declared.answer.Answer.{Answer}
use Rattle.reply_text.specs.declared.answer.Answer.TheVariants.{Reply, Stats, Tidied, Untidied}
use Rattle.reply_text.specs.declared.answer.StackRow.{StackRow}
use Rattle.reply_text.specs.FirstWords.{first_words}
use Rattle.reply_text.specs.Heads.{head_of, head_line, stack_fields}
use Rattle.reply_text.specs.Lines.{text_of}

-- the name of a type by its number, or nothing where it is not declared
abbrev pub type_name : Declarations → ℕ → List ℕ
type_name schema number = option_map_or (λ type_def. type_def.name) (type_at schema number) []

-- a key: its id, or its word
abbrev pub key_text : Key → List ℕ
key_text (Id id) = decimal id
key_text (Word word) = word

-- an edge: type:key>target
abbrev pub edge_text : Declarations → EdgeRef → List ℕ
edge_text schema edge = type_name schema edge.type_no ++ (codes ":" ++ (key_text edge.key ++ (codes ">" ++ decimal edge.target)))

-- edges, with a space before each
abbrev pub edges_text : Declarations → List EdgeRef → List ℕ
edges_text schema edges = flat_map (λ edge. codes " " ++ edge_text schema edge) edges

-- the line of a hit: its id, and the edges that led to it
abbrev pub hit_line : Declarations → Hit → List ℕ
hit_line schema hit = spaced (first_words.hit ∷ decimal hit.key.id ∷ codes "via" ∷ []) ++ edges_text schema hit.lineage

-- the line of a stack: where it stands, and how many layers it has
abbrev pub stack_line : Declarations → StackRow → List ℕ
stack_line schema row = spaced (stack_fields first_words.stack schema row.vertical row.shard row.replica ++ codes "layers" ∷ decimal row.layers ∷ [])

-- the lines of an answer after its first: one for each hit of a reply, and for each stack of `stats`
abbrev pub further_lines : Declarations → Answer → List (List ℕ)
further_lines schema (Reply line reply) = map (hit_line schema) reply.hits
further_lines schema (Stats line publishes stacks) = map (stack_line schema) stacks
further_lines schema answer = []

-- the lines of an answer
abbrev pub answer_lines : Declarations → Answer → List (List ℕ)
answer_lines schema answer = head_line schema (head_of answer) ∷ further_lines schema answer

-- the lines of answers, one answer after the other, and their text
abbrev pub lines_of_answers : Declarations → List Answer → List (List ℕ)
lines_of_answers schema answers = flat_map (answer_lines schema) answers

abbrev pub answers_text : Declarations → List Answer → List ℕ
answers_text schema answers = text_of (lines_of_answers schema answers)

-- the first word of a line: what stands before its first space
abbrev pub first_word : List ℕ → List ℕ
first_word line = take_while (λ c. not (c == 32)) line

-- the vertical of a stack that a round's end names is declared
abbrev pub AnswerIsDeclared : Declarations → Answer → Type 0
AnswerIsDeclared schema (Tidied vertical shard replica number) = vertical < length schema.verticals
AnswerIsDeclared schema (Untidied vertical shard replica) = vertical < length schema.verticals
AnswerIsDeclared schema answer = Unit {0}
