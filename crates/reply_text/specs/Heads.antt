-- The first line of an answer, and what it says.
use Rattle.std.specs.Prelude.{ℕ, List, [], ◌∷◌, ◌++◌, codes, length}
use Rattle.std.specs.Fmt.{decimal}
use Rattle.uni_base.specs.Fields.{spaced}
use Rattle.uni_schema.specs.Schema.{Declarations}
use Rattle.uni_schema.specs.Print.{vertical_name}
use Rattle.reply_text.specs.declared.answer.Answer.{Answer}
use Rattle.reply_text.specs.declared.answer.Answer.TheVariants.{Published, Reply, Compacted, Stats, Refused, Fault, QueryFault, Memory, Tidied, Untidied}
use Rattle.reply_text.specs.FirstWords.{first_words}

-- what the first line of an answer says: of a publish, a reply, a compaction or the stacks, the line, a
-- number of publishes, and how many lines follow; of a refusal or a fault the line, its code and column; of
-- want of memory the line alone; of a stack that was compacted, or found no memory for it, where it stands
pub data Head : Type 0 where
  published : (line number : ℕ) → Head
  replied : (line number count : ℕ) → Head
  compacted : (line number : ℕ) → Head
  counted : (line number count : ℕ) → Head
  refused : (line code : ℕ) → Head
  fault : (line code : ℕ) → Head
  query_fault : (line code column : ℕ) → Head
  lacking : (line : ℕ) → Head
  tidied : (vertical shard replica number : ℕ) → Head
  untidied : (vertical shard replica : ℕ) → Head

abbrev pub head_of : Answer → Head
head_of (Published line number) = published line number
head_of (Reply line reply) = replied line reply.publishes (length reply.hits)
head_of (Compacted line number) = compacted line number
head_of (Stats line publishes stacks) = counted line publishes (length stacks)
head_of (Refused line code) = refused line code
head_of (Fault line code) = fault line code
head_of (QueryFault line code column) = query_fault line code column
head_of (Memory line) = lacking line
head_of (Tidied vertical shard replica number) = tidied vertical shard replica number
head_of (Untidied vertical shard replica) = untidied vertical shard replica

-- the fields of a line that counts those that follow it: `at` stands before a number of publishes
abbrev pub counted_fields : List ℕ → ℕ → ℕ → List ℕ → ℕ → List (List ℕ)
counted_fields word line publishes noun count = word ∷ decimal line ∷ codes "at" ∷ decimal publishes ∷ noun ∷ decimal count ∷ []

-- the fields of a line of a stack: a vertical stands there by its name
abbrev pub stack_fields : List ℕ → Declarations → ℕ → ℕ → ℕ → List (List ℕ)
stack_fields word schema vertical shard replica = word ∷ vertical_name schema vertical ∷ decimal shard ∷ decimal replica ∷ []

-- the fields of the first line
abbrev pub head_fields : Declarations → Head → List (List ℕ)
head_fields schema (published line number) = first_words.published ∷ decimal line ∷ decimal number ∷ []
head_fields schema (replied line number count) = counted_fields first_words.reply line number (codes "hits") count
head_fields schema (compacted line number) = first_words.compacted ∷ decimal line ∷ decimal number ∷ []
head_fields schema (counted line number count) = counted_fields first_words.stats line number (codes "stacks") count
head_fields schema (refused line code) = first_words.refused ∷ decimal line ∷ decimal code ∷ []
head_fields schema (fault line code) = first_words.error ∷ decimal line ∷ decimal code ∷ []
head_fields schema (query_fault line code column) = first_words.error ∷ decimal line ∷ decimal code ∷ decimal column ∷ []
head_fields schema (lacking line) = first_words.memory ∷ decimal line ∷ []
head_fields schema (tidied vertical shard replica number) = stack_fields first_words.tidied schema vertical shard replica ++ decimal number ∷ []
head_fields schema (untidied vertical shard replica) = stack_fields first_words.untidied schema vertical shard replica

-- that line, with one space between any two fields
abbrev pub head_line : Declarations → Head → List ℕ
head_line schema head = spaced (head_fields schema head)
