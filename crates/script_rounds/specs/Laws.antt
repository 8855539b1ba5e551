-- Laws of rounds.
use Rattle.std.specs.Prelude.{ℕ, Bool, true, false, ◌≡◌, ◌↔◌, ◌==◌, ◌+◌, List, [], ◌∷◌, ◌++◌, length, map, Some}
use Rattle.std.specs.List.{list_any}
use Rattle.uni_base.specs.Fields.{fields_of, spaced}
use Rattle.uni_base.specs.Numbers.{number_of}
use Rattle.uni_base.specs.Words.{is_word, is_name}
use Rattle.uni_schema.specs.Schema.{Declarations, IsSchema, vertical_names, type_names}
use Rattle.uni_table.specs.declared.command.AudienceText.{AudienceText}
use Rattle.uni_table.specs.declared.command.AudienceText.TheVariants.{Public, Only, Circle}
use Rattle.uni_table.specs.declared.command.Command.{Command}
use Rattle.uni_table.specs.declared.command.Command.TheVariants.{Entity, Gone, Edge, Cut}
use Rattle.script_rounds.specs.declared.compact.WrittenStack.{WrittenStack}
use Rattle.script_rounds.specs.Asks.{parts_of}
use Rattle.script_rounds.specs.Compacts.{stack_of}
use Rattle.script_rounds.specs.Entries.{Entry, line_of, change}
use Rattle.uni_base.specs.Lines.{has_lf}
use Rattle.script_rounds.specs.Roles.{counted, role_of}
use Rattle.script_rounds.specs.Rounds.{rounds_from}
use Rattle.script_rounds.specs.RoundReads.{Rise}
use Rattle.script_rounds.specs.Terms.{Terms}

-- the entries of rounds, one round after the other
abbrev pub all_entries : List (List Entry) → List Entry
all_entries [] = []
all_entries (round ∷ rounds) = round ++ all_entries rounds

-- The entries of the rounds of lines have numbers that rise from that of the first line on, so no two have
-- the same.
pub record NumbersRise : Type 0 where
  pub rise :
      (terms : Terms) → (low : ℕ) → (before : ℕ) → (lines : List (List ℕ))
      → Rise low (low + length lines) (map line_of (all_entries (rounds_from terms (low + 1) before lines)))

-- the words in a command
abbrev pub audience_words : AudienceText → List (List ℕ)
audience_words Public = []
audience_words Only = []
audience_words (Circle number key) = key ∷ []

abbrev pub words_of : Command → List (List ℕ)
words_of (Entity vertical id rank) = []
words_of (Gone id) = []
words_of (Edge number key target audience until) = key ∷ audience_words audience
words_of (Cut number key target) = key ∷ []

-- Words hold no LF; nor do the names of a schema, or the words of a change that a line is.
pub record WordsAreUnbroken : Type 0 where
  pub words : (text : List ℕ) → is_word text ≡ true → has_lf text ≡ false
  pub verticals : (schema : Declarations) → IsSchema schema → list_any has_lf (vertical_names schema) ≡ false
  pub types : (schema : Declarations) → IsSchema schema → list_any has_lf (type_names schema) ≡ false
  pub changes :
      (terms : Terms) → (number : ℕ) → (before : ℕ) → (line : List ℕ) → (of : ℕ) → (command : Command)
      → role_of terms number before line ≡ counted (change of command) → list_any has_lf (words_of command) ≡ false

abbrev pub has_space : List ℕ → Bool
has_space text = list_any (λ c. c == 32) text

-- The parts of an `ask` by its text: its first three spaces stand between them, and what is not there is
-- empty.
pub record PartsByText : Type 0 where
  pub four :
      (viewer : List ℕ) → (session : List ℕ) → (limit : List ℕ) → (query : List ℕ) → has_space viewer ≡ false → has_space session ≡ false → has_space limit ≡ false
      → parts_of (viewer ++ 32 ∷ (session ++ 32 ∷ (limit ++ 32 ∷ query))) ≡ record { viewer = viewer; session = session; limit = limit; query = query }
  pub three :
      (viewer : List ℕ) → (session : List ℕ) → (limit : List ℕ) → has_space viewer ≡ false → has_space session ≡ false → has_space limit ≡ false
      → parts_of (viewer ++ 32 ∷ (session ++ 32 ∷ limit)) ≡ record { viewer = viewer; session = session; limit = limit; query = [] }
  pub two :
      (viewer : List ℕ) → (session : List ℕ) → has_space viewer ≡ false → has_space session ≡ false
      → parts_of (viewer ++ 32 ∷ session) ≡ record { viewer = viewer; session = session; limit = []; query = [] }
  pub one : (viewer : List ℕ) → has_space viewer ≡ false → parts_of viewer ≡ record { viewer = viewer; session = []; limit = []; query = [] }

-- a text is that of a stack: a name and two numerals, with one space between any two
pub record Writes (text : List ℕ) (stack : WrittenStack) : Type 0 where
  pub shard : List ℕ
  pub replica : List ℕ
  pub is : text ≡ spaced (stack.vertical ∷ shard ∷ replica ∷ [])
  pub name : is_name stack.vertical ≡ true
  pub shards : number_of shard ≡ Some stack.shard
  pub replicas : number_of replica ≡ Some stack.replica

-- what is read off the fields of a `compact` is what they write by their text
pub record StacksByText : Type 0 where
  pub is : (text : List ℕ) → (stack : WrittenStack) → (stack_of (fields_of text) ≡ Some stack) ↔ Writes text stack
