-- The first words of the lines of answers.
use Rattle.std.specs.Prelude.{ℕ, List, [], ◌∷◌, codes}

-- a word for each kind of line; that of a line at fault is also that of a query at fault
pub record FirstWords : Type 0 where
  pub published : List ℕ
  pub reply : List ℕ
  pub compacted : List ℕ
  pub stats : List ℕ
  pub refused : List ℕ
  pub error : List ℕ
  pub memory : List ℕ
  pub tidied : List ℕ
  pub untidied : List ℕ
  pub hit : List ℕ
  pub stack : List ℕ

abbrev pub first_words : FirstWords
first_words = record {
  published = codes "published";
  reply = codes "reply";
  compacted = codes "compacted";
  stats = codes "stats";
  refused = codes "refused";
  error = codes "error";
  memory = codes "memory";
  tidied = codes "tidied";
  untidied = codes "untidied";
  hit = codes "hit";
  stack = codes "stack";
}

-- those of the first lines of answers
abbrev pub head_words : List (List ℕ)
head_words = first_words.published ∷ first_words.reply ∷ first_words.compacted ∷ first_words.stats ∷ first_words.refused
    ∷ first_words.error ∷ first_words.memory ∷ first_words.tidied ∷ first_words.untidied ∷ []
