-- Rounds that publish, compact a stack and show all stacks, with the text that answers them; and what `bench` writes of
-- two people.
use Rattle.std.specs.Prelude.{ℕ, false, ◌≡◌, List, [], ◌∷◌, codes, map}
use Rattle.uni_base.specs.StandardLimits.{standard_limits}
use Rattle.uni_schema.specs.Schema.{Declarations}
use Rattle.reply_text.specs.Printed.{answers_text}
use Rattle.script_rounds.specs.Entries.{Entry, publish, compact, stats}
use Rattle.script_rounds.specs.Terms.{Terms, under}
use Rattle.unicorn_round.specs.Answers.{answers}
use Rattle.unicorn_round.specs.Counts.{summary}
use Rattle.unicorn_round.specs.Marks.{plain, lacking, at}
use Rattle.unicorn_round.specs.Plain.{plain_record}

-- users in two shards with two replicas each, and photos in one
abbrev pub users_and_photos : Declarations
users_and_photos = record {
  format = 1;
  verticals = record { name = codes "user"; shards = 2; replicas = 2 } ∷ record { name = codes "photo"; shards = 1; replicas = 1 } ∷ [];
  types = [];
}

abbrev pub terms : Terms
terms = under standard_limits users_and_photos

-- the text that answers rounds line by line, where no memory is wanting
abbrev pub plain_text : List (List Entry) → List ℕ
plain_text rounds = answers_text users_and_photos (answers terms rounds (plain_record terms rounds (map (map (λ entry. false)) rounds)))

-- a publish before, and a stack that is compacted between two others
abbrev pub compacted_between : List (List Entry)
compacted_between = (publish 31 ∷ []) ∷ (publish 33 ∷ compact 34 0 0 1 ∷ publish 35 ∷ stats 36 ∷ []) ∷ []

-- seven publishes, after which the first replicas are due and the second ones are not
abbrev pub seven_publishes : List (List Entry)
seven_publishes =
    (publish 31 ∷ [])
    ∷ (publish 33 ∷ publish 34 ∷ publish 35 ∷ publish 36 ∷ publish 37 ∷ publish 38 ∷ publish 39 ∷ stats 40 ∷ []) ∷ []

-- A stack that is compacted lacks the layers that it covers, and another record has it compacted at another
-- number. `stats` comes before the lines of stacks that are tidied, and shows them as they are then. A
-- publish for which memory was wanting makes nothing, and no stack is due then.
pub record WorkedRounds : Type 0 where
  pub compacted :
      plain_text compacted_between
      ≡ codes "published 31 1\npublished 33 2\ncompacted 34 2\npublished 35 3\nstats 36 at 3 stacks 5\nstack user 0 0 layers 4\nstack user 0 1 layers 2\nstack user 1 0 layers 4\nstack user 1 1 layers 4\nstack photo 0 0 layers 4\n"
  pub later :
      answers_text users_and_photos (answers terms compacted_between
      (record { marks = plain ∷ []; untidied = [] } ∷ record { marks = plain ∷ at 3 ∷ plain ∷ plain ∷ []; untidied = [] } ∷ []))
      ≡ codes "published 31 1\npublished 33 2\ncompacted 34 3\npublished 35 3\nstats 36 at 3 stacks 5\nstack user 0 0 layers 4\nstack user 0 1 layers 1\nstack user 1 0 layers 4\nstack user 1 1 layers 4\nstack photo 0 0 layers 4\n"
  pub tidied :
      plain_text seven_publishes
      ≡ codes "published 31 1\npublished 33 2\npublished 34 3\npublished 35 4\npublished 36 5\npublished 37 6\npublished 38 7\npublished 39 8\nstats 40 at 8 stacks 5\nstack user 0 0 layers 1\nstack user 0 1 layers 9\nstack user 1 0 layers 1\nstack user 1 1 layers 9\nstack photo 0 0 layers 1\ntidied user 0 0 8\ntidied user 1 0 8\ntidied photo 0 0 8\n"
  pub marked :
      answers_text users_and_photos (answers terms seven_publishes
      (record { marks = plain ∷ []; untidied = [] }
      ∷ record { marks = plain ∷ lacking ∷ plain ∷ plain ∷ plain ∷ plain ∷ plain ∷ plain ∷ []; untidied = [] } ∷ []))
      ≡ codes "published 31 1\npublished 33 2\nmemory 34\npublished 35 3\npublished 36 4\npublished 37 5\npublished 38 6\npublished 39 7\nstats 40 at 7 stacks 5\nstack user 0 0 layers 8\nstack user 0 1 layers 8\nstack user 1 0 layers 8\nstack user 1 1 layers 8\nstack photo 0 0 layers 8\n"

-- The line that `bench` writes of the script that is made from the seed 1 and 2 people: eleven publishes, and after each
-- of them nine queries, which show twelve hits.
pub record WorkedBench : Type 0 where
  pub two_people : summary 1 2 ≡ codes "bench people 2 publishes 11 asks 99 hits 132 sum 198\n"
