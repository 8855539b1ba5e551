-- A small table: six users and two photos, with their edges, as commands make it.
use Rattle.std.specs.Prelude.{ℕ, false, true, List, [], ◌∷◌, codes, map}
use Rattle.uni_base.specs.declared.edge.Held.{Held}
use Rattle.uni_base.specs.declared.edge.Key.{Key}
use Rattle.uni_base.specs.declared.edge.Key.TheVariants.{Id}
use Rattle.uni_schema.specs.Schema.{Declarations}
use Rattle.uni_schema.specs.declared.schema.Origin.TheVariants.{Vertical, Words}
use Rattle.uni_schema.specs.declared.schema.Owner.TheVariants.{Source, Target, Both}
use Rattle.uni_schema.specs.declared.schema.Store.TheVariants.{Index, Forward}
use Rattle.uni_table.specs.Commands.{next}
use Rattle.uni_table.specs.Contents.{Contents, empty}
use Rattle.uni_table.specs.Journals.{after_commands, fold_of}
use Rattle.uni_table.specs.Ranked.{ranked, reached_of}
use Rattle.uni_table.specs.declared.command.AudienceText.{AudienceText}
use Rattle.uni_table.specs.declared.command.AudienceText.TheVariants.{Public}
use Rattle.uni_table.specs.declared.command.Command.{Command}
use Rattle.uni_table.specs.declared.command.Command.TheVariants.{Entity, Edge}

-- users in two shards and photos in one: friends, where users live, the photos that they are tagged in,
-- the users whom a photo shows, and whom a user has blocked
abbrev pub social : Declarations
social = record {
  format = 2;
  verticals = record { name = codes "user"; shards = 2; replicas = 2 } ∷ record { name = codes "photo"; shards = 1; replicas = 1 } ∷ [];
  types = record { name = codes "friend"; origin = Vertical 0; target = 0; owner = Both; store = Index; deny = false }
      ∷ record { name = codes "lives"; origin = Words; target = 0; owner = Target; store = Index; deny = false }
      ∷ record { name = codes "tagged"; origin = Vertical 0; target = 1; owner = Source; store = Index; deny = false }
      ∷ record { name = codes "shows"; origin = Vertical 1; target = 0; owner = Source; store = Forward; deny = false }
      ∷ record { name = codes "blocked"; origin = Vertical 0; target = 0; owner = Source; store = Index; deny = true } ∷ [];
}

-- a user and a photo at a rank
abbrev pub user : ℕ → ℕ → Command
user id rank = Entity 0 id (record { 0 = rank })

abbrev pub photo : ℕ → ℕ → Command
photo id rank = Entity 1 id (record { 0 = rank })

-- an edge without an end
abbrev pub edge : ℕ → List ℕ → ℕ → AudienceText → Command
edge number key target audience = Edge number key target audience 0

-- a friend whom everybody may see
abbrev pub friend : List ℕ → ℕ → Command
friend key target = edge 0 key target Public

abbrev pub commands : List Command
commands =
    user 1 50 ∷ user 2 90 ∷ user 3 90 ∷ user 4 10 ∷ user 5 70 ∷ user 6 60 ∷ photo 101 5 ∷ photo 102 9
    ∷ friend (codes "1") 2 ∷ friend (codes "1") 3 ∷ friend (codes "1") 5
    ∷ edge 1 (codes "rome") 2 Public ∷ edge 1 (codes "rome") 4 Public ∷ edge 1 (codes "rome") 5 Public ∷ edge 1 (codes "rome") 6 Public
    ∷ edge 2 (codes "2") 101 Public ∷ edge 2 (codes "3") 102 Public ∷ edge 2 (codes "5") 102 Public
    ∷ edge 3 (codes "102") 4 Public ∷ edge 3 (codes "102") 1 Public ∷ []

-- the table that they make
abbrev pub small : Contents
small = after_commands social empty commands

-- the table after one more command
abbrev pub with : Command → Contents
with command = next social small command

-- the table after the commands and two more publishes, of which the first makes one change
abbrev pub at_second : Command → Contents
at_second command = fold_of social (commands ∷ (command ∷ []) ∷ [])

abbrev pub at_third : Command → Contents
at_third command = fold_of social (commands ∷ (command ∷ []) ∷ [] ∷ [])

-- the friends of user 1, in rank order
abbrev pub friends_of_1 : Contents → List ℕ
friends_of_1 table = map (λ held. held.edge.target) (reached_of social table 0 (Id 1))

-- the entities of a shard
abbrev pub ids_of : Contents → ℕ → ℕ → List ℕ
ids_of table vertical shard = map (λ k. k.id) (ranked social table vertical shard)

-- the edges of a list, each as its type's number, its key and its target
abbrev pub named : List Held → List (ℕ × Key × ℕ)
named held = map (λ h. (h.edge.type_no, h.edge.key, h.edge.target)) held
