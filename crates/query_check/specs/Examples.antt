-- Queries with what they are under a schema, and with their first faults, by computation.
use Rattle.std.specs.Prelude.{ℕ, ◌≡◌, ◌+◌, false, List, [], ◌∷◌, codes, Ok, Err}
use Rattle.uni_base.specs.declared.edge.Key.TheVariants.{Id, Word}
use Rattle.uni_schema.specs.Schema.{Declarations}
use Rattle.uni_schema.specs.declared.schema.TypeDef.{TypeDef}
use Rattle.uni_schema.specs.declared.schema.Origin.{Origin}
use Rattle.uni_schema.specs.declared.schema.Origin.TheVariants.{Vertical, Words}
use Rattle.uni_schema.specs.declared.schema.Owner.{Owner}
use Rattle.uni_schema.specs.declared.schema.Owner.TheVariants.{Source, Target, Both}
use Rattle.uni_schema.specs.declared.schema.Store.{Store}
use Rattle.uni_schema.specs.declared.schema.Store.TheVariants.{Index, Forward}
use Rattle.query_tree.specs.declared.kind.TermKind.TheVariants.{Whole, Prefix}
use Rattle.query_tree.specs.declared.kind.ListKind.TheVariants.{And, WeakAnd}
use Rattle.query_tree.specs.declared.kind.JoinKind.TheVariants.{Apply, Extract}
use Rattle.query_tree.specs.declared.query.Mark.TheVariants.{Plain, Weight}
use Rattle.query_tree.specs.Tree.{Tree, term_at, list_at, join_at, no_operands, with_operand}
use Rattle.query_check.specs.Plan.{Plan, term_plan, prefix_plan, list_plan, join_plan, no_plans, with_plan}
use Rattle.query_check.specs.Typing.{typed}

abbrev type_def : List ℕ → Origin → ℕ → Owner → Store → TypeDef
type_def name origin target owner store =
    record { name = name; origin = origin; target = target; owner = owner; store = store; deny = false }

-- people, with friends, and the towns where they live; photos, with whom they were tagged by, and whom
-- they show
abbrev pub album : Declarations
album = record {
  format = 2;
  verticals =
      record { name = codes "user"; shards = 2; replicas = 2 } ∷ record { name = codes "photo"; shards = 1; replicas = 1 } ∷ [];
  types =
      type_def (codes "friend") (Vertical 0) 0 Both Index
      ∷ type_def (codes "lives") Words 0 Target Index
      ∷ type_def (codes "tagged") (Vertical 0) 1 Source Index
      ∷ type_def (codes "shows") (Vertical 1) 0 Source Forward
      ∷ [];
}

-- a query is this plan, of this vertical
abbrev pub IsPlan : Tree → Plan → ℕ → Type 0
IsPlan tree plan vertical = typed album 4 0 tree ≡ Ok (record { plan = plan; vertical = vertical })

abbrev pub HasFault : Tree → ℕ → ℕ → Type 0
HasFault tree code column = typed album 4 0 tree ≡ Err (record { code = code; column = column })

abbrev pub term : ℕ → List ℕ → List ℕ → Tree
term column type_name key = term_at column Whole type_name key

-- so many `apply friend:` around one another, and a query inside them
abbrev pub friends_of : ℕ → Tree → Tree
friends_of column node = join_at column Apply (column + 7) (codes "friend") 1000 node

pub record WorkedPlans : Type 0 where
  -- friend:1
  pub a_term : IsPlan (term 1 (codes "friend") (codes "1")) (term_plan 0 (Id 1)) 0
  -- lives:1 has a word as key, not an id
  pub a_word : IsPlan (term 1 (codes "lives") (codes "1")) (term_plan 1 (Word (codes "1"))) 0
  -- lives:ro*
  pub a_prefix : IsPlan (term_at 1 Prefix (codes "lives") (codes "ro")) (prefix_plan 1 (codes "ro")) 0
  -- (weak-and (term lives:ro* :optional-weight 1/2) friend:1)
  pub a_list :
      IsPlan
      (list_at 1 WeakAnd (with_operand (term_at 17 Prefix (codes "lives") (codes "ro")) (Weight 1 2)
      (with_operand (term 49 (codes "friend") (codes "1")) Plain no_operands)))
      (list_plan WeakAnd (with_plan (prefix_plan 1 (codes "ro")) (Weight 1 2) (with_plan (term_plan 0 (Id 1)) Plain no_plans))) 0
  -- (apply tagged: friend:1)
  pub a_join :
      IsPlan (join_at 1 Apply 8 (codes "tagged") 1000 (term 16 (codes "friend") (codes "1")))
      (join_plan Apply 2 1000 (term_plan 0 (Id 1))) 1
  -- (extract shows: (apply tagged: friend:1))
  pub joins :
      IsPlan (join_at 1 Extract 10 (codes "shows") 1000 (join_at 17 Apply 24 (codes "tagged") 7 (term 32 (codes "friend") (codes "1"))))
      (join_plan Extract 3 1000 (join_plan Apply 2 7 (term_plan 0 (Id 1)))) 0
  -- four joins around one another
  pub four_joins :
      IsPlan (friends_of 1 (friends_of 16 (friends_of 31 (friends_of 46 (term 61 (codes "friend") (codes "1"))))))
      (join_plan Apply 0 1000 (join_plan Apply 0 1000 (join_plan Apply 0 1000 (join_plan Apply 0 1000 (term_plan 0 (Id 1)))))) 0

pub record WorkedFaults : Type 0 where
  pub no_type : HasFault (term 1 (codes "frend") (codes "1")) 41 1
  pub no_id : HasFault (term 1 (codes "friend") (codes "rome")) 42 1
  pub no_beginning : HasFault (term_at 1 Prefix (codes "friend") (codes "1")) 42 1
  pub no_index_type : HasFault (term 1 (codes "shows") (codes "102")) 43 1
  -- the kind of a type before the key
  pub store_first : HasFault (term 1 (codes "shows") (codes "rome")) 43 1
  -- (extract friend: friend:1)
  pub no_forward_type : HasFault (join_at 1 Extract 10 (codes "friend") 1000 (term 18 (codes "friend") (codes "1"))) 44 10
  -- (apply shows: tagged:1)
  pub no_index_join : HasFault (join_at 1 Apply 8 (codes "shows") 1000 (term 15 (codes "tagged") (codes "1"))) 43 8
  -- (and friend:1 tagged:1)
  pub two_verticals :
      HasFault (list_at 1 And (with_operand (term 6 (codes "friend") (codes "1")) Plain
      (with_operand (term 15 (codes "tagged") (codes "1")) Plain no_operands))) 45 15
  -- (apply friend: tagged:2)
  pub no_source : HasFault (friends_of 1 (term 16 (codes "tagged") (codes "2"))) 46 8
  -- (apply lives: friend:1)
  pub word_source : HasFault (join_at 1 Apply 8 (codes "lives") 1000 (term 15 (codes "friend") (codes "1"))) 46 8
  -- the inner query's faults before 46: (apply lives: frend:1)
  pub inner_first : HasFault (join_at 1 Apply 8 (codes "lives") 1000 (term 15 (codes "frend") (codes "1"))) 41 15
  -- the fifth of five joins around one another
  pub five_joins :
      HasFault (friends_of 1 (friends_of 16 (friends_of 31 (friends_of 46 (friends_of 61 (term 76 (codes "friend") (codes "1"))))))) 47 61
  pub empty : HasFault (list_at 1 And no_operands) 45 1
