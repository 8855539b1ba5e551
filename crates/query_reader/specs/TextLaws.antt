-- Laws of queries and their texts.
use Rattle.std.specs.Prelude.{ℕ, ◌≡◌, ◌≤◌, ◌⊎◌, List}
use Rattle.query_tree.specs.declared.dialect.Dialect.{Dialect}
use Rattle.uni_base.specs.declared.limits.Limits.{Limits}
use Rattle.query_tree.specs.Dialects.{dialect_of}
use Rattle.query_tree.specs.Tree.{Tree}
use Rattle.query_tree.specs.Within.{IsWithin}
use Rattle.query_reader.specs.Reading.{QueryFault}
use Rattle.query_reader.specs.Grammar.{QuerySpells}

-- every text has exactly one query or exactly one fault, and never both
pub record OneQueryOrFault : Type 0 where
  pub some :
      (dialect : Dialect) → (text : List ℕ)
      → ((tree : Tree) × QuerySpells dialect text tree) ⊎ ((code : ℕ) × ((column : ℕ) × QueryFault dialect text code column))
  pub one_query :
      (dialect : Dialect) → (text : List ℕ) → (tree : Tree) → (other : Tree)
      → QuerySpells dialect text tree → QuerySpells dialect text other → tree ≡ other
  pub one_fault :
      (dialect : Dialect) → (text : List ℕ) → (code : ℕ) → (column : ℕ) → (other_code : ℕ) → (other_column : ℕ)
      → QueryFault dialect text code column → QueryFault dialect text other_code other_column
      → (code ≡ other_code) × (column ≡ other_column)
  pub never_both :
      (dialect : Dialect) → (text : List ℕ) → (tree : Tree) → (code : ℕ) → (column : ℕ)
      → QuerySpells dialect text tree → QueryFault dialect text code column → ⊥

-- a text's query is within the limits, where a join may have a hit
pub record SpelledIsWithin : Type 0 where
  pub within : (dialect : Dialect) → 1 ≤ dialect.join_limit → (text : List ℕ) → (tree : Tree) → QuerySpells dialect text tree → IsWithin dialect tree

-- what a text spells in format 1 it spells in format 2 too, under the same limits
pub record SecondHasFirst : Type 0 where
  pub same :
      (limits : Limits) → (text : List ℕ) → (tree : Tree)
      → QuerySpells (dialect_of limits 1) text tree → QuerySpells (dialect_of limits 2) text tree
