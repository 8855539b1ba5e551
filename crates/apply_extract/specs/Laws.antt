-- What follows from the definitions.
use Rattle.std.specs.Prelude.{ℕ, ◌≡◌, Ok}
use Rattle.uni_schema.specs.Schema.{Declarations}
use Rattle.query_tree.specs.declared.dialect.Dialect.{Dialect}
use Rattle.query_tree.specs.Tree.{Tree}
use Rattle.query_tree.specs.Within.{IsAllowed}
use Rattle.query_check.specs.Plan.{Stated}
use Rattle.query_check.specs.Typing.{typed}
use Rattle.apply_extract.specs.Conditions.{HasShares}

-- the weights of what a query is under a schema are shares, where each option of the query may stand: so they
-- are of every query that was read
pub record WithinHasShares : Type 0 where
  pub shares : (dialect : Dialect) (schema : Declarations) (joins around : ℕ) (tree : Tree) (stated : Stated) → typed schema joins around tree ≡ Ok stated → IsAllowed dialect tree → HasShares stated.plan
