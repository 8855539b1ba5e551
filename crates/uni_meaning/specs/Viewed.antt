-- What is looked at, and by whom.
use Rattle.std.specs.Prelude.{ℕ}
use Rattle.uni_base.specs.declared.limits.Limits.{Limits}
use Rattle.uni_schema.specs.Schema.{Declarations, IsSchema}
use Rattle.uni_table.specs.Contents.{Contents}
use Rattle.uni_table.specs.TableState.{IsKept}

-- a table under its schema and limits, and the viewer
pub record Viewed : Type 0 where
  pub schema : Declarations
  pub limits : Limits
  pub contents : Contents
  pub viewer : ℕ

-- what every view keeps: what its schema and its table do
pub record IsViewed (v : Viewed) : Type 0 where
  pub schema : IsSchema v.schema
  pub kept : IsKept v.schema v.limits v.contents
