-- The law of print and read.
use Rattle.std.specs.Prelude.{ℕ, ◌≡◌, ◌<◌, Ok, length}
use Rattle.uni_base.specs.declared.limits.Limits.{Limits}
use Rattle.uni_base.specs.StandardLimits.{IsWithinStandard}
use Rattle.query_tree.specs.Dialects.{dialect_of}
use Rattle.query_tree.specs.Tree.{Tree}
use Rattle.query_tree.specs.Text.{query_text}
use Rattle.query_tree.specs.Columns.{AreSameButColumns}
use Rattle.query_tree.specs.Within.{IsWithin}
use Rattle.query_reader.specs.Reading.{text_read}
use Rattle.query_reader.specs.Grammar.{QuerySpells}

-- In each format in which a query is within the limits, its print spells it, and is read as it: equal
-- but for columns. The print is short enough to be read by a call.
pub record PrintIsRead : Type 0 where
  pub spells :
      (limits : Limits) → (format : ℕ) → (tree : Tree) → IsWithinStandard limits → IsWithin (dialect_of limits format) tree
      → (again : Tree) × (AreSameButColumns again tree × QuerySpells (dialect_of limits format) (query_text tree) again)
  pub reads :
      (limits : Limits) → (format : ℕ) → (tree : Tree) → IsWithinStandard limits → IsWithin (dialect_of limits format) tree
      → (again : Tree) × (AreSameButColumns again tree × (text_read (dialect_of limits format) (query_text tree) ≡ Ok again))
  pub short :
      (limits : Limits) → (format : ℕ) → (tree : Tree) → IsWithinStandard limits → IsWithin (dialect_of limits format) tree
      → length (query_text tree) < 65536
