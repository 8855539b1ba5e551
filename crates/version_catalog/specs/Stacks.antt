-- What the stacks of a version stand for, publish by publish.
use Rattle.std.specs.Prelude.{◌≡◌, ℕ, ◌+◌, ◌*◌, ◌<◌, ◌≤◌, List, length, take, get_or}
use Rattle.uni_schema.specs.Schema.{Declarations}
use Rattle.uni_table.specs.Contents.{Contents}
use Rattle.uni_table.specs.Journals.{fold_of, first}
use Rattle.uni_table.specs.declared.command.Command.{Command}
use Rattle.shard_index.specs.Places.{StackPlace}
use Rattle.shard_index.specs.Rows.{ShardChanges, empty_layer, stack_rows, entries}
use Rattle.shard_index.specs.Touched.{touched}
use Rattle.shard_index.specs.Versions.{rows_at}

-- the table after the first batches of a journal
abbrev pub table_at : Declarations → List (List Command) → ℕ → Contents
table_at schema journal n = fold_of schema (first journal n)

-- A stack whose oldest layer covers so many batches of a journal has one layer more for each later batch. With the
-- layers of the k batches behind those it stands for the rows of its shard as they were by then, and the layer of each
-- of these batches has at most two entries for each row that it changed.
pub record StackStands (schema : Declarations) (journal : List (List Command)) (place : StackPlace) (covered : ℕ) (layers : List ShardChanges) : Type 0 where
  pub within : covered ≤ length journal
  pub count : length layers + covered ≡ 1 + length journal
  pub rows : (k : ℕ) → covered + k ≤ length journal → stack_rows (take (k + 1) layers) ≡ rows_at schema (table_at schema journal (covered + k)) place
  pub few : (k : ℕ) → covered + k < length journal
      → entries (get_or layers (k + 1) empty_layer) ≤ 2 * touched schema (table_at schema journal (covered + k)) (table_at schema journal (covered + k + 1)) place.vertical place.shard
