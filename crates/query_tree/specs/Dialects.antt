-- The dialects of queries: a format, and limits on the size of a query.
use Rattle.std.specs.Prelude.{ℕ, ◌≤◌}
use Rattle.uni_base.specs.declared.limits.Limits.{Limits}
use Rattle.query_tree.specs.declared.dialect.Dialect.{Dialect}

-- there are two formats
abbrev pub IsFormat : ℕ → Type 0
IsFormat format = (1 ≤ format) × (format ≤ 2)

-- the dialect of a format under the limits of a run
abbrev pub dialect_of : Limits → ℕ → Dialect
dialect_of limits format = record {
  format = format;
  depth = limits.depth;
  nodes = limits.nodes;
  operands = limits.operands;
  join_limit = limits.join_limit;
}
