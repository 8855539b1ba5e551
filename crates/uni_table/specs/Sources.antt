-- Where edges start, and what they lead to from there.
use Rattle.std.specs.Prelude.{◌≡◌, ◌<◌, ℕ, true, List, map, filter}
use Rattle.std.specs.declared.cmp.Ordering.{Ordering}
use Rattle.std.specs.List.{All, Contains, filter_map}
use Rattle.std.specs.List.Sorted.{IsPermutation, IsSortedByKey, IsStrictlySortedBy}
use Rattle.std.specs.Ordering.{nat_cmp, ordering_then}
use Rattle.uni_base.specs.declared.edge.EdgeRef.{EdgeRef}
use Rattle.uni_base.specs.EdgeOrder.{key_cmp}
use Rattle.uni_base.specs.RankOrder.{doc_cmp}
use Rattle.uni_table.specs.Contents.{Contents, has_edge, starts_at}
use Rattle.uni_table.specs.Lists.{held_of}
use Rattle.uni_table.specs.Targets.{target_of}
use Rattle.uni_table.specs.declared.graph.numbers.Source.{Source}
use Rattle.uni_table.specs.declared.table.reached.Target.{Target}

-- a table, and types and keys at which its edges start
pub record SourcesState : Type 0 where
  pub table : Contents
  pub sources : List Source

-- types and keys in the order of their edges: by type number, and then by key
abbrev pub source_cmp : Source → Source → Ordering
source_cmp a b = ordering_then (nat_cmp a.type_no b.type_no) (key_cmp a.key b.key)

-- where an edge starts
abbrev pub source_from : EdgeRef → Source
source_from edge = record { type_no = edge.type_no; key = edge.key }

-- types and keys of a table in their order, each once and of a type below a number, and among them all at which an
-- edge of such a type starts
pub record AreSources (types : ℕ) (table : Contents) (state : SourcesState) : Type 0 where
  pub of : state.table ≡ table
  pub rising : IsStrictlySortedBy source_cmp state.sources
  pub declared : All (λ source. source.type_no < types) state.sources
  pub whole : (edge : EdgeRef) → has_edge table edge ≡ true → edge.type_no < types → Contains state.sources (source_from edge)

-- what the edges of a type and key lead to, each once, with its audience and in rank order
pub record AreTargets (table : Contents) (source : Source) (targets : List Target) : Type 0 where
  pub led : IsPermutation (filter_map (target_of table) (map held_of (filter (λ e. starts_at source.type_no source.key e.0) table.edges))) targets
  pub ranked : IsSortedByKey (λ target. target.doc) doc_cmp targets
