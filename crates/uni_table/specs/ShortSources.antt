-- Sources in less memory, and what of a source is hashed.
use Rattle.std.specs.Prelude.{ℕ, ◌≡◌, ◌++◌, true}
use Rattle.std.specs.Hash as fed
use Rattle.std.proofs.Common.{ap}
use Rattle.std.specs.Cmp.{IsEquivalence, and_equiv, eq_by_cmp_equiv, nat_eq_equiv, on_equiv}
use Rattle.uni_base.specs.declared.edge.Key.{Key}
use Rattle.uni_base.specs.declared.edge.Key.TheVariants as key
use Rattle.uni_base.specs.EdgeOrder.{key_cmp-total}
use Rattle.uni_base.specs.KeyHash.{key_writes}
use Rattle.uni_table.specs.GraphKeys.{source_eq, exact_sources}
use Rattle.uni_table.specs.declared.graph.numbers.Source.{Source}
use Rattle.uni_table.specs.declared.graph.short_source.Packed.{Packed}
use Rattle.uni_table.specs.declared.graph.short_source.Packed.TheVariants.{Id, Word}

-- the source of a type and a key
abbrev pub source_of : ℕ → Key → Source
source_of type_no at = record { type_no = type_no; key = at }

-- the source that is kept
abbrev pub told : Packed → Source
told (Id type_no id) = source_of type_no (key.Id id)
told (Word type_no word) = source_of type_no (key.Word word.value)

pub source_equivalence : IsEquivalence source_eq
source_equivalence = and_equiv (on_equiv (λ (s : Source). s.type_no) nat_eq_equiv) (on_equiv (λ (s : Source). s.key) (eq_by_cmp_equiv key_cmp-total))

-- the number of its type, and what is hashed of its key
abbrev pub source_writes : Source → fed.HashWrites
source_writes source = fed.u16 source.type_no ++ key_writes source.key

-- so equal sources are hashed alike
pub source_alike : (a b : Source) → source_eq a b ≡ true → source_writes a ≡ source_writes b
source_alike a b same = ap source_writes (exact_sources a b same)
