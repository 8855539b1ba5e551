-- Keys that are compared as equal are the same, and what of a key is hashed.
use Rattle.std.specs.Prelude.{◌≡◌, true, ℕ, List}
use Rattle.std.specs.Cmp.{Equal-is}
use Rattle.std.specs.Hash as fed
use Rattle.std.specs.Ordering.{eq_by_cmp}
use Rattle.std.proofs.Common.{ap}
use Rattle.std.proofs.lemmas.Map.Lookups.{CmpEqualImpliesEq, exact_unsigned, exact_bytes}
use Rattle.uni_base.specs.EdgeOrder.{key_cmp}
use Rattle.uni_base.specs.declared.edge.Key.{Key}
use Rattle.uni_base.specs.declared.edge.Key.TheVariants.{Id, Word}

-- the number of an entity, or the bytes of a word
abbrev pub key_writes : Key → fed.HashWrites
key_writes (Id n) = fed.u64 n
key_writes (Word w) = fed.slice fed.u8 w

-- keys that the order does not tell apart are the same
pub exact_keys : CmpEqualImpliesEq key_cmp
exact_keys (Id a) (Id b) same = ap Id (exact_unsigned a b same)
exact_keys (Id a) (Word v) same = cc
exact_keys (Word u) (Id b) same = cc
exact_keys (Word u) (Word v) same = ap Word (exact_bytes u v same)

-- so equal keys are hashed alike
pub key_alike : (a b : Key) → eq_by_cmp key_cmp a b ≡ true → key_writes a ≡ key_writes b
key_alike a b same = ap key_writes (exact_keys a b ((Equal-is (key_cmp a b)).0 same))
