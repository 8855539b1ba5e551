-- The edges of a type and key.
use Rattle.std.proofs.lemmas.Bool.{and_parts}
use Rattle.std.proofs.Common.{◌≡◌, ℕ, ◌==◌, true, sym, ◌∙◌, refl, arith}
use Rattle.std.specs.declared.cmp.Ordering.TheVariants.{Equal}
use Rattle.std.specs.Ordering.{nat_cmp, is_eq}
use Rattle.std.proofs.lemmas.Bool.Decides.{nat_tests}
use Rattle.uni_base.specs.declared.edge.EdgeRef.{EdgeRef}
use Rattle.uni_base.specs.declared.edge.Key.{Key}
use Rattle.uni_base.specs.EdgeOrder.{edge_cmp, key_cmp, key_cmp-total}
use Rattle.uni_table.specs.Contents.{starts_at}
use Rattle.uni_table.proofs.Compared.{equal_from}

-- the edge of a type and key to an id
abbrev pub edge_to : ℕ → Key → ℕ → EdgeRef
edge_to number key target = record { type_no = number; key = key; target = target }

-- edges of one type and key stand in the order of their targets
pub edge_cmp-starts : (number : ℕ) (key : Key) (a b : EdgeRef) → starts_at number key a ≡ true → starts_at number key b ≡ true → edge_cmp a b ≡ nat_cmp a.target b.target
edge_cmp-starts number key a b from to =
    let first = and_parts (number == a.type_no) (is_eq (key_cmp key a.key)) from in
    let second = and_parts (number == b.type_no) (is_eq (key_cmp key b.key)) to in
    let types : nat_cmp a.type_no b.type_no ≡ Equal = same_types number a.type_no b.type_no first.0 second.0 in
    let keys : key_cmp a.key b.key ≡ Equal =
    sym (key_cmp-total.congr key a.key b.key (equal_from (key_cmp key a.key) first.1)) ∙ equal_from (key_cmp key b.key) second.1 in
    rw (types, keys) refl
  where
    same_types : (n x y : ℕ) → (n == x) ≡ true → (n == y) ≡ true → nat_cmp x y ≡ Equal
    same_types n x y p q = grind (arith, nat_tests)
