-- What an edge starts at, as it is compared.
use Rattle.std.proofs.Common.{◌≡◌, ◌==◌, true}
use Rattle.std.proofs.lemmas.Bool.{and_parts, eqb-true}
use Rattle.std.specs.Ordering.{is_eq}
use Rattle.uni_base.specs.declared.edge.EdgeRef.{EdgeRef}
use Rattle.uni_base.specs.declared.edge.Key.{Key}
use Rattle.uni_base.specs.EdgeOrder.{key_cmp}
use Rattle.uni_base.specs.KeyHash.{exact_keys}
use Rattle.uni_table.specs.Contents.{starts_at}
use Rattle.uni_table.proofs.Compared.{equal_from}

-- the type and key of an edge of theirs
pub starts_from : (edge : EdgeRef) (key : Key) {number : _} → starts_at number key edge ≡ true → (number ≡ edge.type_no) × (key ≡ edge.key)
starts_from edge key {number} starts =
    let both = and_parts (number == edge.type_no) (is_eq (key_cmp key edge.key)) starts in
    (eqb-true number edge.type_no both.0, exact_keys key edge.key (equal_from (key_cmp key edge.key) both.1))
